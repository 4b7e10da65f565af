-- What a log keeps true.
use Rattle.std.specs.Prelude.{◌≡◌, ℕ, ◌≤◌, Vec, vec_capacity, length, count_by}
use Rattle.std.specs.declared.alloc.Global.{Global}
use Rattle.journal.specs.Packing.{is_beside}
use Rattle.journal.specs.declared.kept.Kept.{Kept}

-- each event whose last number stands beside has it there, and there is memory for as many numbers as for events
pub record IsKept (kept : Vec Kept Global) (beside : Vec ℕ Global) : Type 0 where
  pub told : length beside.items ≡ count_by (λ (k : Kept). is_beside k.last) kept.items
  pub within : length kept.items ≤ vec_capacity kept
  pub beside_room : vec_capacity kept ≤ vec_capacity beside
