-- The banks of RAM at the end of a run.
use Rattle.std.specs.Prelude.{◌≡◌, ℕ, ◌+◌, ◌<◌, true, List, length, map, slice_index_or}
use Rattle.std.specs.List.{range_with_len}
use Rattle.flex_base.specs.Setup.{Setup}
use Rattle.flex_base.specs.FlatMemory.{byte}
use Rattle.flex_base.specs.Unsplit.{Machine}
use Rattle.mem_lines.specs.Bank.{Bank, is_bank_count}
use Rattle.solo.specs.End.{HoldsRam}

-- so many bytes of RAM from the address up, in this state
unfoldable pub bytes_from : Setup → Machine → ℕ → ℕ → List ℕ
bytes_from setup u address count = map (λ i. byte setup.image u.ram (address + i)) (range_with_len 0 count)

-- together these banks hold RAM as it is in this state
pub record AreBanks (setup : Setup) (u : Machine) (banks : List Bank) : Type 0 where
  pub counted : is_bank_count (length banks) ≡ true
  pub each : (bank : ℕ) (b : Bank) → bank < length banks
      → HoldsRam setup u (length banks) bank (slice_index_or banks bank b)
