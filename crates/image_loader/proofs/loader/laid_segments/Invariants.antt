use Rattle.std.proofs.Common.{◌≡◌, ℕ, true}
use Rattle.std.specs.Prelude.{None}
use Rattle.std.specs.List.{list_all}
use Rattle.flex_base.specs.Loaded.{part_fits}
use Rattle.image_loader.specs.Faults.{first_fault, table_tests}
use Rattle.image_loader.specs.Loading.{segments}
use Rattle.image_loader.specs.Laying.{laid_byte}
use Rattle.image_loader.proofs.loader.laid_segments.Given as goal

-- the parts are as the segments of the headers before n, and lie in RAM
abbrev pub invariant-loop-n : goal.invariant-loop-n
invariant-loop-n l = record {
  bytes : (a : ℕ) → laid_byte l.parts a ≡ laid_byte (segments l.file l.n) a;
  fit : (ram : ℕ) → first_fault (table_tests l.file ram l.header.e_phnum) ≡ None → list_all (part_fits ram) l.parts ≡ true;
}
