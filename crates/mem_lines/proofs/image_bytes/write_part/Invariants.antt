use Rattle.std.proofs.Common.{◌≡◌, ℕ, ◌≤◌, ◌-◌, length, if◌then◌else◌, get_or}
use Rattle.flex_base.specs.Place.{ram_base}
use Rattle.flex_base.specs.FlatMemory.{covers}
use Rattle.mem_lines.specs.Bank.{bank_of, offset}
use Rattle.mem_lines.proofs.image_bytes.write_part.Given as goal

-- the first bytes are written
abbrev pub invariant-loop-done : goal.invariant-loop-done
invariant-loop-done l = record {
  within : l.done ≤ length l.part;
  written : (a : ℕ) → ram_base ≤ a → bank_of l.banks a ≡ l.bank
      → get_or l.bytes (offset l.banks a) 0 ≡ (if covers l.address l.done a then get_or l.part (a - l.address) 0 else get_or l.initial.bytes (offset l.banks a) 0);
}

abbrev pub decreases-loop-done : goal.decreases-loop-done
decreases-loop-done l = length l.part - l.done
