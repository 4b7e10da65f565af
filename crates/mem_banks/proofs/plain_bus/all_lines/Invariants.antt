use Rattle.std.proofs.Common.{◌≡◌}
use Rattle.std.specs.Prelude.{vec_len}
use Rattle.mem_banks.specs.Plain.{AreMade}
use Rattle.mem_banks.proofs.plain_bus.all_lines.Given as goal

abbrev pub invariant-loop-bank : goal.invariant-loop-bank
invariant-loop-bank l = (vec_len l.lines ≡ l.bank) × AreMade l.image l.settings l.banks l.lines.items
