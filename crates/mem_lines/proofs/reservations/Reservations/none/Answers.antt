use Rattle.std.proofs.Common.{refl, arith}
use Rattle.mem_lines.proofs.Standing.{no_place}
use Rattle.mem_lines.proofs.reservations.Reservations.none.Goals as goal

pub returns : goal.returns
returns c = no_place

pub invariant_of-result : goal.invariant_of-result
invariant_of-result c = record { standing_are = refl; few = omega arith; above = λ hart high. no_place hart }
