-- A stop stands, and no hart goes on by itself.
use Rattle.std.proofs.Common.{true, ap, sym, ◌∙◌}
use Rattle.std.specs.Prelude.{is_some}
use Rattle.solo.proofs.Standing.{ended_is}
use Rattle.solo.proofs.machine.SoloMachine.has_ended.Goals as goal

pub returns-then-is_some : goal.returns-then-is_some
returns-then-is_some c = λ setup u at.
    ended_is setup u true c.are_idle.result (ap is_some (sym (c.stop.ensures setup u at)) ∙ sym c.is_some.ensures ∙ c.if-is_some.true) (λ same. c.are_idle.ensures setup u at)
