-- One hart more that doesn't go on by itself.
use Rattle.std.proofs.Common.{inl, inr, ap, sym, ◌∙◌, arith}
use Rattle.std.proofs.lemmas.Bool.{cases_eq}
use Rattle.flex_base.specs.Unsplit.{want_of, is_idle}
use Rattle.solo.proofs.Standing.{harts_are}
use Rattle.solo.proofs.machine.SoloMachine.are_idle.Goals as goal

pub loop-h-preserved : goal.loop-h-preserved
loop-h-preserved c = λ setup u at k below. elim (cases_eq k c.loop-h.h) [
  | inl same ↦ ap (λ j. is_idle (want_of setup u j)) same ∙ sym (c.is_idle.ensures setup u at) ∙ c.if-not-is_idle.false
  | inr other ↦ c.loop-h.invariant setup u at k (omega (arith, below, other))
]

pub returns : goal.returns
returns c = λ setup u at h below.
    c.loop-h.invariant setup u at h (omega (arith, below, c.loop-h-test.false, c.count-h-end.ensures, harts_are setup u _ c.args.self.now at))
