-- A number without a hart changes nothing.
use Rattle.std.proofs.Common.{◌≡◌, ℕ, ◌≤◌, false, nat_lt, subst, sym, arith}
use Rattle.std.proofs.lemmas.Bool.Decides.{nat_tests}
use Rattle.flex_base.specs.Unsplit.{Machine}
use Rattle.flex_base.proofs.Machines.{step_beyond}
use Rattle.solo.specs.Standing.{IsAt}
use Rattle.solo.proofs.Standing.{harts_are}
use Rattle.solo.proofs.Rounds.{stepped}
use Rattle.solo.proofs.machine.SoloMachine.next.Goals as goal

not_below : (h harts : ℕ) → harts ≤ h → nat_lt h harts ≡ false
not_below h harts beyond = grind (arith, nat_tests)

pub returns-then-h-count-clause-at : goal.returns-then-h-count-clause-at
returns-then-h-count-clause-at c = λ setup u at. stepped setup u c.args.h c.step.result c.step.new.self (c.step.ensures.after setup u at)

pub returns-else-h-count-clause-at : goal.returns-else-h-count-clause-at
returns-else-h-count-clause-at c = λ setup u at.
    let beyond : nat_lt c.args.h setup.harts ≡ false = not_below c.args.h setup.harts (omega (arith, c.if-h-count.false, c.count.ensures, harts_are setup u _ c.args.self.now at)) in
    let At : Machine → Type 0 = λ m. IsAt setup m c.args.self.now in
    subst At (sym (step_beyond setup u c.args.h beyond)) at
