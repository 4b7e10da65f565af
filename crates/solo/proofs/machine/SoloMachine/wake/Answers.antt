-- By whether the devices have woken the hart.
use Rattle.std.proofs.Common.{◌<◌, Bool, get_or, Some, ap, sym, subst, ◌∙◌, arith}
use Rattle.context.specs.declared.wants.Wants.TheVariants as wants
use Rattle.context.specs.Contexts.{Context, IsWanting, HasTried}
use Rattle.solo.specs.Solo.{Solo}
use Rattle.solo.specs.Standing.{IsAt}
use Rattle.solo.proofs.Standing.{harts_are}
use Rattle.solo.proofs.Wakes.{woken_at, unwoken_at}
use Rattle.solo.proofs.machine.SoloMachine.wake.Goals as goal
use Rattle.solo.proofs.machine.SoloMachine.wake.Goals.{then-wake, else-wake}

-- the context that was read is the one at the hart's place
pub wake-requires-clause-parked : goal.wake-requires-clause-parked
wake-requires-clause-parked c =
    let ctx = c.index_mut.result.now in
    let Parked : Context → Type 0 = λ x. IsWanting x wants.Parked in
    let read = c.index_mut.ensures.value ∙ ap (λ (x : Solo). get_or x.contexts c.args.h ctx) c.self.view_is in
    subst Parked (sym read) (c.requires.parked ctx)

pub returns-clause-after : goal.returns-clause-after
returns-clause-after c = λ setup u at_first.
    let ctx = c.index_mut.result.now in
    let At : Solo → Type 0 = λ x. IsAt setup u x in
    let at = subst At (sym c.self.view_is) at_first in
    let below : c.args.h < setup.harts = omega (arith, c.requires.hart, harts_are setup u _ _ at_first) in
    let Parked : Context → Type 0 = λ x. IsWanting x wants.Parked in
    let read = c.index_mut.ensures.value ∙ ap (λ (x : Solo). get_or x.contexts c.args.h ctx) c.self.view_is in
    let parked = subst Parked (sym read) (c.requires.parked ctx) in
    let Tried : Bool → Type 0 = λ b. HasTried c.self.inside.bus.run (Some c.self.inside.bus.history) (Some c.wake.new.bus.history) ctx c.wake.new.self b in
    elim c.if-wake.branch [
      | then-wake w ↦
          rw (w.result-is) (woken_at setup u _ c.args.h ctx c.wake.new.self c.wake.new.bus at below c.index_mut.ensures.value
          c.wake.ensures.same c.wake.ensures.on c.wake.ensures.bus parked (subst Tried w.if-wake.true c.wake.ensures.one))
      | else-wake w ↦
          rw (w.result-is) (unwoken_at setup u _ c.args.h ctx c.wake.new.self c.wake.new.bus at below c.index_mut.ensures.value
          c.wake.ensures.same c.wake.ensures.on c.wake.ensures.bus parked (subst Tried w.if-wake.false c.wake.ensures.one))
    ]
