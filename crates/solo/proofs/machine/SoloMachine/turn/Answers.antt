-- The turn goes on where the step left it.
use Rattle.std.proofs.Common.{◌<◌, refl, subst, ◌∙◌, arith}
use Rattle.solo.specs.Playing.{AfterStep}
use Rattle.solo.specs.declared.machine.Step.{Step}
use Rattle.solo.proofs.Standing.{harts_are}
use Rattle.solo.proofs.Flying.{new_flying}
use Rattle.solo.proofs.Rounds.{in_turn_on, turned_all, turned_once, turned_none, turned_most}
use Rattle.solo.proofs.machine.SoloMachine.turn.Goals as goal

pub turn-init : goal.turn-init
turn-init c = (
  refl,
  λ setup u at. record { now = u; at = at; reaches = refl; many = omega arith },
  new_flying c.args.self.now c.args.h _ c.new-latches.ensures,
)

pub step-requires-clause-hart : goal.step-requires-clause-hart
step-requires-clause-hart c =
    let first = c.requires.at in
    let was = c.turn.invariant.1 first.0 first.1 first.2 in
    omega (arith, c.requires.hart, harts_are first.0 first.1 _ c.args.self.now first.2, harts_are first.0 was.now _ c.turn.self was.at)

pub step-requires-clause-at : goal.step-requires-clause-at
step-requires-clause-at c =
    let first = c.requires.at in
    (first.0, _, (c.turn.invariant.1 first.0 first.1 first.2).at)

pub turn-preserved : goal.turn-preserved
turn-preserved c = (
  c.step.ensures.plan ∙ c.turn.invariant.0,
  λ setup u at.
      let was = c.turn.invariant.1 setup u at in
      let below : c.args.h < setup.harts = omega (arith, c.requires.hart, harts_are setup u _ c.args.self.now at) in
      let Stepped : Step → Type 0 = λ st. AfterStep setup was.now c.args.h st c.step.new.self in
      in_turn_on setup u c.args.h c.turn.counter c.turn.self c.step.new.self below was (subst Stepped c.in-Accessed.is (c.step.ensures.after setup was.now was.at)),
  c.step.ensures.flying,
)

pub returns-in-Ended-clause-at : goal.returns-in-Ended-clause-at
returns-in-Ended-clause-at c = λ setup u at.
    let was = c.turn.invariant.1 setup u at in
    let Stepped : Step → Type 0 = λ st. AfterStep setup was.now c.args.h st c.step.new.self in
    turned_all setup u c.args.h c.turn.counter c.turn.self c.step.new.self was
    (turned_once setup was.now c.args.h c.step.new.self (subst Stepped c.in-Ended.is (c.step.ensures.after setup was.now was.at)))

pub returns-in-Ended-clause-plan : goal.returns-in-Ended-clause-plan
returns-in-Ended-clause-plan c = c.step.ensures.plan ∙ c.turn.invariant.0

pub returns-in-Rested-clause-at : goal.returns-in-Rested-clause-at
returns-in-Rested-clause-at c = λ setup u at.
    let was = c.turn.invariant.1 setup u at in
    let Stepped : Step → Type 0 = λ st. AfterStep setup was.now c.args.h st c.step.new.self in
    turned_all setup u c.args.h c.turn.counter c.turn.self c.step.new.self was
    (turned_none setup was.now c.args.h c.step.new.self (subst Stepped c.in-Rested.is (c.step.ensures.after setup was.now was.at)))

pub returns-in-Rested-clause-plan : goal.returns-in-Rested-clause-plan
returns-in-Rested-clause-plan c = c.step.ensures.plan ∙ c.turn.invariant.0

pub returns-clause-at : goal.returns-clause-at
returns-clause-at c = λ setup u at.
    let below : c.args.h < setup.harts = omega (arith, c.requires.hart, harts_are setup u _ c.args.self.now at) in
    turned_most setup u c.args.h c.turn.counter c.turn.self below (omega (arith, c.turn-test.false, c.most_events-end.ensures setup u at))
    (c.turn.invariant.1 setup u at)

pub returns-clause-plan : goal.returns-clause-plan
returns-clause-plan c = c.turn.invariant.0
