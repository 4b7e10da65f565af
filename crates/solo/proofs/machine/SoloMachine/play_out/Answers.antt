-- Rounds, until the run has ended or all of them are made.
use Rattle.std.proofs.Common.{◌-◌, ◌+◌, ◌<◌, refl, sym, arith, ◌∙◌}
use Rattle.flex_base.specs.Unsplit.{hart_numbers}
use Rattle.flex_base.specs.Rounds.{repeated, most_rounds}
use Rattle.solo.proofs.Rounds.{playing_rounds, playing_round, playing_as, repeated_push, played_all, played_over}
use Rattle.solo.proofs.machine.SoloMachine.play_out.Goals as goal

pub rounds-init : goal.rounds-init
rounds-init c = (refl, λ setup u at. playing_rounds setup u c.args.self.now at)

pub has_ended-requires : goal.has_ended-requires
has_ended-requires c =
    let first = c.requires.at in
    (first.0, _, (c.rounds.invariant.1 first.0 first.1 first.2).at)

pub returns-then-has_ended-clause-at : goal.returns-then-has_ended-clause-at
returns-then-has_ended-clause-at c = λ setup u at.
    let playing = c.rounds.invariant.1 setup u at in
    played_over setup u _ _ c.args.self.now c.rounds.self at playing (sym (c.has_ended.ensures setup _ playing.at) ∙ c.if-has_ended.true)

pub returns-then-has_ended-clause-plan : goal.returns-then-has_ended-clause-plan
returns-then-has_ended-clause-plan c = c.rounds.invariant.0

pub round-requires : goal.round-requires
round-requires c =
    let first = c.requires.at in
    let setup = first.0 in
    let u = first.1 in (
      setup,
      u,
      _,
      _,
      playing_round setup u c.rounds.counter c.rounds.self
          (omega (arith, c.rounds-test.true, c.most_events-end.ensures setup u first.2)) (c.rounds.invariant.1 setup u first.2),
    )

pub rounds-preserved : goal.rounds-preserved
rounds-preserved c = (
  c.round.ensures.plan ∙ c.rounds.invariant.0,
  λ setup u at.
      let k = c.rounds.counter in
      let numbers = hart_numbers setup in
      let rest = repeated (most_rounds setup - (k + 1)) numbers in
      let below : k < most_rounds setup = omega (arith, c.rounds-test.true, c.most_events-end.ensures setup u at) in
      let playing = playing_round setup u k c.rounds.self below (c.rounds.invariant.1 setup u at) in
      playing_as setup u _ _ rest rest c.round.new.self (repeated_push k numbers) refl (c.round.ensures.at setup u (repeated k numbers) rest playing),
)

pub returns-clause-at : goal.returns-clause-at
returns-clause-at c = λ setup u at.
    played_all setup u c.rounds.counter c.args.self.now c.rounds.self at
    (omega (arith, c.rounds-test.false, c.most_events-end.ensures setup u at)) (c.rounds.invariant.1 setup u at)

pub returns-clause-plan : goal.returns-clause-plan
returns-clause-plan c = c.rounds.invariant.0
