-- Hart after hart, none before may start.
use Rattle.std.proofs.Common.{◌<◌, ◌∙◌, length, sym, subst, arith}
use Rattle.std.proofs.lemmas.Bool.{false≢true}
use Rattle.context.specs.Runs.{MakesNone}
use Rattle.pipeline.specs.Pipes.{flights_in}
use Rattle.pipeline.proofs.Working.{is_hart}
use Rattle.pipeline.proofs.Selecting.{none_more}
use Rattle.pipeline.proofs.latches.first_due.Goals as goal
use Rattle.pipeline.proofs.latches.first_due.Goals.{then-not-is_in_flight+in_default, else-not-is_in_flight}

pub returns-in-Some-clause-found : goal.returns-in-Some-clause-found
returns-in-Some-clause-found c =
    let within : c.loop-place.place < length c.args.held.now = omega (arith, c.loop-place-test.true, c.requires.within) in
    (c.in-Some.ensures.range.0, c.in-Some.ensures.range.1, sym c.if-not-is_in_flight.ensures, (c.index-held-place.result, within, sym c.index-held-place.is, c.in-Some.ensures.due))

pub loop-place-preserved : goal.loop-place-preserved
loop-place-preserved c =
    let within : c.loop-place.place < length c.args.held.now = omega (arith, c.loop-place-test.true, c.requires.within) in
    none_more c.args.held.now (flights_in c.args.slots.now) c.args.from c.loop-place.place c.loop-place.invariant (λ k free is.
    elim c.if-not-is_in_flight.branch [
      | then-not-is_in_flight+in_default w ↦
          subst MakesNone (is_hart c.args.held.now c.loop-place.place k w.index-held-place.result within is (sym w.index-held-place.is)) w.in_default.ensures.due
      | else-not-is_in_flight w ↦ absurd (false≢true (sym free ∙ sym w.if-not-is_in_flight.ensures))
    ])

pub returns-clause-none : goal.returns-clause-none
returns-clause-none c = λ k hart from below. c.loop-place.invariant k hart from (omega (arith, below, c.loop-place-test.false))
