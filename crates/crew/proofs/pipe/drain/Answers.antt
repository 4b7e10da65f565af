-- The latches have moved on once more.
use Rattle.std.proofs.Common.{sym, subst, ◌∙◌}
use Rattle.access_record.specs.Buses.{Run}
use Rattle.crew.specs.Passing.{IsPassing}
use Rattle.crew.proofs.pipe.drain.Goals as goal

pub advance-requires : goal.advance-requires
advance-requires g c =
    let (place, start, passing) = c.requires.passing in
    let so_far = c.loop-cycle.invariant in
    let Passing : Run → Type 0 = λ r. IsPassing r place start c.loop-cycle.contexts c.loop-cycle.latches in
    record { passing = (place, start, subst Passing (sym so_far.1) (so_far.0 place start passing)) }

pub loop-cycle-preserved : goal.loop-cycle-preserved
loop-cycle-preserved g c =
    let so_far = c.loop-cycle.invariant in
    let new = c.advance.new in (
      (λ place start passing.
          let Before : Run → Type 0 = λ r. IsPassing r place start c.loop-cycle.contexts c.loop-cycle.latches in
          let After : Run → Type 0 = λ r. IsPassing r place start new.contexts new.latches in
          subst After so_far.1 (c.advance.ensures.passing place start (subst Before (sym so_far.1) (so_far.0 place start passing)))),
      c.advance.ensures.bus ∙ so_far.1,
    )
