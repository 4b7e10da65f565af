-- The hart has been laid and the latches have moved on, or it is passed over, or it waits a cycle more.
use Rattle.std.proofs.Common.{rules, ◌+◌, List, Option, sym, subst, ◌∙◌}
use Rattle.access_record.specs.Buses.{Run}
use Rattle.pipeline.specs.declared.flight.Flight.{Flight}
use Rattle.crew.specs.Passing.{IsPassing}
use Rattle.crew.proofs.Passing.{passed_over}
use Rattle.crew.proofs.pipe.lay_one.Goals as goal

pub advance-requires : goal.advance-requires
advance-requires g c =
    let (start, passing) = c.requires.passing in
    let so_far = c.loop-cycle.invariant in
    let Passing : Run → Type 0 = λ r. IsPassing r (c.args.place + 1) start c.loop-cycle.contexts c.lay.new.latches in
    record {
      passing = (
        c.args.place + 1,
        start,
        subst Passing (sym so_far.2) (c.lay.ensures.laid (g.B.Bus.run c.args.bus.now) start (so_far.0 start passing) c.if-lay.true),
      );
    }

pub returns-then-lay-clause-passing : goal.returns-then-lay-clause-passing
returns-then-lay-clause-passing g c = λ start passing.
    let so_far = c.loop-cycle.invariant in
    let Before : Run → Type 0 = λ r. IsPassing r (c.args.place + 1) start c.loop-cycle.contexts c.lay.new.latches in
    let After : Run → Type 0 = λ r. IsPassing r (c.args.place + 1) start c.advance.new.contexts c.advance.new.latches in
    subst After so_far.2
    (c.advance.ensures.passing (c.args.place + 1) start
    (subst Before (sym so_far.2) (c.lay.ensures.laid (g.B.Bus.run c.args.bus.now) start (so_far.0 start passing) c.if-lay.true)))

pub returns-then-is_none-clause-passing : goal.returns-then-is_none-clause-passing
returns-then-is_none-clause-passing g c = λ start passing.
    let run = g.B.Bus.run c.args.bus.now in
    let so_far = c.loop-cycle.invariant in
    let Passing : List (Option Flight) → Type 0 = λ l. IsPassing run c.args.place start c.loop-cycle.contexts l in
    passed_over run c.args.place start c.loop-cycle.contexts c.lay.new.latches (subst Passing (sym (c.lay.ensures.same c.if-lay.false)) (so_far.0 start passing))

pub loop-cycle-preserved : goal.loop-cycle-preserved
loop-cycle-preserved g c =
    let so_far = c.loop-cycle.invariant in
    let new = c.advance-in-loop-cycle.new in (
      (λ start passing.
          let Before : Run × List (Option Flight) → Type 0 = λ p. IsPassing p.0 c.args.place start c.loop-cycle.contexts p.1 in
          let After : Run → Type 0 = λ r. IsPassing r c.args.place start new.contexts new.latches in
          subst After so_far.2
          (c.advance-in-loop-cycle.ensures.passing c.args.place start
          (subst Before (λ i. (sym so_far.2 i, sym (c.lay.ensures.same c.if-lay.false) i)) (so_far.0 start passing)))),
      search rules,
      c.advance-in-loop-cycle.ensures.bus ∙ so_far.2,
    )

pub returns-clause-passing : goal.returns-clause-passing
returns-clause-passing g c = λ start passing.
    passed_over (g.B.Bus.run c.args.bus.now) c.args.place start c.loop-cycle.contexts c.loop-cycle.latches (c.loop-cycle.invariant.0 start passing)
