-- The harts begin to pass, and have passed.
use Rattle.std.proofs.Common.{sym, subst}
use Rattle.access_record.specs.Buses.{Run}
use Rattle.crew.specs.Passing.{IsPassing}
use Rattle.crew.proofs.Passing.{passing_begun, passed}
use Rattle.crew.proofs.pipe.pass_through.Goals as goal

pub lay_all-any-requires : goal.lay_all-any-requires
lay_all-any-requires g c =
    let held = c.args.contexts.now in
    record { passing = (held, passing_begun (g.B.Bus.run c.args.bus.now) held c.new-latches.result c.new-latches.ensures c.requires.few c.requires.on c.requires.here) }

pub drain-requires : goal.drain-requires
drain-requires g c =
    let held = c.args.contexts.now in
    let run = g.B.Bus.run c.args.bus.now in
    let begun = passing_begun run held c.new-latches.result c.new-latches.ensures c.requires.few c.requires.on c.requires.here in
    let (place, passing) = c.lay_all-any.ensures.passing held begun in
    let Passing : Run → Type 0 = λ r. IsPassing r place held c.lay_all-any.new.contexts c.lay_all-any.new.latches in
    record { passing = (place, held, subst Passing (sym c.lay_all-any.ensures.bus) passing) }

pub returns-clause-worked : goal.returns-clause-worked
returns-clause-worked g c =
    let held = c.args.contexts.now in
    let run = g.B.Bus.run c.args.bus.now in
    let begun = passing_begun run held c.new-latches.result c.new-latches.ensures c.requires.few c.requires.on c.requires.here in
    let (place, passing) = c.lay_all-any.ensures.passing held begun in
    let Before : Run → Type 0 = λ r. IsPassing r place held c.lay_all-any.new.contexts c.lay_all-any.new.latches in
    let After : Run → Type 0 = λ r. IsPassing r place held c.drain.new.contexts c.drain.new.latches in
    passed run place held c.drain.new.contexts c.drain.new.latches
    (subst After c.lay_all-any.ensures.bus (c.drain.ensures.passing place held (subst Before (sym c.lay_all-any.ensures.bus) passing)))
