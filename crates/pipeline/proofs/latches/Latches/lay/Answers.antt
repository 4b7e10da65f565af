-- Who has no event due isn't laid, and where nothing is in the latches nobody else.
use Rattle.std.proofs.Common.{refl, inl}
use Rattle.pipeline.specs.Pipes.{LaysNone, HasLaid}
use Rattle.pipeline.proofs.Laying.{laid_if_empty}
use Rattle.pipeline.proofs.latches.Latches.lay.Goals as goal

pub returns-in-Some : goal.returns-in-Some
returns-in-Some c =
    let laid : HasLaid c.args.place c.args.context.now c.args.self.now c.put.new.self c.put.result = c.put.ensures.laid c.args.context.now c.in-Some.ensures.due in
    record { laid = laid; empty = laid_if_empty _ _ _ _ _ laid }

pub returns-in-None : goal.returns-in-None
returns-in-None c =
    let none : LaysNone c.args.context.now c.args.self.now c.args.self.now = record { same = refl; why = inl c.in-None.ensures.due } in
    record { laid = none; empty = laid_if_empty c.args.place _ _ _ _ none }
