-- The latch before is free or not.
use Rattle.std.proofs.Common.{◌≡◌, ◌≢◌, ◌-◌, List, Option, None, refl, sym, ap, subst, ◌∙◌, arith, inr, slice_index_or, slice_set}
use Rattle.pipeline.specs.declared.flight.Flight.{Flight}
use Rattle.pipeline.specs.Pipes.{flight_in, flights_in}
use Rattle.pipeline.proofs.Flying.{read_set, read_at, reads_none, reads_some}
use Rattle.pipeline.proofs.latches.Latches.put.Goals as goal

pub returns-then-is_empty : goal.returns-then-is_empty
returns-then-is_empty c =
    let slots = c.self.inside.slots in
    let before = c.args.due - 1 in
    let Read : List (Option Flight) → Type 0 = λ l. slice_index_or l before None ≡ None in
    let Set : List (Option Flight) → List (Option Flight) = λ l. slice_set l before (flight_in c.packed.result) in
    let Put : Option Flight → List (Option Flight) = λ o. slice_set c.args.self.now before o in
    record {
      laid = λ hart due. record {
        due = c.args.due;
        is_due = due;
        some = c.requires.due.0;
        most = c.requires.due.1;
        free = subst Read c.self.view_is (read_at slots c.from-before.result before c.from-before.ensures (omega (arith, c.requires.due.0, c.requires.due.1, c.self.told)) ∙ reads_none _ (sym c.if-is_empty.ensures));
        laid = read_set slots c.from-before.result before c.packed.result c.from-before.ensures ∙ ap Set c.self.view_is ∙ ap Put c.packed.ensures;
      };
    }

pub returns : goal.returns
returns c =
    let slots = c.self.inside.slots in
    let before = c.args.due - 1 in
    let Read : List (Option Flight) → Type 0 = λ l. slice_index_or l before None ≢ None in
    let read = read_at slots c.from-before.result before c.from-before.ensures (omega (arith, c.requires.due.0, c.requires.due.1, c.self.told)) in
    let some : slice_index_or (flights_in slots) before None ≢ None = λ none. reads_some _ (sym c.if-is_empty.ensures) (sym read ∙ none) in
    record {
      laid = λ hart due. record {
        same = refl;
        why = inr (c.args.due, due, subst Read c.self.view_is some);
      };
    }
