-- What was found is laid into select.
use Rattle.std.proofs.Common.{List, Option, refl, ap, subst, ◌∙◌, length, slice_set}
use Rattle.pipeline.specs.declared.flight.Flight.{Flight}
use Rattle.pipeline.specs.Pipes.{flight_in, flights_in, MayStart, NoneMayStart}
use Rattle.pipeline.proofs.Flying.{read_set}
use Rattle.pipeline.proofs.Selecting.{none_follows}
use Rattle.pipeline.proofs.latches.Latches.select.Goals as goal

pub returns-in-Some-clause-found : goal.returns-in-Some-clause-found
returns-in-Some-clause-found c =
    let May : List (Option Flight) → Type 0 = λ l. MayStart c.args.held.now l c.in-Some.flight in
    let Set : List (Option Flight) → List (Option Flight) = λ l. slice_set l 0 (flight_in c.packed.result) in
    let Put : Option Flight → List (Option Flight) = λ o. slice_set c.args.self.now 0 o in
    (subst May c.self.view_is c.in-Some.ensures.found, read_set c.self.inside.slots 0 0 c.packed.result refl ∙ ap Set c.self.view_is ∙ ap Put c.packed.ensures)

pub returns-in_default-clause-none : goal.returns-in_default-clause-none
returns-in_default-clause-none c =
    let All : List (Option Flight) → Type 0 = λ l. NoneMayStart c.args.held.now l 0 (length c.args.held.now) in
    none_follows c.select-selected.result (NoneMayStart c.args.held.now (flights_in c.self.inside.slots) 0 (length c.args.held.now)) _
    (λ none. (subst All c.self.view_is none, refl)) c.select-selected.ensures.none
