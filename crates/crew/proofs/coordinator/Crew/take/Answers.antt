-- What rests at the place is in hand.
use Rattle.std.proofs.Common.{rules, ◌<◌, length, set, sym, subst, Option}
use Rattle.context.specs.Contexts.{Context}
use Rattle.crew.specs.Crews.{Crew, crew_of, IsCrewBut, IsCrew}
use Rattle.crew.proofs.Moving.{took}
use Rattle.crew.proofs.coordinator.Crew.take.Goals as goal

pub returns-clause-crew : goal.returns-clause-crew
returns-clause-crew c = λ run whole.
    let resting = c.self.inside.resting.items in
    let workers = c.self.inside.workers.items in
    let At : Crew → Type 0 = λ x. IsCrew run x in
    let was = subst At (sym c.self.view_is) whole in
    let lt : c.args.hart < length resting = search rules in
    let Moved : Option Context × Option Context → Type 0 = λ p. IsCrewBut run p.0 (crew_of c.self.inside.plan (set resting c.args.hart p.1) workers) in
    subst Moved (λ i. (sym c.take.ensures.value i, sym c.take.ensures.after i))
    (took run (crew_of c.self.inside.plan resting workers) c.args.hart c.index_mut.result.now lt c.index_mut.ensures.value was)
