-- What the worker gives back, if anything, is in hand.
use Rattle.std.proofs.Common.{◌<◌, length, set, sym, subst}
use Rattle.crew.specs.Crews.{Crew, crew_of, IsCrew, TakesBack}
use Rattle.crew.proofs.Moving.{gave, takes_back}
use Rattle.crew.proofs.coordinator.Crew.take_back.Goals as goal

pub returns-clause-crew : goal.returns-clause-crew
returns-clause-crew c = λ run whole.
    let crew = crew_of c.self.inside.plan c.self.inside.resting.items c.self.inside.workers.items in
    let At : Crew → Type 0 = λ x. IsCrew run x in
    let Below : Crew → Type 0 = λ x. c.args.number < length x.workers in
    let was = subst At (sym c.self.view_is) whole in
    let lt = subst Below (sym c.self.view_is) c.requires.number in
    gave run crew c.args.number c.index_mut.result.now lt c.index_mut.ensures.value c.give_back.result c.give_back.new.self was
    c.give_back.ensures.given c.give_back.ensures.engine c.give_back.ensures.room

pub returns-clause-workers : goal.returns-clause-workers
returns-clause-workers c =
    let workers = c.self.inside.workers.items in
    let crew = crew_of c.self.inside.plan c.self.inside.resting.items workers in
    let Below : Crew → Type 0 = λ x. c.args.number < length x.workers in
    let lt = subst Below (sym c.self.view_is) c.requires.number in
    let Takes : Crew → Type 0 = λ x. TakesBack c.args.number c.give_back.result x.workers (set workers c.args.number c.give_back.new.self) in
    subst Takes c.self.view_is
    (takes_back c.requires.crew.0 crew c.args.number c.index_mut.result.now lt c.index_mut.ensures.value c.give_back.result c.give_back.new.self
    c.give_back.ensures.given c.give_back.ensures.none)
