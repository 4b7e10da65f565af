-- What was in hand is with a worker of its engine.
use Rattle.std.proofs.Common.{arith, ◌≡◌, ◌<◌, length, sym, ap, subst, ◌∙◌, slice_index_or, Some}
use Rattle.crew.specs.Crews.{Berth, Crew, crew_of, IsCrewBut}
use Rattle.crew.proofs.Moving.{sent}
use Rattle.crew.proofs.coordinator.Crew.send.Goals as goal

pub returns-clause-crew : goal.returns-clause-crew
returns-clause-crew c = λ run whole.
    let crew = crew_of c.self.inside.plan c.self.inside.resting.items c.self.inside.workers.items in
    let number = c.number_for-number.result in
    let w = c.index_mut.result.now in
    let At : Crew → Type 0 = λ x. IsCrewBut run (Some c.args.context) x in
    let Below : Crew → Type 0 = λ x. number < length x.workers in
    let Is : Crew → Type 0 = λ x. w ≡ slice_index_or x.workers number w in
    let lt : number < length c.args.self.now.workers = omega (arith, c.number_for-number.ensures.below, whole.counted) in
    let is = subst Is c.self.view_is c.index_mut.ensures.value in
    let here = c.requires.engine ∙ sym (ap (λ (u : Berth). u.engine) is ∙ (whole.engines number w lt ∙ c.number_for-number.ensures.engine)) in
    sent run crew number w (subst Below (sym c.self.view_is) lt) c.index_mut.ensures.value c.args.context c.take_in.new.self
    (subst At (sym c.self.view_is) whole) here c.take_in.ensures.contexts c.take_in.ensures.engine c.take_in.ensures.room
