-- Nothing rests at the place, and then what was in hand does.
use Rattle.std.proofs.Common.{◌≡◌, ℕ, set, sym, ap, subst, ◌∙◌, slice_index_or, Option, Some}
use Rattle.flex_base.specs.declared.hart.HartId.{HartId}
use Rattle.context.specs.Contexts.{Context}
use Rattle.crew.specs.Crews.{Crew, crew_of, IsCrewBut, IsCrew}
use Rattle.crew.proofs.Moving.{vacant, laid}
use Rattle.crew.proofs.coordinator.Crew.rest.Goals as goal

pub unreachable-requires : goal.unreachable-requires
unreachable-requires c =
    let run = c.requires.crew.0 in
    let resting = c.self.inside.resting.items in
    let there = c.index_mut.result.now in
    let At : Crew → Type 0 = λ x. IsCrewBut run (Some c.args.context) x in
    let was = subst At (sym c.self.view_is) c.requires.crew.1 in
    let place : c.id-hart.result.0 ≡ c.args.context.pass.hart.0 = ap (λ (h : HartId). h.0) c.id-hart.ensures in
    let is = subst (λ (n : ℕ). there ≡ slice_index_or resting n there) place c.index_mut.ensures.value in
    c.in_default.not-None (c.replace-left.ensures.value ∙ vacant run (crew_of c.self.inside.plan resting c.self.inside.workers.items) c.args.context there was is)

pub returns-clause-crew : goal.returns-clause-crew
returns-clause-crew c = λ run whole.
    let resting = c.self.inside.resting.items in
    let workers = c.self.inside.workers.items in
    let At : Crew → Type 0 = λ x. IsCrewBut run (Some c.args.context) x in
    let was = subst At (sym c.self.view_is) whole in
    let place : c.id-hart.result.0 ≡ c.args.context.pass.hart.0 = ap (λ (h : HartId). h.0) c.id-hart.ensures in
    let Laid : ℕ × Option Context → Type 0 = λ p. IsCrew run (crew_of c.self.inside.plan (set resting p.0 p.1) workers) in
    subst Laid (λ i. (sym place i, sym c.replace-left.ensures.after i))
    (laid run (crew_of c.self.inside.plan resting workers) c.args.context was)
