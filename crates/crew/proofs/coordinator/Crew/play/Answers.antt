-- Each call leaves a crew.
use Rattle.std.proofs.Common.{sym, subst}
use Rattle.crew.specs.Crews.{Crew, IsCrew}
use Rattle.crew.proofs.coordinator.Crew.play.Goals as goal
use Rattle.crew.proofs.coordinator.Crew.play.Goals.{in-None, in-Some+then-not-deal_over}

pub deal_over-requires-clause-crew : goal.deal_over-requires-clause-crew
deal_over-requires-clause-crew g c κs within = c.collect.ensures.crew g.N.RunName.run c.loop.invariant.0

pub returns-clause-crew : goal.returns-clause-crew
returns-clause-crew g c =
    let run = g.N.RunName.run in
    let At : Crew → Type 0 = λ x. IsCrew run x in
    let crew : IsCrew run c.match-next.self = elim c.match-next.branch [
      | in-None w ↦ subst At (sym w.self-is) c.loop.invariant.0
      | in-Some+then-not-deal_over w ↦ subst At (sym w.self-is) w.deal_over.ensures.crew
    ] in
    c.collect-2.ensures.crew run crew
