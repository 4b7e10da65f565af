-- The workers may run, and afterwards it is the same crew.
use Rattle.std.proofs.Common.{arith, List, sym, subst}
use Rattle.std.proofs.lemmas.List.{with_items_is}
use Rattle.crew.specs.Crews.{Berth, Crew, crew_of, IsCrew, AllHaveWorked}
use Rattle.crew.proofs.Moving.{worked}
use Rattle.crew.proofs.coordinator.Crew.phase.Goals as goal

pub returns-then-busy-gt1-clause-crew : goal.returns-then-busy-gt1-clause-crew
returns-then-busy-gt1-clause-crew g c =
    let run = g.N.RunName.run in
    let f = c.self.inside in
    let new = c.side_by_side.new.workers in
    let all = c.side_by_side.ensures.worked in
    let At : Crew → Type 0 = λ x. IsCrew run x in
    let Worked : List Berth → Type 0 = λ old. AllHaveWorked run old new in
    let Kept : List Berth → Type 0 = λ ws. IsCrew run (crew_of f.plan f.resting.items ws) in
    subst Kept (sym (with_items_is f.workers new (omega (arith, all.counted, c.deref_mut.ensures.len))))
    (worked run (crew_of f.plan f.resting.items f.workers.items) new (subst At (sym c.self.view_is) c.requires.crew) (subst Worked c.deref_mut.ensures.value all))

pub returns-else-busy-gt1-clause-crew : goal.returns-else-busy-gt1-clause-crew
returns-else-busy-gt1-clause-crew g c =
    let run = g.N.RunName.run in
    let f = c.self.inside in
    let new = c.one_by_one.new.workers in
    let all = c.one_by_one.ensures.worked in
    let At : Crew → Type 0 = λ x. IsCrew run x in
    let Worked : List Berth → Type 0 = λ old. AllHaveWorked run old new in
    let Kept : List Berth → Type 0 = λ ws. IsCrew run (crew_of f.plan f.resting.items ws) in
    subst Kept (sym (with_items_is f.workers new (omega (arith, all.counted, c.deref_mut-else-busy-gt1.ensures.len))))
    (worked run (crew_of f.plan f.resting.items f.workers.items) new (subst At (sym c.self.view_is) c.requires.crew) (subst Worked c.deref_mut-else-busy-gt1.ensures.value all))
