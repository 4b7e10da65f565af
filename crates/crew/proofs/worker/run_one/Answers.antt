-- A run makes at most its engine's ends.
use Rattle.std.proofs.Common.{sym, subst, ◌∙◌}
use Rattle.flex_base.specs.declared.engine.Engine.{Engine}
use Rattle.crew.specs.Crews.{HasWorked, most_ends}
use Rattle.crew.proofs.Working.{run_worked}
use Rattle.crew.proofs.worker.run_one.Goals as goal

pub returns-in-Kernel-clause-worked : goal.returns-in-Kernel-clause-worked
returns-in-Kernel-clause-worked g c =
    let new = c.run_in_place.new.ctx in
    let Worked : Engine → Type 0 = λ e. HasWorked (g.B.Bus.run c.args.bus.now) (most_ends e) c.args.context.now new in
    subst Worked (sym c.in-Kernel.is)
    (run_worked (g.B.Bus.run c.args.bus.now) 64 _ _ c.args.context.now new c.run_in_place.ensures.ran (c.run_in_place.ensures.here ∙ sym (c.requires.here ∙ c.in-Kernel.is)) c.run_in_place.ensures.same c.run_in_place.ensures.on)

pub returns-in-Host-clause-worked : goal.returns-in-Host-clause-worked
returns-in-Host-clause-worked g c =
    let new = c.run_in_place-in-Host.new.ctx in
    let Worked : Engine → Type 0 = λ e. HasWorked (g.B.Bus.run c.args.bus.now) (most_ends e) c.args.context.now new in
    subst Worked (sym c.in-Host.is)
    (run_worked (g.B.Bus.run c.args.bus.now) 64 _ _ c.args.context.now new c.run_in_place-in-Host.ensures.ran (c.run_in_place-in-Host.ensures.here ∙ sym (c.requires.here ∙ c.in-Host.is)) c.run_in_place-in-Host.ensures.same c.run_in_place-in-Host.ensures.on)
