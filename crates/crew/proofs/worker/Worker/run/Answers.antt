-- What holds of the worker's contexts holds of those lent to its loop.
use Rattle.std.proofs.Common.{◌≡◌, All, sym, subst}
use Rattle.flex_base.specs.declared.engine.Engine.{Engine}
use Rattle.context.specs.Contexts.{IsOn}
use Rattle.crew.specs.Crews.{Berth}
use Rattle.crew.proofs.worker.Worker.run.Goals as goal

pub run_pipe-requires-clause-on : goal.run_pipe-requires-clause-on
run_pipe-requires-clause-on g c =
    let On : Berth → Type 0 = λ w. All (λ d. IsOn (g.B.Bus.run c.args.bus.now) d) w.contexts in
    subst On (sym c.self.view_is) c.requires.on

pub run_pipe-requires-clause-here : goal.run_pipe-requires-clause-here
run_pipe-requires-clause-here g c =
    let Here : Berth → Type 0 = λ w. All (λ d. d.engine ≡ w.engine) w.contexts in
    let At : Engine → Type 0 = λ e. All (λ d. d.engine ≡ e) c.self.inside.contexts.items in
    subst At c.in-Pipe.is (subst Here (sym c.self.view_is) c.requires.here)

pub run_in_turn-requires-clause-on : goal.run_in_turn-requires-clause-on
run_in_turn-requires-clause-on g c =
    let On : Berth → Type 0 = λ w. All (λ d. IsOn (g.B.Bus.run c.args.bus.now) d) w.contexts in
    subst On (sym c.self.view_is) c.requires.on

pub run_in_turn-requires-clause-here : goal.run_in_turn-requires-clause-here
run_in_turn-requires-clause-here g c =
    let Here : Berth → Type 0 = λ w. All (λ d. d.engine ≡ w.engine) w.contexts in
    let At : Engine → Type 0 = λ e. All (λ d. d.engine ≡ e) c.self.inside.contexts.items in
    subst At c.in-Kernel.is (subst Here (sym c.self.view_is) c.requires.here)

pub run_in_turn-requires-in-Host-clause-on : goal.run_in_turn-requires-in-Host-clause-on
run_in_turn-requires-in-Host-clause-on g c =
    let On : Berth → Type 0 = λ w. All (λ d. IsOn (g.B.Bus.run c.args.bus.now) d) w.contexts in
    subst On (sym c.self.view_is) c.requires.on

pub run_in_turn-requires-in-Host-clause-here : goal.run_in_turn-requires-in-Host-clause-here
run_in_turn-requires-in-Host-clause-here g c =
    let Here : Berth → Type 0 = λ w. All (λ d. d.engine ≡ w.engine) w.contexts in
    let At : Engine → Type 0 = λ e. All (λ d. d.engine ≡ e) c.self.inside.contexts.items in
    subst At c.in-Host.is (subst Here (sym c.self.view_is) c.requires.here)
