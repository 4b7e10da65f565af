-- The run is over where the crew is at rest.
use Rattle.std.proofs.Common.{◌≡◌, ap, subst, ◌∙◌}
use Rattle.transplant_plan.specs.declared.plan.Plan.{Plan}
use Rattle.mem_banks.specs.End.{Memory}
use Rattle.crew.specs.Crews.{Crew}
use Rattle.crew.specs.Played.{IsOver, HasPlayed}
use Rattle.crew.proofs.Over.{comes_over}
use Rattle.crew.proofs.machine.Machine.run.Goals as goal

pub loop-init : goal.loop-init
loop-init g c = (c.self.invariant.is_crew, ap (λ (crew : Crew). crew.plan) c.self.view_is)

pub play-requires-clause-crew : goal.play-requires-clause-crew
play-requires-clause-crew g c κs within = c.loop.invariant.0

pub conclude-requires : goal.conclude-requires
conclude-requires g c =
    let run = g.N.RunName.run in
    let over : IsOver run c.play.new.self c.dissolve-memory.result.0 c.self.inside.founder =
    comes_over run c.self.inside.crew c.play.new.self c.self.inside.founder c.self.inside.room.harts c.dissolve-memory.result.0 c.memory.inside.devices
    c.self.invariant c.play.ensures.crew c.play.ensures.home (c.are_at_rest.ensures c.if-are_at_rest.true) (ap (λ (m : Memory). m.devices) c.memory.view_is)
    c.dissolve-memory.ensures.memory in
    record { over = (run, over, c.self.invariant.room_is) }

pub returns-then-are_at_rest : goal.returns-then-are_at_rest
returns-then-are_at_rest g c =
    let run = g.N.RunName.run in
    let over : IsOver run c.play.new.self c.dissolve-memory.result.0 c.self.inside.founder =
    comes_over run c.self.inside.crew c.play.new.self c.self.inside.founder c.self.inside.room.harts c.dissolve-memory.result.0 c.memory.inside.devices
    c.self.invariant c.play.ensures.crew c.play.ensures.home (c.are_at_rest.ensures c.if-are_at_rest.true) (ap (λ (m : Memory). m.devices) c.memory.view_is)
    c.dissolve-memory.ensures.memory in
    let same : c.play.new.self.plan ≡ c.args.self.plan = c.play.ensures.plan ∙ c.loop.invariant.1 in
    subst (λ (plan : Plan). HasPlayed run.setup plan c.conclude.result) same (c.conclude.ensures run over)

pub loop-preserved : goal.loop-preserved
loop-preserved g c = (c.play.ensures.crew, c.play.ensures.plan ∙ c.loop.invariant.1)
