-- The context wants the work of the engine, is handed over to it, and makes the event there.
use Rattle.solo.proofs.Trying.{elsewhere_read, never_parked, never_over, never_again, moved_accessed, moved_finished, flying_at}
use Rattle.solo.proofs.Flying.{new_in_flight}
use Rattle.solo.proofs.machine.SoloMachine.go_over.Goals as goal
use Rattle.solo.proofs.machine.SoloMachine.go_over.Goals.{in-Accessed, in-Ended}

pub move_to-requires-clause-wanted : goal.move_to-requires-clause-wanted
move_to-requires-clause-wanted c =
    let elsewhere = elsewhere_read _ _ c.args.h c.index_mut-context.result.now c.args.engine c.self.view_is c.index_mut-context.ensures.value c.requires.elsewhere in
    elsewhere.wanted

pub move_to-requires-clause-other : goal.move_to-requires-clause-other
move_to-requires-clause-other c =
    let elsewhere = elsewhere_read _ _ c.args.h c.index_mut-context.result.now c.args.engine c.self.view_is c.index_mut-context.ensures.value c.requires.elsewhere in
    elsewhere.other

pub move_to-requires-clause-left : goal.move_to-requires-clause-left
move_to-requires-clause-left c =
    let elsewhere = elsewhere_read _ _ c.args.h c.index_mut-context.result.now c.args.engine c.self.view_is c.index_mut-context.ensures.value c.requires.elsewhere in
    elsewhere.left

pub unreachable-requires : goal.unreachable-requires
unreachable-requires c =
    let elsewhere = elsewhere_read _ _ c.args.h c.index_mut-context.result.now c.args.engine c.self.view_is c.index_mut-context.ensures.value c.requires.elsewhere in
    never_again _ _ _ _ _ _ elsewhere c.move_to.ensures.same c.move_to.ensures.one c.in-Elsewhere.field-0 c.in-Elsewhere.ensures.went.0

pub unreachable-requires-in-Parked : goal.unreachable-requires-in-Parked
unreachable-requires-in-Parked c =
    let elsewhere = elsewhere_read _ _ c.args.h c.index_mut-context.result.now c.args.engine c.self.view_is c.index_mut-context.ensures.value c.requires.elsewhere in
    never_parked _ _ _ _ _ _ elsewhere c.move_to.ensures.same c.move_to.ensures.one c.in-Parked.ensures.went.0

pub unreachable-requires-in-Over : goal.unreachable-requires-in-Over
unreachable-requires-in-Over c =
    let elsewhere = elsewhere_read _ _ c.args.h c.index_mut-context.result.now c.args.engine c.self.view_is c.index_mut-context.ensures.value c.requires.elsewhere in
    never_over _ _ _ _ _ _ elsewhere c.move_to.ensures.same c.move_to.ensures.one c.in-Over.ensures.went.0

pub returns-clause-after : goal.returns-clause-after
returns-clause-after c = λ setup u at.
    let there = c.index_mut-context in
    let moved = c.move_to in
    let elsewhere = elsewhere_read _ _ c.args.h c.index_mut-context.result.now c.args.engine c.self.view_is c.index_mut-context.ensures.value c.requires.elsewhere in
    elim c.match-go_in_engine.branch [
      | in-Accessed w ↦
          rw (w.result-is) (moved_accessed setup u _ _ c.args.h there.result.now c.self.view_is at c.requires.hart there.ensures.value moved.new.self c.go_in_engine.new.context moved.new.bus
          c.go_in_engine.new.bus c.args.engine elsewhere moved.ensures.same moved.ensures.on moved.ensures.bus moved.ensures.one c.go_in_engine.ensures.same c.go_in_engine.ensures.on c.go_in_engine.ensures.bus
          w.in-Accessed.ensures.went)
      | in-Ended w ↦
          rw (w.result-is) (moved_finished setup u _ _ c.args.h there.result.now c.self.view_is at c.requires.hart there.ensures.value moved.new.self c.go_in_engine.new.context moved.new.bus
          c.go_in_engine.new.bus c.args.engine elsewhere moved.ensures.same moved.ensures.on moved.ensures.bus moved.ensures.one c.go_in_engine.ensures.same c.go_in_engine.ensures.on c.go_in_engine.ensures.bus
          w.in-Ended.ensures.went)
    ]

pub go_in_engine-requires-clause-flying : goal.go_in_engine-requires-clause-flying
go_in_engine-requires-clause-flying c = new_in_flight _ _ c.new.ensures

pub returns-clause-flying : goal.returns-clause-flying
returns-clause-flying c =
    let there = c.index_mut-context in
    let (setup, u, at) = c.requires.at in
    flying_at setup u _ _ c.args.h there.result.now c.self.view_is at c.requires.hart there.ensures.value c.go_in_engine.new.context c.go_in_engine.new.bus c.go_in_engine.new.latches c.go_in_engine.ensures.flying
