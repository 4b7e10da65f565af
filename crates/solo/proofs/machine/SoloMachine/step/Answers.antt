-- By what came of the context's call: it made the event, or nothing happened.
use Rattle.solo.proofs.Trying.{accessed, finished, still_at, parked_still, over_at, flying_at}
use Rattle.solo.proofs.Flying.{flying_read, new_flying}
use Rattle.solo.proofs.machine.SoloMachine.step.Goals as goal

pub go_in_engine-requires-clause-flying : goal.go_in_engine-requires-clause-flying
go_in_engine-requires-clause-flying c =
    flying_read _ _ c.args.h c.index_mut.result.now c.args.latches.now c.self.view_is c.index_mut.ensures.value c.requires.flying

pub go_over-requires-clause-at : goal.go_over-requires-clause-at
go_over-requires-clause-at c =
    let (setup, u, at) = c.requires.at in
    (setup, u, still_at setup u _ _ c.args.h c.index_mut.result.now c.self.view_is at c.requires.hart c.index_mut.ensures.value c.go_in_engine.new.context c.go_in_engine.new.bus c.go_in_engine.ensures.same c.go_in_engine.ensures.on c.go_in_engine.ensures.bus c.in-Elsewhere.ensures.went.1)

pub wake-requires-clause-at : goal.wake-requires-clause-at
wake-requires-clause-at c =
    let (setup, u, at) = c.requires.at in
    (setup, u, still_at setup u _ _ c.args.h c.index_mut.result.now c.self.view_is at c.requires.hart c.index_mut.ensures.value c.go_in_engine.new.context c.go_in_engine.new.bus c.go_in_engine.ensures.same c.go_in_engine.ensures.on c.go_in_engine.ensures.bus c.in-Parked.ensures.went.1)

pub wake-requires-clause-parked : goal.wake-requires-clause-parked
wake-requires-clause-parked c =
    let (setup, u, at) = c.requires.at in
    parked_still setup u _ _ c.args.h c.index_mut.result.now c.self.view_is at c.requires.hart c.index_mut.ensures.value c.go_in_engine.new.context c.go_in_engine.new.bus c.go_in_engine.ensures.same c.go_in_engine.ensures.on c.go_in_engine.ensures.bus c.in-Parked.ensures.went.1 c.in-Parked.ensures.went.0

pub returns-in-Accessed-clause-after : goal.returns-in-Accessed-clause-after
returns-in-Accessed-clause-after c = λ setup u at.
    accessed setup u _ _ c.args.h c.index_mut.result.now c.self.view_is at c.requires.hart c.index_mut.ensures.value c.go_in_engine.new.context c.go_in_engine.new.bus c.go_in_engine.ensures.same c.go_in_engine.ensures.on c.go_in_engine.ensures.bus c.in-Accessed.ensures.went

pub returns-in-Ended-clause-after : goal.returns-in-Ended-clause-after
returns-in-Ended-clause-after c = λ setup u at.
    finished setup u _ _ c.args.h c.index_mut.result.now c.self.view_is at c.requires.hart c.index_mut.ensures.value c.go_in_engine.new.context c.go_in_engine.new.bus c.go_in_engine.ensures.same c.go_in_engine.ensures.on c.go_in_engine.ensures.bus c.in-Ended.ensures.went

pub returns-in-Elsewhere-clause-after : goal.returns-in-Elsewhere-clause-after
returns-in-Elsewhere-clause-after c = λ setup u at.
    c.go_over.ensures.after setup u (still_at setup u _ _ c.args.h c.index_mut.result.now c.self.view_is at c.requires.hart c.index_mut.ensures.value c.go_in_engine.new.context c.go_in_engine.new.bus c.go_in_engine.ensures.same c.go_in_engine.ensures.on c.go_in_engine.ensures.bus c.in-Elsewhere.ensures.went.1)

pub returns-in-Parked-clause-after : goal.returns-in-Parked-clause-after
returns-in-Parked-clause-after c = λ setup u at.
    c.wake.ensures.after setup u (still_at setup u _ _ c.args.h c.index_mut.result.now c.self.view_is at c.requires.hart c.index_mut.ensures.value c.go_in_engine.new.context c.go_in_engine.new.bus c.go_in_engine.ensures.same c.go_in_engine.ensures.on c.go_in_engine.ensures.bus c.in-Parked.ensures.went.1)

pub returns-in-Over-clause-after : goal.returns-in-Over-clause-after
returns-in-Over-clause-after c = λ setup u at.
    over_at setup u _ _ c.args.h c.index_mut.result.now c.self.view_is at c.requires.hart c.index_mut.ensures.value c.go_in_engine.new.context c.go_in_engine.new.bus c.go_in_engine.ensures.same c.go_in_engine.ensures.on c.go_in_engine.ensures.bus c.in-Over.ensures.went.1 c.in-Over.ensures.went.0

pub returns-in-Accessed-clause-flying : goal.returns-in-Accessed-clause-flying
returns-in-Accessed-clause-flying c =
    let (setup, u, at) = c.requires.at in
    flying_at setup u _ _ c.args.h c.index_mut.result.now c.self.view_is at c.requires.hart c.index_mut.ensures.value c.go_in_engine.new.context c.go_in_engine.new.bus c.go_in_engine.new.latches c.go_in_engine.ensures.flying

pub returns-in-Ended-clause-flying : goal.returns-in-Ended-clause-flying
returns-in-Ended-clause-flying c =
    let (setup, u, at) = c.requires.at in
    flying_at setup u _ _ c.args.h c.index_mut.result.now c.self.view_is at c.requires.hart c.index_mut.ensures.value c.go_in_engine.new.context c.go_in_engine.new.bus c.go_in_engine.new.latches c.go_in_engine.ensures.flying

pub returns-in-Over-clause-flying : goal.returns-in-Over-clause-flying
returns-in-Over-clause-flying c =
    let (setup, u, at) = c.requires.at in
    flying_at setup u _ _ c.args.h c.index_mut.result.now c.self.view_is at c.requires.hart c.index_mut.ensures.value c.go_in_engine.new.context c.go_in_engine.new.bus c.go_in_engine.new.latches c.go_in_engine.ensures.flying

pub returns-in-Parked-clause-flying : goal.returns-in-Parked-clause-flying
returns-in-Parked-clause-flying c = new_flying c.wake.new.self c.args.h _ c.new.ensures
