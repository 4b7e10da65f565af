-- One worker more has worked.
use Rattle.std.proofs.Common.{rules, arith, ◌<◌, length, sym, subst}
use Rattle.crew.specs.Crews.{Berth, MayWork, WorkerHasWorked}
use Rattle.crew.proofs.Counting.{changed_more}
use Rattle.crew.proofs.coordinator.one_by_one.Goals as goal

pub work-requires-after_bounds : goal.work-requires-after_bounds
work-requires-after_bounds g c κs within =
    let number = c.loop-number.number in
    let d = c.index-workers-number.result in
    let lt : number < length c.args.workers.now = search rules in
    let May : Berth → Type 0 = λ w. MayWork g.N.RunName.run w in
    subst May (sym (c.loop-number.invariant.0.after number d (omega arith))) (c.requires.manned number d lt)

pub loop-number-preserved : goal.loop-number-preserved
loop-number-preserved g c =
    let number = c.loop-number.number in
    let lt : number < length c.args.workers.now = search rules in
    let Worked : Berth → Type 0 = λ w. WorkerHasWorked g.N.RunName.run w c.work.new.worker in (
      changed_more (WorkerHasWorked g.N.RunName.run) number c.args.workers.now c.loop-number.workers c.index-workers-number.result c.work.new.worker
          c.loop-number.invariant.0 lt c.index-workers-number.is (subst Worked (sym c.index-workers-number.is) c.work.ensures),
      search rules,
    )
