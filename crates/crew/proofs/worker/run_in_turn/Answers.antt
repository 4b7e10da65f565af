-- One hart more has worked.
use Rattle.std.proofs.Common.{rules, ◌<◌, length, subst}
use Rattle.access_record.specs.Buses.{Run}
use Rattle.crew.specs.Crews.{HasWorked, most_ends}
use Rattle.crew.proofs.Counting.{changed_more}
use Rattle.crew.proofs.worker.run_in_turn.Goals as goal

pub loop-place-preserved : goal.loop-place-preserved
loop-place-preserved g c =
    let run = g.B.Bus.run c.args.bus.now in
    let inv = c.loop-place.invariant in
    let old = c.args.contexts.now.items in
    let place = c.loop-place.place in
    let was = c.index_mut.result.now in
    let now = c.run_one.new.context in
    let most = most_ends c.args.engine in
    let lt : place < length old = search rules in
    let Worked : Run → Type 0 = λ r. HasWorked r most was now in (
      changed_more (HasWorked run most) place old c.loop-place.contexts.items was now inv.0 lt c.index_mut.ensures.value (subst Worked inv.3 c.run_one.ensures.worked),
      search rules,
      search rules,
      search rules,
    )
