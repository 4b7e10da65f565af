use Rattle.std.proofs.Common.{rules}
use Rattle.tracer.specs.EventText.{event_text}
use Rattle.flex_top.proofs.Growth.{on_err, passes_none, passes_put, part_put, passes_push, part_push, come_more}
use Rattle.flex_top.proofs.trace_file.add_events.Goals as goal

pub loop-event-init : goal.loop-event-init
loop-event-init g c = record {
  come = c.into_iter-event-iterator.ensures.into_iter_gives;
  passes = passes_none _ _ _;
  room = c.requires;
  frame = search rules;
}

pub returns-in_err-write_full-clause-err : goal.returns-in_err-write_full-clause-err
returns-in_err-write_full-clause-err g c =
    let all = c.args.events in
    let come = come_more c.loop-event.yielded c.loop-event.event-iterator c.next.new.self all c.in-Some.event c.loop-event.invariant.come c.in-Some.ensures.steps in
    on_err _ (part_push event_text c.loop-event.yielded c.next.new.self all c.in-Some.event _ _ _ _ _ _ come c.loop-event.invariant.passes (part_put _ _ _ _ _ _ c.put_kept.ensures.text c.in_err-write_full.ensures.err))

pub loop-event-preserved : goal.loop-event-preserved
loop-event-preserved g c = record {
  come = come_more c.loop-event.yielded c.loop-event.event-iterator c.next.new.self c.args.events c.in-Some.event c.loop-event.invariant.come c.in-Some.ensures.steps;
  passes = passes_push event_text c.loop-event.yielded c.in-Some.event _ _ _ _ _ _ _ c.loop-event.invariant.passes (passes_put _ _ _ _ _ _ _ c.put_kept.ensures.text c.in_ok-write_full.ensures.ok);
  room = c.in_ok-write_full.ensures.room;
  frame = search rules;
}
