use Rattle.std.proofs.Common.{refl, rules}
use Rattle.tracer.specs.TailText.{tail_line_text}
use Rattle.flex_top.proofs.Growth.{on_err, passes_none, passes_put, part_put, passes_more, part_within}
use Rattle.flex_top.proofs.trace_file.add_tail.Goals as goal

pub loop-line-init : goal.loop-line-init
loop-line-init g c = record { passes = passes_none _ _ _; room = c.requires; frame = search rules }

pub returns-in_err-write_full-clause-err : goal.returns-in_err-write_full-clause-err
returns-in_err-write_full-clause-err g c =
    on_err _ (part_within tail_line_text c.args.tail.now c.loop-line.line-index _ _ _ _ _ _ _ _ c.loop-line-test.true refl c.loop-line.invariant.passes (part_put _ _ _ _ _ _ c.put_tail_line.ensures.text c.in_err-write_full.ensures.err))

pub loop-line-preserved : goal.loop-line-preserved
loop-line-preserved g c = record {
  passes = passes_more tail_line_text c.args.tail.now c.loop-line.line-index _ _ _ _ _ _ _ _ _ c.loop-line-test.true refl c.loop-line.invariant.passes (passes_put _ _ _ _ _ _ _ c.put_tail_line.ensures.text c.in_ok-write_full.ensures.ok);
  room = c.in_ok-write_full.ensures.room;
  frame = search rules;
}
