use Rattle.std.proofs.Common.{ap, ◌∙◌, arith, slice_set, slice_index_or}
use Rattle.std.proofs.lemmas.List.{get_or_default}
use Rattle.std.proofs.lemmas.List.Edits.{map_over_more}
use Rattle.flex_base.specs.Devices.{wakes_hart, hart_start}
use Rattle.devices.proofs.harts.wake_all.Goals as goal

pub loop-own-preserved : goal.loop-own-preserved
loop-own-preserved c =
    let here = slice_index_or c.loop-own.harts c.loop-own.own-index hart_start in
    ap (λ own. slice_set c.loop-own.harts c.loop-own.own-index own)
    (c.wake.ensures ∙ ap (wakes_hart c.args.mtime) (get_or_default c.loop-own.harts c.loop-own.own-index _ hart_start (omega arith)))
    ∙ map_over_more (wakes_hart c.args.mtime) c.args.harts.now c.loop-own.harts c.loop-own.own-index here (omega arith) c.loop-own.invariant
    (get_or_default c.loop-own.harts c.loop-own.own-index hart_start here (omega arith))
