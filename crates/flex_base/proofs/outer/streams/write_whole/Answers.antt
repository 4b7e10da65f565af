use Rattle.std.proofs.Common.{arith}
use Rattle.std.proofs.KnownBytes.{Appends-kept}
use Rattle.flex_base.proofs.KnownBytes.{written_on}
use Rattle.flex_base.proofs.outer.streams.write_whole.Goals as goal
use Rattle.flex_base.proofs.outer.streams.write_whole.Goals.{in-Ok, in-Err+else-ne}

pub writes-preserved : goal.writes-preserved
writes-preserved g c =
    let (fits, before) = c.writes.invariant in
    elim c.match-write.branch [
      | in-Ok w ↦ (
        grind arith,
        rw w.done-is (written_on _ _ _ c.args.bytes.now c.writes.done w.in-Ok.count before w.in-Ok.ensures.bytes),
      )
      | in-Err+else-ne w ↦ rw w.done-is (fits, Appends-kept _ _ _ _ before w.in-Err.ensures.bytes)
    ]
