-- An instruction is in the latches, or is laid into them while they are empty.
use Rattle.solo.proofs.Flying.{laid_flying, laid_some, laid_none}
use Rattle.solo.proofs.engines.in_pipe.Goals as goal
use Rattle.solo.proofs.engines.in_pipe.Goals.{else-is_empty-via-then-is_empty+else-not-lay, else-is_empty-via-else-is_empty}

pub without_event-requires : goal.without_event-requires
without_event-requires g c = laid_none _ _ _ (c.is_empty.ensures.none c.if-is_empty.true) c.if-not-lay.ensures.laid

pub move_on-requires-clause-flying : goal.move_on-requires-clause-flying
move_on-requires-clause-flying g c = elim c.else-is_empty.branch [
  | else-is_empty-via-then-is_empty+else-not-lay w ↦
      rw (w.latches-is) (laid_flying _ _ _ (c.is_empty.ensures.none w.if-is_empty.true) w.if-not-lay.ensures.laid)
  | else-is_empty-via-else-is_empty w ↦ rw (w.latches-is) c.requires.flying
]

pub move_on-requires-clause-some : goal.move_on-requires-clause-some
move_on-requires-clause-some g c = elim c.else-is_empty.branch [
  | else-is_empty-via-then-is_empty+else-not-lay w ↦
      rw (w.latches-is) (laid_some _ _ _ (c.is_empty.ensures.none w.if-is_empty.true) w.if-not-lay.ensures.laid)
  | else-is_empty-via-else-is_empty w ↦ rw (w.latches-is) (c.is_empty.ensures.some w.if-is_empty.false)
]
