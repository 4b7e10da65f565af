use Rattle.std.proofs.Common.{◌≡◌}
use Rattle.std.specs.Vec.{vec_capacity}
use Rattle.access_record.proofs.Taking.{HasTakenBankPasses}
use Rattle.access_record.proofs.gathered.take_bank_passes.Given as goal

abbrev pub invariant-loop-pass : goal.invariant-loop-pass
invariant-loop-pass l = (l.seat.table_id ≡ l.initial.seat.table_id) × (vec_capacity l.passes ≡ vec_capacity l.initial.passes) × HasTakenBankPasses l.table.shared.table_id l.initial.passes.items l.passes.items l.initial.seat.me l.seat.me l.banks

abbrev pub decreases-loop-pass : goal.decreases-loop-pass
decreases-loop-pass l = goal.left-loop-pass l
