use Rattle.std.proofs.Common.{◌≡◌, ◌≤◌, ◌-◌}
use Rattle.std.specs.Vec.{vec_len, vec_capacity}
use Rattle.access_record.proofs.Giving.{HasGivenBankPasses}
use Rattle.access_record.proofs.gathered.give_bank_passes.Given as goal

abbrev pub invariant-loop-seat : goal.invariant-loop-seat
invariant-loop-seat l = (l.seat.table_id ≡ l.initial.seat.table_id) × (l.count ≤ vec_capacity l.passes) × (vec_len l.passes ≤ l.count) × HasGivenBankPasses l.initial.seat.table_id l.count l.initial.seat.me l.seat.me l.passes.items l.banks

abbrev pub decreases-loop-seat : goal.decreases-loop-seat
decreases-loop-seat l = l.count - vec_len l.passes
