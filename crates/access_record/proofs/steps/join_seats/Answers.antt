use Rattle.std.proofs.Common.{arith}
use Rattle.access_record.proofs.Splitting.{joins}
use Rattle.access_record.proofs.steps.join_seats.Goals as goal

pub join_seat-requires : goal.join_seat-requires
join_seat-requires c =
    let t = c.requires.table in
    let word = t.1 in
    (t.0, c.requires.other_table.0, c.requires.no_slot, omega arith, joins c.args.table.now.shared.key c.args.seat.now.id c.args.seat.now.me.0 c.args.other.id c.args.other.me.0 c.requires.no_founder)
