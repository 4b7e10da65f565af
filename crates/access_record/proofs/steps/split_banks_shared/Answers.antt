use Rattle.std.proofs.Common.{arith}
use Rattle.access_record.proofs.Splitting.{splits_banks_shared}
use Rattle.access_record.proofs.steps.split_banks_shared.Goals as goal

pub split_seat-requires : goal.split_seat-requires
split_seat-requires c =
    let t = c.requires.table in
    let word = t.1 in
    (t.0, omega arith, splits_banks_shared c.args.table.now.shared.key c.args.seat.now.id c.args.seat.now.me.0)
