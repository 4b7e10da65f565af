use Rattle.std.proofs.Common.{arith}
use Rattle.access_record.proofs.Splitting.{splits_first_bank}
use Rattle.access_record.proofs.steps.split_first_bank.Goals as goal

pub split_seat-requires : goal.split_seat-requires
split_seat-requires c =
    let t = c.requires.table in
    let word = t.1 in
    (t.0, omega arith, splits_first_bank c.args.table.now.shared.key c.args.seat.now.id c.args.seat.now.me.0)
