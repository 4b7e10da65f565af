use Rattle.std.proofs.Common.{ℕ, arith, sym, subst}
use Rattle.atomic_table.specs.Table.{Splits}
use Rattle.access_record.specs.Rule.{MeetsRule}
use Rattle.access_record.specs.Steps.{with_bank, new_bank}
use Rattle.access_record.proofs.Splitting.{enrols_bank}
use Rattle.access_record.proofs.steps.enrol_bank.Goals as goal

pub split_seat-requires : goal.split_seat-requires
split_seat-requires g c =
    let t = c.requires.table in
    let word = t.1 in
    let v = c.args.seat.now.me.0 in
    let key = c.args.table.now.shared.key in
    let id = c.args.seat.now.id in
    (t.0, omega arith, subst (λ (x : ℕ). Splits (MeetsRule key) id v (with_bank x v) (new_bank x)) (sym c.requires.name) (enrols_bank key id v c.args.bank c.requires.founder c.requires.not_yet c.requires.in_range))
