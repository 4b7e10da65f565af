use Rattle.std.proofs.Common.{arith, sym, subst}
use Rattle.atomic_table.specs.Table.{Splits}
use Rattle.flex_base.specs.declared.hart.HartId.{HartId}
use Rattle.access_record.specs.Rule.{MeetsRule}
use Rattle.access_record.specs.Steps.{with_hart, new_hart}
use Rattle.access_record.proofs.Splitting.{enrols_hart}
use Rattle.access_record.proofs.steps.enrol_hart.Goals as goal

pub split_seat-requires : goal.split_seat-requires
split_seat-requires g c =
    let t = c.requires.table in
    let word = t.1 in
    let v = c.args.seat.now.me.0 in
    let key = c.args.table.now.shared.key in
    let id = c.args.seat.now.id in
    (t.0, omega arith, subst (λ (x : HartId). Splits (MeetsRule key) id v (with_hart x v) (new_hart x)) (sym c.requires.name) (enrols_hart key id v c.args.hart c.requires.founder c.requires.not_yet c.requires.in_range))
