use Rattle.std.proofs.Common.{arith, sym, subst}
use mathlib.Core.Option.{none}
use Rattle.atomic_table.specs.Table.{Step, step, Allows}
use Rattle.access_record.specs.declared.limits.Limits.{Limits}
use Rattle.access_record.specs.Rule.{MeetsRule}
use Rattle.access_record.specs.Steps.{Knows}
use Rattle.access_record.proofs.Closing.{learns_rule}
use Rattle.access_record.proofs.steps.learn_rule.Goals as goal

pub load-requires : goal.load-requires
load-requires g c =
    let t = c.requires.table in
    let word = t.1 in
    let me = c.args.seat.now.me in
    let id = c.args.seat.now.id in
    let key = c.args.table.now.shared.key in
    let slots = c.args.table.now.shared.table_id.slots in
    let did : Step _ = step slots 0 0 0 none in
    (t.0, omega arith, subst (λ (l : Limits). Allows (MeetsRule key) slots id me 0 (λ n. n) (Knows l did me)) (sym c.requires.name) (learns_rule key slots id did me c.requires.all))
