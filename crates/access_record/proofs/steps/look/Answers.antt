use Rattle.std.proofs.Common.{ℕ, arith, sym, subst}
use mathlib.Core.Option.{none}
use Rattle.atomic_table.specs.Table.{Me, Step, step, Allows}
use Rattle.access_record.specs.declared.view.View.{View}
use Rattle.access_record.specs.Rule.{MeetsRule}
use Rattle.access_record.specs.Steps.{Looks}
use Rattle.access_record.proofs.Noting.{looks}
use Rattle.access_record.proofs.steps.look.Goals as goal

pub load-requires : goal.load-requires
load-requires c =
    let t = c.requires.table in
    let word = t.1 in
    let u = c.requires.both in
    let id = c.args.seat.now.id in
    let key = c.args.table.now.shared.key in
    let slots = c.args.table.now.shared.table_id.slots in
    let did : Step ℕ = step slots 0 0 0 none in
    (t.0, omega arith, subst (λ (me : Me ℕ View). Allows (MeetsRule key) slots id me 0 (λ n. n) (Looks did me)) (sym u.2) (looks key slots id did u.0 u.1))
