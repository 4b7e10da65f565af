use Rattle.std.proofs.Common.{ℕ, ◌+◌, ◌%◌, ◌^◌, arith, sym, subst, ap, ◌∙◌}
use mathlib.Core.Option.{none}
use Rattle.atomic_table.specs.Table.{Me, Step, step, Allows}
use Rattle.access_record.specs.declared.entry.Entry.{Entry}
use Rattle.access_record.specs.declared.view.View.{View}
use Rattle.access_record.specs.Logs.{is_access}
use Rattle.access_record.specs.Rule.{MeetsRule}
use Rattle.access_record.specs.Steps.{Enters}
use Rattle.access_record.proofs.Noting.{notes_both}
use Rattle.access_record.proofs.steps.note_both.Goals as goal

pub fetch_add-requires : goal.fetch_add-requires
fetch_add-requires g c =
    let t = c.requires.table in
    let word = t.1 in
    let u = c.requires.both in
    let id = c.args.seat.now.id in
    let key = c.args.table.now.shared.key in
    let slots = c.args.table.now.shared.table_id.slots in
    let entry = g.N.EntryName.entry in
    let did : Step ℕ = step slots 0 1 0 none in
    let what = ap (λ (e : Entry). is_access e.what) c.requires.name ∙ c.requires.access in
    (t.0, omega arith, subst (λ (me : Me ℕ View). Allows (MeetsRule key) slots id me 0 (λ n. (n + 1) % 2 ^ 64) (Enters entry did me)) (sym u.2) (notes_both key slots id did entry u.0 u.1 c.requires.countable u.3 what))
