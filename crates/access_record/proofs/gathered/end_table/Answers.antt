use Rattle.std.proofs.Common.{◌≡◌, ℕ, true, arith, ap}
use Rattle.atomic_table.specs.Table.{Me}
use Rattle.access_record.specs.declared.view.View.{View}
use Rattle.access_record.specs.Passes.{AreRecord}
use Rattle.access_record.proofs.Closing.{closes, has_all_logs, record_of_passes}
use Rattle.access_record.proofs.gathered.end_table.Goals as goal

pub free-requires : goal.free-requires
free-requires c = λ k lt. absurd (let a = c.close_with-closed.ensures.counts.1 in let b = c.requires.table.1 in omega arith)

pub returns : goal.returns
unfolding AreRecord
returns c =
    let n = c.word-count.result in
    let me : Me ℕ View = c.all.inside.seat.me in
    let id = c.all.inside.seat.table_id in
    let founder : me.0.founder ≡ true = ap (λ (m : Me ℕ View). m.0.founder) c.all.invariant.2.view_is in
    let has = has_all_logs id me.0 _ c.all.view_is founder c.requires.harts c.requires.banks in
    record_of_passes _ n id me.0 _ c.all.view_is (closes _ _ _ _ _ c.close_with-closed.ensures.values.2 has n c.word-count.ensures)
