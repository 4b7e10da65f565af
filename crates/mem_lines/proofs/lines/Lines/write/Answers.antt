use Rattle.std.proofs.Common.{arith, ap, ◌∙◌, slice_index, ℕ, List}
use Rattle.std.proofs.lemmas.List.{with_items_is}
use Rattle.mem_lines.specs.Bank.{offset}
use Rattle.flex_base.specs.FlatMemory.{put}
use Rattle.mem_lines.proofs.Dealing.{written}
use Rattle.mem_lines.proofs.lines.Lines.write.Goals as goal

pub returns-clause-each : goal.returns-clause-each
returns-clause-each c =
    let f = c.self.inside in
    let start = c.start-start.result in
    let each = λ (i : ℕ). c.store.ensures i ∙ ap (λ (xs : List ℕ). put i (slice_index xs i) start c.args.width c.args.value) c.deref_mut.ensures.value in
    λ a inside. ap (λ (xs : List ℕ). slice_index xs (offset f.banks a)) (with_items_is f.bytes c.store.new.bytes (omega arith)) ∙ written f.ram f.banks f.bank f.bytes.items c.store.new.bytes f.reservations c.args.self.now start c.args.address c.args.width c.args.value c.self.view_is c.self.invariant.whole c.requires.span c.start-start.ensures.start each a inside
