use Rattle.std.proofs.Common.{ℕ, ◌+◌, ◌-◌, List, ◌++◌, take, ap, ◌∙◌, arith, rules}
use borrow.Rule.Slice.PartMut.{post_of}
use Rattle.std.proofs.lemmas.List.{with_items_is, places}
use Rattle.flex_top.proofs.Pages.{put_over}
use Rattle.flex_top.proofs.pieces.PiecesPut.put_first.Goals as goal

pub returns-clause-text : goal.returns-clause-text
returns-clause-text c =
    let from = c.self.inside.end in
    let count = c.args.count in
    let all = c.deref_mut.result.now in
    let bytes = c.args.bytes.now in
    let rest = post_of from (from + 16 - from) all in
    ap (λ (t : List ℕ). take (from + count) t) (with_items_is c.self.inside.held (take from all ++ (c.copy_from_slice.new.self ++ rest)) (search (rules, places)))
    ∙ ap (λ (t : List ℕ). take (from + count) (take from all ++ (t ++ rest))) c.copy_from_slice.ensures.after
    ∙ put_over from count all bytes rest (omega (arith, c.self.invariant.0, c.self.invariant.1, c.deref_mut.ensures.len)) c.requires.count c.requires.bytes
    ∙ ap (λ (t : List ℕ). t ++ take count bytes) (ap (λ (t : List ℕ). take from t) c.deref_mut.ensures.value ∙ c.self.view_is)
