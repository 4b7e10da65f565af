use Rattle.std.proofs.Common.{◌≡◌, ℕ, List, [], ◌∷◌, ◌++◌, None, Some, take, map, string_bytes, ap, sym, subst, ◌∙◌}
use Rattle.std.proofs.lemmas.List.{map_more}
use Rattle.flex_top.specs.Words.{value_of, values, IsGiven}
use Rattle.flex_top.proofs.WordsLemmas.{values_none, values_some}
use Rattle.flex_top.proofs.words.look_up.Goals as goal
use Rattle.flex_top.proofs.words.look_up.Goals.{in-Some, in_default}

pub loop-word-preserved : goal.loop-word-preserved
loop-word-preserved c =
    let name = c.args.name.now in
    let words = c.args.words.now in
    let before : List (List ℕ) = map string_bytes (take c.loop-word.word-index words) in
    let word : List ℕ = string_bytes c.word-item.result in
    let more = map_more string_bytes words c.loop-word.word-index c.word-item.result c.loop-word-test.true ∙ ap (λ item. before ++ string_bytes item ∷ []) (sym c.word-item.is) in
    let At : List (List ℕ) → Type 0 = λ found. IsGiven found c.match-value_of.given in
    elim c.match-value_of.branch [
      | in-Some w ↦
          let value : value_of name word ≡ Some w.in-Some.value.now = ap (value_of name) (sym c.as_str.ensures.value) ∙ sym w.in-Some.ensures in
          subst At (sym (ap (values name) more ∙ values_some name before word w.in-Some.value.now value)) (rw (w.given-is) (w.once_more-given.ensures (values name before) c.loop-word.invariant))
      | in_default w ↦
          let value : value_of name word ≡ None = ap (value_of name) (sym c.as_str.ensures.value) ∙ sym w.in_default.ensures in
          subst At (sym (ap (values name) more ∙ values_none name before word value)) (rw (w.given-is) c.loop-word.invariant)
    ]
