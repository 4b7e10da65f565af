use Rattle.std.proofs.Common.{◌≡◌, ap, sym, ◌∙◌, false, string_bytes}
use Rattle.std.proofs.lemmas.List.Folds.{list_all_at, list_all-map}
use Rattle.flex_top.specs.Words.{is_option}
use Rattle.flex_top.proofs.words.are_options.Goals as goal

pub returns-then-not-is_option : goal.returns-then-not-is_option
returns-then-not-is_option c =
    let other : is_option c.args.ordered (string_bytes c.word-item.result) ≡ false = ap (is_option c.args.ordered) (sym c.as_bytes.ensures.value) ∙ sym c.is_option.ensures ∙ c.if-not-is_option.true in
    let here = ap (λ word. is_option c.args.ordered (string_bytes word)) (sym c.word-item.is) ∙ other in
    sym (list_all-map (is_option c.args.ordered) string_bytes c.args.words.now ∙ list_all_at (λ word. is_option c.args.ordered (string_bytes word)) c.args.words.now c.loop-word.word-index c.word-item.result c.loop-word-test.true here)
