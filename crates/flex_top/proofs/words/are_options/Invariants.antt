use Rattle.std.proofs.Common.{◌≡◌, true, take, map, string_bytes}
use Rattle.std.specs.List.{list_all}
use Rattle.flex_top.specs.Words.{is_option}
use Rattle.flex_top.proofs.words.are_options.Given as goal

abbrev pub invariant-loop-word : goal.invariant-loop-word
invariant-loop-word l = list_all (is_option l.ordered) (map string_bytes (take l.word-index l.words)) ≡ true
