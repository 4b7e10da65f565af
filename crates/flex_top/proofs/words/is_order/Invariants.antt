use Rattle.std.proofs.Common.{◌≡◌, true, take}
use Rattle.std.specs.List.{list_all}
use Rattle.flex_top.specs.Words.{is_hart_name}
use Rattle.flex_top.proofs.words.is_order.Given as goal

abbrev pub invariant-loop-character : goal.invariant-loop-character
invariant-loop-character l = list_all is_hart_name (take l.character-index l.text) ≡ true
