use Rattle.std.proofs.Common.{take, map, string_bytes}
use Rattle.flex_top.specs.Words.{values, IsGiven}
use Rattle.flex_top.proofs.words.look_up.Given as goal

-- what was found is what the words so far give
abbrev pub invariant-loop-word : goal.invariant-loop-word
invariant-loop-word l = IsGiven (values l.name (map string_bytes (take l.word-index l.words))) l.given
