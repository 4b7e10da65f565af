use Rattle.std.proofs.Common.{arith, map, sym, string_bytes}
use Rattle.std.proofs.lemmas.List.{length-map}
use Rattle.flex_top.proofs.WordsLemmas.{reading_short}
use Rattle.flex_top.proofs.words.read_words.Goals as goal

pub returns-in_default-clause-reading : goal.returns-in_default-clause-reading
returns-in_default-clause-reading c =
    let same = length-map c.args.words.now string_bytes in
    sym (reading_short c.args.name.now c.args.ordered (map string_bytes c.args.words.now) (omega arith))
