use Rattle.std.proofs.Common.{◌≡◌, ◌^◌, ◌<◌, true, take}
use Rattle.std.specs.List.{list_all}
use Rattle.flex_top.specs.Words.{is_digit, number_of}
use Rattle.flex_top.proofs.words.digits_value.Given as goal

-- the bytes so far are digits, and this is their value
abbrev pub invariant-loop-byte : goal.invariant-loop-byte
invariant-loop-byte l = record {
  digits : list_all is_digit (take l.byte-index l.word) ≡ true;
  value : l.value ≡ number_of (take l.byte-index l.word);
  small : l.value < 10 ^ l.byte-index;
}
