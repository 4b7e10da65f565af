-- Bytes put into a page, and a piece taken off its front.
use Rattle.std.proofs.Common.{◌≡◌, ℕ, ◌+◌, ◌-◌, ◌≤◌, List, [], ◌++◌, take, drop, length, sym, ap, ◌∙◌, arith, length-drop, length-take-le}
use lib.Seq.{paste}
use Rattle.std.proofs.Math.Seq.{take-append-add}
use Rattle.std.proofs.lemmas.List.{append-nil, take-append-drop, take-append-le, take-take, drop-take}
use Rattle.std.proofs.lemmas.List.Edits.{take-paste}

-- sixteen bytes are written, and so many of them counted
pub put_over : (from count : ℕ) (held bytes rest : List ℕ) → from ≤ length held → count ≤ 16 → 16 ≤ length bytes
    → take (from + count) (take from held ++ (take 16 bytes ++ rest)) ≡ take from held ++ take count bytes
put_over from count held bytes rest within few long =
    let before = take from held in
    let size : from ≡ length before = sym (length-take-le from held within) in
    let all : count ≤ length (take 16 bytes) = omega (arith, few, length-take-le 16 bytes long) in
    ap (λ (k : ℕ). take (k + count) (before ++ (take 16 bytes ++ rest))) size
    ∙ take-append-add before (take 16 bytes ++ rest) count
    ∙ ap (λ (t : List ℕ). before ++ t) (take-append-le count (take 16 bytes) rest all ∙ take-take count 16 bytes few)

-- a piece, and what is past it
pub piece_and_past : (n end : ℕ) (all held : List ℕ) → n ≤ end → take end all ≡ held → take n all ++ drop n held ≡ held ++ []
piece_and_past n end all held within is =
    let first : take n all ≡ take n held = sym (take-take n end all within) ∙ ap (λ (t : List ℕ). take n t) is in
    ap (λ (t : List ℕ). t ++ drop n held) first ∙ take-append-drop n held ∙ sym (append-nil held)

-- what is past it, moved to the front
pub moved : (n end : ℕ) (all held : List ℕ) → n ≤ end → end ≤ length all → take end all ≡ held
    → take (end - n) (paste all 0 (drop n all) (end - n)) ≡ drop n held
moved n end all held within fits is =
    let same : end - n ≡ 0 + (end - n) = omega arith in
    let whole : n + (end - n) ≡ end = omega (arith, within) in
    ap (λ (k : ℕ). take k (paste all 0 (drop n all) (end - n))) same
    ∙ take-paste all 0 (drop n all) (end - n) (omega arith) (omega (arith, fits, length-drop n all))
    ∙ sym (drop-take n (end - n) all)
    ∙ ap (λ (k : ℕ). drop n (take k all)) whole
    ∙ ap (λ (t : List ℕ). drop n t) is
