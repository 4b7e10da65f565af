-- One more line of a tail.
use Rattle.std.proofs.Common.{◌≡◌, ℕ, ◌+◌, ◌-◌, ◌≤◌, zero, suc, List, [], ◌∷◌, ◌++◌, Option, ap, sym, ◌∙◌, arith, append_assoc}
use Rattle.std.specs.List.{filter_map, flat_map, range_with_len, cons_option}
use Rattle.std.proofs.lemmas.List.{append-nil}
use Rattle.std.proofs.lemmas.List.Elements.{filter_map-append}
use Rattle.std.proofs.lemmas.Grind.{flat_map-append}

range_push : (a n : ℕ) → range_with_len a (n + 1) ≡ range_with_len a n ++ (a + n) ∷ []
range_push a zero = let same : a ≡ a + 0 = omega arith in ap (λ m. m ∷ []) same
range_push a (suc n) =
    let one : suc n + 1 ≡ suc (n + 1) = omega arith in
    let next : a + 1 + n ≡ a + suc n = omega arith in
    ap (range_with_len a) one ∙ ap (λ ns. a ∷ ns) (range_push (a + 1) n ∙ ap (λ m. range_with_len (a + 1) n ++ m ∷ []) next)

pub range_more : (n : ℕ) → range_with_len 0 (n + 1) ≡ range_with_len 0 n ++ n ∷ []
range_more n = let same : 0 + n ≡ n = omega arith in range_push 0 n ∙ ap (λ m. range_with_len 0 n ++ m ∷ []) same

-- one more number, up from 1
pub number_push : (n : ℕ) → 1 ≤ n → range_with_len 1 (n + 1 - 1) ≡ range_with_len 1 (n - 1) ++ n ∷ []
number_push n some =
    let more : n + 1 - 1 ≡ n - 1 + 1 = omega (arith, some) in
    let last : 1 + (n - 1) ≡ n = omega (arith, some) in
    ap (range_with_len 1) more ∙ range_push 1 (n - 1) ∙ ap (λ m. range_with_len 1 (n - 1) ++ m ∷ []) last

-- what one more of a list gives, if anything
pub option_push : {X Y : Type 0} (f : X → Option Y) (before : List Y) (xs : List X) (x : X) → before ++ filter_map f (xs ++ x ∷ []) ≡ before ++ filter_map f xs ++ cons_option (f x) []
option_push f before xs x = ap (λ ys. before ++ ys) (filter_map-append f xs (x ∷ [])) ∙ sym (append_assoc before (filter_map f xs) (cons_option (f x) []))

-- the lines of one more of a list
pub lines_push : {X Y : Type 0} (f : X → List Y) (before : List Y) (xs : List X) (x : X) → before ++ flat_map f (xs ++ x ∷ []) ≡ before ++ flat_map f xs ++ f x
lines_push f before xs x = ap (λ ys. before ++ ys) (flat_map-append f xs (x ∷ []) ∙ ap (λ ys. flat_map f xs ++ ys) (append-nil (f x))) ∙ sym (append_assoc before (flat_map f xs) (f x))
