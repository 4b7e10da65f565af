-- What has no reading, by how many words there are, and which hart a character names.
use Rattle.std.proofs.Common.{◌≡◌, ◌==◌, ℕ, ◌+◌, ◌-◌, ◌<◌, ◌≤◌, Bool, true, false, List, [], ◌∷◌, ◌++◌, length, Option, None, Some, inl, inr, drop, refl, ap, sym, ◌∙◌, append-nil, arith}
use Rattle.std.specs.Prelude.{MatchOption, nat_eq, option_map, if◌then◌else◌}
use Rattle.std.specs.List.{list_all, range_with_len, cons_option, starts_with}
use Rattle.std.specs.Str.Pattern.{FindsTextPrefix}
use Rattle.std.proofs.lemmas.Bool.{cases_Bool}
use Rattle.std.proofs.lemmas.Bool.Decides.{Decides-eqb}
use Rattle.std.proofs.lemmas.Slice.Eq.{starts_is}
use Rattle.std.proofs.lemmas.Bool.{eqb-true}
use Rattle.std.proofs.lemmas.List.Folds.{list_all_at}
use Rattle.std.proofs.lemmas.List.FromFn.{length-range_with_len, get_or-range_with_len}
use Rattle.std.proofs.lemmas.List.Elements.{filter_map-append}
use Rattle.flex_top.specs.Words.{reading_by, hart_of, value_of, values}

pub reading_short : (name : List ℕ) (ordered : Bool) (ws : List (List ℕ)) → length ws < 3 → reading_by name ordered ws ≡ None
reading_short name ordered [] few = refl
reading_short name ordered (a ∷ []) few = refl
reading_short name ordered (a ∷ b ∷ []) few = refl
reading_short name ordered (a ∷ b ∷ c ∷ rest) few = absurd (omega arith)

-- a test of all numbers from a up is a test of each
each_within : (test : ℕ → Bool) (a n : ℕ) → list_all test (range_with_len a n) ≡ true → (c : ℕ) → a ≤ c → c < a + n → test c ≡ true
each_within test a n all c low high =
    let inside : c - a < n = omega arith in
    let within : c - a < length (range_with_len a n) = omega (arith, length-range_with_len a n) in
    let whole : a + (c - a) ≡ c = omega arith in
    let here = get_or-range_with_len a n (c - a) 0 inside ∙ whole in
    elim (test c) as (λ b. test c ≡ b → b ≡ true) [
      | true ↦ λ _. refl
      | false ↦ λ fails. absurd (let none = list_all_at test (range_with_len a n) (c - a) 0 within (ap test here ∙ fails) in cc)
    ] refl

-- which hart each byte names, by a test of every byte
digits_named : list_all (λ c. hart_of c == c - 48) (range_with_len 48 10) ≡ true
unfolding hart_of
digits_named = refl

letters_named : list_all (λ c. hart_of c == c - 97 + 10) (range_with_len 97 22) ≡ true
unfolding hart_of
letters_named = refl

below_named : list_all (λ c. hart_of c == 32) (range_with_len 0 48) ≡ true
unfolding hart_of
below_named = refl

between_named : list_all (λ c. hart_of c == 32) (range_with_len 58 39) ≡ true
unfolding hart_of
between_named = refl

above_named : list_all (λ c. hart_of c == 32) (range_with_len 119 137) ≡ true
unfolding hart_of
above_named = refl

pub digit_hart : (c : ℕ) → 48 ≤ c → c ≤ 57 → hart_of c ≡ c - 48
digit_hart c low high = eqb-true (hart_of c) (c - 48) (each_within (λ c. hart_of c == c - 48) 48 10 digits_named c low (omega arith))

pub letter_hart : (c : ℕ) → 97 ≤ c → c ≤ 118 → hart_of c ≡ c - 97 + 10
letter_hart c low high = eqb-true (hart_of c) (c - 97 + 10) (each_within (λ c. hart_of c == c - 97 + 10) 97 22 letters_named c low (omega arith))

pub no_hart_below : (c : ℕ) → c < 48 → hart_of c ≡ 32
no_hart_below c high = eqb-true (hart_of c) 32 (each_within (λ c. hart_of c == 32) 0 48 below_named c (omega arith) (omega arith))

pub no_hart_between : (c : ℕ) → 57 < c → c < 97 → hart_of c ≡ 32
no_hart_between c low high = eqb-true (hart_of c) 32 (each_within (λ c. hart_of c == 32) 58 39 between_named c (omega arith) (omega arith))

pub no_hart_above : (c : ℕ) → 118 < c → c < 256 → hart_of c ≡ 32
no_hart_above c low high = eqb-true (hart_of c) 32 (each_within (λ c. hart_of c == 32) 119 137 above_named c (omega arith) (omega arith))

pub ruleset harts_named = (digit_hart, letter_hart, no_hart_below, no_hart_between, no_hart_above)

-- the values so far, with those of one more word
pub values_none : (name : List ℕ) (words : List (List ℕ)) (word : List ℕ) → value_of name word ≡ None → values name (words ++ word ∷ []) ≡ values name words
values_none name words word e = filter_map-append (value_of name) words (word ∷ []) ∙ ap (λ v. values name words ++ cons_option v []) e ∙ append-nil (values name words)

pub values_some : (name : List ℕ) (words : List (List ℕ)) (word value : List ℕ) → value_of name word ≡ Some value → values name (words ++ word ∷ []) ≡ values name words ++ value ∷ []
values_some name words word value e = filter_map-append (value_of name) words (word ∷ []) ∙ ap (λ v. values name words ++ cons_option v []) e

-- The value of an option.

-- what is left of a word whose front is the option's name
pub stripped : {T : Type 0} (now : T → List ℕ) (r : Option T) (name word : List ℕ)
    → MatchOption r (FindsTextPrefix name word None) (λ x. (n : ℕ) × FindsTextPrefix name word (Some n) × (now x ≡ drop n word) × (length (now x) + n ≡ length word))
    → option_map now r ≡ value_of name word
stripped now None name word lacks = elim (cases_Bool (starts_with nat_eq word name)) [
  | inl begins ↦ absurd (lacks _ ((starts_is Decides-eqb word name _ refl).0 begins))
  | inr other ↦ sym (ap (λ b. if b then Some (drop (length name) word) else None) other)
]
stripped now (Some x) name word (n, found, rest, size) =
    let begins = (starts_is Decides-eqb word name _ refl).1 _ found.1 in
    ap Some (rest ∙ ap (λ k. drop k word) found.0) ∙ sym (ap (λ b. if b then Some (drop (length name) word) else None) begins)
