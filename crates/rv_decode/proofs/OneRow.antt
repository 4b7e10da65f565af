-- At most one row fits a word: the matches of any two rows differ in a bit that both masks keep.
use Rattle.std.proofs.Common.{◌≡◌, ◌≤◌, ℕ, Bool, true, false, not, cond, ◌&&◌, eqb, List, [], ◌∷◌, length, bit_and, refl, arith}
use Rattle.std.proofs.lemmas.Bool.Decides.{nat_tests}
use Rattle.std.proofs.lemmas.Nat.{and_assoc, and_comm}
use Rattle.std.specs.List.{list_all, filter}
use Rattle.flex_base.specs.Decoding.{Row, rows, fits_row}

abbrev pub apart : Row → Row → Bool
apart r s = not (eqb (bit_and r.bits s.mask) (bit_and s.bits r.mask))

abbrev pub all_apart : List Row → Bool
all_apart [] = true
all_apart (r ∷ rs) = list_all (apart r) rs && all_apart rs

-- a word under two masks
twice : (word m n : ℕ) → bit_and (bit_and word m) n ≡ bit_and (bit_and word n) m
twice word m n = rw (and_assoc n word m, and_comm m n, ← and_assoc m word n) refl

not_both : (word : ℕ) (r s : Row) → fits_row word r ≡ true → apart r s ≡ true → fits_row word s ≡ false
not_both word r s fits differ =
    let same = twice word r.mask s.mask in
    grind (arith, nat_tests, same)

both : (a b : Bool) → (a && b) ≡ true → (a ≡ true) × (b ≡ true)
both a b is = grind arith

none_after : (word : ℕ) (r : Row) → fits_row word r ≡ true → (rs : List Row) → list_all (apart r) rs ≡ true → filter (fits_row word) rs ≡ []
none_after word r fits [] all = refl
none_after word r fits (s ∷ rs) all =
    let parts = both (apart r s) (list_all (apart r) rs) all in
    rw (not_both word r s fits parts.0) (none_after word r fits rs parts.1)

with_first : (fits : Bool) (r : Row) (rest : List Row) → (fits ≡ true → rest ≡ []) → length rest ≤ 1 → length (cond fits (r ∷ rest) rest) ≤ 1
with_first true r rest none few = rw (none refl) (omega arith)
with_first false r rest none few = few

one_of_list : (word : ℕ) (rs : List Row) → all_apart rs ≡ true → length (filter (fits_row word) rs) ≤ 1
one_of_list word [] all = omega arith
one_of_list word (r ∷ rs) all =
    let parts = both (list_all (apart r) rs) (all_apart rs) all in
    with_first (fits_row word r) r (filter (fits_row word) rs) (λ fits. none_after word r fits rs parts.0) (one_of_list word rs parts.1)

pub one_row : (word : ℕ) → length (filter (fits_row word) rows) ≤ 1
unfolding rows
one_row word = one_of_list word rows refl
