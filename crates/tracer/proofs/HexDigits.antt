-- The digits of a number, by parts and by its bytes.
use Rattle.std.proofs.Common.{◌≡◌, ℕ, ◌+◌, ◌-◌, ◌*◌, ◌/◌, ◌%◌, ◌^◌, ◌<◌, ◌≤◌, zero, suc, Bool, true, cond, ◌&&◌, T, eqb, bit_and, slice_index_or, codes, length, drop, List, [], ◌∷◌, ◌++◌, refl, ap, sym, ◌∙◌, inl, inr, arith, eq-zero-or-pos, eqb→eq, append_assoc, length-append}
use Rattle.std.proofs.Math.Nat.{pow-suc, div-div-eq-div-mul}
use Rattle.std.proofs.Math.Seq.{drop-append_seam}
use Rattle.std.proofs.lemmas.Nat.{and_mask}
use Rattle.std.proofs.lemmas.List.{append-nil}
use lib.Dec.{leb}
use lib.Ieee.Fits.{and_l, and_r}
use Rattle.tracer.specs.EventText.{hex_digit, hex_digits, hex}

-- a quotient without one more digit
quotient_more : (n k : ℕ) → n / 16 / 16 ^ k ≡ n / 16 ^ (suc k)
quotient_more n k =
    let turned : 16 * 16 ^ k ≡ 16 ^ k * 16 = omega arith in
    div-div-eq-div-mul n 16 (16 ^ k) ∙ ap (λ (m : ℕ). n / m) (turned ∙ sym (pow-suc 16 k))

pub length-hex_digits : (k n : ℕ) → length (hex_digits k n) ≡ k
unfolding hex_digits
length-hex_digits zero n = refl
length-hex_digits (suc k) n =
    let one : k + 1 ≡ suc k = omega arith in
    length-append (hex_digits k (n / 16)) (hex_digit (n % 16) ∷ []) ∙ ap (λ (m : ℕ). m + 1) (length-hex_digits k (n / 16)) ∙ one

-- the first digits, and those after them
hex_digits-add : (a b n : ℕ) → hex_digits (a + b) n ≡ hex_digits a (n / 16 ^ b) ++ hex_digits b n
unfolding hex_digits
hex_digits-add a zero n =
    let none : a + 0 ≡ a = omega arith in
    let whole : n / 1 ≡ n = omega arith in
    ap (λ (k : ℕ). hex_digits k n) none ∙ ap (λ (m : ℕ). hex_digits a m) (sym whole) ∙ sym (append-nil (hex_digits a (n / 1)))
hex_digits-add a (suc b) n =
    let one : a + suc b ≡ suc (a + b) = omega arith in
    ap (λ (k : ℕ). hex_digits k n) one
    ∙ ap (λ (ds : List ℕ). ds ++ hex_digit (n % 16) ∷ []) (hex_digits-add a b (n / 16))
    ∙ append_assoc (hex_digits a (n / 16 / 16 ^ b)) (hex_digits b (n / 16)) (hex_digit (n % 16) ∷ [])
    ∙ ap (λ (m : ℕ). hex_digits a m ++ (hex_digits b (n / 16) ++ hex_digit (n % 16) ∷ [])) (quotient_more n b)

-- the last digits of all
pub hex_digits-last : (count n : ℕ) → count ≤ 16 → drop (16 - count) (hex n) ≡ hex_digits count n
hex_digits-last count n within =
    let parts : 16 ≡ 16 - count + count = omega (arith, within) in
    let first = hex_digits (16 - count) (n / 16 ^ count) in
    ap (λ (k : ℕ). drop (16 - count) (hex_digits k n)) parts
    ∙ ap (λ (ds : List ℕ). drop (16 - count) ds) (hex_digits-add (16 - count) count n)
    ∙ ap (λ (k : ℕ). drop k (first ++ hex_digits count n)) (sym (length-hex_digits (16 - count) (n / 16 ^ count)))
    ∙ drop-append_seam first (hex_digits count n)

-- what the vector of digits gives for a value
abbrev lane : ℕ → ℕ
lane v = cond (leb 128 v) 0 (slice_index_or (codes "0123456789abcdef") (0 + v) 0)

-- it gives the digit of each value below n
abbrev are_digits : ℕ → Bool
are_digits zero = true
are_digits (suc v) = eqb (lane v) (hex_digit v) && are_digits v

digits_below : (n v : ℕ) → T (are_digits n) → v < n → lane v ≡ hex_digit v
digits_below zero v t below = absurd (omega arith)
digits_below (suc n) v t below =
    elim (eq-zero-or-pos (n - v)) [
      | inl z ↦ let e : v ≡ n = omega arith in rw e (eqb→eq _ _ (and_l _ (are_digits n) t))
      | inr g ↦ digits_below n v (and_r _ (are_digits n) t) (omega arith)
    ]

-- the bytes of a number, the highest first
abbrev bytes_of : ℕ → ℕ → List ℕ
bytes_of zero n = []
bytes_of (suc k) n = bytes_of k (n / 256) ++ n % 256 ∷ []

-- what it gives for the halves of each
abbrev halves : List ℕ → List ℕ
halves [] = []
halves (b ∷ bs) = lane (b / 16) ∷ lane (bit_and b 15) ∷ halves bs

halves-append : (bs cs : List ℕ) → halves (bs ++ cs) ≡ halves bs ++ halves cs
halves-append [] cs = refl
halves-append (b ∷ bs) cs = ap (λ (ds : List ℕ). lane (b / 16) ∷ lane (bit_and b 15) ∷ ds) (halves-append bs cs)

halves_last : (n : ℕ) → halves (n % 256 ∷ []) ≡ hex_digits 2 n
unfolding hex_digits
halves_last n =
    let low : bit_and (n % 256) 15 ≡ n % 16 = and_mask (n % 256) 4 ∙ omega arith in
    let high : n % 256 / 16 ≡ n / 16 % 16 = omega arith in
    rw (high, low, digits_below 16 (n / 16 % 16) tt (omega arith), digits_below 16 (n % 16) tt (omega arith)) refl

pub halves-bytes : (k n : ℕ) → halves (bytes_of k n) ≡ hex_digits (2 * k) n
unfolding hex_digits
halves-bytes zero n = refl
halves-bytes (suc k) n =
    let more : 2 * k + 2 ≡ 2 * suc k = omega arith in
    halves-append (bytes_of k (n / 256)) (n % 256 ∷ [])
    ∙ ap (λ (ds : List ℕ). ds ++ halves (n % 256 ∷ [])) (halves-bytes k (n / 256))
    ∙ ap (λ (ds : List ℕ). hex_digits (2 * k) (n / 256) ++ ds) (halves_last n)
    ∙ sym (hex_digits-add (2 * k) 2 n)
    ∙ ap (λ (m : ℕ). hex_digits m n) more
