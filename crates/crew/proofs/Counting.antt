-- Each element of a list, sums over lists of one length, and lists of which one place after another changes.
use Rattle.std.proofs.Common.{◌≡◌, ℕ, suc, ◌+◌, ◌<◌, ◌≤◌, List, [], ◌∷◌, length, set, refl, sym, ◌∙◌, subst, arith, slice_index_or, sum_by}
use Rattle.std.proofs.lemmas.List.{get_or-set_same, get_or-set_other, length-set, get_or_default}
use Rattle.std.proofs.lemmas.List.Sums.{sum_by-cons}
use native.Mathlib.Decide.{ℕ_discrete}

-- what holds of each element and its place
abbrev pub Each : {A : Type 0} → (ℕ → A → Type 0) → List A → Type 0
Each {A} P xs = (k : ℕ) (d : A) → k < length xs → P k (slice_index_or xs k d)

-- one place anew
pub Each-set : {A : Type 0} (P : ℕ → A → Type 0) (xs : List A) (i : ℕ) (x : A) → Each P xs → P i x → Each P (set xs i x)
Each-set {A} P xs i x all at = λ k d below. by k d (omega (arith, below, length-set xs i x)) (ℕ_discrete k i)
  where
    by : (k : ℕ) (d : A) → k < length xs → Dec (k ≡ i) → P k (slice_index_or (set xs i x) k d)
    by k d below (yes is) =
        let At : ℕ → Type 0 = λ n. P n (slice_index_or (set xs i x) n d) in
        let lt : i < length xs = omega (arith, below, is) in
        subst At (sym is) (subst (P i) (sym (get_or-set_same xs i x d lt)) at)
    by k d below (no ne) = subst (P k) (sym (get_or-set_other xs i k x d ne)) (all k d below)

-- lists of one length whose elements weigh the same
pub sums_same : {A : Type 0} (f : A → ℕ) (xs ys : List A) → length xs ≡ length ys → ((i : ℕ) (d : A) → i < length xs → f (slice_index_or xs i d) ≡ f (slice_index_or ys i d)) → sum_by f xs ≡ sum_by f ys
sums_same f [] [] len each = refl
sums_same f [] (y ∷ ys) len each = absurd (omega (arith, len))
sums_same f (x ∷ xs) [] len each = absurd (omega (arith, len))
sums_same f (x ∷ xs) (y ∷ ys) len each =
    let head : f x ≡ f y = each 0 x (omega arith) in
    let rest : sum_by f xs ≡ sum_by f ys = sums_same f xs ys (omega (arith, len)) (λ i d below. each (suc i) d (omega (arith, below))) in
    sum_by-cons f x xs ∙ (omega (arith, head, rest) ∙ sym (sum_by-cons f y ys))

-- the elements before this place have changed so, and the others are as before
pub record HasChanged {A : Type 0} (R : A → A → Type 0) (place : ℕ) (old new : List A) : Type 0 where
  pub counted : length new ≡ length old
  pub before : (k : ℕ) (d : A) → k < place → k < length old → R (slice_index_or old k d) (slice_index_or new k d)
  pub after : (k : ℕ) (d : A) → place ≤ k → slice_index_or new k d ≡ slice_index_or old k d

pub changed_none : {A : Type 0} (R : A → A → Type 0) (xs : List A) → HasChanged R 0 xs xs
changed_none R xs = record { counted = refl; before = λ k d none below. absurd (omega (arith, none)); after = λ k d le. refl }

-- the next one too
pub changed_more : {A : Type 0} (R : A → A → Type 0) (i : ℕ) (old new : List A) (x y : A) → HasChanged R i old new → i < length old → x ≡ slice_index_or new i x → R x y → HasChanged R (i + 1) old (set new i y)
changed_more {A} R i old new x y so_far lt is step =
    record {
      counted = length-set new i y ∙ so_far.counted;
      before = λ k d below inside. by k d below inside (ℕ_discrete k i);
      after = λ k d le. get_or-set_other new i k y d (λ same. absurd (omega (arith, le, same))) ∙ so_far.after k d (omega (arith, le));
    }
  where
    was : (d : A) → x ≡ slice_index_or old i d
    was d = is ∙ (so_far.after i x (omega arith) ∙ get_or_default old i x d lt)

    by : (k : ℕ) (d : A) → k < i + 1 → k < length old → Dec (k ≡ i) → R (slice_index_or old k d) (slice_index_or (set new i y) k d)
    by k d below inside (yes same) =
        let At : ℕ → Type 0 = λ n. R (slice_index_or old n d) (slice_index_or (set new i y) n d) in
        let there : i < length new = omega (arith, lt, so_far.counted) in
        subst At (sym same) (subst (λ (z : A). R z (slice_index_or (set new i y) i d)) (was d) (subst (R x) (sym (get_or-set_same new i y d there)) step))
    by k d below inside (no ne) =
        subst (R (slice_index_or old k d)) (sym (get_or-set_other new i k y d ne)) (so_far.before k d (omega (arith, below, ne)) inside)
