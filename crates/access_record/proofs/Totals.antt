-- Totals over lists, lists that change at one place, and functions that change at one number.
use Rattle.std.proofs.Common.{◌≡◌, ◌≢◌, ℕ, zero, suc, ◌+◌, ◌*◌, ◌<◌, ◌≤◌, List, [], ◌∷◌, ◌++◌, set, sym, refl, ap, subst, ⊎_elim, eqb, eq-eqb, ne_eqb, arith}
use Rattle.std.specs.Prelude.{if◌then◌else◌}
use mathlib.Core.Option.{some, some-ne-none, some-injective}
use native.Mathlib.Decide.{ℕ_discrete}
use lib.ListN.{get_elem?}
use Rattle.atomic_table.proofs.Lists.{at_set}
use Rattle.access_record.specs.Logs.{sum_below}
use Rattle.access_record.specs.Rule.{total}

module _ {X : Type 0} (f : X → ℕ) where
  pub total-append : (xs ys : List X) → total f (xs ++ ys) ≡ total f xs + total f ys
  total-append [] ys = omega arith
  total-append (x ∷ xs) ys = let h = total-append xs ys in omega arith

  -- a change at one place changes the total by as much
  pub total-set : (xs : List X) (i : ℕ) (v w : X) → get_elem? xs i ≡ some v
      → total f (set xs i w) + f v ≡ total f xs + f w
  total-set [] i v w e = absurd (some-ne-none v (sym e))
  total-set (x ∷ xs) zero v w e = let h : f x ≡ f v = ap f (some-injective x v e) in omega arith
  total-set (x ∷ xs) (suc i) v w e = let h = total-set xs i v w e in omega arith

  pub total-one : (xs : List X) (i : ℕ) (v : X) → get_elem? xs i ≡ some v → f v ≤ total f xs
  total-one [] i v e = absurd (some-ne-none v (sym e))
  total-one (x ∷ xs) zero v e = let h : f x ≡ f v = ap f (some-injective x v e) in omega arith
  total-one (x ∷ xs) (suc i) v e = let h = total-one xs i v e in omega arith

  pub total-two : (xs : List X) (i j : ℕ) (v u : X) → j ≢ i → get_elem? xs i ≡ some v → get_elem? xs j ≡ some u
      → f v + f u ≤ total f xs
  total-two [] i j v u ne at there = absurd (some-ne-none v (sym at))
  total-two (x ∷ xs) zero zero v u ne at there = absurd (ne refl)
  total-two (x ∷ xs) zero (suc j) v u ne at there = let h : f x ≡ f v = ap f (some-injective x v at) in let t = total-one xs j u there in omega arith
  total-two (x ∷ xs) (suc i) zero v u ne at there = let h : f x ≡ f u = ap f (some-injective x u there) in let t = total-one xs i v at in omega arith
  total-two (x ∷ xs) (suc i) (suc j) v u ne at there = let t = total-two xs i j v u (λ e. ne (ap suc e)) at there in omega arith

-- what holds of each view, after one view has changed
pub all-set : {X : Type 0} (F : X → Type 0) (xs : List X) (i : ℕ) (w : X) → F w
    → ((j : ℕ) (u : X) → j ≢ i → get_elem? xs j ≡ some u → F u) → (j : ℕ) (u : X) → get_elem? (set xs i w) j ≡ some u
    → F u
all-set {X} F xs i w mine others j u e = ⊎_elim
    (λ (x : (j ≡ i) × (w ≡ u)). subst F x.1 mine)
    (λ (x : (j ≢ i) × (get_elem? xs j ≡ some u)). others j u x.0 x.1)
    (at_set xs i j w u e)

-- f, with x at k
abbrev pub put : {X : Type 0} → (ℕ → X) → ℕ → X → ℕ → X
put f k x j = if eqb j k then x else f j

pub put-same : {X : Type 0} (f : ℕ → X) (k : ℕ) (x : X) → put f k x k ≡ x
put-same f k x = ap (λ b. if b then x else f k) (eq-eqb k k refl)

pub put-other : {X : Type 0} (f : ℕ → X) (k : ℕ) (x : X) (j : ℕ) → j ≢ k → put f k x j ≡ f j
put-other f k x j ne = ap (λ b. if b then x else f j) (ne_eqb j k ne)

pub put-all : {X : Type 0} (P : ℕ → X → Type 0) (f : ℕ → X) (k : ℕ) (x : X) → P k x → ((j : ℕ) → j ≢ k → P j (f j))
    → (j : ℕ) → P j (put f k x j)
put-all {X} P f k x here others j = by_test (ℕ_discrete j k)
  where
    by_test : Dec (j ≡ k) → P j (put f k x j)
    by_test (yes e) = subst (λ (i : ℕ). P i (put f k x i)) (sym e) (subst (P k) (sym (put-same f k x)) here)
    by_test (no ne) = subst (P j) (sym (put-other f k x j ne)) (others j ne)

pub sum_below-same : (m : ℕ) (f g : ℕ → ℕ) → ((j : ℕ) → j < m → f j ≡ g j) → sum_below m f ≡ sum_below m g
sum_below-same zero f g e = refl
sum_below-same (suc m) f g e = let h = sum_below-same m f g (λ j lt. e j (omega arith)) in let t = e m (omega arith) in omega arith

pub sum_below-put : (m : ℕ) (f g : ℕ → ℕ) (k : ℕ) → k < m → ((j : ℕ) → j ≢ k → f j ≡ g j)
    → sum_below m g + f k ≡ sum_below m f + g k
sum_below-put zero f g k lt e = absurd (omega arith)
sum_below-put (suc m) f g k lt e = by_test (ℕ_discrete k m) (λ below. sum_below-put m f g k below e)
  where
    by_test : Dec (k ≡ m) → (k < m → sum_below m g + f k ≡ sum_below m f + g k)
        → sum_below (suc m) g + f k ≡ sum_below (suc m) f + g k
    by_test (yes is) low = let h = sum_below-same m f g (λ j below. e j (λ (same : j ≡ k). omega arith)) in let a : f k ≡ f m = ap f is in let b : g k ≡ g m = ap g is in omega arith
    by_test (no ne) low = let h = low (omega arith) in let t = e m (λ (same : m ≡ k). ne (sym same)) in omega arith

pub sum_below-most : (m : ℕ) (f : ℕ → ℕ) (most : ℕ) → ((j : ℕ) → f j ≤ most) → sum_below m f ≤ m * most
sum_below-most zero f most le = omega arith
sum_below-most (suc m) f most le = let h = sum_below-most m f most le in let t = le m in let s : suc m * most ≡ m * most + most = grind arith in omega arith

pub sum_below-none : (m : ℕ) → sum_below m (λ j. 0) ≡ 0
sum_below-none zero = refl
sum_below-none (suc m) = let h = sum_below-none m in omega arith

-- two places change, and the total stays
pub total-joined : {X : Type 0} (f : X → ℕ) (xs : List X) (i j : ℕ) (v w both none : X) → get_elem? xs i ≡ some v
    → get_elem? (set xs i both) j ≡ some w → f both ≡ f w + f v → f none ≡ 0
    → total f (set (set xs i both) j none) ≡ total f xs
total-joined f xs i j v w both none at there sum zero_is = let a = total-set f xs i v both at in let b = total-set f (set xs i both) j w none there in omega arith

-- one place changes and one is new, and the total grows by so much
pub total-parted : {X : Type 0} (f : X → ℕ) (xs : List X) (i : ℕ) (v left right : X) (more : ℕ)
    → get_elem? xs i ≡ some v → f left + f right ≡ f v + more
    → total f (set xs i left ++ right ∷ []) ≡ more + total f xs
total-parted f xs i v left right more at sum = let a = total-set f xs i v left at in let b = total-append f (set xs i left) (right ∷ []) in omega arith

pub total-cut : {X : Type 0} (f : X → ℕ) (xs : List X) (i : ℕ) (v left right : X) → get_elem? xs i ≡ some v
    → f left + f right ≡ f v → total f (set xs i left ++ right ∷ []) ≡ total f xs
total-cut f xs i v left right at sum = let a = total-set f xs i v left at in let b = total-append f (set xs i left) (right ∷ []) in omega arith
