-- Sums over the harts.
use Rattle.std.proofs.Common.{◌≡◌, ℕ, ◌+◌, ◌*◌, ◌<◌, ◌≤◌, zero, suc, inl, inr, subst, arith}
use Rattle.std.proofs.lemmas.Bool.{cases_eq}

-- the sum of a function's values below a number
abbrev pub total : (ℕ → ℕ) → ℕ → ℕ
total f zero = 0
total f (suc n) = total f n + f n

pub total_least : (f g : ℕ → ℕ) (n : ℕ) → ((k : ℕ) → k < n → f k ≤ g k) → total f n ≤ total g n
total_least f g zero each = omega arith
total_least f g (suc n) each = omega (arith, each n (omega arith), total_least f g n (λ k below. each k (omega (arith, below))))

-- where one of the values has grown by so much
pub total_more : (f g : ℕ → ℕ) (n h more : ℕ) → h < n → ((k : ℕ) → k < n → f k ≤ g k) → f h + more ≤ g h → total f n + more ≤ total g n
total_more f g zero h more below each grown = absurd (omega (arith, below))
total_more f g (suc n) h more below each grown = elim (cases_eq h n) [
  | inl same ↦
      let At : ℕ → Type 0 = λ j. f j + more ≤ g j in
      omega (arith, subst At same grown, total_least f g n (λ k within. each k (omega (arith, within))))
  | inr other ↦
      omega (arith, each n (omega arith), total_more f g n h more (omega (arith, below, other)) (λ k within. each k (omega (arith, within))) grown)
]

pub total_most : (f : ℕ → ℕ) (n most : ℕ) → ((k : ℕ) → k < n → f k ≤ most) → total f n ≤ n * most
total_most f zero most each = omega arith
total_most f (suc n) most each =
    let one : suc n * most ≡ n * most + most = omega arith in
    omega (arith, one, each n (omega arith), total_most f n most (λ k below. each k (omega (arith, below))))
