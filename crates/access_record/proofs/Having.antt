-- Lists of things that each have a number and a log, and have seen so many events.
use Rattle.std.proofs.Common.{◌≡◌, ◌≢◌, ℕ, ◌+◌, ◌<◌, ◌≤◌, ◌==◌, List, [], ◌∷◌, ◌++◌, map, length, refl, sym, ap, ◌∙◌, eq-eqb, ne_eqb, lt_of_not-le, arith}
use Rattle.std.specs.Prelude.{if◌then◌else◌}
use native.Mathlib.Decide.{ℕ_discrete}
use Rattle.access_record.specs.declared.entry.LogEntry.{LogEntry}
use Rattle.access_record.specs.Logs.{log_of, sum_below}
use Rattle.access_record.specs.Rule.{one_if, count_of, HaveLogs, HaveSeen}
use Rattle.access_record.specs.Steps.{rest_of, first_of}
use Rattle.access_record.proofs.Totals.{put, put-other, sum_below-put, sum_below-none, sum_below-most}

pub one_if-same : (k : ℕ) → one_if (k == k) ≡ 1
one_if-same k = ap one_if (eq-eqb k k refl)

pub one_if-other : (j k : ℕ) → j ≢ k → one_if (j == k) ≡ 0
one_if-other j k ne = ap one_if (ne_eqb j k ne)

module _ {X : Type 0} (number : X → ℕ) (log : X → List LogEntry) where
  pub have_logs-append : (logs : ℕ → List LogEntry) (xs ys : List X) → HaveLogs number log logs xs
      → HaveLogs number log logs ys → HaveLogs number log logs (xs ++ ys)
  have_logs-append logs [] ys a b = b
  have_logs-append logs (x ∷ xs) ys a b = (a.0, have_logs-append logs xs ys a.1 b)

  pub have_logs-first : (logs : ℕ → List LogEntry) (xs : List X) → HaveLogs number log logs xs
      → HaveLogs number log logs (rest_of xs) × HaveLogs number log logs (first_of xs)
  have_logs-first logs [] a = (tt, tt)
  have_logs-first logs (x ∷ xs) a = (a.1, (a.0, tt))

  -- a change of a log that none of these has
  pub have_logs-put : (logs : ℕ → List LogEntry) (k : ℕ) (new : List LogEntry) (xs : List X)
      → count_of number k xs ≡ 0 → HaveLogs number log logs xs → HaveLogs number log (put logs k new) xs
  have_logs-put logs k new [] none a = tt
  have_logs-put logs k new (x ∷ xs) none a =
      (a.0 ∙ sym (put-other logs k new (number x) (λ (is : number x ≡ k). let c : one_if (number x == k) ≡ 1 = ap one_if (eq-eqb (number x) k is) in absurd (omega arith))), have_logs-put logs k new xs (omega arith) a.1)

  -- the log of a number is that of the one with the number, and empty where there is none
  pub log_of-found : (logs : ℕ → List LogEntry) (k : ℕ) (xs : List X) → HaveLogs number log logs xs
      → (count_of number k xs ≡ 0 → logs k ≡ []) → logs k ≡ log_of number log xs k
  log_of-found logs k [] a none = none refl
  log_of-found logs k (x ∷ xs) a none = by_test (ℕ_discrete (number x) k) (λ other. log_of-found logs k xs a.1 (λ z. none (let c = one_if-other (number x) k other in omega arith)))
    where
      by_test : Dec (number x ≡ k) → (number x ≢ k → logs k ≡ log_of number log xs k)
          → logs k ≡ log_of number log (x ∷ xs) k
      by_test (yes is) rest = ap logs (sym is) ∙ (sym a.0 ∙ ap (λ b. if b then log x else log_of number log xs k) (sym (eq-eqb (number x) k is)))
      by_test (no ne) rest = rest ne ∙ ap (λ b. if b then log x else log_of number log xs k) (sym (ne_eqb (number x) k ne))

module _ {X : Type 0} (seen : X → ℕ) where
  pub have_seen-append : (n : ℕ) (xs ys : List X) → HaveSeen seen n xs → HaveSeen seen n ys → HaveSeen seen n (xs ++ ys)
  have_seen-append n [] ys a b = b
  have_seen-append n (x ∷ xs) ys a b = (a.0, have_seen-append n xs ys a.1 b)

  pub have_seen-first : (n : ℕ) (xs : List X) → HaveSeen seen n xs
      → HaveSeen seen n (rest_of xs) × HaveSeen seen n (first_of xs)
  have_seen-first n [] a = (tt, tt)
  have_seen-first n (x ∷ xs) a = (a.1, (a.0, tt))

  pub have_seen-wider : (n more : ℕ) (xs : List X) → n ≤ more → HaveSeen seen n xs → HaveSeen seen more xs
  have_seen-wider n more [] le a = tt
  have_seen-wider n more (x ∷ xs) le a = (let s = a.0 in omega arith, have_seen-wider n more xs le a.1)

module _ {X : Type 0} (number : X → ℕ) where
  pub count_of-first : (k : ℕ) (xs : List X)
      → count_of number k (rest_of xs) + count_of number k (first_of xs) ≡ count_of number k xs
  count_of-first k [] = refl
  count_of-first k (x ∷ xs) = omega arith

  -- each is counted under its own number
  length-counts : (m : ℕ) (xs : List X) → ((k : ℕ) → m ≤ k → count_of number k xs ≡ 0)
      → length xs ≡ sum_below m (λ k. count_of number k xs)
  length-counts m [] none = sym (sum_below-none m)
  length-counts m (x ∷ xs) none =
      let here = one_if-same (number x) in
      let below : number x < m = lt_of_not-le (λ (le : m ≤ number x). let z = none (number x) le in absurd (omega arith)) in
      let rest = length-counts m xs (λ k le. let z = none k le in omega arith) in
      let s = sum_below-put m (λ k. count_of number k xs) (λ k. count_of number k (x ∷ xs)) (number x) below (λ j ne. let c = one_if-other (number x) j (λ e. ne (sym e)) in omega arith) in omega arith

  -- where no number stands twice, there are no more than there are numbers
  pub length-few : (m : ℕ) (xs : List X) → ((k : ℕ) → count_of number k xs ≤ 1)
      → ((k : ℕ) → m ≤ k → count_of number k xs ≡ 0) → length xs ≤ m
  length-few m xs once none = let a = length-counts m xs none in let s = sum_below-most m (λ k. count_of number k xs) 1 once in omega arith

module _ {X Y : Type 0} (f : X → Y) (number : Y → ℕ) where
  pub count_of-map : (k : ℕ) (xs : List X) → count_of number k (map f xs) ≡ count_of (λ x. number (f x)) k xs
  count_of-map k [] = refl
  count_of-map k (x ∷ xs) = ap (λ (n : ℕ). one_if (number (f x) == k) + n) (count_of-map k xs)

  pub log_of-map : (log : Y → List LogEntry) (k : ℕ) (xs : List X)
      → log_of number log (map f xs) k ≡ log_of (λ x. number (f x)) (λ x. log (f x)) xs k
  log_of-map log k [] = refl
  log_of-map log k (x ∷ xs) = ap (λ (l : List LogEntry). if number (f x) == k then log (f x) else l) (log_of-map log k xs)
