-- Entries in rising number: two such lists with the same entries are one.
use Rattle.std.proofs.Common.{◌≡◌, ◌⊎◌, inl, inr, ℕ, suc, ◌<◌, ◌≤◌, Bool, true, false, cond, List, [], ◌∷◌, ◌++◌, refl, sym, ap, ◌∙◌, subst, arith}
use Rattle.std.specs.List.{filter}
use Rattle.access_record.specs.declared.entry.LogEntry.{LogEntry}
use Rattle.access_record.specs.Logs.{Ascends, AreOfHart, HasNumber}

-- e is among these
abbrev pub In : LogEntry → List LogEntry → Type 0
In e [] = ⊥
In e (x ∷ xs) = (x ≡ e) ⊎ In e xs

pub in_append : (e : LogEntry) (xs ys : List LogEntry) → In e (xs ++ ys) → In e xs ⊎ In e ys
in_append e [] ys i = inr i
in_append e (x ∷ xs) ys (inl is) = inl (inl is)
in_append e (x ∷ xs) ys (inr i) = elim (in_append e xs ys i) [ inl j ↦ inl (inr j) | inr j ↦ inr j ]

in_above : (low high : ℕ) (e : LogEntry) (xs : List LogEntry) → Ascends low high xs → In e xs → low ≤ e.event.number
in_above low high e [] a i = absurd i
in_above low high e (x ∷ xs) a (inl is) = subst (λ (y : LogEntry). low ≤ y.event.number) is a.0
in_above low high e (x ∷ xs) a (inr i) = let r = in_above (suc x.event.number) high e xs a.1 i in let l = a.0 in omega arith

low_high : (low high : ℕ) (xs : List LogEntry) → Ascends low high xs → low ≤ high
low_high low high [] a = a
low_high low high (x ∷ xs) a = let r = low_high (suc x.event.number) high xs a.1 in let l = a.0 in omega arith

pub in_below : (low high : ℕ) (e : LogEntry) (xs : List LogEntry) → Ascends low high xs → In e xs → e.event.number < high
in_below low high e [] a i = absurd i
in_below low high e (x ∷ xs) a (inl is) = let r = low_high (suc x.event.number) high xs a.1 in subst (λ (y : LogEntry). y.event.number < high) is (omega arith)
in_below low high e (x ∷ xs) a (inr i) = in_below (suc x.event.number) high e xs a.1 i

pub in_filter : (test : LogEntry → Bool) (e : LogEntry) (xs : List LogEntry) → In e xs → test e ≡ true → In e (filter test xs)
in_filter test e [] i is = absurd i
in_filter test e (x ∷ xs) (inl same) is = subst (λ (c : Bool). In e (cond c (x ∷ filter test xs) (filter test xs))) (sym is ∙ ap test (sym same)) (inl same)
in_filter test e (x ∷ xs) (inr i) is = by (test x) (in_filter test e xs i is)
  where
    by : (c : Bool) → In e (filter test xs) → In e (cond c (x ∷ filter test xs) (filter test xs))
    by true rest = inr rest
    by false rest = rest

pub from_filter : (test : LogEntry → Bool) (e : LogEntry) (xs : List LogEntry) → In e (filter test xs) → In e xs × (test e ≡ true)
from_filter test e [] i = absurd i
from_filter test e (x ∷ xs) i = by (test x) refl i (from_filter test e xs)
  where
    by : (c : Bool) → test x ≡ c → In e (cond c (x ∷ filter test xs) (filter test xs)) → (In e (filter test xs) → In e xs × (test e ≡ true)) → In e (x ∷ xs) × (test e ≡ true)
    by true is (inl same) rest = (inl same, ap test (sym same) ∙ is)
    by true is (inr j) rest = let r = rest j in (inr r.0, r.1)
    by false is j rest = let r = rest j in (inr r.0, r.1)

raise : (low more high : ℕ) (xs : List LogEntry) → low ≤ more → Ascends more high xs → Ascends low high xs
raise low more high [] le a = omega (arith, le, a)
raise low more high (x ∷ xs) le a = (let l = a.0 in omega (arith, le), a.1)

pub ascends_filter : (test : LogEntry → Bool) (low high : ℕ) (xs : List LogEntry) → Ascends low high xs → Ascends low high (filter test xs)
ascends_filter test low high [] a = a
ascends_filter test low high (x ∷ xs) a = by (test x) (ascends_filter test (suc x.event.number) high xs a.1)
  where
    by : (c : Bool) → Ascends (suc x.event.number) high (filter test xs) → Ascends low high (cond c (x ∷ filter test xs) (filter test xs))
    by true rest = (a.0, rest)
    by false rest = let l = a.0 in raise low (suc x.event.number) high (filter test xs) (omega arith) rest

-- two lists that ascend and have the same entries are one
pub same_ascending : (low high : ℕ) (xs ys : List LogEntry) → Ascends low high xs → Ascends low high ys → ((e : LogEntry) → In e xs → In e ys) → ((e : LogEntry) → In e ys → In e xs) → xs ≡ ys
same_ascending low high [] [] a b to back = refl
same_ascending low high [] (y ∷ ys) a b to back = absurd (back y (inl refl))
same_ascending low high (x ∷ xs) [] a b to back = absurd (to x (inl refl))
same_ascending low high (x ∷ xs) (y ∷ ys) a b to back =
    let heads = first (to x (inl refl)) (back y (inl refl)) in
    let b' : Ascends (suc x.event.number) high ys = subst (λ (z : LogEntry). Ascends (suc z.event.number) high ys) heads b.1 in
    let to' : (e : LogEntry) → In e xs → In e ys = λ e i. (let above = in_above (suc x.event.number) high e xs a.1 i in left e (to e (inr i)) above heads) in
    let back' : (e : LogEntry) → In e ys → In e xs = λ e i. (let above = in_above (suc x.event.number) high e ys b' i in right e (back e (inr i)) above) in
    ap (λ (l : List LogEntry). x ∷ l) (same_ascending (suc x.event.number) high xs ys a.1 b' to' back') ∙ ap (λ (z : LogEntry). z ∷ ys) (sym heads)
  where
    first : In x (y ∷ ys) → In y (x ∷ xs) → y ≡ x
    first (inl is) j = is
    first (inr i) (inl is) = sym is
    first (inr i) (inr j) = absurd (let p = in_above (suc y.event.number) high x ys b.1 i in let q = in_above (suc x.event.number) high y xs a.1 j in omega arith)

    left : (e : LogEntry) → In e (y ∷ ys) → suc x.event.number ≤ e.event.number → y ≡ x → In e ys
    left e (inl is) above heads = absurd (let same : x.event.number ≡ e.event.number = ap (λ (z : LogEntry). z.event.number) (sym heads ∙ is) in omega (arith, same, above))
    left e (inr i) above heads = i

    right : (e : LogEntry) → In e (x ∷ xs) → suc x.event.number ≤ e.event.number → In e xs
    right e (inl is) above = absurd (let same : x.event.number ≡ e.event.number = ap (λ (z : LogEntry). z.event.number) is in omega (arith, same, above))
    right e (inr i) above = i

pub same_number : (low high : ℕ) (xs : List LogEntry) (d e : LogEntry) → Ascends low high xs → In d xs → In e xs → d.event.number ≡ e.event.number → d ≡ e
same_number low high [] d e a i j same = absurd i
same_number low high (x ∷ xs) d e a (inl p) (inl q) same = sym p ∙ q
same_number low high (x ∷ xs) d e a (inl p) (inr j) same = absurd (let r = in_above (suc x.event.number) high e xs a.1 j in let n : x.event.number ≡ d.event.number = ap (λ (z : LogEntry). z.event.number) p in omega (arith, same))
same_number low high (x ∷ xs) d e a (inr i) (inl q) same = absurd (let r = in_above (suc x.event.number) high d xs a.1 i in let n : x.event.number ≡ e.event.number = ap (λ (z : LogEntry). z.event.number) q in omega (arith, same))
same_number low high (x ∷ xs) d e a (inr i) (inr j) same = same_number (suc x.event.number) high xs d e a.1 i j same

pub in_number : (k : ℕ) (e : LogEntry) (xs : List LogEntry) → In e xs → e.event.number ≡ k → HasNumber k xs
in_number k e [] i is = absurd i
in_number k e (x ∷ xs) (inl same) is = inl (ap (λ (z : LogEntry). z.event.number) same ∙ is)
in_number k e (x ∷ xs) (inr i) is = inr (in_number k e xs i is)

-- no entry of rising numbers has one below them
pub number_above : (low high k : ℕ) (xs : List LogEntry) → Ascends low high xs → HasNumber k xs → low ≤ k
number_above low high k [] a has = absurd has
number_above low high k (x ∷ xs) a (inl is) = omega (arith, a.0, is)
number_above low high k (x ∷ xs) a (inr has) = let r = number_above (suc x.event.number) high k xs a.1 has in let l = a.0 in omega arith

-- the hart of an entry of a hart's log
pub hart_of_it : (hart : ℕ) (e : LogEntry) (xs : List LogEntry) → AreOfHart hart xs → In e xs → e.event.hart.0 ≡ hart
hart_of_it hart e [] a i = absurd i
hart_of_it hart e (x ∷ xs) a (inl is) = ap (λ (z : LogEntry). z.event.hart.0) (sym is) ∙ a.0.0
hart_of_it hart e (x ∷ xs) a (inr i) = hart_of_it hart e xs a.1 i
