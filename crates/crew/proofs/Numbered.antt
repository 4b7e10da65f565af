-- The merged entries are numbered 0, 1, 2 and so on, as many as the record counts, and each stands in its hart's log.
use Rattle.std.proofs.Common.{◌≡◌, ◌≢◌, ◌⊎◌, inl, inr, ℕ, zero, suc, ◌+◌, ◌<◌, ◌≤◌, ◌==◌, Bool, true, false, cond, List, [], ◌∷◌, ◌++◌, length, refl, sym, ap, ◌∙◌, subst, arith, append-nil, eq-eqb, ne_eqb}
use Rattle.std.specs.List.{filter, flat_map, range_with_len}
use Rattle.std.proofs.lemmas.List.Elements.{filter-append}
use Rattle.std.proofs.lemmas.Bool.{cases_eq}
use Rattle.std.proofs.lemmas.Bool.Decides.{leb_tells}
use Rattle.flex_base.specs.declared.event.Event.{Event}
use Rattle.flex_base.specs.Journal.{numbers_of}
use Rattle.flex_base.specs.Merging.{has_number, merge}
use Rattle.access_record.specs.declared.limits.Limits.{Limits}
use Rattle.access_record.specs.declared.entry.LogEntry.{LogEntry}
use Rattle.access_record.specs.Buses.{events_of}
use Rattle.access_record.specs.Logs.{Ascends, HasNumber, IsInOneLog, IsRecord}
use Rattle.crew.specs.Merging.{entries_of, is_numbered, merged}
use Rattle.crew.proofs.Ascending.{In, in_append, from_filter, number_above, hart_of_it}

-- the numbers are low, low + 1 and so on
abbrev pub Counts : ℕ → List LogEntry → Type 0
Counts low [] = Unit {0}
Counts low (e ∷ es) = (e.event.number ≡ low) × Counts (low + 1) es

-- so many entries, numbered from 0, each of the log of its hart
pub record IsMergeOf (n : ℕ) (harts : ℕ → List LogEntry) (es : List LogEntry) : Type 0 where
  pub numbers : Counts 0 es
  pub all : length es ≡ n
  pub each : (e : LogEntry) → In e es → In e (harts e.event.hart.0)

-- The entries with one number.

record IsOne (k : ℕ) (es : List LogEntry) : Type 0 where
  pub entry : LogEntry
  pub alone : filter (is_numbered k) es ≡ entry ∷ []
  pub number : entry.event.number ≡ k

filter_none : (k : ℕ) (es : List LogEntry) → (HasNumber k es → ⊥) → filter (is_numbered k) es ≡ []
filter_none k [] none = refl
filter_none k (e ∷ es) none =
    ap (λ c. cond c (e ∷ filter (is_numbered k) es) (filter (is_numbered k) es)) (ne_eqb e.event.number k (λ is. none (inl is)))
    ∙ filter_none k es (λ has. none (inr has))

filter_one : (k low high : ℕ) (es : List LogEntry) → Ascends low high es → HasNumber k es → IsOne k es
filter_one k low high [] a has = absurd has
filter_one k low high (e ∷ es) a (inl is) = record {
  entry = e;
  alone = ap (λ c. cond c (e ∷ filter (is_numbered k) es) (filter (is_numbered k) es)) (eq-eqb e.event.number k is)
      ∙ ap (λ (xs : List LogEntry). e ∷ xs) (filter_none k es (λ has. let above = number_above (suc e.event.number) high k es a.1 has in omega (arith, above, is)));
  number = is;
}
filter_one k low high (e ∷ es) a (inr has) =
    let rest = filter_one k (suc e.event.number) high es a.1 has in
    let above = number_above (suc e.event.number) high k es a.1 has in record {
      entry = rest.entry;
      alone = ap (λ c. cond c (e ∷ filter (is_numbered k) es) (filter (is_numbered k) es)) (ne_eqb e.event.number k (λ is. omega (arith, above, is)))
          ∙ rest.alone;
      number = rest.number;
    }

-- One number among all harts' logs.

module _ (harts : ℕ → List LogEntry) (n k : ℕ) (rising : (hart : ℕ) → Ascends 0 n (harts hart)) (one : IsInOneLog harts k) where
  none_in : (low count : ℕ) → (one.hart < low) ⊎ (low + count ≤ one.hart) → filter (is_numbered k) (flat_map harts (range_with_len low count)) ≡ []
  none_in low zero away = refl
  none_in low (suc count) away =
      let apart : low ≢ one.hart = λ same. elim away [ inl less ↦ omega (arith, less, same) | inr more ↦ omega (arith, more, same) ] in
      let rest : (one.hart < low + 1) ⊎ (low + 1 + count ≤ one.hart) = elim away [ inl less ↦ inl (omega (arith, less)) | inr more ↦ inr (omega (arith, more)) ] in
      filter-append (is_numbered k) (harts low) (flat_map harts (range_with_len (low + 1) count))
      ∙ ap (λ (xs : List LogEntry). xs ++ filter (is_numbered k) (flat_map harts (range_with_len (low + 1) count))) (filter_none k (harts low) (λ has. apart (one.alone low has)))
      ∙ none_in (low + 1) count rest

  one_in : (low count : ℕ) → low ≤ one.hart → one.hart < low + count → IsOne k (flat_map harts (range_with_len low count))
  one_in low zero from below = absurd (omega (arith, from, below))
  one_in low (suc count) from below = elim (cases_eq low one.hart) [
    | inl same ↦
        let here = filter_one k 0 n (harts low) (rising low) (subst (λ (h : ℕ). HasNumber k (harts h)) (sym same) one.here) in
        record {
          entry = here.entry;
          alone = filter-append (is_numbered k) (harts low) (flat_map harts (range_with_len (low + 1) count))
              ∙ ap (λ (xs : List LogEntry). filter (is_numbered k) (harts low) ++ xs) (none_in (low + 1) count (inl (omega (arith, same))))
              ∙ append-nil (filter (is_numbered k) (harts low)) ∙ here.alone;
          number = here.number;
        }
    | inr apart ↦
        let rest = one_in (low + 1) count (omega (arith, from, apart)) (omega (arith, below)) in
        record {
          entry = rest.entry;
          alone = filter-append (is_numbered k) (harts low) (flat_map harts (range_with_len (low + 1) count))
              ∙ ap (λ (xs : List LogEntry). xs ++ filter (is_numbered k) (flat_map harts (range_with_len (low + 1) count))) (filter_none k (harts low) (λ has. apart (one.alone low has)))
              ∙ rest.alone;
          number = rest.number;
        }
  ]

-- Merged, where each number below n has one entry.

module _ (es : List LogEntry) (n : ℕ) (one : (k : ℕ) → k < n → IsOne k es) where
  abbrev with_number : ℕ → List LogEntry
  with_number k = filter (is_numbered k) es

  counts : (low count : ℕ) → low + count ≤ n → Counts low (flat_map with_number (range_with_len low count))
  counts low zero within = tt
  counts low (suc count) within =
      let first = one low (omega (arith, within)) in
      let rest = counts (low + 1) count (omega (arith, within)) in
      subst (λ (xs : List LogEntry). Counts low (xs ++ flat_map with_number (range_with_len (low + 1) count))) (sym first.alone) (first.number, rest)

  counted : (low count : ℕ) → low + count ≤ n → length (flat_map with_number (range_with_len low count)) ≡ count
  counted low zero within = refl
  counted low (suc count) within =
      let first = one low (omega (arith, within)) in
      let more = flat_map with_number (range_with_len (low + 1) count) in
      ap (λ (xs : List LogEntry). length (xs ++ more)) first.alone ∙ ap suc (counted (low + 1) count (omega (arith, within)))

  come : (e : LogEntry) (low count : ℕ) → In e (flat_map with_number (range_with_len low count)) → In e es
  come e low zero i = absurd i
  come e low (suc count) i = elim (in_append e (with_number low) (flat_map with_number (range_with_len (low + 1) count)) i) [
    | inl j ↦ (from_filter (is_numbered low) e es j).0
    | inr j ↦ come e (low + 1) count j
  ]

-- an entry of these logs is of one of them
of_some : (harts : ℕ → List LogEntry) (e : LogEntry) (low count : ℕ) → In e (flat_map harts (range_with_len low count)) → (hart : ℕ) × In e (harts hart)
of_some harts e low zero i = absurd i
of_some harts e low (suc count) i = elim (in_append e (harts low) (flat_map harts (range_with_len (low + 1) count)) i) [
  | inl j ↦ (low, j)
  | inr j ↦ of_some harts e (low + 1) count j
]

module _ (limits : Limits) (n : ℕ) (harts banks : ℕ → List LogEntry) (is : IsRecord limits n harts banks) where
  -- who has an entry is a hart below the limit
  hart_below : (hart k : ℕ) → HasNumber k (harts hart) → hart < limits.harts
  hart_below hart k has = elim (leb_tells limits.harts hart) [
    | inl far ↦ absurd (subst (λ (l : List LogEntry). HasNumber k l) (is.no_hart hart far.1) has)
    | inr near ↦ omega (arith, near.1)
  ]

  one_of : (k : ℕ) → k < n → IsOne k (entries_of limits.harts harts)
  unfolding entries_of
  one_of k below =
      let once = is.once k below in
      let under = hart_below once.hart k once.here in
      one_in harts n k is.hart_numbers once 0 limits.harts (omega arith) (omega (arith, under))

  own : (e : LogEntry) → In e (entries_of limits.harts harts) → In e (harts e.event.hart.0)
  unfolding entries_of
  own e i =
      let some = of_some harts e 0 limits.harts i in
      subst (λ (h : ℕ). In e (harts h)) (sym (hart_of_it some.0 e (harts some.0) (is.own some.0) some.1)) some.1

  pub is_merge : IsMergeOf n harts (merged n (entries_of limits.harts harts))
  unfolding merged
  is_merge =
      let es = entries_of limits.harts harts in record {
        numbers = counts es n one_of 0 n (omega arith);
        all = counted es n one_of 0 n (omega arith);
        each = λ e i. own e (come es n one_of e 0 n i);
      }

-- The numbers of the events, and the events merged.

pub numbers_counted : (low : ℕ) (es : List LogEntry) → Counts low es → numbers_of (events_of es) ≡ range_with_len low (length (events_of es))
unfolding numbers_of
numbers_counted low [] c = refl
numbers_counted low (e ∷ es) c = ap (λ (ks : List ℕ). e.event.number ∷ ks) (numbers_counted (low + 1) es c.1) ∙ ap (λ k. k ∷ range_with_len (low + 1) (length (events_of es))) c.0

events_append : (xs ys : List LogEntry) → events_of (xs ++ ys) ≡ events_of xs ++ events_of ys
events_append [] ys = refl
events_append (x ∷ xs) ys = ap (λ (es : List Event). x.event ∷ es) (events_append xs ys)

filter_events : (k : ℕ) (es : List LogEntry) → filter (has_number k) (events_of es) ≡ events_of (filter (is_numbered k) es)
filter_events k [] = refl
filter_events k (e ∷ es) = by (e.event.number == k) (filter_events k es)
  where
    by : (b : Bool) → filter (has_number k) (events_of es) ≡ events_of (filter (is_numbered k) es)
        → cond b (e.event ∷ filter (has_number k) (events_of es)) (filter (has_number k) (events_of es)) ≡ events_of (cond b (e ∷ filter (is_numbered k) es) (filter (is_numbered k) es))
    by true rest = ap (λ (xs : List Event). e.event ∷ xs) rest
    by false rest = rest

merge_from : (es : List LogEntry) (low count : ℕ) → flat_map (λ k. filter (has_number k) (events_of es)) (range_with_len low count)
    ≡ events_of (flat_map (λ k. filter (is_numbered k) es) (range_with_len low count))
merge_from es low zero = refl
merge_from es low (suc count) =
    let more = flat_map (λ k. filter (has_number k) (events_of es)) (range_with_len (low + 1) count) in
    ap (λ (xs : List Event). xs ++ more) (filter_events low es)
    ∙ ap (λ (xs : List Event). events_of (filter (is_numbered low) es) ++ xs) (merge_from es (low + 1) count)
    ∙ sym (events_append (filter (is_numbered low) es) (flat_map (λ k. filter (is_numbered k) es) (range_with_len (low + 1) count)))

pub merge_events : (n : ℕ) (es : List LogEntry) → merge n (events_of es) ≡ events_of (merged n es)
unfolding merge merged
merge_events n es = merge_from es 0 n
