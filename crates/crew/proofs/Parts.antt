-- The parts of the merged entries: that of each hart is its log, and that of each bank is the bank's.
use Rattle.std.proofs.Common.{◌≡◌, inl, inr, ℕ, suc, ◌+◌, ◌<◌, ◌≤◌, List, [], ◌∷◌, length, refl, sym, ◌∙◌, subst, arith, eq-eqb}
use Rattle.std.specs.List.{filter}
use Rattle.std.proofs.lemmas.Bool.{cases_eq, eqb-true}
use Rattle.access_record.specs.declared.limits.Limits.{Limits}
use Rattle.access_record.specs.declared.entry.LogEntry.{LogEntry}
use Rattle.access_record.specs.Logs.{names_hart, names_bank, of_hart, on_bank, Ascends, IsRecord}
use Rattle.crew.specs.Merging.{entries_of, merged}
use Rattle.crew.proofs.Ascending.{In, in_below, in_filter, from_filter, ascends_filter, same_ascending, same_number, in_number, hart_of_it}
use Rattle.crew.proofs.Numbered.{Counts, IsMergeOf, is_merge}

counts_ascends : (low : ℕ) (xs : List LogEntry) → Counts low xs → Ascends low (low + length xs) xs
counts_ascends low [] c = omega arith
counts_ascends low (x ∷ xs) c =
    let rest = counts_ascends (low + 1) xs c.1 in
    let next : low + 1 ≡ suc x.event.number = omega (arith, c.0) in
    let end : low + 1 + length xs ≡ low + length (x ∷ xs) = omega arith in
    let Rest : ℕ × ℕ → Type 0 = λ p. Ascends p.0 p.1 xs in
    (omega (arith, c.0), subst Rest (λ i. (next i, end i)) rest)

record IsFound (k : ℕ) (xs : List LogEntry) : Type 0 where
  pub entry : LogEntry
  pub there : In entry xs
  pub number : entry.event.number ≡ k

counts_find : (low : ℕ) (xs : List LogEntry) (k : ℕ) → Counts low xs → low ≤ k → k < low + length xs → IsFound k xs
counts_find low [] k c le lt = absurd (omega (arith, le, lt))
counts_find low (x ∷ xs) k c le lt = elim (cases_eq low k) [
  | inl same ↦ record { entry = x; there = inl refl; number = c.0 ∙ same }
  | inr apart ↦
      let more : low + 1 ≤ k = omega (arith, le, apart) in
      let fits : k < low + 1 + length xs = omega (arith, lt) in
      let rest = counts_find (low + 1) xs k c.1 more fits in
      record { entry = rest.entry; there = inr rest.there; number = rest.number }
]

module _ (limits : Limits) (n : ℕ) (harts banks : ℕ → List LogEntry) (is : IsRecord limits n harts banks) (es : List LogEntry) (merge : IsMergeOf n harts es) where
  ascends : Ascends 0 n es
  ascends = let all : 0 + length es ≡ n = omega (arith, merge.all) in subst (λ (m : ℕ). Ascends 0 m es) all (counts_ascends 0 es merge.numbers)

  -- each entry of a hart's log is among the merged ones
  all_here : (hart : ℕ) (e : LogEntry) → In e (harts hart) → In e es
  all_here hart e i =
      let below = in_below 0 n e (harts hart) (is.hart_numbers hart) i in
      let within : e.event.number < 0 + length es = omega (arith, below, merge.all) in
      let found = counts_find 0 es e.event.number merge.numbers (omega arith) within in
      let d = found.entry in
      let there = merge.each d found.there in
      let once = is.once e.event.number below in
      let of_it : d.event.hart.0 ≡ hart = once.alone d.event.hart.0 (in_number e.event.number d (harts d.event.hart.0) there found.number)
      ∙ sym (once.alone hart (in_number e.event.number e (harts hart) i refl)) in
      let same : d ≡ e = same_number 0 n (harts hart) d e (is.hart_numbers hart) (subst (λ (h : ℕ). In d (harts h)) of_it there) i found.number in
      subst (λ (z : LogEntry). In z es) same found.there

  pub hart_part : (hart : ℕ) → of_hart hart es ≡ harts hart
  unfolding of_hart
  hart_part hart = same_ascending 0 n (filter (names_hart hart) es) (harts hart) (ascends_filter (names_hart hart) 0 n es ascends) (is.hart_numbers hart)
      (λ e i. (let f = from_filter (names_hart hart) e es i in subst (λ (h : ℕ). In e (harts h)) (eqb-true e.event.hart.0 hart f.1) (merge.each e f.0)))
      (λ e i. in_filter (names_hart hart) e es (all_here hart e i) (eq-eqb e.event.hart.0 hart (hart_of_it hart e (harts hart) (is.own hart) i)))

  pub bank_part : (bank : ℕ) → on_bank bank es ≡ banks bank
  unfolding on_bank of_hart
  bank_part bank = same_ascending 0 n (filter (names_bank bank) es) (banks bank) (ascends_filter (names_bank bank) 0 n es ascends) (is.bank_numbers bank)
      (λ e i. (let f = from_filter (names_bank bank) e es i in
      let there : In e (filter (names_bank bank) (harts e.event.hart.0)) = in_filter (names_bank bank) e (harts e.event.hart.0) (merge.each e f.0) f.1 in
      (from_filter (names_hart e.event.hart.0) e (banks bank) (subst (λ (l : List LogEntry). In e l) (is.matched e.event.hart.0 bank) there)).0))
      (λ e i. (let there : In e (filter (names_hart e.event.hart.0) (banks bank)) = in_filter (names_hart e.event.hart.0) e (banks bank) i (eq-eqb e.event.hart.0 e.event.hart.0 refl) in
      let f = from_filter (names_bank bank) e (harts e.event.hart.0) (subst (λ (l : List LogEntry). In e l) (sym (is.matched e.event.hart.0 bank)) there) in
      in_filter (names_bank bank) e es (all_here e.event.hart.0 e f.0) f.1))

pub part_of_hart : (limits : Limits) (n : ℕ) (harts banks : ℕ → List LogEntry) (hart : ℕ) → IsRecord limits n harts banks
    → of_hart hart (merged n (entries_of limits.harts harts)) ≡ harts hart
part_of_hart limits n harts banks hart is =
    hart_part limits n harts banks is (merged n (entries_of limits.harts harts)) (is_merge limits n harts banks is) hart

pub part_of_bank : (limits : Limits) (n : ℕ) (harts banks : ℕ → List LogEntry) (bank : ℕ) → IsRecord limits n harts banks
    → on_bank bank (merged n (entries_of limits.harts harts)) ≡ banks bank
part_of_bank limits n harts banks bank is =
    bank_part limits n harts banks is (merged n (entries_of limits.harts harts)) (is_merge limits n harts banks is) bank
