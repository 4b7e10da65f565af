-- What is left of the logs of a journal, and the next event.
use Rattle.std.proofs.Common.{◌≡◌, ℕ, zero, suc, ◌+◌, ◌<◌, ◌≤◌, ◌%◌, ◌^◌, true, false, List, [], ◌∷◌, length, map, replicate, set, get_or, inl, inr, refl, sym, ap, subst, ◌∙◌, arith}
use Rattle.std.specs.Prelude.{Option, None, Some}
use Rattle.std.specs.Iterator.{YieldsFirst}
use Rattle.std.specs.List.{All}
use Rattle.std.proofs.lemmas.Bool.{cases_eq, cases_lt, eqb-true, eqb-false}
use Rattle.std.proofs.lemmas.List.{get_or_default, get_or-set_same, get_or-set_other, length-set, map-set}
use Rattle.flex_base.specs.declared.event.Event.{Event}
use Rattle.journal.specs.Log.{Log}
use Rattle.journal.specs.Merged.{AreLogsOf, of_hart}
use Rattle.journal.specs.Rests.{AreRests, IsByNumber, IsLeft, begins_with, events_left, is_in_range, merged}
use Rattle.journal.specs.declared.rest.Rest.{Rest}
use Rattle.journal.proofs.Merging.{at_least, first-number, merged-harts, of_hart-none, of_hart-other, of_hart-own, rest-numbered}

module _ (rests : List (List Event)) (count : ℕ) where
  merged-left : (left : List Event) (n : ℕ) → count ≤ length rests → IsLeft left n count rests → merged rests ≡ left
  merged-left left n few is = merged-harts n count rests left is.numbers few is.harts is.each

  -- the log that begins with the next number has the next event
  is_next : (left : List Event) (n at : ℕ) (x : Event) (xs : List Event) → IsLeft left n count rests → at < length rests
      → get_or rests at [] ≡ x ∷ xs → x.number ≤ n → (t : List Event) × (left ≡ x ∷ t) × (x.hart.0 ≡ at) × (xs ≡ of_hart at t)
  is_next [] n at x xs is within begins least =
      let none : [] ≡ x ∷ xs = sym (of_hart-none at) ∙ sym (is.each at within) ∙ begins in absurd cc
  is_next (e ∷ t) n at x xs is within begins least =
      let its : x ∷ xs ≡ of_hart at (e ∷ t) = sym begins ∙ is.each at within in
      elim (cases_eq e.hart.0 at) [
        | inl own ↦
            let same : x ∷ xs ≡ e ∷ of_hart at t = its ∙ of_hart-own at e t own in
            let first : x ≡ e = cc in
            let rest : xs ≡ of_hart at t = cc in
            (t, ap (λ y. y ∷ t) (sym first), ap (λ (y : Event). y.hart.0) first ∙ own, rest)
        | inr other ↦
            absurd (omega (arith, least, at_least (n + 1) at t x xs (rest-numbered n e t is.numbers) (sym (its ∙ of_hart-other at e t other))))
      ]

  -- without the next event
  is_left-taken : (x : Event) (t : List Event) (n at : ℕ) → IsLeft (x ∷ t) n count rests → at < length rests → x.hart.0 ≡ at
      → IsLeft t (n + 1) count (set rests at (of_hart at t))
  is_left-taken x t n at is within own = record {
    numbers = rest-numbered n x t is.numbers;
    harts = λ k d below. is.harts (suc k) d (omega (arith, below));
    each = λ h below. elim (cases_eq h at) [
      | inl same ↦ ap (λ k. get_or (set rests at (of_hart at t)) k []) same ∙ get_or-set_same rests at (of_hart at t) [] within ∙ ap (λ k. of_hart k t) (sym same)
      | inr other ↦
          get_or-set_other rests at h (of_hart at t) [] other ∙ is.each h (omega (arith, below, length-set rests at (of_hart at t)))
          ∙ of_hart-other h x t (λ here. other (sym here ∙ own))
    ];
  }

  module _ (last number : ℕ) (is : IsByNumber rests count last number) where
    few : count ≤ length rests
    few = omega (arith, is.size, is.few)

    -- the first of a log that begins with the number is taken
    pub taken : (at : ℕ) (x : Event) (xs : List Event) → at < 32 → begins_with number (get_or rests at []) ≡ true → get_or rests at [] ≡ x ∷ xs
        → (merged rests ≡ x ∷ merged (set rests at xs)) × IsByNumber (set rests at xs) count at ((number + 1) % 2 ^ 64)
    taken at x xs below begins it =
        let (left, next, is_left, numbered) = is.left in
        let within : at < length rests = omega (arith, below, is.size) in
        let first : x.number ≡ number = eqb-true x.number number (sym (ap (begins_with number) it) ∙ begins) in
        let least : x.number ≤ next = omega (arith, first, numbered) in
        let (t, all, own, rest) = is_next left next at x xs is_left within it least in
        let now : IsLeft (x ∷ t) next count rests = subst (λ (es : List Event). IsLeft es next count rests) all is_left in
        let after : IsLeft t (next + 1) count (set rests at xs) =
        subst (λ (es : List Event). IsLeft t (next + 1) count (set rests at es)) (sym rest) (is_left-taken x t next at now within own) in
        let size : length (set rests at xs) ≡ 32 = length-set rests at xs ∙ is.size in
        let old : merged rests ≡ x ∷ t = merged-left (x ∷ t) next few now in
        let new : merged (set rests at xs) ≡ t = merged-harts (next + 1) count (set rests at xs) t after.numbers (omega (arith, size, is.few)) after.harts after.each in (
          old ∙ ap (λ (es : List Event). x ∷ es) (sym new),
          record { size = size; few = is.few; within = below; left = (t, next + 1, after, omega (arith, numbered)) },
        )

    -- where no log begins with the number, none has an event
    pub none_left : ((h : ℕ) → h < count → (begins_with number (get_or rests h []) ≡ false) × is_in_range (get_or rests h [])) → merged rests ≡ []
    none_left none =
        let (left, next, is_left, numbered) = is.left in
        merged-left left next few is_left ∙ empty left next is_left numbered
      where
        empty : (left : List Event) (next : ℕ) → IsLeft left next count rests → number ≡ next % 2 ^ 64 → left ≡ []
        empty [] next is_left numbered = refl
        empty (e ∷ t) next is_left numbered =
            let at : ℕ = e.hart.0 in
            let below : at < count = is_left.harts 0 e (omega arith) in
            let its : get_or rests at [] ≡ e ∷ of_hart at t = is_left.each at (omega (arith, below, few)) ∙ of_hart-own at e t refl in
            let range : e.number < 2 ^ 64 = subst is_in_range its (none at below).1 in
            let other : e.number ≡ number → ⊥ = eqb-false e.number number (sym (ap (begins_with number) its) ∙ (none at below).0) in
            absurd (other (omega (arith, first-number next e t is_left.numbers, range, numbered)))

-- no event is of a hart past the last
of_hart-past : (count hart : ℕ) (es : List Event) → count ≤ hart → All (λ (e : Event). e.hart.0 < count) es → of_hart hart es ≡ []
of_hart-past count hart [] past harts = of_hart-none hart
of_hart-past count hart (e ∷ es) past harts =
    let below : e.hart.0 < count = harts 0 e (omega arith) in
    of_hart-other hart e es (λ same. omega (arith, same, past, below)) ∙ of_hart-past count hart es past (λ k d in_it. harts (suc k) d (omega (arith, in_it)))

get_or-empty : (n h : ℕ) → get_or {A = List Event} (replicate n []) h [] ≡ []
get_or-empty zero h = refl
get_or-empty (suc n) zero = refl
get_or-empty (suc n) (suc h) = get_or-empty n h

-- before any log is read
pub are_rests-none : (logs : List Log) → AreRests 0 logs (replicate 32 [])
are_rests-none logs = record { size = refl; within = λ h other below. absurd (omega (arith, below)); past = λ h from. get_or-empty 32 h }

-- one log more
pub are_rests-more : (n : ℕ) (logs : List Log) (rests : List Rest) (rest : Rest) (log : Log) → n < 32 → n < length logs → get_or logs n log ≡ log
    → events_left rest ≡ log.events → AreRests n logs (map events_left rests) → AreRests (n + 1) logs (map events_left (set rests n rest))
are_rests-more n logs rests rest log below known its is_log before =
    let old : List (List Event) = map events_left rests in
    let new : map events_left (set rests n rest) ≡ set old n (events_left rest) = map-set events_left rests n rest in
    let within : n < length old = omega (arith, below, before.size) in
    subst (λ (rs : List (List Event)). AreRests (n + 1) logs rs) (sym new) (record {
      size = length-set old n (events_left rest) ∙ before.size;
      within = λ h other in_it. elim (cases_eq h n) [
        | inl same ↦
            ap (λ k. get_or (set old n (events_left rest)) k []) same ∙ get_or-set_same old n (events_left rest) [] within ∙ is_log
            ∙ ap (λ (l : Log). l.events) (sym its ∙ get_or_default logs n log other known ∙ ap (λ k. get_or logs k other) (sym same))
        | inr apart ↦ get_or-set_other old n h (events_left rest) [] apart ∙ before.within h other (omega (arith, in_it, apart))
      ];
      past = λ h from. get_or-set_other old n h (events_left rest) [] (λ same. omega (arith, same, from)) ∙ before.past h (omega (arith, from));
    })

module _ (journal : List Event) (logs : List Log) (are : AreLogsOf journal logs) (rests : List (List Event)) (whole : AreRests (length logs) logs rests) where
  is_left-whole : IsLeft journal 0 (length logs) rests
  is_left-whole = record {
    numbers = are.numbers;
    harts = are.harts;
    each = λ h below. elim (cases_lt h (length logs)) [
      | inl within ↦ let other : Log = record { events = []; room = 0 } in whole.within h other within ∙ are.each h other within
      | inr past ↦ whole.past h past ∙ sym (of_hart-past (length logs) h journal past are.harts)
    ];
  }

  pub merged-whole : merged rests ≡ journal
  merged-whole = merged-left rests (length logs) journal 0 (omega (arith, whole.size, are.few)) is_left-whole

  pub is_by_number-whole : IsByNumber rests (length logs) 0 0
  is_by_number-whole = record { size = whole.size; few = are.few; within = omega arith; left = (journal, 0, is_left-whole, omega arith) }

-- what is read of a log that begins with a number
pub yields_next : (number : ℕ) (old new : List Event) (r : Option Event) → YieldsFirst (λ (rest : List Event). rest) old r new
    → begins_with number old ≡ true → (x : Event) × (r ≡ Some x) × (old ≡ x ∷ new)
yields_next number old new None yields begins = let none : false ≡ true = sym (ap (begins_with number) yields.0) ∙ begins in absurd cc
yields_next number old new (Some x) yields begins = (x, refl, yields)
