-- Packed events beside the events that they stand for.
use Rattle.std.proofs.Common.{◌≡◌, ℕ, suc, ◌+◌, ◌-◌, false, if◌then◌else◌, List, [], ◌∷◌, ◌++◌, length, slice_index, count_by, refl, ap, ◌∙◌, inl, inr, arith, length-append}
use Rattle.std.proofs.lemmas.Bool.{cases_Bool}
use Rattle.std.proofs.lemmas.List.Sums.{sum_by-cons}
use Rattle.flex_base.specs.declared.event.Event.{Event}
use Rattle.journal.specs.Log.{Log}
use Rattle.journal.specs.Packing.{view_of, is_beside, event_by, event_of, events_of, beside_after, last_number}
use Rattle.journal.specs.declared.kept.Kept.{Kept}
use Rattle.journal.specs.declared.kept.Last.{Last}
use Rattle.journal.specs.declared.kept.Last.TheVariants as last

pub length-events_of : (ks : List Kept) (beside : List ℕ) → length (events_of ks beside) ≡ length ks
length-events_of [] beside = refl
length-events_of (k ∷ ks) beside = ap (λ n. suc n) (length-events_of ks (beside_after k beside))

-- how many of the events have their last number beside them
abbrev pub besides : List Kept → ℕ
besides ks = count_by (λ (k : Kept). is_beside k.last) ks

besides-cons : (k : Kept) (ks : List Kept) → besides (k ∷ ks) ≡ (if is_beside k.last then 1 else 0) + besides ks
besides-cons k ks = sum_by-cons (λ (x : Kept). if is_beside x.last then 1 else 0) k ks

-- what an event more puts beside
abbrev pub more_beside : Kept → ℕ → List ℕ
more_beside k n = if is_beside k.last then n ∷ [] else []

-- the first number beside is that of the only event, if any
last_number-only : (l : Last) (n : ℕ) → last_number l (slice_index (if is_beside l then n ∷ [] else []) 0) ≡ last_number l n
last_number-only (last.Small m) n = refl
last_number-only (last.Interrupt m) n = refl
last_number-only last.Beside n = refl

-- a small last number is the same whatever stands beside
last_number-small : (l : Last) (m n : ℕ) → is_beside l ≡ false → last_number l m ≡ last_number l n
last_number-small (last.Small k) m n small = refl
last_number-small (last.Interrupt k) m n small = refl
last_number-small last.Beside m n small = absurd cc

-- an event more, with its last number beside where that isn't small
pub events_of-push : (ks : List Kept) (beside : List ℕ) (k : Kept) (n : ℕ) → length beside ≡ besides ks
    → events_of (ks ++ k ∷ []) (beside ++ more_beside k n) ≡ events_of ks beside ++ event_of k n ∷ []
events_of-push [] [] k n told = ap (λ m. event_by k m ∷ []) (last_number-only k.last n)
events_of-push [] (b ∷ bs) k n told = absurd (omega (arith, told))
events_of-push (x ∷ ks) [] k n told =
    let count = told ∙ besides-cons x ks in
    elim (cases_Bool (is_beside x.last)) [
      | inl is ↦ absurd (omega (arith, rw is at count))
      | inr small ↦
          let head = ap (event_by x) (last_number-small x.last (slice_index (more_beside k n) 0) 0 small) in
          rw (small, head) (ap (λ es. event_of x 0 ∷ es) (events_of-push ks [] k n (omega (arith, rw small at count))))
    ]
events_of-push (x ∷ ks) (b ∷ bs) k n told =
    let count = told ∙ besides-cons x ks in
    elim (cases_Bool (is_beside x.last)) [
      | inl is ↦ rw is (ap (λ es. event_of x b ∷ es) (events_of-push ks bs k n (omega (arith, rw is at count))))
      | inr small ↦ rw small (ap (λ es. event_of x b ∷ es) (events_of-push ks (b ∷ bs) k n (omega (arith, rw small at count))))
    ]

pub more_beside-beside : (k : Kept) (n : ℕ) → k.last ≡ last.Beside → more_beside k n ≡ n ∷ []
more_beside-beside k n is = rw is refl

small_by : (l : Last) → (l ≡ last.Beside → ⊥) → is_beside l ≡ false
small_by (last.Small n) other = refl
small_by (last.Interrupt n) other = refl
small_by last.Beside other = absurd (other refl)

pub more_beside-small : (k : Kept) (n : ℕ) → (k.last ≡ last.Beside → ⊥) → more_beside k n ≡ []
more_beside-small k n other = rw (small_by k.last other) refl

-- the log with an event more
pub pushed : (old : Log) (event : Event) (ks : List Kept) (beside : List ℕ) (whole : ℕ) (k : Kept) (n : ℕ) (new_ks : List Kept) (new_beside : List ℕ)
    → view_of ks beside whole ≡ old → length beside ≡ besides ks → event_of k n ≡ event
    → new_ks ≡ ks ++ k ∷ [] → new_beside ≡ beside ++ more_beside k n
    → view_of new_ks new_beside whole ≡ record { events = old.events ++ event ∷ []; room = old.room - 1 }
pushed old event ks beside whole k n new_ks new_beside was told is kept put =
    let log : List Event → ℕ → Log = λ events room. record { events = events; room = room } in
    let events : events_of new_ks new_beside ≡ old.events ++ event ∷ [] =
    (λ i. events_of (kept i) (put i)) ∙ events_of-push ks beside k n told ∙ (λ i. (was i).events ++ is i ∷ []) in
    let size : length new_ks ≡ length ks + 1 = ap length kept ∙ length-append ks (k ∷ []) in
    let room : whole - length new_ks ≡ old.room - 1 = omega (arith, size, ap (λ (l : Log). l.room) was) in
    λ i. log (events i) (room i)
