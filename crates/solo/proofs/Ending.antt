-- The end of a run: the logs, whose numbers are now known, and the memory.
use Rattle.std.proofs.Common.{◌≡◌, ℕ, ◌+◌, ◌<◌, ◌≤◌, suc, Bool, true, false, ◌==◌, if◌then◌else◌, List, [], ◌∷◌, length, refl, ap, sym, subst, ◌∙◌, arith, eq-eqb}
use Rattle.std.proofs.lemmas.Bool.{ne_eqb}
use Rattle.flex_base.specs.declared.event.Event.{Event}
use Rattle.access_record.specs.declared.entry.LogEntry.{LogEntry}
use Rattle.access_record.specs.Logs.{Ascends, sum_below}
use Rattle.access_record.specs.Buses.{events_of}
use Rattle.access_record.proofs.Totals.{sum_below-same, sum_below-put, sum_below-none}
use Rattle.journal.specs.Merged.{of_hart}
use Rattle.solo.specs.Rising.{Rises, numbered_from, AreOfHarts}
use Rattle.solo.proofs.Rising.{rises_numbered}
use Rattle.journal.proofs.Merging.{of_hart-none}
use Rattle.solo.proofs.HartParts.{of_hart-cons}

-- Numbers below the count of the record.

abbrev pub AreBelow : ℕ → List Event → Type 0
AreBelow n [] = Unit {0}
AreBelow n (e ∷ events) = (e.number < n) × AreBelow n events

ascends_within : (low high : ℕ) (log : List LogEntry) → Ascends low high log → low ≤ high
ascends_within low high [] ascends = ascends
ascends_within low high (e ∷ log) ascends = omega (arith, ascends.0, ascends_within (suc e.event.number) high log ascends.1)

pub ascends_below : (low high : ℕ) (log : List LogEntry) → Ascends low high log → AreBelow high (events_of log)
ascends_below low high [] ascends = tt
ascends_below low high (e ∷ log) ascends = (omega (arith, ascends_within (suc e.event.number) high log ascends.1), ascends_below (suc e.event.number) high log ascends.1)

-- what is below in each hart's part is below
part_first : (n h : ℕ) (e : Event) (events : List Event) → e.hart.0 ≡ h → AreBelow n (of_hart h (e ∷ events)) → e.number < n
part_first n h e events own below =
    let At : List Event → Type 0 = λ es. AreBelow n es in
    (subst At (of_hart-cons h e events ∙ ap (λ b. if b then e ∷ of_hart h events else of_hart h events) (eq-eqb e.hart.0 h own)) below).0

part_rest : (n h : ℕ) (e : Event) (events : List Event) → AreBelow n (of_hart h (e ∷ events)) → AreBelow n (of_hart h events)
part_rest n h e events below =
    let At : List Event → Type 0 = λ es. AreBelow n es in
    by (e.hart.0 == h) (subst At (of_hart-cons h e events) below)
  where
    by : (b : Bool) → AreBelow n (if b then e ∷ of_hart h events else of_hart h events) → AreBelow n (of_hart h events)
    by true has = has.1
    by false has = has

pub all_below : (n harts : ℕ) (events : List Event) → AreOfHarts harts events → ((h : ℕ) → h < harts → AreBelow n (of_hart h events)) → AreBelow n events
all_below n harts [] are each = tt
all_below n harts (e ∷ events) are each = (
  part_first n e.hart.0 e events refl (each e.hart.0 are.0),
  all_below n harts events are.1 (λ h below. part_rest n h e events (each h below)),
)

-- How many events there are.

sum_none : (n : ℕ) → sum_below n (λ h. length (of_hart h [])) ≡ 0
sum_none n = sum_below-same n (λ h. length (of_hart h [])) (λ h. 0) (λ h below. ap (λ (es : List Event). length es) (of_hart-none h)) ∙ sum_below-none n

pub sum_parts : (harts : ℕ) (events : List Event) → AreOfHarts harts events → sum_below harts (λ h. length (of_hart h events)) ≡ length events
sum_parts harts [] are = sum_none harts
sum_parts harts (e ∷ events) are =
    let own : length (of_hart e.hart.0 (e ∷ events)) ≡ length (of_hart e.hart.0 events) + 1 =
    ap (λ (es : List Event). length es) (of_hart-cons e.hart.0 e events)
    ∙ ap (λ b. length (if b then e ∷ of_hart e.hart.0 events else of_hart e.hart.0 events)) (eq-eqb e.hart.0 e.hart.0 refl)
    ∙ omega arith in
    let more = sum_below-put harts (λ h. length (of_hart h (e ∷ events))) (λ h. length (of_hart h events)) e.hart.0 are.0 (λ k other.
    ap (λ (es : List Event). length es) (of_hart-cons k e events)
    ∙ ap (λ b. length (if b then e ∷ of_hart k events else of_hart k events)) (ne_eqb e.hart.0 k (λ same. other (sym same)))) in
    omega (arith, more, own, sum_parts harts events are.1)

rises_under : (low high n : ℕ) (events : List Event) → Rises low high events → AreBelow n events → low ≤ n → Rises low n events
rises_under low high n [] rises below under = under
rises_under low high n (e ∷ events) rises below under = (rises.0, rises_under (suc e.number) high n events rises.1 below.1 (omega (arith, below.0)))

-- Where the numbers rise, are below n, and are n, they are 0, 1, 2 and so on.
pub numbers_known : (harts high n : ℕ) (made : List Event) → Rises 0 high made → AreOfHarts harts made
    → ((h : ℕ) → h < harts → AreBelow n (of_hart h made)) → n ≡ sum_below harts (λ h. length (of_hart h made))
    → (numbered_from 0 made ≡ made) × Rises 0 (length made) made
numbers_known harts high n made rises are below count =
    let all = count ∙ sum_parts harts made are in
    let zero_on : n ≡ 0 + length made = omega (arith, all) in
    let From : ℕ → Type 0 = λ m. Rises 0 m made in
    let under = rises_under 0 high n made rises (all_below n harts made are below) (omega arith) in
    (rises_numbered 0 made (subst From zero_on under), subst From all under)
