-- Turns, rounds and the end of a run.
use Rattle.std.proofs.Common.{◌≡◌, ℕ, ◌+◌, ◌<◌, ◌≤◌, zero, suc, Bool, true, false, ◌==◌, ◌&&◌, if◌then◌else◌, List, [], ◌∷◌, ◌++◌, length, ◌⊎◌, inl, inr, refl, ap, sym, ◌∙◌, arith, append_assoc}
use Rattle.std.proofs.lemmas.Bool.{cases_eq, cases_Bool, and_parts}
use Rattle.std.specs.Prelude.{is_some}
use Rattle.std.specs.List.{list_all, range_with_len}
use Rattle.flex_base.specs.Setup.{Setup}
use Rattle.flex_base.specs.State.{State}
use Rattle.flex_base.specs.StoryTree.{Want, Asks, Ends, IsOver, IsParked, Story, Says, Closes, StaysOver, Parks, want}
use Rattle.flex_base.specs.Unsplit.{Machine, story_of, want_of, next_of, resumes, is_woken_in, reply_to, step, reach_from, hart_numbers, is_over, is_idle, has_ended}
use Rattle.flex_base.specs.Devices.{device_stop}
use Rattle.flex_base.specs.Rounds.{turn, turn_of, turns}
use Rattle.flex_base.specs.declared.access.Access.{Access}
use Rattle.flex_base.specs.declared.access.Access.TheVariants as acc
use Rattle.flex_base.specs.declared.access.Reply.{Reply}
use Rattle.flex_base.specs.declared.event.EndPart.{EndPart}
use Rattle.flex_base.proofs.Machines.{reach-append, reach-none, story_after_access, story_after_park}

-- The story by what is wanted.

pub story_asks : (access : Access) (s : Story) → want s ≡ Asks access → (next : Reply → Story) × (s ≡ Says access next)
story_asks access (Says other next) e = let same : other ≡ access = cc in (next, ap (λ a. Says a next) same)
story_asks access (Closes part after) e = absurd cc
story_asks access StaysOver e = absurd cc
story_asks access (Parks wakes) e = absurd cc

pub story_ends : (part : EndPart) (after : State) (s : Story) → want s ≡ Ends part after → s ≡ Closes part after
story_ends part after (Says access next) e = cc
story_ends part after (Closes other left) e = cc
story_ends part after StaysOver e = cc
story_ends part after (Parks wakes) e = cc

pub story_over : (s : Story) → want s ≡ IsOver → s ≡ StaysOver
story_over (Says access next) e = cc
story_over (Closes other left) e = cc
story_over StaysOver e = refl
story_over (Parks wakes) e = cc

pub story_parks : (s : Story) → want s ≡ IsParked → (wakes : ℕ → Story) × (s ≡ Parks wakes)
story_parks (Says access next) e = absurd cc
story_parks (Closes other left) e = absurd cc
story_parks StaysOver e = absurd cc
story_parks (Parks wakes) e = (wakes, refl)

-- Turns by what the hart wants.

-- a turn goes on after an access
pub turn_of-asks : (setup : Setup) (u : Machine) (h : ℕ) (access : Access) → h < setup.harts → h < length u.harts → want_of setup u h ≡ Asks access
    → turn_of setup u h ≡ h ∷ turn_of setup (step setup u h) h
turn_of-asks setup u h access below within asks =
    let says = story_asks access (story_of setup u h) asks in
    ap (turn setup u h) says.1
    ∙ ap (λ s. h ∷ turn setup (step setup u h) h s) (sym (story_after_access setup u h access says.0 below within says.1))

pub turn_of-ends : (setup : Setup) (u : Machine) (h : ℕ) (part : EndPart) (after : State) → want_of setup u h ≡ Ends part after → turn_of setup u h ≡ h ∷ []
turn_of-ends setup u h part after ends = ap (turn setup u h) (story_ends part after (story_of setup u h) ends)

pub turn_of-over : (setup : Setup) (u : Machine) (h : ℕ) → want_of setup u h ≡ IsOver → turn_of setup u h ≡ []
turn_of-over setup u h over = ap (turn setup u h) (story_over (story_of setup u h) over)

pub turn_of-unwoken : (setup : Setup) (u : Machine) (h : ℕ) → want_of setup u h ≡ IsParked → is_woken_in setup u h ≡ false → turn_of setup u h ≡ []
turn_of-unwoken setup u h parked unwoken =
    let parks = story_parks (story_of setup u h) parked in
    ap (turn setup u h) parks.1 ∙ ap (λ b. if b then h ∷ (if (reply_to setup u h (acc.Pulse false)).stop then []
    else turn setup (step setup u h) h (parks.0 (reply_to setup u h (acc.Pulse false)).lines)) else []) unwoken

-- where the pulse is told 0, the turn goes on from where it leads
park_turns : (setup : Setup) (u : Machine) (h : ℕ) (wakes : ℕ → Story) (reply : Reply) (stop : Bool) → reply.value ≡ 0
    → (if stop then [] else turn setup u h (wakes reply.lines))
    ≡ turn setup u h (if stop then StaysOver else (if reply.value == 1 then Parks wakes else wakes reply.lines))
park_turns setup u h wakes reply true told = refl
park_turns setup u h wakes reply false told =
    ap (λ v. turn setup u h (if v == 1 then Parks wakes else wakes reply.lines)) (sym told)

-- the turn of a parked hart that is woken goes on after its pulse, which is told 0
pub turn_of-woken : (setup : Setup) (u : Machine) (h : ℕ) → h < setup.harts → h < length u.harts → want_of setup u h ≡ IsParked → is_woken_in setup u h ≡ true
    → (reply_to setup u h (acc.Pulse false)).value ≡ 0 → turn_of setup u h ≡ h ∷ turn_of setup (step setup u h) h
turn_of-woken setup u h below within parked woken told =
    let parks = story_parks (story_of setup u h) parked in
    let reply = reply_to setup u h (acc.Pulse false) in
    let v = step setup u h in
    ap (turn setup u h) parks.1
    ∙ ap (λ b. if b then h ∷ (if reply.stop then [] else turn setup v h (parks.0 reply.lines)) else []) woken
    ∙ ap (λ names. h ∷ names) (park_turns setup v h parks.0 reply reply.stop told)
    ∙ ap (λ s. h ∷ turn setup v h s) (sym (story_after_park setup u h parks.0 below within parks.1 woken))

turn_begins : (setup : Setup) (u : Machine) (h : ℕ) (woken : Bool) (s : Story) → is_woken_in setup u h ≡ woken → is_idle (resumes (want s) woken) ≡ false
    → (names : List ℕ) × (turn setup u h s ≡ h ∷ names)
turn_begins setup u h woken (Says access next) e busy = (turn setup (step setup u h) h (next (reply_to setup u h access)), refl)
turn_begins setup u h woken (Closes part after) e busy = ([], refl)
turn_begins setup u h woken StaysOver e busy = absurd cc
turn_begins setup u h true (Parks wakes) e busy =
    let reply = reply_to setup u h (acc.Pulse false) in
    let rest : List ℕ = if reply.stop then [] else turn setup (step setup u h) h (wakes reply.lines) in
    (rest, ap (λ b. if b then h ∷ rest else []) e)
turn_begins setup u h false (Parks wakes) e busy = absurd cc

-- a turn begins with the hart's name where it has a next event
pub turn_of-begins : (setup : Setup) (u : Machine) (h : ℕ) → is_idle (next_of setup u h) ≡ false → (names : List ℕ) × (turn_of setup u h ≡ h ∷ names)
turn_of-begins setup u h busy = turn_begins setup u h (is_woken_in setup u h) (story_of setup u h) refl busy

turn_none : (setup : Setup) (u : Machine) (h : ℕ) (woken : Bool) (s : Story) → is_woken_in setup u h ≡ woken → is_idle (resumes (want s) woken) ≡ true → turn setup u h s ≡ []
turn_none setup u h woken (Says access next) e idle = absurd cc
turn_none setup u h woken (Closes part after) e idle = absurd cc
turn_none setup u h woken StaysOver e idle = refl
turn_none setup u h true (Parks wakes) e idle = absurd cc
turn_none setup u h false (Parks wakes) e idle =
    let reply = reply_to setup u h (acc.Pulse false) in
    ap (λ b. if b then h ∷ (if reply.stop then [] else turn setup (step setup u h) h (wakes reply.lines)) else []) e

-- and is empty where it has none
pub turn_of-idle : (setup : Setup) (u : Machine) (h : ℕ) → is_idle (next_of setup u h) ≡ true → turn_of setup u h ≡ []
turn_of-idle setup u h idle = turn_none setup u h (is_woken_in setup u h) (story_of setup u h) refl idle

-- All harts.

below_suc : (a n h : ℕ) → a ≤ h → h < a + suc n → (h ≡ a) ⊎ ((a + 1 ≤ h) × (h < (a + 1) + n))
below_suc a n h from below = elim (cases_eq h a) [ inl same ↦ inl same | inr other ↦ inr (omega (arith, from, other), omega (arith, below)) ]

all_numbers : (p : ℕ → Bool) (a n : ℕ) → ((h : ℕ) → a ≤ h → h < a + n → p h ≡ true) → list_all p (range_with_len a n) ≡ true
all_numbers p a zero each = refl
all_numbers p a (suc n) each =
    ap (λ b. b && list_all p (range_with_len (a + 1) n)) (each a (omega arith) (omega arith))
    ∙ all_numbers p (a + 1) n (λ h from below. each h (omega (arith, from)) (omega (arith, below)))

and_none : (a : Bool) → (a && false) ≡ false
and_none true = refl
and_none false = refl

pub some_number : (p : ℕ → Bool) (a n h : ℕ) → a ≤ h → h < a + n → p h ≡ false → list_all p (range_with_len a n) ≡ false
some_number p a zero h from below e = absurd (omega (arith, from, below))
some_number p a (suc n) h from below e = elim (below_suc a n h from below) [
  | inl same ↦ ap (λ k. p k && list_all p (range_with_len (a + 1) n)) (sym same) ∙ ap (λ b. b && list_all p (range_with_len (a + 1) n)) e
  | inr later ↦ ap (λ b. p a && b) (some_number p (a + 1) n h later.0 later.1 e) ∙ and_none (p a)
]

-- a run in which a stop stands and each hart is over or parked has ended
pub ended_all : (setup : Setup) (u : Machine) → is_some (device_stop setup.harts u.devices) ≡ true
    → ((h : ℕ) → h < setup.harts → is_idle (want_of setup u h) ≡ true) → has_ended setup u ≡ true
ended_all setup u stops idle =
    ap (λ b. b && list_all (λ h. is_idle (want_of setup u h)) (hart_numbers setup)) stops
    ∙ all_numbers (λ h. is_idle (want_of setup u h)) 0 setup.harts (λ h from below. idle h (omega (arith, below)))

-- one in which some hart has an event by itself hasn't
pub ended_not : (setup : Setup) (u : Machine) (h : ℕ) → h < setup.harts → is_idle (want_of setup u h) ≡ false → has_ended setup u ≡ false
ended_not setup u h below busy =
    ap (λ b. is_some (device_stop setup.harts u.devices) && b) (some_number (λ k. is_idle (want_of setup u k)) 0 setup.harts h (omega arith) (omega (arith, below)) busy)
    ∙ and_none (is_some (device_stop setup.harts u.devices))

-- where the run has ended, each hart is over or parked
pub idle_ended : (setup : Setup) (u : Machine) (h : ℕ) → has_ended setup u ≡ true → h < setup.harts → is_idle (want_of setup u h) ≡ true
idle_ended setup u h ended below = elim (cases_Bool (is_idle (want_of setup u h))) [
  | inl idle ↦ idle
  | inr busy ↦ let not_yet = ended_not setup u h below busy in absurd cc
]

-- and a stop stands
pub stop_ended : (setup : Setup) (u : Machine) → has_ended setup u ≡ true → is_some (device_stop setup.harts u.devices) ≡ true
stop_ended setup u ended = (and_parts (is_some (device_stop setup.harts u.devices)) (list_all (λ h. is_idle (want_of setup u h)) (hart_numbers setup)) ended).0

pub over_by : (w : Want) → is_over w ≡ true → w ≡ IsOver
over_by (Asks access) e = absurd cc
over_by (Ends part after) e = absurd cc
over_by IsOver e = refl
over_by IsParked e = absurd cc

-- Rounds.

pub turns_ended : (setup : Setup) (u : Machine) (harts : List ℕ) → has_ended setup u ≡ true → turns setup u harts ≡ []
turns_ended setup u [] ended = refl
turns_ended setup u (h ∷ harts) ended = ap (λ b. if b then [] else turn_of setup u h ++ turns setup (reach_from setup u (turn_of setup u h)) harts) ended

pub turns_busy : (setup : Setup) (u : Machine) (h : ℕ) (harts : List ℕ) → has_ended setup u ≡ false
    → turns setup u (h ∷ harts) ≡ turn_of setup u h ++ turns setup (reach_from setup u (turn_of setup u h)) harts
turns_busy setup u h harts busy = ap (λ b. if b then [] else turn_of setup u h ++ turns setup (reach_from setup u (turn_of setup u h)) harts) busy

pub turns-append : (setup : Setup) (u : Machine) (xs ys : List ℕ) → turns setup u (xs ++ ys) ≡ turns setup u xs ++ turns setup (reach_from setup u (turns setup u xs)) ys
turns-append setup u [] ys = ap (λ m. turns setup m ys) (sym (reach-none setup u))
turns-append setup u (h ∷ xs) ys = elim (cases_Bool (has_ended setup u)) [
  | inl ended ↦
      turns_ended setup u (h ∷ (xs ++ ys)) ended
      ∙ sym (turns_ended setup u ys ended)
      ∙ ap (λ m. turns setup m ys) (sym (reach-none setup u))
      ∙ ap (λ names. names ++ turns setup (reach_from setup u names) ys) (sym (turns_ended setup u (h ∷ xs) ended))
  | inr busy ↦
      let first = turn_of setup u h in
      let v = reach_from setup u first in
      turns_busy setup u h (xs ++ ys) busy
      ∙ ap (λ names. first ++ names) (turns-append setup v xs ys)
      ∙ sym (append_assoc first (turns setup v xs) (turns setup (reach_from setup v (turns setup v xs)) ys))
      ∙ ap (λ m. (first ++ turns setup v xs) ++ turns setup m ys) (sym (reach-append setup u first (turns setup v xs)))
      ∙ ap (λ names. names ++ turns setup (reach_from setup u names) ys) (sym (turns_busy setup u h xs busy))
]
