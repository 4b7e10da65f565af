-- Laws of the devices, in their own words.
use Rattle.std.proofs.Common.{◌≡◌, ℕ, zero, suc, ◌⊎◌, ◌||◌, ◌==◌, ◌<◌, Bool, true, false, ◌&&◌, if◌then◌else◌, nat_lt, List, [], ◌∷◌, ◌++◌, map, length, slice_set, slice_index_or, Option, None, Some, inl, inr, refl, ap, sym, subst, ◌∙◌, arith}
use Rattle.std.specs.Prelude.{is_some}
use Rattle.std.proofs.lemmas.Bool.Decides.{nat_tests}
use Rattle.std.specs.List.{fold, list_all}
use Rattle.std.proofs.lemmas.Bool.{cases_Bool, and_cases, and_right, or_right}
use Rattle.std.proofs.lemmas.List.{length-map, length-set, length-replicate}
use Rattle.std.proofs.lemmas.List.Sums.{fold-append}
use Rattle.flex_base.specs.FlatMemory.{Done}
use Rattle.flex_base.specs.Word.{low, field, is_set}
use Rattle.flex_base.specs.Causes.{MSI, MTI}
use Rattle.flex_base.specs.Devices.{DeviceState, hart_at, set_hart, hart_start, is_timer_pending, is_interrupted, wakes, wakes_hart, wakes_standing, is_at_rest, is_unwoken, is_spent, is_woken, all_at_rest, some_unwoken, all_spent, stands_as, runs_if_woken, stops, first_stop, Register, Finisher, Msip, Mtimecmp, Mtime, register_at, stores, finishes, FINISHER_PASS, FINISHER_FAIL, never, alarm_of, next_alarm, jumps_to, rests, spends, next_mtime, device_step, devices, devices_start, device_stop}
use Rattle.flex_base.specs.DeviceLaws.{AreBelow, IsLive, KeepsStop}
use Rattle.flex_base.proofs.Alarms.{alarm_tells, alarm_of_some}
use Rattle.flex_base.specs.declared.access.Access.{Access}
use Rattle.flex_base.specs.declared.access.Access.TheVariants as acc
use Rattle.flex_base.specs.declared.event.Stop.{Stop}
use Rattle.flex_base.specs.declared.event.Stop.TheVariants as stop
use Rattle.flex_base.specs.declared.hart_device.HartDevice.{HartDevice}
use Rattle.flex_base.specs.declared.hart_device.HartStanding.{HartStanding}
use Rattle.flex_base.specs.declared.hart_device.HartStanding.TheVariants as stand

-- No access adds or drops a hart.

abbrev pub harts_in : DeviceState → ℕ
harts_in s = length s.harts

pub harts-wakes : (s : DeviceState) → harts_in (wakes s) ≡ harts_in s
harts-wakes s = length-map s.harts (wakes_hart s.mtime)

pub harts-set_hart : (s : DeviceState) (h : ℕ) (own : HartDevice) → harts_in (set_hart s h own) ≡ harts_in s
harts-set_hart s h own = length-set s.harts h own

harts-if : (n : ℕ) (b : Bool) (s t : DeviceState) → harts_in s ≡ n → harts_in t ≡ n → harts_in (if b then s else t) ≡ n
harts-if n true s t first second = first
harts-if n false s t first second = second

pub harts-runs_if_woken : (s : DeviceState) (h : ℕ) → harts_in (runs_if_woken s h) ≡ harts_in s
harts-runs_if_woken s h = harts-if (harts_in s) (is_woken (hart_at s h).standing) (stands_as s h stand.Runs) s (harts-set_hart s h _) refl

harts-jumps_to : (s : DeviceState) (time : Option ℕ) → harts_in (jumps_to s time) ≡ harts_in s
harts-jumps_to s (Some time) = harts-wakes (record s { mtime = time })
harts-jumps_to s None = refl

pub harts-rests : (s : DeviceState) → harts_in (rests s) ≡ harts_in s
harts-rests s = harts-if (harts_in s) ((all_at_rest s.harts && some_unwoken s.harts)) (jumps_to s (next_alarm s.harts)) s (harts-jumps_to s (next_alarm s.harts)) refl

pub harts-spends : (s : DeviceState) → harts_in (spends s) ≡ harts_in s
harts-spends s = harts-if (harts_in s) (all_spent s.harts) (stops s stop.Budget) s refl refl

harts-finishes : (s : DeviceState) (value : ℕ) → harts_in (finishes s value) ≡ harts_in s
harts-finishes s value =
    let code = field 16 16 value in
    let by_code = low 16 value == FINISHER_FAIL in
    harts-if (harts_in s) (low 16 value == FINISHER_PASS) (stops s (stop.Off 0)) (if by_code then stops s (stop.Off code) else s) refl
    (harts-if (harts_in s) by_code (stops s (stop.Off code)) s refl refl)

pub harts-stores : (s : DeviceState) (r : Register) (address width value : ℕ) → harts_in (stores s r address width value) ≡ harts_in s
harts-stores s Finisher address width value = harts-finishes s value
harts-stores s (Msip h) address width value = harts-set_hart s h _
harts-stores s (Mtimecmp h) address width value = harts-set_hart s h _
harts-stores s Mtime address width value = refl
harts-stores s register address width value = refl

pub harts-step : (s : DeviceState) (h : ℕ) (access : Access) → harts_in (device_step s h access) ≡ harts_in s
harts-step s h (acc.Pulse tick) =
    let now : DeviceState = record s { mtime = next_mtime s.mtime tick } in
    harts-wakes (runs_if_woken now h) ∙ harts-runs_if_woken now h
harts-step s h (acc.Wait mie) =
    let now = stands_as s h (stand.Waits mie) in
    harts-runs_if_woken (rests (wakes now)) h ∙ harts-rests (wakes now) ∙ harts-wakes now ∙ harts-set_hart s h _
harts-step s h acc.Retire =
    let now = stands_as s h stand.Spent in
    harts-rests (spends (wakes now)) ∙ harts-spends (wakes now) ∙ harts-wakes now ∙ harts-set_hart s h _
harts-step s h (acc.DevWrite address width value) =
    let now = stores s (register_at address) address width value in
    harts-wakes now ∙ harts-stores s (register_at address) address width value
harts-step s h other = harts-wakes s

-- While no stop stands, some hart runs or is woken.

first_stands : (old : Option Stop) (new : Stop) → is_some (first_stop old new) ≡ true
first_stands None new = refl
first_stands (Some old) new = refl

-- one element that fails
fails_set : (p : HartDevice → Bool) (xs : List HartDevice) (h : ℕ) (y : HartDevice) → h < length xs → p y ≡ false → list_all p (slice_set xs h y) ≡ false
fails_set p [] h y within e = absurd (omega (arith, within))
fails_set p (x ∷ xs) zero y within e = ap (λ b. b && list_all p xs) e
fails_set p (x ∷ xs) (suc h) y within e = and_right (p x) (list_all p (slice_set xs h y)) (fails_set p xs h y (omega (arith, within)) e)

-- a list that fails goes on failing where one that fails is written
still_set : (p : HartDevice → Bool) (xs : List HartDevice) (h : ℕ) (y : HartDevice) → list_all p xs ≡ false → p y ≡ false → list_all p (slice_set xs h y) ≡ false
still_set p [] h y none e = absurd cc
still_set p (x ∷ xs) zero y none e = ap (λ b. b && list_all p xs) e
still_set p (x ∷ xs) (suc h) y none e = elim (and_cases (p x) (list_all p xs) none) [
  | inl here ↦ ap (λ b. b && list_all p (slice_set xs h y)) here
  | inr later ↦ and_right (p x) (list_all p (slice_set xs h y)) (still_set p xs h y later e)
]

-- a write that the test can't tell
same_set : (p : HartDevice → Bool) (xs : List HartDevice) (h : ℕ) (y d : HartDevice) → p y ≡ p (slice_index_or xs h d) → list_all p (slice_set xs h y) ≡ list_all p xs
same_set p [] h y d e = refl
same_set p (x ∷ xs) zero y d e = ap (λ b. b && list_all p xs) e
same_set p (x ∷ xs) (suc h) y d e = ap (λ b. p x && b) (same_set p xs h y d e)

-- what fails before a map that keeps failing fails after
fails_map : (p : HartDevice → Bool) (f : HartDevice → HartDevice) → ((x : HartDevice) → p x ≡ false → p (f x) ≡ false) → (xs : List HartDevice) → list_all p xs ≡ false → list_all p (map f xs) ≡ false
fails_map p f keeps [] none = absurd cc
fails_map p f keeps (x ∷ xs) none = elim (and_cases (p x) (list_all p xs) none) [
  | inl here ↦ ap (λ b. b && list_all p (map f xs)) (keeps x here)
  | inr later ↦ and_right (p (f x)) (list_all p (map f xs)) (fails_map p f keeps xs later)
]

-- where all rest and not all are spent, one waits
rest_waits_by : (standing : HartStanding) (rest spent waits : Bool) → (rest ≡ true → spent ≡ false → waits ≡ true)
    → (is_at_rest standing && rest) ≡ true → (is_spent standing && spent) ≡ false → (is_unwoken standing || waits) ≡ true
rest_waits_by stand.Runs rest spent waits later all some = absurd cc
rest_waits_by stand.Woken rest spent waits later all some = absurd cc
rest_waits_by (stand.Waits mie) rest spent waits later all some = refl
rest_waits_by stand.Spent rest spent waits later all some = later all some

rest_waits : (xs : List HartDevice) → all_at_rest xs ≡ true → all_spent xs ≡ false → some_unwoken xs ≡ true
rest_waits [] rest spent = absurd cc
rest_waits (x ∷ xs) rest spent = rest_waits_by x.standing (all_at_rest xs) (all_spent xs) (some_unwoken xs) (rest_waits xs) rest spent

-- Time wakes a hart.

enabled_by : (other pending enabled : Bool) → pending ≡ true → enabled ≡ true → (other || (pending && enabled)) ≡ true
enabled_by true pending enabled e f = refl
enabled_by false pending enabled e f = ap (λ b. b && enabled) e ∙ f

-- the hart's alarm at this time wakes it
alarm_wakes_by : (mtime : ℕ) (own : HartDevice) (standing : HartStanding) (time : ℕ) → alarm_of standing own.mtimecmp ≡ Some time → time ≡ mtime
    → is_at_rest (wakes_standing mtime own standing) ≡ false
alarm_wakes_by mtime own stand.Runs time e now = absurd cc
alarm_wakes_by mtime own stand.Woken time e now = absurd cc
alarm_wakes_by mtime own stand.Spent time e now = absurd cc
alarm_wakes_by mtime own (stand.Waits mie) time e now =
    let both = alarm_tells (is_set MTI mie) (nat_lt own.mtimecmp never) own.mtimecmp time e in
    let pending : is_timer_pending mtime own ≡ true = grind (arith, nat_tests, both.1, now) in
    ap (λ b. is_at_rest (if b then stand.Woken else stand.Waits mie)) (enabled_by (own.msip && is_set MSI mie) (is_timer_pending mtime own) (is_set MTI mie) pending both.0)

-- one element that fails after a map
fails_at : (p : HartDevice → Bool) (f : HartDevice → HartDevice) (xs : List HartDevice) (h : ℕ) (d : HartDevice) → h < length xs
    → p (f (slice_index_or xs h d)) ≡ false → list_all p (map f xs) ≡ false
fails_at p f [] h d within e = absurd (omega (arith, within))
fails_at p f (x ∷ xs) zero d within e = ap (λ b. b && list_all p (map f xs)) e
fails_at p f (x ∷ xs) (suc h) d within e = and_right (p (f x)) (list_all p (map f xs)) (fails_at p f xs h d (omega (arith, within)) e)

-- A state stays live.

live_if : (b : Bool) (s t : DeviceState) → IsLive s → IsLive t → IsLive (if b then s else t)
live_if true s t first second = first
live_if false s t first second = second

live_stops : (s : DeviceState) (new : Stop) → IsLive (stops s new)
live_stops s new = inl (first_stands s.stop new)

-- a hart that goes on isn't put to rest by waking
woken_goes : (mtime : ℕ) (own : HartDevice) (standing : HartStanding) → is_at_rest standing ≡ false → is_at_rest (wakes_standing mtime own standing) ≡ false
woken_goes mtime own stand.Runs e = refl
woken_goes mtime own stand.Woken e = refl
woken_goes mtime own (stand.Waits mie) e = absurd cc
woken_goes mtime own stand.Spent e = absurd cc

pub live_wakes : (s : DeviceState) → IsLive s → IsLive (wakes s)
live_wakes s (inl stands) = inl stands
live_wakes s (inr some) = inr (fails_map (λ (own : HartDevice). is_at_rest own.standing) (wakes_hart s.mtime) (λ own goes. woken_goes s.mtime own own.standing goes) s.harts some)

live_runs : (s : DeviceState) (h : ℕ) → IsLive s → IsLive (runs_if_woken s h)
live_runs s h (inl stands) = live_if (is_woken (hart_at s h).standing) (stands_as s h stand.Runs) s (inl stands) (inl stands)
live_runs s h (inr some) = live_if (is_woken (hart_at s h).standing) (stands_as s h stand.Runs) s
    (inr (still_set (λ (own : HartDevice). is_at_rest own.standing) s.harts h (record (hart_at s h) { standing = stand.Runs }) some refl)) (inr some)

-- a write that leaves the hart's standing
live_own : (s : DeviceState) (h : ℕ) (own : HartDevice) → own.standing ≡ (hart_at s h).standing → IsLive s → IsLive (set_hart s h own)
live_own s h own same (inl stands) = inl stands
live_own s h own same (inr some) = inr (same_set (λ (x : HartDevice). is_at_rest x.standing) s.harts h own hart_start (ap is_at_rest same) ∙ some)

live_stores : (s : DeviceState) (r : Register) (address width value : ℕ) → IsLive s → IsLive (stores s r address width value)
live_stores s Finisher address width value live =
    let code = field 16 16 value in
    let by_code = low 16 value == FINISHER_FAIL in
    live_if (low 16 value == FINISHER_PASS) (stops s (stop.Off 0)) (if by_code then stops s (stop.Off code) else s) (live_stops s (stop.Off 0))
    (live_if by_code (stops s (stop.Off code)) s (live_stops s (stop.Off code)) live)
live_stores s (Msip h) address width value live = live_own s h _ refl live
live_stores s (Mtimecmp h) address width value live = live_own s h _ refl live
live_stores s Mtime address width value live = live
live_stores s register address width value live = live

-- where all rest and one waits, time wakes a hart or the stop is idle
live_jumps_to : (s : DeviceState) (time : Option ℕ) → next_alarm s.harts ≡ time → IsLive (jumps_to s time)
live_jumps_to s None e = live_stops s stop.Idle
live_jumps_to s (Some time) e =
    let found = alarm_of_some s.harts time e in
    let own = hart_at s found.0 in
    inr (fails_at (λ (x : HartDevice). is_at_rest x.standing) (wakes_hart time) s.harts found.0 hart_start found.1
    (alarm_wakes_by time own own.standing time found.2 refl))

live_rests : (s : DeviceState) → IsLive s ⊎ (some_unwoken s.harts ≡ true) → IsLive (rests s)
live_rests s (inl live) = live_if ((all_at_rest s.harts && some_unwoken s.harts)) (jumps_to s (next_alarm s.harts)) s (live_jumps_to s (next_alarm s.harts) refl) live
live_rests s (inr waits) = elim (cases_Bool (all_at_rest s.harts)) [
  | inl rest ↦
      let all : (all_at_rest s.harts && some_unwoken s.harts) ≡ true = ap (λ b. b && some_unwoken s.harts) rest ∙ waits in
      let At : Bool → Type 0 = λ b. IsLive (if b then jumps_to s (next_alarm s.harts) else s) in
      subst At (sym all) (live_jumps_to s (next_alarm s.harts) refl)
  | inr some ↦ live_if ((all_at_rest s.harts && some_unwoken s.harts)) (jumps_to s (next_alarm s.harts)) s (live_jumps_to s (next_alarm s.harts) refl) (inr some)
]

-- a hart that was put among the waiting is woken or waits
waiter_in : (mtime : ℕ) (xs : List HartDevice) (h : ℕ) (y : HartDevice) → h < length xs → (is_at_rest (wakes_hart mtime y).standing ≡ false) ⊎ (is_unwoken (wakes_hart mtime y).standing ≡ true)
    → (all_at_rest (map (wakes_hart mtime) (slice_set xs h y)) ≡ false) ⊎ (some_unwoken (map (wakes_hart mtime) (slice_set xs h y)) ≡ true)
waiter_in mtime [] h y within either = absurd (omega (arith, within))
waiter_in mtime (x ∷ xs) zero y within (inl goes) = inl (ap (λ b. b && all_at_rest (map (wakes_hart mtime) xs)) goes)
waiter_in mtime (x ∷ xs) zero y within (inr waits) = inr (ap (λ b. b || some_unwoken (map (wakes_hart mtime) xs)) waits)
waiter_in mtime (x ∷ xs) (suc h) y within either = elim (waiter_in mtime xs h y (omega (arith, within)) either) [
  | inl goes ↦ inl (and_right (is_at_rest (wakes_hart mtime x).standing) (all_at_rest (map (wakes_hart mtime) (slice_set xs h y))) goes)
  | inr waits ↦ inr (or_right (is_unwoken (wakes_hart mtime x).standing) (some_unwoken (map (wakes_hart mtime) (slice_set xs h y))) waits)
]

waits_or_woken : (b : Bool) (mie : ℕ) → (is_at_rest (if b then stand.Woken else stand.Waits mie) ≡ false) ⊎ (is_unwoken (if b then stand.Woken else stand.Waits mie) ≡ true)
waits_or_woken true mie = inl refl
waits_or_woken false mie = inr refl

live_wait : (s : DeviceState) (h mie : ℕ) → h < harts_in s → IsLive (device_step s h (acc.Wait mie))
live_wait s h mie within =
    let own : HartDevice = record (hart_at s h) { standing = stand.Waits mie } in
    let now = wakes (stands_as s h (stand.Waits mie)) in
    let either = waiter_in s.mtime s.harts h own within (waits_or_woken (is_interrupted s.mtime own mie) mie) in
    live_runs (rests now) h (live_rests now (elim either [ inl goes ↦ inl (inr goes) | inr waits ↦ inr waits ]))

live_spent : (s : DeviceState) → IsLive (rests (spends s))
live_spent s = elim (cases_Bool (all_spent s.harts)) [
  | inl all ↦
      let At : Bool → Type 0 = λ b. IsLive (rests (if b then stops s stop.Budget else s)) in
      subst At (sym all) (live_rests (stops s stop.Budget) (inl (live_stops s stop.Budget)))
  | inr some ↦
      let At : Bool → Type 0 = λ b. IsLive (rests (if b then stops s stop.Budget else s)) in
      subst At (sym some) (live_rests s (elim (cases_Bool (all_at_rest s.harts)) [
        | inl rest ↦ inr (rest_waits s.harts rest some)
        | inr goes ↦ inl (inr goes)
      ]))
]

-- an access by one of the harts keeps it
pub live_step : (s : DeviceState) (h : ℕ) (access : Access) → h < harts_in s → IsLive s → IsLive (device_step s h access)
live_step s h (acc.Pulse tick) within live =
    let now : DeviceState = record s { mtime = next_mtime s.mtime tick } in
    live_wakes (runs_if_woken now h) (live_runs now h live)
live_step s h (acc.Wait mie) within live = live_wait s h mie within
live_step s h acc.Retire within live = live_spent (wakes (stands_as s h stand.Spent))
live_step s h (acc.DevWrite address width value) within live =
    live_wakes (stores s (register_at address) address width value) (live_stores s (register_at address) address width value live)
live_step s h other within live = live_wakes s live

live_from : (harts : ℕ) (made : List Done) (s : DeviceState) → harts_in s ≡ harts → AreBelow harts made → IsLive s → IsLive (fold (λ t (d : Done). device_step t d.hart d.access) s made)
live_from harts [] s same below live = live
live_from harts (d ∷ made) s same below live =
    live_from harts made (device_step s d.hart d.access) (harts-step s d.hart d.access ∙ same) below.1 (live_step s d.hart d.access (omega (arith, same, below.0)) live)

live_begin : (harts : ℕ) → 0 < harts → IsLive (devices_start harts)
live_begin zero some = absurd (omega (arith, some))
live_begin (suc n) some = inr refl

-- so after any accesses of the harts a stop stands, or some hart runs or is woken
pub devices_live : (harts : ℕ) (made : List Done) → 0 < harts → AreBelow harts made → IsLive (devices harts made)
devices_live harts made some below = live_from harts made (devices_start harts) (length-replicate harts hart_start) below (live_begin harts some)

-- The first stop stays.

keeps_first : (old : Option Stop) (first new : Stop) → old ≡ Some first → first_stop old new ≡ Some first
keeps_first None first new e = absurd cc
keeps_first (Some old) first new e = e

-- the same stop stands where it stood
abbrev pub Stopped : Stop → DeviceState → Type 0
Stopped first s = s.stop ≡ Some first

stopped_if : (first : Stop) (b : Bool) (s t : DeviceState) → Stopped first s → Stopped first t → Stopped first (if b then s else t)
stopped_if first true s t a b = a
stopped_if first false s t a b = b

stopped_stops : (first new : Stop) (s : DeviceState) → Stopped first s → Stopped first (stops s new)
stopped_stops first new s stands = keeps_first s.stop first new stands

stopped_runs : (first : Stop) (s : DeviceState) (h : ℕ) → Stopped first s → Stopped first (runs_if_woken s h)
stopped_runs first s h stands = stopped_if first (is_woken (hart_at s h).standing) (stands_as s h stand.Runs) s stands stands

stopped_jumps : (first : Stop) (s : DeviceState) (time : Option ℕ) → Stopped first s → Stopped first (jumps_to s time)
stopped_jumps first s (Some time) stands = stands
stopped_jumps first s None stands = stopped_stops first stop.Idle s stands

pub stopped_rests : (first : Stop) (s : DeviceState) → Stopped first s → Stopped first (rests s)
stopped_rests first s stands = stopped_if first ((all_at_rest s.harts && some_unwoken s.harts)) (jumps_to s (next_alarm s.harts)) s (stopped_jumps first s (next_alarm s.harts) stands) stands

stopped_spends : (first : Stop) (s : DeviceState) → Stopped first s → Stopped first (spends s)
stopped_spends first s stands = stopped_if first (all_spent s.harts) (stops s stop.Budget) s (stopped_stops first stop.Budget s stands) stands

stopped_stores : (first : Stop) (s : DeviceState) (r : Register) (address width value : ℕ) → Stopped first s → Stopped first (stores s r address width value)
stopped_stores first s Finisher address width value stands =
    let code = field 16 16 value in
    let by_code = low 16 value == FINISHER_FAIL in
    stopped_if first (low 16 value == FINISHER_PASS) (stops s (stop.Off 0)) (if by_code then stops s (stop.Off code) else s) (stopped_stops first (stop.Off 0) s stands)
    (stopped_if first by_code (stops s (stop.Off code)) s (stopped_stops first (stop.Off code) s stands) stands)
stopped_stores first s (Msip h) address width value stands = stands
stopped_stores first s (Mtimecmp h) address width value stands = stands
stopped_stores first s Mtime address width value stands = stands
stopped_stores first s register address width value stands = stands

pub stopped_step : (first : Stop) (s : DeviceState) (h : ℕ) (access : Access) → Stopped first s → Stopped first (device_step s h access)
stopped_step first s h (acc.Pulse tick) stands = stopped_runs first (record s { mtime = next_mtime s.mtime tick }) h stands
stopped_step first s h (acc.Wait mie) stands = stopped_runs first (rests (wakes (stands_as s h (stand.Waits mie)))) h (stopped_rests first (wakes (stands_as s h (stand.Waits mie))) stands)
stopped_step first s h acc.Retire stands = stopped_rests first (spends (wakes (stands_as s h stand.Spent))) (stopped_spends first (wakes (stands_as s h stand.Spent)) stands)
stopped_step first s h (acc.DevWrite address width value) stands = stopped_stores first s (register_at address) address width value stands
stopped_step first s h other stands = stands

stays_along : (first : Stop) (more : List Done) (s : DeviceState) → Stopped first s → Stopped first (fold (λ t (d : Done). device_step t d.hart d.access) s more)
stays_along first [] s stands = stands
stays_along first (d ∷ more) s stands = stays_along first more (device_step s d.hart d.access) (stopped_step first s d.hart d.access stands)

-- the stop that stands after some accesses stands after more
pub stop_stays : (harts : ℕ) (made more : List Done) (first : Stop) → device_stop harts made ≡ Some first → device_stop harts (made ++ more) ≡ Some first
stop_stays harts made more first stands = ap (λ (s : DeviceState). s.stop) (fold-append (λ s (d : Done). device_step s d.hart d.access) (devices_start harts) made more) ∙ stays_along first more (devices harts made) stands

harts-along : (made : List Done) (s : DeviceState) → harts_in (fold (λ t (d : Done). device_step t d.hart d.access) s made) ≡ harts_in s
harts-along [] s = refl
harts-along (d ∷ made) s = harts-along made (device_step s d.hart d.access) ∙ harts-step s d.hart d.access

pub harts-devices : (harts : ℕ) (made : List Done) → harts_in (devices harts made) ≡ harts
harts-devices harts made = harts-along made (devices_start harts) ∙ length-replicate harts hart_start

-- so an access keeps the stop
keeps_if : (old : Option Stop) (s : DeviceState) → ((first : Stop) → old ≡ Some first → Stopped first s) → KeepsStop old s.stop
keeps_if None s stopped = tt
keeps_if (Some first) s stopped = stopped first refl

pub keeps_stop : (s : DeviceState) (h : ℕ) (access : Access) → KeepsStop s.stop (device_step s h access).stop
keeps_stop s h access = keeps_if s.stop (device_step s h access) (λ first stands. stopped_step first s h access stands)
