-- Which hart waits, by what it was told: what the devices keep of it and its own replies agree.
use Rattle.std.proofs.Common.{◌≡◌, ◌≢◌, ℕ, zero, suc, Bool, true, false, ◌&&◌, ◌==◌, if◌then◌else◌, List, [], ◌∷◌, map, slice_set, slice_index_or, Option, None, Some, refl, ap, sym, ◌∙◌, get_or-set_other}
use Rattle.flex_base.specs.Word.{low, field}
use Rattle.flex_base.specs.Devices.{DeviceState, hart_at, hart_start, set_hart, is_interrupted, wakes, wakes_hart, wakes_standing, is_woken, still_waits, is_unwoken, all_at_rest, some_unwoken, all_spent, stands_as, runs_if_woken, stops, Register, Finisher, Msip, Mtimecmp, Mtime, register_at, stores, finishes, FINISHER_PASS, FINISHER_FAIL, next_alarm, jumps_to, rests, spends, next_mtime, device_step, devices, devices_start, reply_in}
use Rattle.flex_base.specs.Following.{waits_by}
use Rattle.flex_base.specs.declared.access.Access.{Access}
use Rattle.flex_base.specs.declared.access.Access.TheVariants as acc
use Rattle.flex_base.specs.declared.event.Stop.TheVariants as stop
use Rattle.flex_base.specs.declared.hart_device.HartDevice.{HartDevice}
use Rattle.flex_base.specs.declared.hart_device.HartStanding.{HartStanding}
use Rattle.flex_base.specs.declared.hart_device.HartStanding.TheVariants as stand

-- the hart waits, woken or not
abbrev pub waits_in : DeviceState → ℕ → Bool
waits_in s h = still_waits (hart_at s h).standing

abbrev waits_at : List HartDevice → ℕ → Bool
waits_at xs h = still_waits (slice_index_or xs h hart_start).standing

-- Waking ends no wait.

wakes_standing_waits : (mtime : ℕ) (own : HartDevice) (standing : HartStanding) → still_waits (wakes_standing mtime own standing) ≡ still_waits standing
wakes_standing_waits mtime own stand.Runs = refl
wakes_standing_waits mtime own stand.Woken = refl
wakes_standing_waits mtime own stand.Spent = refl
wakes_standing_waits mtime own (stand.Waits mie) =
    elim (is_interrupted mtime own mie) as (λ b. still_waits (if b then stand.Woken else stand.Waits mie) ≡ true) [ true ↦ refl | false ↦ refl ]

wakes_list : (mtime : ℕ) (xs : List HartDevice) (h : ℕ) → waits_at (map (wakes_hart mtime) xs) h ≡ waits_at xs h
wakes_list mtime [] h = refl
wakes_list mtime (x ∷ xs) zero = wakes_standing_waits mtime x x.standing
wakes_list mtime (x ∷ xs) (suc h) = wakes_list mtime xs h

waits-wakes : (s : DeviceState) (h : ℕ) → waits_in (wakes s) h ≡ waits_in s h
waits-wakes s h = wakes_list s.mtime s.harts h

-- Writes of one hart.

-- one that waits as before
set_same : (xs : List HartDevice) (k h : ℕ) (y : HartDevice) → still_waits y.standing ≡ waits_at xs k → waits_at (slice_set xs k y) h ≡ waits_at xs h
set_same [] k h y e = refl
set_same (x ∷ xs) zero zero y e = e
set_same (x ∷ xs) zero (suc h) y e = refl
set_same (x ∷ xs) (suc k) zero y e = refl
set_same (x ∷ xs) (suc k) (suc h) y e = set_same xs k h y e

-- one that doesn't wait
set_none : (xs : List HartDevice) (h : ℕ) (y : HartDevice) → still_waits y.standing ≡ false → waits_at (slice_set xs h y) h ≡ false
set_none [] h y e = refl
set_none (x ∷ xs) zero y e = e
set_none (x ∷ xs) (suc h) y e = set_none xs h y e

waits-other : (s : DeviceState) (k h : ℕ) (own : HartDevice) → h ≢ k → waits_in (set_hart s k own) h ≡ waits_in s h
waits-other s k h own other = ap (λ (x : HartDevice). still_waits x.standing) (get_or-set_other s.harts k h own hart_start other)

waits-if : (h : ℕ) (w b : Bool) (s t : DeviceState) → waits_in s h ≡ w → waits_in t h ≡ w → waits_in (if b then s else t) h ≡ w
waits-if h w true s t first second = first
waits-if h w false s t first second = second

waits-runs-other : (s : DeviceState) (k h : ℕ) → h ≢ k → waits_in (runs_if_woken s k) h ≡ waits_in s h
waits-runs-other s k h other =
    waits-if h (waits_in s h) (is_woken (hart_at s k).standing) (stands_as s k stand.Runs) s (waits-other s k h _ other) refl

waits-runs-none : (s : DeviceState) (h : ℕ) → waits_in s h ≡ false → waits_in (runs_if_woken s h) h ≡ false
waits-runs-none s h none =
    waits-if h false (is_woken (hart_at s h).standing) (stands_as s h stand.Runs) s (set_none s.harts h _ refl) none

waits-jumps_to : (s : DeviceState) (h : ℕ) (time : Option ℕ) → waits_in (jumps_to s time) h ≡ waits_in s h
waits-jumps_to s h (Some time) = waits-wakes (record s { mtime = time }) h
waits-jumps_to s h None = refl

waits-rests : (s : DeviceState) (h : ℕ) → waits_in (rests s) h ≡ waits_in s h
waits-rests s h = waits-if h (waits_in s h) (all_at_rest s.harts && some_unwoken s.harts) (jumps_to s (next_alarm s.harts)) s
    (waits-jumps_to s h (next_alarm s.harts)) refl

waits-spends : (s : DeviceState) (h : ℕ) → waits_in (spends s) h ≡ waits_in s h
waits-spends s h = waits-if h (waits_in s h) (all_spent s.harts) (stops s stop.Budget) s refl refl

waits-finishes : (s : DeviceState) (h value : ℕ) → waits_in (finishes s value) h ≡ waits_in s h
waits-finishes s h value =
    let code = field 16 16 value in
    let by_code = low 16 value == FINISHER_FAIL in
    waits-if h (waits_in s h) (low 16 value == FINISHER_PASS) (stops s (stop.Off 0)) (if by_code then stops s (stop.Off code) else s) refl
    (waits-if h (waits_in s h) by_code (stops s (stop.Off code)) s refl refl)

waits-stores : (s : DeviceState) (h : ℕ) (r : Register) (address width value : ℕ) → waits_in (stores s r address width value) h ≡ waits_in s h
waits-stores s h Finisher address width value = waits-finishes s h value
waits-stores s h (Msip k) address width value = set_same s.harts k h _ refl
waits-stores s h (Mtimecmp k) address width value = set_same s.harts k h _ refl
waits-stores s h Mtime address width value = refl
waits-stores s h register address width value = refl

-- The accesses.

-- those of other harts change nothing
pub waits-step-other : (s : DeviceState) (k h : ℕ) (access : Access) → h ≢ k → waits_in (device_step s k access) h ≡ waits_in s h
waits-step-other s k h (acc.Pulse tick) other =
    let now : DeviceState = record s { mtime = next_mtime s.mtime tick } in
    waits-wakes (runs_if_woken now k) h ∙ waits-runs-other now k h other
waits-step-other s k h (acc.Wait mie) other =
    let now = wakes (stands_as s k (stand.Waits mie)) in
    waits-runs-other (rests now) k h other ∙ waits-rests now h ∙ waits-wakes (stands_as s k (stand.Waits mie)) h ∙ waits-other s k h _ other
waits-step-other s k h acc.Retire other =
    let now = wakes (stands_as s k stand.Spent) in
    waits-rests (spends now) h ∙ waits-spends now h ∙ waits-wakes (stands_as s k stand.Spent) h ∙ waits-other s k h _ other
waits-step-other s k h (acc.DevWrite address width value) other =
    waits-wakes (stores s (register_at address) address width value) h ∙ waits-stores s h (register_at address) address width value
waits-step-other s k h access other = waits-wakes s h

told : (b : Bool) → ((if b then 1 else 0) == 1) ≡ b
told true = refl
told false = refl

-- a pulse begins no wait
pulse_tells : (was now : Bool) → (was ≡ false → now ≡ false) → now ≡ was && ((if now then 1 else 0) == 1)
pulse_tells true now none = sym (told now)
pulse_tells false now none = none refl

-- the hart's own, by their replies
pub waits-step-own : (s : DeviceState) (left : List ℕ) (h : ℕ) (access : Access) (was : Bool) → waits_in s h ≡ was
    → waits_in (device_step s h access) h ≡ waits_by was access (reply_in s left h access)
waits-step-own s left h (acc.Pulse tick) was is =
    let now : DeviceState = record s { mtime = next_mtime s.mtime tick } in
    pulse_tells was (waits_in (wakes (runs_if_woken now h)) h)
    (λ none. waits-wakes (runs_if_woken now h) h ∙ waits-runs-none now h (is ∙ none))
waits-step-own s left h (acc.Wait mie) was is = sym (told (waits_in (device_step s h (acc.Wait mie)) h))
waits-step-own s left h acc.Retire was is =
    let now = wakes (stands_as s h stand.Spent) in
    waits-rests (spends now) h ∙ waits-spends now h ∙ waits-wakes (stands_as s h stand.Spent) h ∙ set_none s.harts h _ refl
waits-step-own s left h (acc.DevWrite address width value) was is =
    waits-wakes (stores s (register_at address) address width value) h ∙ waits-stores s h (register_at address) address width value ∙ is
waits-step-own s left h access was is = waits-wakes s h ∙ is

-- one that doesn't wait isn't waiting unwoken
unwoken_by : (standing : HartStanding) → still_waits standing ≡ false → is_unwoken standing ≡ false
unwoken_by stand.Runs none = refl
unwoken_by stand.Woken none = absurd cc
unwoken_by stand.Spent none = refl
unwoken_by (stand.Waits mie) none = absurd cc

pub runs-unwoken : (s : DeviceState) (h : ℕ) → waits_in s h ≡ false → is_unwoken (hart_at s h).standing ≡ false
runs-unwoken s h none = unwoken_by (hart_at s h).standing none

-- one that waits is woken, or waits unwoken
woken_by : (standing : HartStanding) → still_waits standing ≡ true → is_woken standing ≡ false → is_unwoken standing ≡ true
woken_by stand.Runs waits woken = absurd cc
woken_by stand.Woken waits woken = absurd cc
woken_by stand.Spent waits woken = absurd cc
woken_by (stand.Waits mie) waits woken = refl

pub waits-unwoken : (s : DeviceState) (h : ℕ) → waits_in s h ≡ true → is_woken (hart_at s h).standing ≡ false → is_unwoken (hart_at s h).standing ≡ true
waits-unwoken s h waits woken = woken_by (hart_at s h).standing waits woken

woken_runs_by : (standing : HartStanding) → is_woken standing ≡ true → is_unwoken standing ≡ false
woken_runs_by stand.Woken woken = refl
woken_runs_by stand.Runs woken = absurd cc
woken_runs_by stand.Spent woken = absurd cc
woken_runs_by (stand.Waits mie) woken = absurd cc

pub woken-unwoken : (s : DeviceState) (h : ℕ) → is_woken (hart_at s h).standing ≡ true → is_unwoken (hart_at s h).standing ≡ false
woken-unwoken s h woken = woken_runs_by (hart_at s h).standing woken

-- the pulse of a woken hart tells it that it waits no more
pub woken-pulse : (s : DeviceState) (left : List ℕ) (h : ℕ) → is_woken (hart_at s h).standing ≡ true → (reply_in s left h (acc.Pulse false)).value ≡ 0
woken-pulse s left h woken =
    let now : DeviceState = record s { mtime = next_mtime s.mtime false } in
    let ran : waits_in (runs_if_woken now h) h ≡ false =
    ap (λ b. waits_in (if b then stands_as now h stand.Runs else now) h) woken ∙ set_none now.harts h _ refl in
    ap (λ b. if b then 1 else 0) (waits-wakes (runs_if_woken now h) h ∙ ran)

-- At the start.

start_list : (harts h : ℕ) → waits_at (devices_start harts).harts h ≡ false
start_list zero h = refl
start_list (suc harts) zero = refl
start_list (suc harts) (suc h) = start_list harts h

-- at the start no hart waits
pub waits-none : (harts h : ℕ) → waits_in (devices harts []) h ≡ false
waits-none harts h = start_list harts h
