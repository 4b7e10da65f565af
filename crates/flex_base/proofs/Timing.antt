-- How time goes on.
use Rattle.std.proofs.Common.{◌≡◌, ℕ, suc, ◌+◌, ◌^◌, ◌≤◌, ◌==◌, Bool, true, false, ◌&&◌, if◌then◌else◌, List, [], ◌∷◌, ◌++◌, length, Option, None, Some, refl, ap, sym, ◌∙◌, arith}
use Rattle.std.specs.List.{fold, filter, list_all}
use Rattle.std.proofs.lemmas.Bool.{and_parts, not-true}
use Rattle.std.proofs.lemmas.List.Sums.{fold-append}
use Rattle.std.proofs.Math.Nat.{mod-add-mod}
use Rattle.flex_base.specs.Word.{wrap, low, field}
use Rattle.flex_base.specs.FlatMemory.{Done}
use Rattle.flex_base.specs.Devices.{DeviceState, hart_at, wakes, is_woken, all_at_rest, some_unwoken, all_spent, stands_as, runs_if_woken, stops, Register, Finisher, Msip, Mtimecmp, Mtime, Uart, LineStatus, Other, register_at, FINISHER_PASS, FINISHER_FAIL, put_part, stores, next_alarm, jumps_to, rests, spends, next_mtime, device_step, devices, devices_start}
use Rattle.flex_base.specs.DeviceLaws.{is_settled, is_mtime, MovesTime, is_ticking, is_steady, AreSteady, ticks}
use Rattle.flex_base.proofs.Alarms.{alarm_later}
use Rattle.flex_base.proofs.Waking.{settled_wakes, settled_spends}
use Rattle.flex_base.specs.declared.access.Access.{Access}
use Rattle.flex_base.specs.declared.access.Access.TheVariants as acc
use Rattle.flex_base.specs.declared.event.Stop.TheVariants as stop
use Rattle.flex_base.specs.declared.hart_device.HartStanding.TheVariants as stand

later_if : (n : ℕ) (b : Bool) (s t : DeviceState) → n ≤ s.mtime → n ≤ t.mtime → n ≤ (if b then s else t).mtime
later_if n true s t first second = first
later_if n false s t first second = second

later_jump : (s : DeviceState) (time : Option ℕ) → next_alarm s.harts ≡ time → is_settled s ≡ true → s.mtime ≤ (jumps_to s time).mtime
later_jump s None e settled = omega arith
later_jump s (Some time) e settled = alarm_later s.mtime s.harts time e settled

mtime_if : (n : ℕ) (b : Bool) (s t : DeviceState) → s.mtime ≡ n → t.mtime ≡ n → (if b then s else t).mtime ≡ n
mtime_if n true s t first second = first
mtime_if n false s t first second = second

-- a pulse with tick adds one
pub mtime_pulse : (s : DeviceState) (h : ℕ) (tick : Bool) → (device_step s h (acc.Pulse tick)).mtime ≡ next_mtime s.mtime tick
mtime_pulse s h tick =
    let now : DeviceState = record s { mtime = next_mtime s.mtime tick } in
    mtime_if (next_mtime s.mtime tick) (is_woken (hart_at now h).standing) (stands_as now h stand.Runs) now refl refl

mtime_stores : (s : DeviceState) (r : Register) (address width value : ℕ)
    → (stores s r address width value).mtime ≡ (if is_mtime r then put_part address width s.mtime value else s.mtime)
mtime_stores s Finisher address width value =
    let code = field 16 16 value in
    let fails = low 16 value == FINISHER_FAIL in
    mtime_if s.mtime (low 16 value == FINISHER_PASS) (stops s (stop.Off 0)) (if fails then stops s (stop.Off code) else s) refl
    (mtime_if s.mtime fails (stops s (stop.Off code)) s refl refl)
mtime_stores s Mtime address width value = refl
mtime_stores s (Msip h) address width value = refl
mtime_stores s (Mtimecmp h) address width value = refl
mtime_stores s Uart address width value = refl
mtime_stores s LineStatus address width value = refl
mtime_stores s Other address width value = refl

mtime_runs : (s : DeviceState) (h : ℕ) → (runs_if_woken s h).mtime ≡ s.mtime
mtime_runs s h = mtime_if s.mtime (is_woken (hart_at s h).standing) (stands_as s h stand.Runs) s refl refl

mtime_spends : (s : DeviceState) → (spends s).mtime ≡ s.mtime
mtime_spends s = mtime_if s.mtime (all_spent s.harts) (stops s stop.Budget) s refl refl

-- resting doesn't turn time back: what it jumps to is later
pub mtime_rests : (s : DeviceState) → is_settled s ≡ true → s.mtime ≤ (rests s).mtime
mtime_rests s settled = later_if s.mtime (all_at_rest s.harts && some_unwoken s.harts) (jumps_to s (next_alarm s.harts)) s
    (later_jump s (next_alarm s.harts) refl settled) (omega arith)

-- what each access does to the time
pub mtime_moves : (s : DeviceState) (h : ℕ) (access : Access) → MovesTime access s.mtime (device_step s h access).mtime
mtime_moves s h (acc.Pulse tick) = mtime_pulse s h tick
mtime_moves s h (acc.Wait mie) =
    let waits = stands_as s h (stand.Waits mie) in
    omega (arith, mtime_rests (wakes waits) (settled_wakes waits), mtime_runs (rests (wakes waits)) h)
mtime_moves s h acc.Retire =
    let spent = stands_as s h stand.Spent in
    let later = mtime_rests (spends (wakes spent)) (settled_spends (wakes spent) (settled_wakes spent)) in
    omega (arith, later, mtime_spends (wakes spent))
mtime_moves s h (acc.DevWrite address width value) = mtime_stores s (register_at address) address width value
mtime_moves s h other = refl

-- a steady access leaves the time but for its tick
mtime_step : (s : DeviceState) (h : ℕ) (access : Access) → is_steady access ≡ true → (device_step s h access).mtime ≡ next_mtime s.mtime (is_ticking access)
mtime_step s h (acc.Pulse tick) steady = mtime_pulse s h tick
mtime_step s h (acc.Wait mie) steady = absurd cc
mtime_step s h acc.Retire steady = absurd cc
mtime_step s h (acc.DevWrite address width value) steady =
    mtime_stores s (register_at address) address width value
    ∙ ap (λ b. if b then put_part address width s.mtime value else s.mtime) (not-true (is_mtime (register_at address)) steady)
mtime_step s h other steady = refl

wrap_ticked : (b : Bool) (m n k : ℕ) → n ≡ (if b then suc k else k) → wrap (next_mtime m b + k) ≡ wrap (m + n)
wrap_ticked true m n k e = mod-add-mod (m + 1) (2 ^ 64) k ∙ ap wrap (omega (arith, e))
wrap_ticked false m n k e = ap (λ j. wrap (m + j)) (sym e)

ticks-cons : (b : Bool) (d : Done) (ds : List Done) → length (if b then d ∷ ds else ds) ≡ (if b then suc (length ds) else length ds)
ticks-cons true d ds = refl
ticks-cons false d ds = refl

-- so over steady accesses the time is what it was and their ticks, modulo 2^64
mtime_ticks : (made : List Done) (s : DeviceState) → AreSteady made
    → wrap (fold (λ t (d : Done). device_step t d.hart d.access) s made).mtime ≡ wrap (s.mtime + ticks made)
mtime_ticks [] s steady = ap wrap (omega arith)
mtime_ticks (d ∷ made) s steady =
    let both = and_parts (is_steady d.access) (list_all (λ (e : Done). is_steady e.access) made) steady in
    mtime_ticks made (device_step s d.hart d.access) both.1
    ∙ ap (λ n. wrap (n + ticks made)) (mtime_step s d.hart d.access both.0)
    ∙ wrap_ticked (is_ticking d.access) s.mtime (ticks (d ∷ made)) (ticks made) (ticks-cons (is_ticking d.access) d (filter (λ (e : Done). is_ticking e.access) made))

pub ticks_more : (harts : ℕ) (made more : List Done) → AreSteady more → wrap (devices harts (made ++ more)).mtime ≡ wrap ((devices harts made).mtime + ticks more)
ticks_more harts made more steady =
    ap (λ (s : DeviceState). wrap s.mtime) (fold-append (λ s (d : Done). device_step s d.hart d.access) (devices_start harts) made more)
    ∙ mtime_ticks more (devices harts made) steady
