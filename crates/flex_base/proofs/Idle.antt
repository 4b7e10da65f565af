-- A run is idle only where nothing can wake a hart.
use Rattle.std.proofs.Common.{◌≡◌, ℕ, ◌==◌, Bool, true, false, ◌&&◌, if◌then◌else◌, List, [], ◌∷◌, zero, suc, slice_index_or, Option, None, Some, inl, inr, refl, ap, sym, subst, ◌∙◌}
use Rattle.std.proofs.lemmas.Bool.{cases_Bool, and_parts}
use Rattle.flex_base.specs.Word.{low, field}
use Rattle.flex_base.specs.Devices.{DeviceState, hart_at, hart_start, wakes, is_at_rest, is_woken, all_at_rest, some_unwoken, all_spent, stands_as, runs_if_woken, stops, first_stop, Register, Finisher, Msip, Mtimecmp, Mtime, Uart, LineStatus, Other, register_at, FINISHER_PASS, FINISHER_FAIL, stores, next_alarm, jumps_to, rests, spends, next_mtime, device_step}
use Rattle.flex_base.specs.DeviceLaws.{IsIdle}
use Rattle.flex_base.proofs.Alarms.{no_alarms}
use Rattle.flex_base.proofs.DeviceLaws.{stopped_rests}
use Rattle.flex_base.specs.declared.access.Access.{Access}
use Rattle.flex_base.specs.declared.access.Access.TheVariants as acc
use Rattle.flex_base.specs.declared.event.Stop.{Stop}
use Rattle.flex_base.specs.declared.event.Stop.TheVariants as stop
use Rattle.flex_base.specs.declared.hart_device.HartDevice.{HartDevice}
use Rattle.flex_base.specs.declared.hart_device.HartStanding.{HartStanding}
use Rattle.flex_base.specs.declared.hart_device.HartStanding.TheVariants as stand

idle_jumps : (s : DeviceState) (time : Option ℕ) → next_alarm s.harts ≡ time → s.stop ≡ None → all_at_rest s.harts ≡ true → (jumps_to s time).stop ≡ Some stop.Idle → IsIdle (jumps_to s time)
idle_jumps s None e none rest idle = record { rest = rest; no_alarm = no_alarms s.harts e }
idle_jumps s (Some time) e none rest idle = let wrong = sym none ∙ idle in absurd cc

-- where resting makes the run idle, nothing can wake a hart
idle_rests : (s : DeviceState) → s.stop ≡ None → (rests s).stop ≡ Some stop.Idle → IsIdle (rests s)
idle_rests s none idle = elim (cases_Bool (all_at_rest s.harts && some_unwoken s.harts)) [
  | inl all ↦
      let At : DeviceState → Type 0 = λ t. IsIdle t in
      let e : rests s ≡ jumps_to s (next_alarm s.harts) = ap (λ b. if b then jumps_to s (next_alarm s.harts) else s) all in
      subst At (sym e) (idle_jumps s (next_alarm s.harts) refl none (and_parts (all_at_rest s.harts) (some_unwoken s.harts) all).0 (sym (ap (λ (t : DeviceState). t.stop) e) ∙ idle))
  | inr some ↦
      let e : rests s ≡ s = ap (λ b. if b then jumps_to s (next_alarm s.harts) else s) some in
      let wrong = sym none ∙ (sym (ap (λ (t : DeviceState). t.stop) e) ∙ idle) in
      absurd cc
]

-- so it is after each access that makes the run idle

idle_spends : (s : DeviceState) → s.stop ≡ None → (rests (spends s)).stop ≡ Some stop.Idle → IsIdle (rests (spends s))
idle_spends s none idle = elim (cases_Bool (all_spent s.harts)) [
  | inl all ↦
      let budget : (stops s stop.Budget).stop ≡ Some stop.Budget = ap (λ old. first_stop old stop.Budget) none in
      let e : spends s ≡ stops s stop.Budget = ap (λ b. if b then stops s stop.Budget else s) all in
      let stays : (rests (spends s)).stop ≡ Some stop.Budget = ap (λ (t : DeviceState). (rests t).stop) e ∙ stopped_rests stop.Budget (stops s stop.Budget) budget in
      let wrong = sym stays ∙ idle in
      absurd cc
  | inr some ↦
      let e : spends s ≡ s = ap (λ b. if b then stops s stop.Budget else s) some in
      let At : DeviceState → Type 0 = λ t. (rests t).stop ≡ Some stop.Idle → IsIdle (rests t) in
      subst At (sym e) (idle_rests s none) idle
]

unwoken_by : (standing : HartStanding) → is_at_rest standing ≡ true → is_woken standing ≡ false
unwoken_by stand.Runs e = refl
unwoken_by (stand.Waits mie) e = refl
unwoken_by stand.Woken e = absurd cc
unwoken_by stand.Spent e = refl

none_woken : (harts : List HartDevice) (h : ℕ) → all_at_rest harts ≡ true → is_woken (slice_index_or harts h hart_start).standing ≡ false
none_woken [] h rest = refl
none_woken (x ∷ xs) zero rest = unwoken_by x.standing (and_parts (is_at_rest x.standing) (all_at_rest xs) rest).0
none_woken (x ∷ xs) (suc h) rest = none_woken xs h (and_parts (is_at_rest x.standing) (all_at_rest xs) rest).1

stop_if : (old : Option Stop) (b : Bool) (s t : DeviceState) → s.stop ≡ old → t.stop ≡ old → (if b then s else t).stop ≡ old
stop_if old true s t first second = first
stop_if old false s t first second = second

stop_runs : (s : DeviceState) (h : ℕ) → (runs_if_woken s h).stop ≡ s.stop
stop_runs s h = stop_if s.stop (is_woken (hart_at s h).standing) (stands_as s h stand.Runs) s refl refl

idle_runs : (s : DeviceState) (h : ℕ) → IsIdle s → IsIdle (runs_if_woken s h)
idle_runs s h idle =
    let At : DeviceState → Type 0 = λ t. IsIdle t in
    let e : runs_if_woken s h ≡ s = ap (λ b. if b then stands_as s h stand.Runs else s) (none_woken s.harts h idle.rest) in
    subst At (sym e) idle

off_by : (old : Option Stop) (code : ℕ) → old ≡ None → first_stop old (stop.Off code) ≡ Some stop.Idle → ⊥
off_by None code none idle = cc
off_by (Some first) code none idle = cc

finishes_by : (pass fail : Bool) (code : ℕ) (s : DeviceState) → s.stop ≡ None
    → (if pass then stops s (stop.Off 0) else (if fail then stops s (stop.Off code) else s)).stop ≡ Some stop.Idle → ⊥
finishes_by true fail code s none idle = off_by s.stop 0 none idle
finishes_by false true code s none idle = off_by s.stop code none idle
finishes_by false false code s none idle = let wrong = sym none ∙ idle in cc

stores_by : (s : DeviceState) (r : Register) (address width value : ℕ) → s.stop ≡ None → (stores s r address width value).stop ≡ Some stop.Idle → ⊥
stores_by s Finisher address width value none idle = finishes_by (low 16 value == FINISHER_PASS) (low 16 value == FINISHER_FAIL) (field 16 16 value) s none idle
stores_by s (Msip h) address width value none idle = let wrong = sym none ∙ idle in cc
stores_by s (Mtimecmp h) address width value none idle = let wrong = sym none ∙ idle in cc
stores_by s Mtime address width value none idle = let wrong = sym none ∙ idle in cc
stores_by s Uart address width value none idle = let wrong = sym none ∙ idle in cc
stores_by s LineStatus address width value none idle = let wrong = sym none ∙ idle in cc
stores_by s Other address width value none idle = let wrong = sym none ∙ idle in cc

pub idle_step : (s : DeviceState) (h : ℕ) (access : Access) → s.stop ≡ None → (device_step s h access).stop ≡ Some stop.Idle → IsIdle (device_step s h access)
idle_step s h (acc.Pulse tick) none idle =
    let now : DeviceState = record s { mtime = next_mtime s.mtime tick } in
    let wrong = sym none ∙ (sym (stop_runs now h) ∙ idle) in
    absurd cc
idle_step s h (acc.Wait mie) none idle =
    let now = wakes (stands_as s h (stand.Waits mie)) in
    idle_runs (rests now) h (idle_rests now none (sym (stop_runs (rests now) h) ∙ idle))
idle_step s h acc.Retire none idle = idle_spends (wakes (stands_as s h stand.Spent)) none idle
idle_step s h (acc.DevWrite address width value) none idle = absurd (stores_by s (register_at address) address width value none idle)
idle_step s h other none idle = let wrong = sym none ∙ idle in absurd cc
