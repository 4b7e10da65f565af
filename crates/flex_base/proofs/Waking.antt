-- A hart that waits unwoken waits for a line that is off.
use Rattle.std.proofs.Common.{◌≡◌, ℕ, zero, suc, Bool, true, false, not, ◌&&◌, if◌then◌else◌, List, [], ◌∷◌, map, slice_set, Option, None, Some, inl, inr, refl, ap, ◌∙◌}
use Rattle.std.specs.List.{list_all}
use Rattle.std.proofs.lemmas.Bool.{cases_Bool, and_parts}
use Rattle.flex_base.specs.Devices.{DeviceState, hart_at, is_interrupted, wakes, wakes_hart, wakes_standing, is_woken, all_at_rest, some_unwoken, all_spent, stands_as, runs_if_woken, stops, register_at, stores, next_alarm, jumps_to, rests, spends, next_mtime, device_step}
use Rattle.flex_base.specs.DeviceLaws.{settled_by, is_settled}
use Rattle.flex_base.specs.declared.access.Access.{Access}
use Rattle.flex_base.specs.declared.access.Access.TheVariants as acc
use Rattle.flex_base.specs.declared.event.Stop.TheVariants as stop
use Rattle.flex_base.specs.declared.hart_device.HartDevice.{HartDevice}
use Rattle.flex_base.specs.declared.hart_device.HartStanding.{HartStanding}
use Rattle.flex_base.specs.declared.hart_device.HartStanding.TheVariants as stand

settled_wakes_hart : (mtime : ℕ) (own : HartDevice) (standing : HartStanding) → settled_by mtime (wakes_hart mtime own) (wakes_standing mtime own standing) ≡ true
settled_wakes_hart mtime own stand.Runs = refl
settled_wakes_hart mtime own stand.Woken = refl
settled_wakes_hart mtime own stand.Spent = refl
settled_wakes_hart mtime own (stand.Waits mie) = elim (cases_Bool (is_interrupted mtime own mie)) [
  | inl met ↦ ap (λ b. settled_by mtime (wakes_hart mtime own) (if b then stand.Woken else stand.Waits mie)) met
  | inr off ↦ ap (λ b. settled_by mtime (wakes_hart mtime own) (if b then stand.Woken else stand.Waits mie)) off ∙ ap not off
]

settled_list : (mtime : ℕ) (xs : List HartDevice) → list_all (λ (own : HartDevice). settled_by mtime own own.standing) (map (wakes_hart mtime) xs) ≡ true
settled_list mtime [] = refl
settled_list mtime (x ∷ xs) = ap (λ b. b && list_all (λ (own : HartDevice). settled_by mtime own own.standing) (map (wakes_hart mtime) xs)) (settled_wakes_hart mtime x x.standing) ∙ settled_list mtime xs

pub settled_wakes : (s : DeviceState) → is_settled (wakes s) ≡ true
settled_wakes s = settled_list s.mtime s.harts

settled_if : (b : Bool) (s t : DeviceState) → is_settled s ≡ true → is_settled t ≡ true → is_settled (if b then s else t) ≡ true
settled_if true s t first second = first
settled_if false s t first second = second

holds_set : (p : HartDevice → Bool) (xs : List HartDevice) (h : ℕ) (y : HartDevice) → p y ≡ true → list_all p xs ≡ true → list_all p (slice_set xs h y) ≡ true
holds_set p [] h y e all = refl
holds_set p (x ∷ xs) zero y e all = ap (λ b. b && list_all p xs) e ∙ (and_parts (p x) (list_all p xs) all).1
holds_set p (x ∷ xs) (suc h) y e all =
    let both = and_parts (p x) (list_all p xs) all in
    ap (λ b. b && list_all p (slice_set xs h y)) both.0 ∙ holds_set p xs h y e both.1

settled_runs : (s : DeviceState) (h : ℕ) → is_settled s ≡ true → is_settled (runs_if_woken s h) ≡ true
settled_runs s h all = settled_if (is_woken (hart_at s h).standing) (stands_as s h stand.Runs) s
    (holds_set (λ (own : HartDevice). settled_by s.mtime own own.standing) s.harts h (record (hart_at s h) { standing = stand.Runs }) refl all) all

settled_jumps : (s : DeviceState) (time : Option ℕ) → is_settled s ≡ true → is_settled (jumps_to s time) ≡ true
settled_jumps s None all = all
settled_jumps s (Some time) all = settled_wakes (record s { mtime = time })

settled_rests : (s : DeviceState) → is_settled s ≡ true → is_settled (rests s) ≡ true
settled_rests s all = settled_if (all_at_rest s.harts && some_unwoken s.harts) (jumps_to s (next_alarm s.harts)) s (settled_jumps s (next_alarm s.harts) all) all

pub settled_spends : (s : DeviceState) → is_settled s ≡ true → is_settled (spends s) ≡ true
settled_spends s all = settled_if (all_spent s.harts) (stops s stop.Budget) s all all

-- after each access no hart waits unwoken for a line that is on
pub settled_step : (s : DeviceState) (h : ℕ) (access : Access) → is_settled (device_step s h access) ≡ true
settled_step s h (acc.Pulse tick) = settled_wakes (runs_if_woken (record s { mtime = next_mtime s.mtime tick }) h)
settled_step s h (acc.Wait mie) =
    let now = wakes (stands_as s h (stand.Waits mie)) in
    settled_runs (rests now) h (settled_rests now (settled_wakes (stands_as s h (stand.Waits mie))))
settled_step s h acc.Retire =
    let now = wakes (stands_as s h stand.Spent) in
    settled_rests (spends now) (settled_spends now (settled_wakes (stands_as s h stand.Spent)))
settled_step s h (acc.DevWrite address width value) = settled_wakes (stores s (register_at address) address width value)
settled_step s h other = settled_wakes s
