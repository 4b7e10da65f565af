-- Each access keeps what the devices know of the harts fitting to where the harts are.
use Rattle.std.proofs.Common.{◌≡◌, ◌≢◌, ℕ, ◌<◌, ◌⊎◌, ◌==◌, Bool, true, false, ◌&&◌, if◌then◌else◌, List, slice_set, slice_index_or, Option, None, Some, inl, inr, refl, ap, sym, subst, ◌∙◌, arith}
use Rattle.std.specs.Prelude.{is_some}
use Rattle.std.proofs.lemmas.Bool.{cases_eq}
use Rattle.std.proofs.lemmas.List.{get_or-map, get_or-set_same, get_or-set_other}
use Rattle.flex_base.specs.Word.{low, field}
use Rattle.flex_base.specs.Devices.{FINISHER_PASS, FINISHER_FAIL, DeviceState, hart_at, set_hart, hart_start, wakes, wakes_hart, wakes_standing, lines_of, is_interrupted, stops, is_woken, still_waits, is_spent, Register, Finisher, Msip, Mtimecmp, Mtime, register_at, stores, stands_as, runs_if_woken, jumps_to, rests, all_at_rest, some_unwoken, next_alarm, spends, all_spent, device_step, reply_in, next_mtime}
use Rattle.flex_base.specs.Parked.{Node, Busy, Parked, Gone, Fits, told_node, next_node, MayMake}
use Rattle.flex_base.specs.declared.access.Access.{Access}
use Rattle.flex_base.specs.declared.access.Access.TheVariants as acc
use Rattle.flex_base.specs.declared.event.Stop.{Stop}
use Rattle.flex_base.specs.declared.event.Stop.TheVariants as stop
use Rattle.flex_base.specs.declared.hart_device.HartDevice.{HartDevice}
use Rattle.flex_base.specs.declared.hart_device.HartStanding.{HartStanding}
use Rattle.flex_base.specs.declared.hart_device.HartStanding.TheVariants as stand
use Rattle.flex_base.proofs.DeviceLaws.{harts_in, harts-wakes, harts-set_hart, harts-rests, harts-runs_if_woken, harts-spends, harts-stores, stopped_step}

abbrev pub standing_in : DeviceState → ℕ → HartStanding
standing_in s k = (hart_at s k).standing

-- what others may do to a hart: they wake it, and nothing else
abbrev pub IsAfter : HartStanding → HartStanding → Type 0
IsAfter stand.Runs new = new ≡ stand.Runs
IsAfter (stand.Waits mie) new = (new ≡ stand.Waits mie) ⊎ (new ≡ stand.Woken)
IsAfter stand.Woken new = new ≡ stand.Woken
IsAfter stand.Spent new = new ≡ stand.Spent

after_same : (a b : HartStanding) → b ≡ a → IsAfter a b
after_same stand.Runs b e = e
after_same (stand.Waits mie) b e = inl e
after_same stand.Woken b e = e
after_same stand.Spent b e = e

after_both : (a b c : HartStanding) → IsAfter a b → IsAfter b c → IsAfter a c
after_both stand.Runs b c first second = let After : HartStanding → Type 0 = λ x. IsAfter x c in subst After first second
after_both stand.Woken b c first second = let After : HartStanding → Type 0 = λ x. IsAfter x c in subst After first second
after_both stand.Spent b c first second = let After : HartStanding → Type 0 = λ x. IsAfter x c in subst After first second
after_both (stand.Waits mie) b c (inl first) second = let After : HartStanding → Type 0 = λ x. IsAfter x c in subst After first second
after_both (stand.Waits mie) b c (inr first) second = let After : HartStanding → Type 0 = λ x. IsAfter x c in inr (subst After first second)

after_wakes_standing : (mtime : ℕ) (own : HartDevice) (a : HartStanding) → IsAfter a (wakes_standing mtime own a)
after_wakes_standing mtime own stand.Runs = refl
after_wakes_standing mtime own stand.Woken = refl
after_wakes_standing mtime own stand.Spent = refl
after_wakes_standing mtime own (stand.Waits mie) = elim (is_interrupted mtime own mie) as (λ b. IsAfter (stand.Waits mie) (if b then stand.Woken else stand.Waits mie)) [ true ↦ inr refl | false ↦ inl refl ]

hart-wakes : (s : DeviceState) (k : ℕ) → k < harts_in s → hart_at (wakes s) k ≡ wakes_hart s.mtime (hart_at s k)
hart-wakes s k within = get_or-map (wakes_hart s.mtime) s.harts k hart_start hart_start within

after_wakes : (s : DeviceState) (k : ℕ) → k < harts_in s → IsAfter (standing_in s k) (standing_in (wakes s) k)
after_wakes s k within =
    let After : HartStanding → Type 0 = λ x. IsAfter (standing_in s k) x in
    subst After (sym (ap (λ (own : HartDevice). own.standing) (hart-wakes s k within))) (after_wakes_standing s.mtime (hart_at s k) (standing_in s k))

after_if : (a : HartStanding) (k : ℕ) (b : Bool) (s t : DeviceState) → IsAfter a (standing_in s k) → IsAfter a (standing_in t k) → IsAfter a (standing_in (if b then s else t) k)
after_if a k true s t first second = first
after_if a k false s t first second = second

after_jumps : (s : DeviceState) (k : ℕ) (time : Option ℕ) → k < harts_in s → IsAfter (standing_in s k) (standing_in (jumps_to s time) k)
after_jumps s k None within = after_same (standing_in s k) (standing_in s k) refl
after_jumps s k (Some time) within = after_wakes (record s { mtime = time }) k within

after_rests : (s : DeviceState) (k : ℕ) → k < harts_in s → IsAfter (standing_in s k) (standing_in (rests s) k)
after_rests s k within = after_if (standing_in s k) k (all_at_rest s.harts && some_unwoken s.harts) (jumps_to s (next_alarm s.harts)) s (after_jumps s k (next_alarm s.harts) within) (after_same (standing_in s k) (standing_in s k) refl)

after_spends : (s : DeviceState) (k : ℕ) → IsAfter (standing_in s k) (standing_in (spends s) k)
after_spends s k = after_if (standing_in s k) k (all_spent s.harts) (stops s stop.Budget) s (after_same (standing_in s k) (standing_in s k) refl) (after_same (standing_in s k) (standing_in s k) refl)

-- a write that leaves the hart's standing
standing_set : (s : DeviceState) (h k : ℕ) (own : HartDevice) → k < harts_in s → own.standing ≡ standing_in s h → standing_in (set_hart s h own) k ≡ standing_in s k
standing_set s h k own within same = elim (cases_eq k h) [
  | inl here ↦
      ap (λ j. (slice_index_or (slice_set s.harts j own) k hart_start).standing) (sym here)
      ∙ ap (λ (x : HartDevice). x.standing) (get_or-set_same s.harts k own hart_start within) ∙ same ∙ ap (standing_in s) (sym here)
  | inr other ↦ ap (λ (x : HartDevice). x.standing) (get_or-set_other s.harts h k own hart_start other)
]

standing-other : (s : DeviceState) (h k : ℕ) (own : HartDevice) → k ≢ h → standing_in (set_hart s h own) k ≡ standing_in s k
standing-other s h k own other = ap (λ (x : HartDevice). x.standing) (get_or-set_other s.harts h k own hart_start other)

standing-own : (s : DeviceState) (h : ℕ) (own : HartDevice) → h < harts_in s → standing_in (set_hart s h own) h ≡ own.standing
standing-own s h own within = ap (λ (x : HartDevice). x.standing) (get_or-set_same s.harts h own hart_start within)

after_stores : (s : DeviceState) (r : Register) (address width value k : ℕ) → k < harts_in s → IsAfter (standing_in s k) (standing_in (stores s r address width value) k)
after_stores s Finisher address width value k within =
    let here = after_same (standing_in s k) (standing_in s k) refl in
    let code = field 16 16 value in
    let by_code = low 16 value == FINISHER_FAIL in
    after_if (standing_in s k) k (low 16 value == FINISHER_PASS) (stops s (stop.Off 0)) (if by_code then stops s (stop.Off code) else s) here
    (after_if (standing_in s k) k by_code (stops s (stop.Off code)) s here here)
after_stores s (Msip h) address width value k within = after_same (standing_in s k) _ (standing_set s h k _ within refl)
after_stores s (Mtimecmp h) address width value k within = after_same (standing_in s k) _ (standing_set s h k _ within refl)
after_stores s Mtime address width value k within = after_same (standing_in s k) (standing_in s k) refl
after_stores s _ address width value k within = after_same (standing_in s k) (standing_in s k) refl

harts-now : (s : DeviceState) (r : Register) (address width value k : ℕ) → k < harts_in s → k < harts_in (stores s r address width value)
harts-now s r address width value k within = omega (arith, harts-stores s r address width value, within)

-- another hart's access
after_runs-other : (s : DeviceState) (h k : ℕ) → k ≢ h → IsAfter (standing_in s k) (standing_in (runs_if_woken s h) k)
after_runs-other s h k other = after_if (standing_in s k) k (is_woken (standing_in s h)) (stands_as s h stand.Runs) s
    (after_same (standing_in s k) _ (standing-other s h k _ other)) (after_same (standing_in s k) (standing_in s k) refl)

pub after_other : (s : DeviceState) (h k : ℕ) (access : Access) → k ≢ h → k < harts_in s → IsAfter (standing_in s k) (standing_in (device_step s h access) k)
after_other s h k (acc.Pulse tick) other within =
    let now : DeviceState = record s { mtime = next_mtime s.mtime tick } in
    after_both (standing_in s k) (standing_in (runs_if_woken now h) k) _ (after_runs-other now h k other) (after_wakes (runs_if_woken now h) k (omega (arith, harts-runs_if_woken now h, within)))
after_other s h k (acc.Wait mie) other within =
    let now = stands_as s h (stand.Waits mie) in
    let in_now : k < harts_in now = omega (arith, harts-set_hart s h (record (hart_at s h) { standing = stand.Waits mie }), within) in
    let in_woken : k < harts_in (wakes now) = omega (arith, harts-wakes now, in_now) in
    after_both (standing_in s k) (standing_in (rests (wakes now)) k) _
    (after_both (standing_in s k) (standing_in (wakes now) k) _
    (after_both (standing_in s k) (standing_in now k) _ (after_same (standing_in s k) (standing_in now k) (standing-other s h k _ other)) (after_wakes now k in_now))
    (after_rests (wakes now) k in_woken))
    (after_runs-other (rests (wakes now)) h k other)
after_other s h k acc.Retire other within =
    let now = stands_as s h stand.Spent in
    let in_now : k < harts_in now = omega (arith, harts-set_hart s h (record (hart_at s h) { standing = stand.Spent }), within) in
    let in_spent : k < harts_in (spends (wakes now)) = omega (arith, harts-spends (wakes now), harts-wakes now, in_now) in
    after_both (standing_in s k) (standing_in (spends (wakes now)) k) _
    (after_both (standing_in s k) (standing_in (wakes now) k) _
    (after_both (standing_in s k) (standing_in now k) _ (after_same (standing_in s k) (standing_in now k) (standing-other s h k _ other)) (after_wakes now k in_now))
    (after_spends (wakes now) k))
    (after_rests (spends (wakes now)) k in_spent)
after_other s h k (acc.DevWrite address width value) other within =
    let now = stores s (register_at address) address width value in
    after_both (standing_in s k) (standing_in now k) _ (after_stores s (register_at address) address width value k within)
    (after_wakes now k (harts-now s (register_at address) address width value k within))
after_other s h k access other within = after_wakes s k within

-- a hart that fits goes on fitting
fits_same : (a : HartStanding) (old new : Option Stop) (node : Node) → (is_some old ≡ true → is_some new ≡ true) → Fits a old node → Fits a new node
fits_same stand.Runs old new Busy keeps fits = tt
fits_same stand.Runs old new Parked keeps fits = fits
fits_same stand.Runs old new Gone keeps fits = keeps fits
fits_same (stand.Waits mie) old new Busy keeps fits = fits
fits_same (stand.Waits mie) old new Parked keeps fits = tt
fits_same (stand.Waits mie) old new Gone keeps fits = keeps fits
fits_same stand.Woken old new Busy keeps fits = fits
fits_same stand.Woken old new Parked keeps fits = tt
fits_same stand.Woken old new Gone keeps fits = keeps fits
fits_same stand.Spent old new Busy keeps fits = fits
fits_same stand.Spent old new Parked keeps fits = fits
fits_same stand.Spent old new Gone keeps fits = tt

fits_woken : (mie : ℕ) (old : Option Stop) (node : Node) → Fits (stand.Waits mie) old node → Fits stand.Woken old node
fits_woken mie old Busy fits = fits
fits_woken mie old Parked fits = tt
fits_woken mie old Gone fits = fits

fits_after : (a b : HartStanding) (stop : Option Stop) (node : Node) → IsAfter a b → Fits a stop node → Fits b stop node
fits_after stand.Runs b stop node e fits = let At : HartStanding → Type 0 = λ x. Fits x stop node in subst At (sym e) fits
fits_after stand.Woken b stop node e fits = let At : HartStanding → Type 0 = λ x. Fits x stop node in subst At (sym e) fits
fits_after stand.Spent b stop node e fits = let At : HartStanding → Type 0 = λ x. Fits x stop node in subst At (sym e) fits
fits_after (stand.Waits mie) b stop node (inl e) fits = let At : HartStanding → Type 0 = λ x. Fits x stop node in subst At (sym e) fits
fits_after (stand.Waits mie) b stop node (inr e) fits = let At : HartStanding → Type 0 = λ x. Fits x stop node in subst At (sym e) (fits_woken mie stop node fits)

some_is : (old : Option Stop) → is_some old ≡ true → (first : Stop) × (old ≡ Some first)
some_is None e = absurd cc
some_is (Some first) e = (first, refl)

pub still_stopped : (s : DeviceState) (h : ℕ) (access : Access) → is_some s.stop ≡ true → is_some (device_step s h access).stop ≡ true
still_stopped s h access stands = let old = some_is s.stop stands in ap is_some (stopped_step old.0 s h access old.1)

-- while another hart makes an access
pub fits_other : (s : DeviceState) (h k : ℕ) (access : Access) (node : Node) → k ≢ h → k < harts_in s → Fits (standing_in s k) s.stop node
    → Fits (standing_in (device_step s h access) k) (device_step s h access).stop node
fits_other s h k access node other within fits =
    fits_same (standing_in (device_step s h access) k) s.stop (device_step s h access).stop node (still_stopped s h access)
    (fits_after (standing_in s k) (standing_in (device_step s h access) k) s.stop node (after_other s h k access other within) fits)

-- The hart's own access.

abbrev IsUnspent : HartStanding → Type 0
IsUnspent standing = is_spent standing ≡ false

told_fits : (standing : HartStanding) (stop : Option Stop) (lines : ℕ) → IsUnspent standing
    → Fits standing stop (told_node (record { value = if still_waits standing then 1 else 0; lines = lines; stop = is_some stop }))
told_fits stand.Runs None lines unspent = tt
told_fits stand.Runs (Some first) lines unspent = refl
told_fits (stand.Waits mie) None lines unspent = tt
told_fits (stand.Waits mie) (Some first) lines unspent = refl
told_fits stand.Woken None lines unspent = tt
told_fits stand.Woken (Some first) lines unspent = refl
told_fits stand.Spent stop lines unspent = absurd cc

unspent_after : (a b : HartStanding) → IsAfter a b → IsUnspent a → IsUnspent b
unspent_after stand.Runs b e unspent = ap is_spent e
unspent_after stand.Woken b e unspent = ap is_spent e
unspent_after (stand.Waits mie) b (inl e) unspent = ap is_spent e
unspent_after (stand.Waits mie) b (inr e) unspent = ap is_spent e
unspent_after stand.Spent b e unspent = absurd cc

unspent_if : (h : ℕ) (b : Bool) (s t : DeviceState) → IsUnspent (standing_in s h) → IsUnspent (standing_in t h) → IsUnspent (standing_in (if b then s else t) h)
unspent_if h true s t first second = first
unspent_if h false s t first second = second

unspent_runs : (s : DeviceState) (h : ℕ) → h < harts_in s → IsUnspent (standing_in s h) → IsUnspent (standing_in (runs_if_woken s h) h)
unspent_runs s h within unspent = unspent_if h (is_woken (standing_in s h)) (stands_as s h stand.Runs) s
    (ap is_spent (standing-own s h (record (hart_at s h) { standing = stand.Runs }) within)) unspent

unspent_pulse : (s : DeviceState) (h : ℕ) (tick : Bool) → h < harts_in s → IsUnspent (standing_in s h) → IsUnspent (standing_in (device_step s h (acc.Pulse tick)) h)
unspent_pulse s h tick within unspent =
    let now : DeviceState = record s { mtime = next_mtime s.mtime tick } in
    let running = runs_if_woken now h in
    unspent_after (standing_in running h) _ (after_wakes running h (omega (arith, harts-runs_if_woken now h, within))) (unspent_runs now h within unspent)

unspent_wait : (s : DeviceState) (h mie : ℕ) → h < harts_in s → IsUnspent (standing_in (device_step s h (acc.Wait mie)) h)
unspent_wait s h mie within =
    let own : HartDevice = record (hart_at s h) { standing = stand.Waits mie } in
    let now = stands_as s h (stand.Waits mie) in
    let in_now : h < harts_in now = omega (arith, harts-set_hart s h own, within) in
    let in_woken : h < harts_in (wakes now) = omega (arith, harts-wakes now, in_now) in
    let in_rest : h < harts_in (rests (wakes now)) = omega (arith, harts-rests (wakes now), in_woken) in
    let begins : IsUnspent (standing_in now h) = ap is_spent (standing-own s h own within) in
    unspent_runs (rests (wakes now)) h in_rest
    (unspent_after (standing_in (wakes now) h) _ (after_rests (wakes now) h in_woken)
    (unspent_after (standing_in now h) _ (after_wakes now h in_now) begins))

spent_retire : (s : DeviceState) (h : ℕ) → h < harts_in s → standing_in (device_step s h acc.Retire) h ≡ stand.Spent
spent_retire s h within =
    let own : HartDevice = record (hart_at s h) { standing = stand.Spent } in
    let now = stands_as s h stand.Spent in
    let in_now : h < harts_in now = omega (arith, harts-set_hart s h own, within) in
    let in_spent : h < harts_in (spends (wakes now)) = omega (arith, harts-spends (wakes now), harts-wakes now, in_now) in
    after_both stand.Spent (standing_in (spends (wakes now)) h) _
    (after_both stand.Spent (standing_in (wakes now) h) _
    (after_both stand.Spent (standing_in now h) _ (standing-own s h own within) (after_wakes now h in_now))
    (after_spends (wakes now) h))
    (after_rests (spends (wakes now)) h in_spent)

write_own : (s : DeviceState) (h address width value : ℕ) → h < harts_in s → IsAfter (standing_in s h) (standing_in (device_step s h (acc.DevWrite address width value)) h)
write_own s h address width value within =
    let now = stores s (register_at address) address width value in
    after_both (standing_in s h) (standing_in now h) _ (after_stores s (register_at address) address width value h within)
    (after_wakes now h (harts-now s (register_at address) address width value h within))

-- a hart that isn't parked runs while it goes on
runs_on : (a b : HartStanding) (old new : Option Stop) → a ≡ stand.Runs → IsAfter a b → Fits b new Busy
runs_on a b old new e after =
    let After : HartStanding → Type 0 = λ x. IsAfter x b in
    let At : HartStanding → Type 0 = λ x. Fits x new Busy in
    subst At (sym (subst After e after)) tt

-- a hart that may make the access runs, or is woken and makes a pulse
unspent_now : (standing : HartStanding) (stop : Option Stop) (node : Node) (access : Access) → Fits standing stop node → MayMake node standing access → IsUnspent standing
unspent_now stand.Runs stop node access fits may = refl
unspent_now (stand.Waits mie) stop node access fits may = refl
unspent_now stand.Woken stop node access fits may = refl
unspent_now stand.Spent stop Busy access fits may = absurd fits
unspent_now stand.Spent stop Parked access fits may = absurd fits
unspent_now stand.Spent stop Gone access fits may = absurd may

-- where the access is no pulse the hart runs
runs_now : (standing : HartStanding) (stop : Option Stop) (node : Node) (access : Access) → (access ≡ acc.Pulse false → ⊥) → Fits standing stop node → MayMake node standing access → standing ≡ stand.Runs
runs_now stand.Runs stop node access other fits may = refl
runs_now standing stop Parked access other fits may = absurd (other may.1)
runs_now standing stop Gone access other fits may = absurd may
runs_now (stand.Waits mie) stop Busy access other fits may = absurd fits
runs_now stand.Woken stop Busy access other fits may = absurd fits
runs_now stand.Spent stop Busy access other fits may = absurd fits

pub fits_own : (s : DeviceState) (left : List ℕ) (h : ℕ) (access : Access) (node : Node) → h < harts_in s → Fits (standing_in s h) s.stop node → MayMake node (standing_in s h) access
    → Fits (standing_in (device_step s h access) h) (device_step s h access).stop (next_node access (reply_in s left h access))
fits_own s left h (acc.Pulse tick) node within fits may =
    told_fits (standing_in (device_step s h (acc.Pulse tick)) h) (device_step s h (acc.Pulse tick)).stop (lines_of (device_step s h (acc.Pulse tick)).mtime (hart_at (device_step s h (acc.Pulse tick)) h)) (unspent_pulse s h tick within (unspent_now (standing_in s h) s.stop node (acc.Pulse tick) fits may))
fits_own s left h (acc.Wait mie) node within fits may = told_fits (standing_in (device_step s h (acc.Wait mie)) h) (device_step s h (acc.Wait mie)).stop (lines_of (device_step s h (acc.Wait mie)).mtime (hart_at (device_step s h (acc.Wait mie)) h)) (unspent_wait s h mie within)
fits_own s left h acc.Retire node within fits may =
    let At : HartStanding → Type 0 = λ x. Fits x (device_step s h acc.Retire).stop Gone in
    subst At (sym (spent_retire s h within)) tt
fits_own s left h (acc.DevWrite address width value) node within fits may =
    runs_on (standing_in s h) _ s.stop _ (runs_now (standing_in s h) s.stop node (acc.DevWrite address width value) (λ e. cc) fits may) (write_own s h address width value within)
fits_own s left h (acc.DevRead address width) node within fits may =
    runs_on (standing_in s h) _ s.stop _ (runs_now (standing_in s h) s.stop node (acc.DevRead address width) (λ e. cc) fits may) (after_wakes s h within)
fits_own s left h acc.Time node within fits may =
    runs_on (standing_in s h) _ s.stop _ (runs_now (standing_in s h) s.stop node acc.Time (λ e. cc) fits may) (after_wakes s h within)
fits_own s left h (acc.Fetch address) node within fits may =
    runs_on (standing_in s h) _ s.stop _ (runs_now (standing_in s h) s.stop node (acc.Fetch address) (λ e. cc) fits may) (after_wakes s h within)
fits_own s left h (acc.Pte address) node within fits may =
    runs_on (standing_in s h) _ s.stop _ (runs_now (standing_in s h) s.stop node (acc.Pte address) (λ e. cc) fits may) (after_wakes s h within)
fits_own s left h (acc.Read address width) node within fits may =
    runs_on (standing_in s h) _ s.stop _ (runs_now (standing_in s h) s.stop node (acc.Read address width) (λ e. cc) fits may) (after_wakes s h within)
fits_own s left h (acc.Write address width value) node within fits may =
    runs_on (standing_in s h) _ s.stop _ (runs_now (standing_in s h) s.stop node (acc.Write address width value) (λ e. cc) fits may) (after_wakes s h within)
fits_own s left h (acc.Lr address width) node within fits may =
    runs_on (standing_in s h) _ s.stop _ (runs_now (standing_in s h) s.stop node (acc.Lr address width) (λ e. cc) fits may) (after_wakes s h within)
fits_own s left h (acc.Sc address width value) node within fits may =
    runs_on (standing_in s h) _ s.stop _ (runs_now (standing_in s h) s.stop node (acc.Sc address width value) (λ e. cc) fits may) (after_wakes s h within)
fits_own s left h (acc.Amo op address width value) node within fits may =
    runs_on (standing_in s h) _ s.stop _ (runs_now (standing_in s h) s.stop node (acc.Amo op address width value) (λ e. cc) fits may) (after_wakes s h within)

-- What a pulse of a hart that runs, or is woken, is told.

runs_if : (h : ℕ) (b : Bool) (s t : DeviceState) → standing_in s h ≡ stand.Runs → (b ≡ false → standing_in t h ≡ stand.Runs) → standing_in (if b then s else t) h ≡ stand.Runs
runs_if h true s t first second = first
runs_if h false s t first second = second refl

awake_by : (standing : HartStanding) → (standing ≡ stand.Runs) ⊎ (standing ≡ stand.Woken) → is_woken standing ≡ false → standing ≡ stand.Runs
awake_by standing (inl runs) off = runs
awake_by standing (inr woken) off = let on = ap is_woken woken in absurd cc

-- the hart runs after it
pub pulse_runs : (s : DeviceState) (h : ℕ) (tick : Bool) → h < harts_in s → (standing_in s h ≡ stand.Runs) ⊎ (standing_in s h ≡ stand.Woken)
    → standing_in (device_step s h (acc.Pulse tick)) h ≡ stand.Runs
pulse_runs s h tick within awake =
    let now : DeviceState = record s { mtime = next_mtime s.mtime tick } in
    let running = runs_if_woken now h in
    let runs : standing_in running h ≡ stand.Runs = runs_if h (is_woken (standing_in now h)) (stands_as now h stand.Runs) now
    (standing-own now h (record (hart_at now h) { standing = stand.Runs }) within) (awake_by (standing_in now h) awake) in
    let After : HartStanding → Type 0 = λ x. IsAfter x (standing_in (wakes running) h) in
    subst After runs (after_wakes running h (omega (arith, harts-runs_if_woken now h, within)))

-- and is told 0
pub pulse_told : (s : DeviceState) (left : List ℕ) (h : ℕ) (tick : Bool) → h < harts_in s → (standing_in s h ≡ stand.Runs) ⊎ (standing_in s h ≡ stand.Woken)
    → (reply_in s left h (acc.Pulse tick)).value ≡ 0
pulse_told s left h tick within awake = ap (λ x. if still_waits x then 1 else 0) (pulse_runs s h tick within awake)
