-- What holds of the devices over any accesses.
use Rattle.std.specs.Prelude.{◌≡◌, ℕ, ◌<◌, ◌≤◌, ◌⊎◌, Bool, true, false, not, if◌then◌else◌, List, [], ◌∷◌, length, filter, slice_index_or, Option, None, Some, is_some}
use Rattle.std.specs.List.{list_all}
use Rattle.flex_base.specs.FlatMemory.{Done}
use Rattle.flex_base.specs.Devices.{DeviceState, hart_at, hart_start, is_interrupted, all_at_rest, alarm, Register, Mtime, register_at, put_part, next_mtime}
use Rattle.flex_base.specs.declared.access.Access.{Access}
use Rattle.flex_base.specs.declared.access.Access.TheVariants as acc
use Rattle.flex_base.specs.declared.event.Stop.{Stop}
use Rattle.flex_base.specs.declared.hart_device.HartDevice.{HartDevice}
use Rattle.flex_base.specs.declared.hart_device.HartStanding.{HartStanding}
use Rattle.flex_base.specs.declared.hart_device.HartStanding.TheVariants as stand

-- each access is made by one of so many harts
abbrev pub AreBelow : ℕ → List Done → Type 0
AreBelow harts [] = Unit {0}
AreBelow harts (d ∷ made) = (d.hart < harts) × AreBelow harts made

-- Some hart goes on.

-- a stop stands, or some hart runs or is woken
abbrev pub IsLive : DeviceState → Type 0
IsLive s = (is_some s.stop ≡ true) ⊎ (all_at_rest s.harts ≡ false)

-- the first stop stays
abbrev pub KeepsStop : Option Stop → Option Stop → Type 0
KeepsStop None new = Unit {0}
KeepsStop (Some old) new = new ≡ Some old

-- Nothing that can wake a hart is missed.

-- the hart doesn't wait for a line that is on
abbrev pub settled_by : ℕ → HartDevice → HartStanding → Bool
settled_by mtime own (stand.Waits mie) = not (is_interrupted mtime own mie)
settled_by mtime own other = true

abbrev pub is_settled : DeviceState → Bool
is_settled s = list_all (λ (own : HartDevice). settled_by s.mtime own own.standing) s.harts

-- every hart is spent or waits unwoken, and no compare value can wake one
pub record IsIdle (s : DeviceState) : Type 0 where
  pub rest : all_at_rest s.harts ≡ true
  pub no_alarm : (h : ℕ) → h < length s.harts → alarm (hart_at s h) ≡ None

-- the time is the least at which time alone wakes one of the harts
pub record IsNextAlarm (harts : List HartDevice) (time : ℕ) : Type 0 where
  pub hart : (h : ℕ) × (h < length harts) × (alarm (slice_index_or harts h hart_start) ≡ Some time)
  pub least : (h other : ℕ) → h < length harts → alarm (slice_index_or harts h hart_start) ≡ Some other → time ≤ other

-- Time.

abbrev pub is_mtime : Register → Bool
is_mtime Mtime = true
is_mtime _ = false

-- an access leaves the time: a pulse adds its tick, a wait and a retirement may move it forward, a write may set it
abbrev pub MovesTime : Access → ℕ → ℕ → Type 0
MovesTime (acc.Pulse tick) old new = new ≡ next_mtime old tick
MovesTime (acc.Wait mie) old new = old ≤ new
MovesTime acc.Retire old new = old ≤ new
MovesTime (acc.DevWrite address width value) old new =
    new ≡ (if is_mtime (register_at address) then put_part address width old value else old)
MovesTime other old new = new ≡ old

-- the access makes time go on by one
abbrev pub is_ticking : Access → Bool
is_ticking (acc.Pulse tick) = tick
is_ticking other = false

-- the access neither writes the time nor can make it jump
abbrev pub is_steady : Access → Bool
is_steady (acc.Wait mie) = false
is_steady acc.Retire = false
is_steady (acc.DevWrite address width value) = not (is_mtime (register_at address))
is_steady other = true

abbrev pub AreSteady : List Done → Type 0
AreSteady made = list_all (λ (d : Done). is_steady d.access) made ≡ true

-- how often time went on
abbrev pub ticks : List Done → ℕ
ticks made = length (filter (λ (d : Done). is_ticking d.access) made)
