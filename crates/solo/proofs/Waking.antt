-- A parked hart that the devices have woken, or haven't.
use Rattle.std.proofs.Common.{◌≡◌, ℕ, ◌<◌, true, false, Option, refl, ap, subst}
use Rattle.flex_base.specs.Setup.{Setup}
use Rattle.flex_base.specs.StoryTree.{IsParked}
use Rattle.flex_base.specs.Devices.{hart_at, is_woken, is_unwoken, devices}
use Rattle.flex_base.specs.Parked.{Node, Parked, node_of, Fits}
use Rattle.flex_base.specs.Unsplit.{Machine, story_of, want_of, is_woken_in}
use Rattle.flex_base.specs.declared.event.Stop.{Stop}
use Rattle.flex_base.specs.declared.hart_device.HartStanding.{HartStanding}
use Rattle.flex_base.specs.declared.hart_device.HartStanding.TheVariants as stand
use Rattle.flex_base.proofs.Turns.{story_parks}
use Rattle.solo.specs.Standing.{IsReached}
use Rattle.solo.proofs.Rounds.{reached_stand}

woken_by : (standing : HartStanding) (stop : Option Stop) → Fits standing stop Parked → is_unwoken standing ≡ false → is_woken standing ≡ true
woken_by stand.Runs stop fits told = absurd fits
woken_by (stand.Waits mie) stop fits told = absurd cc
woken_by stand.Woken stop fits told = refl
woken_by stand.Spent stop fits told = absurd fits

not_woken : (standing : HartStanding) → is_unwoken standing ≡ true → is_woken standing ≡ false
not_woken stand.Runs told = absurd cc
not_woken (stand.Waits mie) told = refl
not_woken stand.Woken told = absurd cc
not_woken stand.Spent told = absurd cc

-- a parked hart that doesn't wait unwoken is woken
pub parked_woken : (setup : Setup) (u : Machine) (h : ℕ) → IsReached setup u → h < setup.harts → want_of setup u h ≡ IsParked
    → is_unwoken (hart_at (devices setup.harts u.devices) h).standing ≡ false → is_woken_in setup u h ≡ true
parked_woken setup u h reached below parked told =
    let s = devices setup.harts u.devices in
    let parks = story_parks (story_of setup u h) parked in
    let At : Node → Type 0 = λ n. Fits (hart_at s h).standing s.stop n in
    woken_by (hart_at s h).standing s.stop (subst At (ap node_of parks.1) ((reached_stand setup u reached).fits h below)) told

pub parked_unwoken : (setup : Setup) (u : Machine) (h : ℕ) → is_unwoken (hart_at (devices setup.harts u.devices) h).standing ≡ true → is_woken_in setup u h ≡ false
parked_unwoken setup u h told = not_woken (hart_at (devices setup.harts u.devices) h).standing told
