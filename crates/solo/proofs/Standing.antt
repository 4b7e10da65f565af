-- What is read of a context of a solo machine.
use Rattle.std.proofs.Common.{◌≡◌, ℕ, ◌<◌, Bool, true, false, ◌&&◌, get_or, refl, ap, sym, subst, ◌∙◌, arith}
use Rattle.std.specs.Prelude.{is_some}
use Rattle.std.specs.List.{list_all}
use Rattle.flex_base.specs.Setup.{Setup}
use Rattle.flex_base.specs.StoryTree.{Want, Asks, Ends, IsOver, IsParked}
use Rattle.flex_base.specs.Devices.{device_stop}
use Rattle.flex_base.specs.Following.{wanted, instruction_of}
use Rattle.flex_base.specs.Unsplit.{Machine, Instruction, instruction_at, want_of, is_idle, has_ended, hart_numbers}
use Rattle.flex_base.specs.declared.settings.Settings.{Settings}
use Rattle.flex_base.proofs.Turns.{ended_all, ended_not}
use Rattle.transplant_plan.specs.Split.{Splitting, holder_of}
use Rattle.context.specs.declared.wants.Wants.{Wants}
use Rattle.context.specs.declared.wants.Wants.TheVariants as wants
use Rattle.context.specs.Contexts as context
use Rattle.context.specs.Contexts.{Context, IsRunOf, IsWanting, events_in}
use Rattle.context.specs.Obeying.{wants_of}
use Rattle.solo.specs.Solo.{Solo, engines_of}
use Rattle.solo.specs.Standing.{IsHart, Holds, IsAt}
use Rattle.solo.specs.Playing.{TellsIdle}

module _ (setup : Setup) (u : Machine) (p : Splitting) (s : Solo) (holds : Holds setup u p s) where
  pub harts_are : s.settings.harts ≡ setup.harts
  harts_are = ap (λ (x : Settings). x.harts) holds.settings_is

  module _ (h : ℕ) (c : Context) (below : h < setup.harts) (read : c ≡ get_or s.contexts h c) where
    -- the context that was read at the place of a hart stands for it
    pub hart_read : IsHart setup u s holds.made h (holder_of (engines_of s.plan) p h) c
    hart_read =
        let Is : Context → Type 0 = λ x. IsHart setup u s holds.made h (holder_of (engines_of s.plan) p h) x in
        subst Is (sym read) (holds.each h c below)

    pub run_read : IsRunOf c.entry c.settings setup
    run_read =
        let Of : Setup → Type 0 = λ x. IsRunOf c.entry c.settings x in
        subst Of holds.memory.setup_is hart_read.on.setup

    -- where its instruction is
    pub instruction_read : context.instruction_at setup c ≡ instruction_at u h
    instruction_read = ap (λ (n : ℕ). instruction_of setup n (events_in c)) hart_read.number ∙ sym hart_read.instruction

    -- it tells what the hart wants
    pub wants_read : (w : Wants) → IsWanting c w → wants_of (want_of setup u h) ≡ w
    wants_read w wanting = ap (λ (i : Instruction). wants_of (wanted setup i)) (sym instruction_read) ∙ wanting setup run_read

-- whether it goes on by itself
abbrev pub rests : Wants → Bool
rests wants.Parked = true
rests wants.Over = true
rests other = false

pub rests_idle : (w : Want) → rests (wants_of w) ≡ is_idle w
rests_idle (Asks access) = refl
rests_idle (Ends part next) = refl
rests_idle IsOver = refl
rests_idle IsParked = refl

pub idle_read : (setup : Setup) (u : Machine) (s : Solo) (h : ℕ) (c : Context) (w : Wants) → IsAt setup u s → h < s.settings.harts → c ≡ get_or s.contexts h c
    → IsWanting c w → rests w ≡ is_idle (want_of setup u h)
idle_read setup u s h c w at within read wanting =
    let below : h < setup.harts = omega (arith, within, harts_are setup u _ s at) in
    ap rests (sym (wants_read setup u _ s at h c below read w wanting)) ∙ rests_idle (want_of setup u h)

-- Whether the run has ended.

pub ended_is : (setup : Setup) (u : Machine) (stops idle : Bool) → is_some (device_stop setup.harts u.devices) ≡ stops → (stops ≡ true → TellsIdle setup u idle)
    → (stops && idle) ≡ has_ended setup u
ended_is setup u true true e tells = sym (ended_all setup u e (tells refl))
ended_is setup u true false e tells = let busy = tells refl in sym (ended_not setup u busy.0 busy.1 busy.2)
ended_is setup u false idle e tells = sym (ap (λ b. b && list_all (λ h. is_idle (want_of setup u h)) (hart_numbers setup)) e)
