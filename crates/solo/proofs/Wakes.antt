-- A parked hart that is tried: it makes its pulse, or nothing happened.
use Rattle.std.proofs.Common.{◌≡◌, ℕ, ◌<◌, true, false, List, length, get_or, Some, refl, ap, sym, subst, ◌∙◌, arith}
use Rattle.flex_base.specs.Setup.{Setup}
use Rattle.flex_base.specs.FlatMemory.{Done}
use Rattle.flex_base.specs.Devices.{hart_at, is_unwoken, devices}
use Rattle.flex_base.specs.StoryTree.{Want, Asks, Ends, IsOver, IsParked}
use Rattle.flex_base.specs.Unsplit.{Machine, want_of, step, does}
use Rattle.flex_base.specs.declared.access.Access.TheVariants as acc
use Rattle.flex_base.specs.declared.class.Class.TheVariants as class
use Rattle.flex_base.specs.declared.event.What.TheVariants as what
use Rattle.flex_base.proofs.Machines.{next_woken, step_unwoken}
use Rattle.flex_base.proofs.Turns.{turn_of-woken, turn_of-unwoken}
use Rattle.flex_base.proofs.Standing.{woken_told}
use Rattle.access_record.specs.Buses.{events_of}
use Rattle.transplant_plan.specs.Planning.{engine_at}
use Rattle.transplant_plan.specs.Split.{Splitting, holder_of}
use Rattle.transplant_plan.specs.declared.plan.Plan.{Plan}
use Rattle.mem_banks.specs.Plain.{Plain}
use Rattle.context.specs.declared.wants.Wants.TheVariants as wants
use Rattle.context.specs.Contexts.{Context, IsOn, IsSame, IsWanting, IsWoken, IsUnwoken}
use Rattle.context.specs.Obeying.{wants_of}
use Rattle.solo.specs.Solo.{Solo, engines_of}
use Rattle.solo.specs.Standing.{IsHart, Holds, IsAt, split_of}
use Rattle.solo.specs.Playing.{Accesses, Rests}
use Rattle.solo.proofs.Standing.{hart_read, wants_read}
use Rattle.solo.proofs.Stepping.{with_hart, holds_still}
use Rattle.solo.proofs.Making.{grown_in, split_more}
use Rattle.solo.proofs.Waking.{parked_woken, parked_unwoken}
use Rattle.solo.proofs.Events.{some_history, access_made}

parked_by : (w : Want) → wants_of w ≡ wants.Parked → w ≡ IsParked
parked_by (Asks access) e = absurd cc
parked_by (Ends part next) e = absurd cc
parked_by IsOver e = absurd cc
parked_by IsParked e = refl

module _ (setup : Setup) (u : Machine) (s : Solo) (h : ℕ) (c new : Context) (bus : Plain) (at : IsAt setup u s) (below : h < setup.harts)
    (read : c ≡ get_or s.contexts h c) (same : IsSame c new) (on : IsOn s.bus.run new) (run_same : bus.run ≡ s.bus.run) (wanting : IsWanting c wants.Parked) where
  abbrev p : Splitting
  p = split_of setup u s

  abbrev there : IsHart setup u s at.made h (holder_of (engines_of s.plan) p h) c
  there = hart_read setup u p s at h c below read

  within : h < length u.harts
  within = omega (arith, below, at.halves)

  parked : want_of setup u h ≡ IsParked
  parked = parked_by (want_of setup u h) (wants_read setup u p s at h c below read wants.Parked wanting)

  -- it was woken
  pub woken_at : IsWoken s.bus.run (Some s.bus.history) (Some bus.history) c new → Accesses setup u h (with_hart s h new bus)
  woken_at w =
      let answered = w.adds.history.answered in
      let Proper : Setup × List Done × ℕ → Type 0 = λ x. is_unwoken (hart_at (devices x.0.harts x.1) x.2).standing ≡ false in
      let proper = subst Proper (λ i. (at.memory.setup_is i, at.memory.devices i, there.number i)) answered.proper in
      let woken = parked_woken setup u h at.reached below parked proper in
      let next = next_woken setup u h parked woken in
      let made = access_made setup u p s h c new bus at below read there.number same on run_same (acc.Pulse false) w.reply w.adds w.engine next tt tt in
      let plan = engines_of s.plan in
      let in_engines : h < length p.engines = omega (arith, below, at.engines) in
      let goes = sym w.here ∙ ap (λ (x : Plan). engine_at x.engines class.Pulse) there.plan_is in
      let is = grown_in plan p h c.engine c.engine (what.Acc (acc.Pulse false) w.reply) in_engines there.engine_is goes refl in
      let all = split_more plan setup.harts u.events (step setup u h).events (does h (what.Acc (acc.Pulse false) w.reply)) _ made.events is in
      let Of : Splitting → Type 0 = λ x. Holds setup (step setup u h) x (with_hart s h new bus) in
      record {
        at = subst Of all made.holds;
        names = turn_of-woken setup u h below within parked woken (woken_told setup u h below woken);
      }

  -- it waits unwoken
  pub unwoken_at : IsUnwoken s.bus.run (Some s.bus.history) (Some bus.history) c new → Rests setup u h (with_hart s h new bus)
  unwoken_at w =
      let Unwoken : Setup × List Done × ℕ → Type 0 = λ x. is_unwoken (hart_at (devices x.0.harts x.1) x.2).standing ≡ true in
      let unwoken = parked_unwoken setup u h (subst Unwoken (λ i. (at.memory.setup_is i, at.memory.devices i, there.number i)) w.in_history) in
      record {
        at = holds_still setup u p s h c new bus at below read same (ap events_of w.looked.log) (ap (λ (x : Context). x.engine) w.same) on run_same
            (some_history bus.history s.bus.history w.stays);
        still = step_unwoken setup u h below parked unwoken;
        names = turn_of-unwoken setup u h parked unwoken;
      }
