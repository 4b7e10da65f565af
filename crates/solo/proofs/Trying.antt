-- What a step comes to, by what the context wants.
use Rattle.std.proofs.Common.{◌≡◌, ℕ, ◌<◌, List, [], ◌∷◌, length, get_or, set, Option, Some, refl, ap, sym, subst, ◌∙◌, arith, get_or-set_same}
use Rattle.flex_base.specs.Setup.{Setup}
use Rattle.flex_base.specs.State.{State}
use Rattle.flex_base.specs.StoryTree.{Want, Asks, Ends, IsOver, IsParked}
use Rattle.flex_base.specs.Unsplit.{Machine, want_of, step}
use Rattle.flex_base.specs.declared.access.Access.{Access}
use Rattle.flex_base.specs.declared.class.Class.{Class}
use Rattle.flex_base.specs.declared.engine.Engine.{Engine}
use Rattle.flex_base.specs.declared.event.EndPart.{EndPart}
use Rattle.flex_base.proofs.Machines.{step_over}
use Rattle.flex_base.proofs.Turns.{turn_of-asks, turn_of-ends, turn_of-over}
use Rattle.access_record.specs.Buses.{Run}
use Rattle.access_record.specs.Histories.{History}
use Rattle.transplant_plan.specs.Planning.{engine_at}
use Rattle.transplant_plan.specs.declared.plan.Plan.{Plan}
use Rattle.mem_banks.specs.Plain.{Plain}
use Rattle.context.specs.declared.wants.Wants.{Wants}
use Rattle.context.specs.declared.wants.Wants.TheVariants as wants
use Rattle.context.specs.Contexts.{Context, IsOn, IsSame, IsWanting, IsElsewhere, Moves, Goes, Stays, events_in, plan_of}
use Rattle.context.specs.Obeying.{wants_of, IsFor}
use Rattle.context.proofs.Keeping.{wants_one}
use Rattle.pipeline.specs.declared.flight.Flight.{Flight}
use Rattle.pipeline.specs.Pipes.{AreInFlight}
use Rattle.solo.specs.Solo.{Solo}
use Rattle.solo.specs.Standing.{IsAt}
use Rattle.solo.specs.Playing.{Accesses, Finishes, Rests}
use Rattle.solo.specs.Engines.{IsFlying}
use Rattle.solo.proofs.Standing.{harts_are, wants_read}
use Rattle.solo.proofs.Stepping.{with_hart, holds_still}
use Rattle.solo.proofs.Flying.{flying_set}
use Rattle.solo.proofs.Events.{some_history, ask_tells, finish_tells, stays_at, moved_at}

asks_by : (w : Want) (class : Class) → wants_of w ≡ wants.Ask class → (access : Access) × (w ≡ Asks access)
asks_by (Asks access) class e = (access, refl)
asks_by (Ends part next) class e = absurd cc
asks_by IsOver class e = absurd cc
asks_by IsParked class e = absurd cc

ends_by : (w : Want) (class : Class) → wants_of w ≡ wants.Finish class → (part : EndPart) × (after : State) × (w ≡ Ends part after)
ends_by (Asks access) class e = absurd cc
ends_by (Ends part next) class e = (part, next, refl)
ends_by IsOver class e = absurd cc
ends_by IsParked class e = absurd cc

over_by : (w : Want) → wants_of w ≡ wants.Over → w ≡ IsOver
over_by (Asks access) e = absurd cc
over_by (Ends part next) e = absurd cc
over_by IsOver e = refl
over_by IsParked e = absurd cc

-- the context that was read of a machine whose contexts these are wants the work of the engine
pub elsewhere_read : (now s : Solo) (h : ℕ) (c : Context) (to : Engine) → s ≡ now → c ≡ get_or s.contexts h c
    → ((other : Context) → IsElsewhere to (get_or now.contexts h other)) → IsElsewhere to c
elsewhere_read now s h c to view read elsewhere =
    let Is : Context → Type 0 = λ x. IsElsewhere to x in
    subst Is (sym (read ∙ ap (λ (x : Solo). get_or x.contexts h c) view)) (elsewhere c)

-- A hart that was handed over to the engine of what it wants.

module _ (run : Run) (before after : Option History) (to : Engine) (c moved : Context) (elsewhere : IsElsewhere to c) (same : IsSame c moved)
    (moves : Moves run before after to c moved) where
  wanting_before : (w : Wants) → IsWanting moved w → IsWanting c w × IsFor (plan_of c) w to
  wanting_before w wanting =
      let first = elsewhere.wanted in
      let Is : Wants → Type 0 = λ x. IsWanting c x × IsFor (plan_of c) x to in
      subst Is (wants_one moved first.0 w (moves.wants first.0 first.1) wanting) (first.1, first.2)

  same_plan : (w : Wants) (engine : Engine) → IsFor (plan_of c) w to → IsFor (plan_of moved) w engine → engine ≡ to
  same_plan (wants.Ask class) engine first again = sym again ∙ ap (λ (x : Plan). engine_at x.engines class) same.plan ∙ first
  same_plan (wants.Finish class) engine first again = sym again ∙ ap (λ (x : Plan). engine_at x.engines class) same.plan ∙ first
  same_plan wants.Parked engine first again = absurd first
  same_plan wants.Over engine first again = absurd first

  -- it neither waits nor is over, and its event is that engine's work
  pub never_parked : IsWanting moved wants.Parked → ⊥
  never_parked wanting = (wanting_before wants.Parked wanting).1

  pub never_over : IsWanting moved wants.Over → ⊥
  never_over wanting = (wanting_before wants.Over wanting).1

  pub never_again : (again : Engine) → IsElsewhere again moved → ⊥
  never_again again there =
      let w = there.wanted in
      there.other (same_plan w.0 again (wanting_before w.0 w.1).1 w.2 ∙ sym moves.engine)

-- What a hart did, by what its context's call tells. The machine is said of by its value, the context by the fields.

module _ (setup : Setup) (u : Machine) (now s : Solo) (h : ℕ) (c : Context) (view : s ≡ now) (at_now : IsAt setup u now) (inside : h < now.settings.harts)
    (read : c ≡ get_or s.contexts h c) where
  at : IsAt setup u s
  at =
      let At : Solo → Type 0 = λ x. IsAt setup u x in
      subst At (sym view) at_now

  below : h < setup.harts
  below = omega (arith, inside, harts_are setup u _ now at_now)

  in_harts : h < length u.harts
  in_harts = omega (arith, below, at.halves)

  asked_at : (class : Class) (next : Solo) → IsWanting c (wants.Ask class) → IsAt setup (step setup u h) next → Accesses setup u h next
  asked_at class next wanting there =
      let asks = asks_by (want_of setup u h) class (wants_read setup u _ s at h c below read (wants.Ask class) wanting) in
      record { at = there; names = turn_of-asks setup u h asks.0 below in_harts asks.1 }

  ended_at : (class : Class) (next : Solo) → IsWanting c (wants.Finish class) → IsAt setup (step setup u h) next → Finishes setup u h next
  ended_at class next wanting there =
      let ends = ends_by (want_of setup u h) class (wants_read setup u _ s at h c below read (wants.Finish class) wanting) in
      record { at = there; names = turn_of-ends setup u h ends.0 ends.1 ends.2 }

  -- what is in the latches is still its instruction
  pub flying_at : (new : Context) (bus : Plain) (latches : List (Option Flight)) → AreInFlight (new ∷ []) latches → IsFlying (with_hart s h new bus) h latches
  flying_at new bus latches flying = flying_set s h new bus latches (omega (arith, below, at.counted)) flying

  -- in the engine of its class
  module _ (new : Context) (bus : Plain) (same : IsSame c new) (on : IsOn s.bus.run new) (run_same : bus.run ≡ s.bus.run) where
    pub accessed : Goes s.bus.run (Some s.bus.history) (Some bus.history) wants.Ask c new → Accesses setup u h (with_hart s h new bus)
    accessed went = asked_at went.class (with_hart s h new bus) went.wanting (stays_at setup u s h c new bus wants.Ask at below read same on run_same ask_tells went)

    pub finished : Goes s.bus.run (Some s.bus.history) (Some bus.history) wants.Finish c new → Finishes setup u h (with_hart s h new bus)
    finished went = ended_at went.class (with_hart s h new bus) went.wanting (stays_at setup u s h c new bus wants.Finish at below read same on run_same finish_tells went)

  -- in the engine to which it was handed over before
  module _ (moved new : Context) (between bus : Plain) (to : Engine) (elsewhere : IsElsewhere to c) (same : IsSame c moved) (on : IsOn s.bus.run moved)
      (run_same : between.run ≡ s.bus.run) (moves : Moves s.bus.run (Some s.bus.history) (Some between.history) to c moved) (same' : IsSame moved new)
      (on' : IsOn between.run new) (run_same' : bus.run ≡ between.run) where
    wanting_first : (w : Wants) → IsWanting moved w → IsWanting c w
    wanting_first w wanting = (wanting_before s.bus.run (Some s.bus.history) (Some between.history) to c moved elsewhere same moves w wanting).0

    pub moved_accessed : Goes between.run (Some between.history) (Some bus.history) wants.Ask moved new → Accesses setup u h (with_hart s h new bus)
    moved_accessed went = asked_at went.class (with_hart s h new bus) (wanting_first (wants.Ask went.class) went.wanting)
        (moved_at setup u s h c moved new between bus to wants.Ask at below read elsewhere.other same on run_same moves same' on' run_same' ask_tells went)

    pub moved_finished : Goes between.run (Some between.history) (Some bus.history) wants.Finish moved new → Finishes setup u h (with_hart s h new bus)
    moved_finished went = ended_at went.class (with_hart s h new bus) (wanting_first (wants.Finish went.class) went.wanting)
        (moved_at setup u s h c moved new between bus to wants.Finish at below read elsewhere.other same on run_same moves same' on' run_same' finish_tells went)

  -- nothing
  module _ (new : Context) (bus : Plain) (same : IsSame c new) (on : IsOn s.bus.run new) (run_same : bus.run ≡ s.bus.run)
      (stays : Stays (Some s.bus.history) (Some bus.history) c new) where
    pub still_at : IsAt setup u (with_hart s h new bus)
    still_at = holds_still setup u _ s h c new bus at below read same (ap events_in stays.same) (ap (λ (x : Context). x.engine) stays.same) on run_same
        (some_history bus.history s.bus.history stays.stays)

    pub parked_still : IsWanting c wants.Parked → (other : Context) → IsWanting (get_or (set s.contexts h new) h other) wants.Parked
    parked_still wanting other =
        let within : h < length s.contexts = omega (arith, below, at.counted) in
        let Is : Context → Type 0 = λ x. IsWanting x wants.Parked in
        subst Is (sym (get_or-set_same s.contexts h new other within ∙ stays.same)) wanting

    pub over_at : IsWanting c wants.Over → Rests setup u h (with_hart s h new bus)
    over_at wanting =
        let over = over_by (want_of setup u h) (wants_read setup u _ s at h c below read wants.Over wanting) in
        record { at = still_at; still = step_over setup u h below over; names = turn_of-over setup u h over }
