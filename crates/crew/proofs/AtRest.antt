-- Where each hart is over, or waits and the devices don't wake it, the run has ended.
use Rattle.std.proofs.Common.{◌≡◌, ℕ, ◌<◌, Bool, true, false, if◌then◌else◌, List, get_or, inl, inr, refl, ap, sym, subst, ◌∙◌}
use Rattle.std.proofs.lemmas.Bool.{cases_Bool}
use Rattle.flex_base.specs.StoryTree.{Want, Asks, Ends, IsOver, IsParked}
use Rattle.flex_base.specs.FlatMemory.{Done}
use Rattle.flex_base.specs.Devices.{woken}
use Rattle.flex_base.specs.Following.{wanted, instruction_of}
use Rattle.flex_base.specs.Unsplit.{Machine, Instruction, instruction_at, want_of, is_woken_in, next_of, resumes, is_idle, reach, has_ended}
use Rattle.flex_base.specs.declared.access.Access.TheVariants as acc
use Rattle.flex_base.proofs.EndOfRun.{run_goes_on}
use Rattle.access_record.specs.declared.entry.LogEntry.{LogEntry}
use Rattle.access_record.specs.Passes.{logs_of}
use Rattle.access_record.specs.Buses.{Run, events_of}
use Rattle.devices.specs.View as devices
use Rattle.transplant_plan.specs.declared.plan.Plan.{Plan}
use Rattle.mem_banks.specs.End.{Memory, logs_in}
use Rattle.context.specs.declared.wants.Wants.{Wants}
use Rattle.context.specs.declared.wants.Wants.TheVariants as wants
use Rattle.context.specs.Contexts as context
use Rattle.context.specs.Contexts.{Context, IsWanting, events_in}
use Rattle.context.specs.Obeying.{wants_of}
use Rattle.solo.proofs.Settling.{passes_of}
use Rattle.crew.specs.Played.{IsAtRest}
use Rattle.crew.specs.LogsOfRun.{IsStateOf}
use Rattle.crew.proofs.Gathered.{AreBack}
use Rattle.crew.proofs.Closing.{any, log_is, some_harts}

-- who is over has no next event, and who waits unwoken has none

idle_over : (w : Want) (woken : Bool) → wants_of w ≡ wants.Over → is_idle (resumes w woken) ≡ true
idle_over (Asks access) woken over = absurd cc
idle_over (Ends part next) woken over = absurd cc
idle_over IsOver woken over = refl
idle_over IsParked woken over = absurd cc

idle_parked : (w : Want) (woken : Bool) → wants_of w ≡ wants.Parked → woken ≡ false → is_idle (resumes w woken) ≡ true
idle_parked (Asks access) woken parked unwoken = absurd cc
idle_parked (Ends part next) woken parked unwoken = absurd cc
idle_parked IsOver woken parked unwoken = absurd cc
idle_parked IsParked woken parked unwoken = ap (λ b. is_idle (if b then Asks (acc.Pulse false) else IsParked)) unwoken

module _ (run : Run) (plan : Plan) (memory : Memory) (contexts : List Context) (back : AreBack run plan memory contexts)
    (u : Machine) (state : IsStateOf run (logs_of (passes_of contexts)) (logs_in memory) u) where
  abbrev other : Context
  other = any run plan memory contexts back

  -- the machine's instruction is the context's
  pub instruction_left : (h : ℕ) → (below : h < run.setup.harts) → instruction_at u h ≡ context.instruction_at run.setup (get_or contexts h other)
  instruction_left h below =
      let c = get_or contexts h other in
      state.instructions h below
      ∙ ap (λ (log : List LogEntry). instruction_of run.setup h (events_of log)) (log_is run plan memory contexts back h below)
      ∙ ap (λ (k : ℕ). instruction_of run.setup k (events_in c)) (sym (back.number h other below))

  wants_left : (h : ℕ) (w : Wants) → (below : h < run.setup.harts) → IsWanting (get_or contexts h other) w → wants_of (want_of run.setup u h) ≡ w
  wants_left h w below wanting =
      ap (λ (i : Instruction). wants_of (wanted run.setup i)) (instruction_left h below)
      ∙ wanting run.setup (back.each h other below).on.setup

  -- the devices are those of the machine
  pub devices_left : devices.IsReplay run.setup.harts run.setup.input u.devices memory.devices
  devices_left =
      let At : List Done → Type 0 = λ made. devices.IsReplay run.setup.harts run.setup.input made memory.devices in
      subst At state.devices back.of_run.devices.replay

  idle_at : (h : ℕ) → (below : h < run.setup.harts) → IsAtRest memory.devices (get_or contexts h other) → is_idle (next_of run.setup u h) ≡ true
  idle_at h below (inl over) = idle_over (want_of run.setup u h) (is_woken_in run.setup u h) (wants_left h wants.Over below over)
  idle_at h below (inr parked) =
      let unwoken : is_woken_in run.setup u h ≡ false =
      ap (λ (k : ℕ). woken run.setup.harts u.devices k) (sym (back.number h other below))
      ∙ parked.1 run.setup.harts run.setup.input u.devices devices_left in
      idle_parked (want_of run.setup u h) (is_woken_in run.setup u h) (wants_left h wants.Parked below parked.0) unwoken

  idle_left : (h : ℕ) → h < run.setup.harts → is_idle (next_of run.setup u h) ≡ true
  idle_left h below = idle_at h below (back.rest h other below)

  -- while a run hasn't ended some hart has a next event, and here none has one
  pub ended_left : (order : List ℕ) → u ≡ reach run.setup order → has_ended run.setup u ≡ true
  ended_left order reached = elim (cases_Bool (has_ended run.setup u)) [
    | inl ended ↦ ended
    | inr going ↦
        let goes = run_goes_on run.setup order (some_harts run plan memory contexts back) in
        let next = goes.next (ap (has_ended run.setup) (sym reached) ∙ going) in
        let idle : is_idle (next_of run.setup (reach run.setup order) next.0) ≡ true =
        ap (λ (m : Machine). is_idle (next_of run.setup m next.0)) (sym reached) ∙ idle_left next.0 next.1 in
        let busy = next.2 in
        absurd cc
  ]
