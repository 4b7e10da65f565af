-- Once all harts have come back, the context of each lies at the place of its number.
use Rattle.std.proofs.Common.{◌≡◌, ℕ, ◌+◌, ◌<◌, ◌≤◌, suc, List, [], ◌∷◌, ◌++◌, length, map, get_or, refl, ap, sym, subst, ◌∙◌, arith, append_assoc, append-nil, length-append}
use Rattle.std.specs.Prelude.{Option, None, Some, reverse}
use Rattle.std.specs.List.{All, sum_by}
use Rattle.std.proofs.lemmas.List.{get_or-map, length-map, map_push, reverse-append, reverse-reverse, get_or_append_left, get_or_push}
use Rattle.std.proofs.lemmas.List.Elements.{All-cons, All-nil}
use Rattle.std.proofs.lemmas.List.Sums.{sum_by-cons}
use Rattle.access_record.specs.Buses.{Run}
use Rattle.access_record.specs.Passes.{Enrolment}
use Rattle.transplant_plan.specs.declared.plan.Plan.{Plan}
use Rattle.mem_banks.specs.End.{Memory, IsMemoryOf}
use Rattle.context.specs.Contexts.{Context}
use Rattle.crew.specs.Crews.{Berth, Crew, IsOfCrew, IsResting, filled, IsCrew, AreHome, IsHeld, AreAllResting}
use Rattle.crew.specs.Played.{IsRunnable, IsAtRest, IsAtRestAt, IsOver}

-- Where there are as many contexts as places, one lies at each.

filled_most : (resting : List (Option Context)) → sum_by filled resting ≤ length resting
filled_most [] = omega arith
filled_most (None ∷ resting) = omega (arith, sum_by-cons filled None resting, filled_most resting)
filled_most (Some c ∷ resting) = omega (arith, sum_by-cons filled (Some c) resting, filled_most resting)

all_held : (resting : List (Option Context)) → sum_by filled resting ≡ length resting → AreAllResting resting
all_held [] all = All-nil IsHeld
all_held (None ∷ resting) all = absurd (omega (arith, all, sum_by-cons filled None resting, filled_most resting))
all_held (Some c ∷ resting) all = All-cons IsHeld (Some c) resting tt (all_held resting (omega (arith, all, sum_by-cons filled (Some c) resting)))

none_held : (workers : List Berth) → All (λ (w : Berth). w.contexts ≡ []) workers → sum_by (λ (w : Berth). length w.contexts) workers ≡ 0
none_held [] none = refl
none_held (w ∷ workers) none =
    let here : length w.contexts ≡ 0 = ap (λ (cs : List Context). length cs) (none 0 w (omega arith)) in
    let rest = none_held workers (λ k other below. none (suc k) other (omega (arith, below))) in
    omega (arith, here, rest, sum_by-cons (λ (v : Berth). length v.contexts) w workers)

pub all_resting : (run : Run) (crew : Crew) → IsCrew run crew → AreHome crew → AreAllResting crew.resting
all_resting run crew is home = all_held crew.resting (omega (arith, is.all, is.places, none_held crew.workers home))

-- These are the contexts of all harts in rising order, each at rest beside the devices of a memory that isn't settled.
pub record AreBack (run : Run) (plan : Plan) (memory : Memory) (contexts : List Context) : Type 0 where
  pub runnable : IsRunnable run
  pub few : run.setup.harts ≤ 32
  pub of_run : IsMemoryOf run memory
  pub counted : length contexts ≡ run.setup.harts
  pub each : (h : ℕ) (other : Context) → h < run.setup.harts → IsOfCrew run plan (get_or contexts h other)
  pub number : (h : ℕ) (other : Context) → h < run.setup.harts → (get_or contexts h other).pass.hart.0 ≡ h
  pub rest : (h : ℕ) (other : Context) → h < run.setup.harts → IsAtRest memory.devices (get_or contexts h other)

pub are_back : (run : Run) (crew : Crew) (memory : Memory) (founder : Enrolment) (contexts : List Context) → IsOver run crew memory founder
    → map (λ (c : Context). Some c) contexts ≡ crew.resting → AreBack run crew.plan memory contexts
are_back run crew memory founder contexts over same =
    let count : length contexts ≡ run.setup.harts =
    sym (length-map contexts (λ (c : Context). Some c)) ∙ ap (λ (places : List (Option Context)). length places) same ∙ over.is_crew.places in
    let at = λ (h : ℕ) (other : Context) (below : h < run.setup.harts).
    ap (λ (places : List (Option Context)). get_or places h (Some other)) (sym same)
    ∙ get_or-map (λ (c : Context). Some c) contexts h other (Some other) (omega (arith, below, count)) in
    let within = λ (h : ℕ) (below : h < run.setup.harts). let inside : h < length crew.resting = omega (arith, below, over.is_crew.places) in inside in
    let resting = λ (h : ℕ) (other : Context) (below : h < run.setup.harts).
    subst (IsResting run crew.plan h) (at h other below) (over.is_crew.resting h (Some other) (within h below)) in
    record {
      runnable = over.runnable;
      few = over.is_crew.few;
      of_run = over.of_run;
      counted = count;
      each = λ h other below. (resting h other below).0;
      number = λ h other below. (resting h other below).1;
      rest = λ h other below. subst (IsAtRestAt memory.devices) (at h other below) (over.rest h (Some other) (within h below));
    }

-- Places emptied, the last one first.

-- one more is taken
pub held_more : (old before : List (Option Context)) (x : Context) → old ≡ before ++ Some x ∷ [] → (done more : List Context) (whole : List (Option Context))
    → more ≡ done ++ x ∷ [] → map (λ (c : Context). Some c) done ++ reverse old ≡ whole → map (λ (c : Context). Some c) more ++ reverse before ≡ whole
held_more old before x last done more whole pushed all =
    let first : reverse old ≡ Some x ∷ reverse before = ap reverse last ∙ reverse-append before (Some x ∷ []) in
    let held = map (λ (c : Context). Some c) done in
    ap (λ cs. map (λ (c : Context). Some c) cs ++ reverse before) pushed
    ∙ ap (λ os. os ++ reverse before) (map_push (λ (c : Context). Some c) done x)
    ∙ append_assoc held (Some x ∷ []) (reverse before)
    ∙ ap (λ os. held ++ os) (sym first)
    ∙ all

held-reverse : (contexts : List Context) → map (λ (c : Context). Some c) (reverse contexts) ≡ reverse (map (λ (c : Context). Some c) contexts)
held-reverse [] = refl
held-reverse (x ∷ contexts) =
    ap (map (λ (c : Context). Some c)) (reverse-append (x ∷ []) contexts)
    ∙ map_push (λ (c : Context). Some c) (reverse contexts) x
    ∙ ap (λ os. os ++ Some x ∷ []) (held-reverse contexts)
    ∙ sym (reverse-append (Some x ∷ []) (map (λ (c : Context). Some c) contexts))

-- all are taken; turned round they stand as they stood
pub held_all : (rest all : List (Option Context)) (done turned : List Context) → rest ≡ [] → turned ≡ reverse done
    → map (λ (c : Context). Some c) done ++ reverse rest ≡ reverse all → map (λ (c : Context). Some c) turned ≡ all
held_all rest all done turned none round whole =
    let held = map (λ (c : Context). Some c) done in
    ap (map (λ (c : Context). Some c)) round
    ∙ held-reverse done
    ∙ ap reverse (sym (append-nil held) ∙ ap (λ os. held ++ reverse os) (sym none) ∙ whole)
    ∙ reverse-reverse all

-- what a place holds that held one, and those before it
pub held_last : (old before : List (Option Context)) (x : Option Context) → old ≡ before ++ x ∷ [] → AreAllResting old → IsHeld x
held_last old before x last all =
    let count : length old ≡ length before + 1 = ap (λ (os : List (Option Context)). length os) last ∙ length-append before (x ∷ []) in
    subst IsHeld (ap (λ (os : List (Option Context)). get_or os (length before) x) last ∙ get_or_push before x x (length before) refl)
    (all (length before) x (omega (arith, count)))

pub held_before : (old before : List (Option Context)) (x : Option Context) → old ≡ before ++ x ∷ [] → AreAllResting old → AreAllResting before
held_before old before x last all k other below =
    let count : length old ≡ length before + 1 = ap (λ (os : List (Option Context)). length os) last ∙ length-append before (x ∷ []) in
    subst IsHeld (ap (λ (os : List (Option Context)). get_or os k other) last ∙ get_or_append_left before (x ∷ []) other k below)
    (all k other (omega (arith, below, count)))
