-- The crew at the beginning of a run: each hart rests at the place of its number, and no worker holds one.
use Rattle.std.proofs.Common.{◌≡◌, ◌≢◌, inl, inr, ℕ, suc, ◌+◌, ◌<◌, ◌≤◌, if◌then◌else◌, List, [], ◌∷◌, map, length, All, refl, sym, ap, ◌∙◌, subst, arith, eq-eqb, ne_eqb, Option, Some, sum_by}
use Rattle.std.specs.Prelude.{slice_index_or}
use Rattle.std.proofs.lemmas.Bool.{cases_eq}
use Rattle.std.proofs.lemmas.List.{get_or-map, length-map}
use Rattle.std.proofs.lemmas.List.Sums.{sum_by-cons, sum_by-le}
use Rattle.flex_base.specs.declared.settings.Settings.{Settings}
use Rattle.access_record.specs.Passes.{PassOfHart, Enrolment}
use Rattle.access_record.specs.Buses.{Run}
use Rattle.mem_banks.specs.Plain.{numbers_below}
use Rattle.mem_banks.specs.End.{IsFounderOf}
use Rattle.transplant_plan.specs.declared.plan.Plan.{Plan}
use Rattle.context.specs.Contexts.{Context}
use Rattle.solo.specs.Solo.{settings_of}
use Rattle.solo.specs.Begun.{IsBegun, AreBegun}
use Rattle.solo.proofs.Beginning.{lawful_few}
use Rattle.crew.specs.Crews.{Berth, crew_of, is_hart, times_at, times_in, times_resting, filled, IsResting, IsManned, IsCrew, AreVacant}
use Rattle.crew.specs.Played.{IsRunnable}
use Rattle.crew.specs.Rooms.{MayPlay}

-- contexts of harts that are numbered from this one on
abbrev pub AreNumbered : ℕ → List Context → Type 0
AreNumbered from contexts = (place : ℕ) (other : Context) → place < length contexts → (slice_index_or contexts place other).pass.hart.0 ≡ from + place

numbered_rest : (from : ℕ) (c : Context) (cs : List Context) → AreNumbered from (c ∷ cs) → AreNumbered (suc from) cs
numbered_rest from c cs numbered place other below = numbered (suc place) other (omega (arith, below)) ∙ omega arith

numbered_first : (from : ℕ) (c : Context) (cs : List Context) → AreNumbered from (c ∷ cs) → c.pass.hart.0 ≡ from
numbered_first from c cs numbered = numbered 0 c (omega arith) ∙ omega arith

is_other : (hart : ℕ) (c : Context) → c.pass.hart.0 ≢ hart → is_hart hart c ≡ 0
is_other hart c other = ap (λ b. if b then 1 else 0) (ne_eqb c.pass.hart.0 hart other)

is_same : (hart : ℕ) (c : Context) → c.pass.hart.0 ≡ hart → is_hart hart c ≡ 1
is_same hart c same = ap (λ b. if b then 1 else 0) (eq-eqb c.pass.hart.0 hart same)

abbrev all_resting : List Context → List (Option Context)
all_resting contexts = map (λ (c : Context). Some c) contexts

more_resting : (hart : ℕ) (c : Context) (cs : List Context) → times_resting hart (all_resting (c ∷ cs)) ≡ is_hart hart c + times_resting hart (all_resting cs)
more_resting hart c cs = sum_by-cons (times_at hart) (Some c) (all_resting cs)

-- a hart before the first isn't there
none_before : (hart from : ℕ) (contexts : List Context) → AreNumbered from contexts → hart < from → times_resting hart (all_resting contexts) ≡ 0
none_before hart from [] numbered low = refl
none_before hart from (c ∷ cs) numbered low =
    let first = numbered_first from c cs numbered in
    let head : is_hart hart c ≡ 0 = is_other hart c (λ same. absurd (omega (arith, low, same, first))) in
    let rest = none_before hart (suc from) cs (numbered_rest from c cs numbered) (omega (arith, low)) in
    omega (arith, more_resting hart c cs, head, rest)

-- each other one is there once
once_each : (hart from : ℕ) (contexts : List Context) → AreNumbered from contexts → from ≤ hart → hart < from + length contexts
    → times_resting hart (all_resting contexts) ≡ 1
once_each hart from [] numbered low high = absurd (omega (arith, low, high))
once_each hart from (c ∷ cs) numbered low high =
    let first = numbered_first from c cs numbered in
    let left = numbered_rest from c cs numbered in
    elim (cases_eq from hart) [
      | inl here ↦
          let head : is_hart hart c ≡ 1 = is_same hart c (first ∙ here) in
          let rest = none_before hart (suc from) cs left (omega (arith, here)) in
          omega (arith, more_resting hart c cs, head, rest)
      | inr other ↦
          let head : is_hart hart c ≡ 0 = is_other hart c (λ same. other (sym first ∙ same)) in
          let rest = once_each hart (suc from) cs left (omega (arith, low, other)) (omega (arith, high)) in
          omega (arith, more_resting hart c cs, head, rest)
    ]

all_filled : (contexts : List Context) → sum_by filled (all_resting contexts) ≡ length contexts
all_filled [] = refl
all_filled (c ∷ cs) = omega (arith, sum_by-cons filled (Some c) (all_resting cs), all_filled cs)

-- what holds of a context holds of its place
rests : (P : Option Context → Type 0) (contexts : List Context) (place : ℕ) (other : Option Context) → place < length contexts
    → ((d : Context) → P (Some (slice_index_or contexts place d))) → P (slice_index_or (all_resting contexts) place other)
rests P [] place other below each = absurd (omega (arith, below))
rests P (c ∷ cs) place other below each = subst P (sym (get_or-map (λ (d : Context). Some d) (c ∷ cs) place c other below)) (each c)

-- vacant workers count for nothing
none_among : (f : List Context → ℕ) → f [] ≡ 0 → (workers : List Berth) → All (λ (w : Berth). w.contexts ≡ []) workers
    → sum_by (λ (w : Berth). f w.contexts) workers ≡ 0
none_among f zero workers none =
    let low : All (λ (w : Berth). f w.contexts ≤ 0) workers = λ k d below.
    let is : f (slice_index_or workers k d).contexts ≡ 0 = ap f (none k d below) ∙ zero in
    omega (arith, is) in
    omega (arith, sum_by-le (λ (w : Berth). f w.contexts) 0 workers low)

number_is : (run : Run) (plan : Plan) (settings : Settings) (place : ℕ) (c : Context) → IsBegun run plan settings place c → c.pass.hart.0 ≡ place
number_is run plan settings place c is = ap (λ (p : PassOfHart). p.hart.0) is.pass

of_crew : (run : Run) (plan : Plan) (settings : Settings) (place : ℕ) (c : Context) → place < run.setup.harts → IsBegun run plan settings place c
    → IsResting run plan place (Some c)
of_crew run plan settings place c below is =
    let number = number_is run plan settings place c is in
    (record { on = is.on; plan_is = is.plan_is; below = omega (arith, below, number) }, number)

vacant_manned : (run : Run) (plan : Plan) (room : ℕ) (w : Berth) → w.contexts ≡ [] → run.setup.harts ≤ room → room ≤ w.room → IsManned run plan w
vacant_manned run plan room w none harts within = record {
  each = λ k d below. absurd (let count : length w.contexts ≡ 0 = ap length none in omega (arith, below, count));
  here = λ k d below. absurd (let count : length w.contexts ≡ 0 = ap length none in omega (arith, below, count));
  room = omega (arith, harts, within);
}

-- harts that have begun and workers without harts are a crew
pub crew_begins : (run : Run) (plan : Plan) (settings : Settings) (before after : Enrolment) (contexts : List Context) (workers : List Berth)
    → IsRunnable run → run.setup.harts ≡ settings.harts → AreBegun run plan settings settings.harts before after contexts
    → AreVacant plan settings.harts workers → IsCrew run (crew_of plan (all_resting contexts) workers)
crew_begins run plan settings before after contexts workers runnable harts begun vacant =
    let size : length contexts ≡ run.setup.harts = begun.counted ∙ sym harts in
    let places : length (all_resting contexts) ≡ length contexts = length-map contexts (λ (c : Context). Some c) in
    let numbered : AreNumbered 0 contexts = λ place other below.
    number_is run plan settings place _ (begun.each place other (omega (arith, below, begun.counted))) ∙ omega arith in
    record {
      places = places ∙ size;
      few = lawful_few (settings_of run.setup) runnable.lawful;
      resting = λ hart other below.
          rests (IsResting run plan hart) contexts hart other (omega (arith, below, places))
          (λ d. of_crew run plan settings hart _ (omega (arith, below, places, size)) (begun.each hart d (omega (arith, below, places, begun.counted))));
      counted = vacant.counted;
      workers = λ number other below. vacant_manned run plan settings.harts (slice_index_or workers number other) (vacant.none number other below)
          (omega (arith, harts)) (vacant.rooms number other below);
      engines = vacant.engines;
      once = λ hart below.
          let resting = once_each hart 0 contexts numbered (omega arith) (omega (arith, below, size)) in
          omega (arith, resting, none_among (times_in hart) refl workers vacant.none);
      all = omega (arith, all_filled contexts, none_among length refl workers vacant.none, size);
      hand = tt;
    }

-- so the machine may play
pub may_play : (run : Run) (plan : Plan) (settings : Settings) (before after : Enrolment) (contexts : List Context) (resting : List (Option Context))
    (workers : List Berth) (room : ℕ) → IsRunnable run → run.setup.harts ≡ settings.harts → IsFounderOf run before
    → AreBegun run plan settings settings.harts before after contexts → resting ≡ map (λ (c : Context). Some c) contexts
    → AreVacant plan settings.harts workers → room ≡ settings.harts → MayPlay run (crew_of plan resting workers) after room
may_play run plan settings before after contexts resting workers room runnable harts founder begun laid vacant room_is =
    record {
      runnable = runnable;
      is_crew = subst (λ (places : List (Option Context)). IsCrew run (crew_of plan places workers)) (sym laid)
          (crew_begins run plan settings before after contexts workers runnable harts begun vacant);
      enrolled = record {
        founder_is = record { id = begun.id ∙ founder.id; banks = begun.banks ∙ founder.banks };
        harts = begun.enrolled ∙ ap numbers_below (sym harts);
      };
      room_is = harts ∙ sym room_is;
    }
