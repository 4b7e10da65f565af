-- What a hart makes next, in the machine and in the plan's split.
use Rattle.std.proofs.Common.{◌≡◌, ◌≢◌, ℕ, ◌<◌, zero, suc, true, false, if◌then◌else◌, List, [], ◌∷◌, ◌++◌, length, set, Some, refl, ap, sym, ◌∙◌, arith}
use Rattle.std.proofs.lemmas.List.Sums.{fold_push}
use Rattle.flex_base.specs.Setup.{Setup}
use Rattle.flex_base.specs.FlatMemory.{reply_with}
use Rattle.flex_base.specs.Classes.{class_of_access, class_of_what}
use Rattle.flex_base.specs.StoryTree.{Want, Asks, Ends, IsOver, IsParked}
use Rattle.flex_base.specs.Following.{next_access, MayDo, wanted}
use Rattle.flex_base.specs.Journal.{is_handover}
use Rattle.flex_base.specs.Unsplit.{Machine, Made, Instruction, instruction_after, instruction_at, want_of, next_of, reply_to, begin, step, does}
use Rattle.flex_base.specs.declared.access.Access.{Access}
use Rattle.flex_base.specs.declared.access.Reply.{Reply}
use Rattle.flex_base.specs.declared.class.Class.{Class}
use Rattle.flex_base.specs.declared.engine.Engine.{Engine}
use Rattle.flex_base.specs.declared.engine.Engine.TheVariants as engine
use Rattle.flex_base.specs.declared.event.EndPart.{EndPart}
use Rattle.flex_base.specs.declared.event.Event.{Event}
use Rattle.flex_base.specs.declared.event.What.{What}
use Rattle.flex_base.specs.declared.event.What.TheVariants as what
use Rattle.flex_base.specs.State.{State}
use Rattle.flex_base.proofs.Machines.{reach_push, next_ends, step_is, length-step, instruction_after_access, instruction_after_end, instruction_at-other}
use Rattle.transplant_plan.specs.Split.{Plan, Splitting, split_event, split_run, first_split, holder_of, with_handover, with_number, is_same_engine}
use Rattle.solo.specs.Standing.{IsReached}
use Rattle.solo.proofs.Stepping.{Goes, grown}

-- The machine.

pub reached_on : (setup : Setup) (u : Machine) (h : ℕ) → IsReached setup u → IsReached setup (step setup u h)
reached_on setup u h reached = record {
  order = reached.order ++ h ∷ [];
  is = ap (λ (m : Machine). step setup m h) reached.is ∙ sym (reach_push setup (begin setup) reached.order h);
}

-- a handover leaves it as it is
pub goes_handover : (setup : Setup) (u : Machine) (h : ℕ) (to : Engine) → IsReached setup u → Goes setup u u h (what.Handover to)
goes_handover setup u h to reached = record { reached = reached; counted = refl; own = refl; others = λ k differs. refl }

module _ (setup : Setup) (u : Machine) (h : ℕ) (reached : IsReached setup u) (below : h < setup.harts) (within : h < length u.harts) where
  pub goes_access : (access : Access) (reply : Reply) → next_of setup u h ≡ Asks access → reply ≡ reply_to setup u h access
      → Goes setup u (step setup u h) h (what.Acc access reply)
  goes_access access reply asks told = record {
    reached = reached_on setup u h reached;
    counted = length-step setup u h;
    own = instruction_after_access setup u h access below within asks
        ∙ ap (instruction_after (instruction_at u h) (Asks access)) (sym told);
    others = λ k differs. instruction_at-other setup u h k differs;
  }

  pub goes_end : (part : EndPart) (after : State) → want_of setup u h ≡ Ends part after → Goes setup u (step setup u h) h (what.End part)
  goes_end part after ends = record {
    reached = reached_on setup u h reached;
    counted = length-step setup u h;
    own = instruction_after_end setup u h part after below within ends
        ∙ ap (λ (w : Want). instruction_after (instruction_at u h) w (reply_with 0)) (sym ends);
    others = λ k differs. instruction_at-other setup u h k differs;
  }

  pub events_access : (access : Access) (reply : Reply) → next_of setup u h ≡ Asks access → reply ≡ reply_to setup u h access
      → (step setup u h).events ≡ u.events ++ does h (what.Acc access reply) ∷ []
  events_access access reply asks told =
      ap (λ (m : Machine). m.events) (step_is setup u h (Asks access) below asks)
      ∙ ap (λ (r : Reply). u.events ++ does h (what.Acc access r) ∷ []) (sym told)

  pub events_end : (part : EndPart) (after : State) → want_of setup u h ≡ Ends part after
      → (step setup u h).events ≡ u.events ++ does h (what.End part) ∷ []
  events_end part after ends = ap (λ (m : Machine). m.events) (step_is setup u h (Ends part after) below (next_ends setup u h part after ends))

-- What a hart does, by its class.

-- an event of this class is wanted
abbrev pub IsOfClass : Want → Class → Type 0
IsOfClass (Asks access) class = class_of_access access ≡ class
IsOfClass (Ends part next) class = part.class ≡ class
IsOfClass other class = ⊥

pub data Does (w : Want) (class : Class) (happened : What) : Type 0 where
  Accesses : (access : Access) (reply : Reply) → happened ≡ what.Acc access reply → w ≡ Asks access → Does w class happened
  Finishes : (part : EndPart) (after : State) → happened ≡ what.End part → w ≡ Ends part after → Does w class happened

-- what may happen to a hart that wants this
abbrev MayBy : Want → What → Type 0
MayBy w (what.Acc access reply) = next_access w ≡ Some access
MayBy w (what.End part) = (next : State) × (w ≡ Ends part next)
MayBy w (what.Handover to) = Unit {0}

some_same : (a b : Access) → Some a ≡ Some b → a ≡ b
some_same a b e = cc

does_by : (w : Want) (class : Class) (happened : What) → IsOfClass w class → is_handover happened ≡ false → MayBy w happened
    → Does w class happened × (class_of_what happened ≡ class)
does_by (Asks a) class (what.Acc access reply) of plain may =
    let same : a ≡ access = some_same a access may in
    (Accesses access reply refl (ap Asks same), ap class_of_access (sym same) ∙ of)
does_by (Asks a) class (what.End part) of plain may = absurd (let ends = may.1 in cc)
does_by (Asks a) class (what.Handover to) of plain may = absurd cc
does_by (Ends p after) class (what.Acc access reply) of plain may = absurd cc
does_by (Ends p after) class (what.End part) of plain may =
    let ends = may.1 in
    let same : p ≡ part = cc in
    (Finishes part may.0 refl ends, ap (λ (x : EndPart). x.class) (sym same) ∙ of)
does_by (Ends p after) class (what.Handover to) of plain may = absurd cc
does_by IsOver class happened of plain may = absurd of
does_by IsParked class happened of plain may = absurd of

may_by : (setup : Setup) (i : Instruction) (happened : What) → MayDo setup i happened → MayBy (wanted setup i) happened
may_by setup i (what.Acc access reply) may = may.0
may_by setup i (what.End part) may = may
may_by setup i (what.Handover to) may = tt

pub does_next : (setup : Setup) (i : Instruction) (class : Class) (happened : What) → IsOfClass (wanted setup i) class → is_handover happened ≡ false
    → MayDo setup i happened → Does (wanted setup i) class happened × (class_of_what happened ≡ class)
does_next setup i class happened of plain may = does_by (wanted setup i) class happened of plain (may_by setup i happened may)

-- The split.

same_itself : (e : Engine) → is_same_engine e e ≡ true
same_itself engine.Pipe = refl
same_itself engine.Kernel = refl
same_itself engine.Host = refl

not_same : (from to : Engine) → from ≢ to → is_same_engine from to ≡ false
not_same engine.Pipe engine.Pipe differ = absurd (differ refl)
not_same engine.Pipe engine.Kernel differ = refl
not_same engine.Pipe engine.Host differ = refl
not_same engine.Kernel engine.Pipe differ = refl
not_same engine.Kernel engine.Kernel differ = absurd (differ refl)
not_same engine.Kernel engine.Host differ = refl
not_same engine.Host engine.Pipe differ = refl
not_same engine.Host engine.Kernel differ = refl
not_same engine.Host engine.Host differ = absurd (differ refl)

split_push : (plan : Plan) (harts : ℕ) (made : List Made) (m : Made) → split_run plan harts (made ++ m ∷ []) ≡ split_event plan (split_run plan harts made) m
unfolding split_run
split_push plan harts made m = fold_push (split_event plan) (first_split plan harts) made m

-- what is written twice at one place
pub set_twice : {A : Type 0} (xs : List A) (h : ℕ) (x y d : A) → h < length xs → set (set xs h x) h y ≡ set xs h y
set_twice [] h x y d within = refl
set_twice (z ∷ xs) zero x y d within = refl
set_twice (z ∷ xs) (suc h) x y d within = ap (λ zs. z ∷ zs) (set_twice xs h x y d (omega (arith, within)))

module _ (plan : Plan) (p : Splitting) (h : ℕ) (from to : Engine) (happened : What) (within : h < length p.engines)
    (held : from ≡ holder_of plan p h) (goes : to ≡ plan h (class_of_what happened)) where
  -- the event's own engine and number
  abbrev event_in : Engine → Splitting
  event_in x = record {
    engines = set p.engines h x;
    events = with_number (with_handover p.events h from x) h x happened;
  }

  is_event : event_in to ≡ split_event plan p (does h happened)
  is_event =
      ap (λ (x : Engine). record { engines = set p.engines h to; events = with_number (with_handover p.events h x to) h to happened }) held
      ∙ ap (λ (x : Engine). record { engines = set p.engines h x; events = with_number (with_handover p.events h (holder_of plan p h) x) h x happened }) goes

  -- a hart that is in the engine makes the event there
  pub grown_in : from ≡ to → grown p h to happened to ≡ split_event plan p (does h happened)
  grown_in same =
      let stays : with_handover p.events h from to ≡ p.events =
      ap (λ (x : Engine). with_handover p.events h x to) same
      ∙ ap (λ b. if b then p.events else with_number p.events h to (what.Handover to)) (same_itself to) in
      ap (λ (es : List Event). record { engines = set p.engines h to; events = with_number es h to happened }) (sym stays) ∙ is_event

  -- one that isn't is handed over before it
  pub grown_after : from ≢ to → grown (grown p h from (what.Handover to) to) h to happened to ≡ split_event plan p (does h happened)
  grown_after differ =
      let moves : with_handover p.events h from to ≡ with_number p.events h from (what.Handover to) =
      ap (λ b. if b then p.events else with_number p.events h from (what.Handover to)) (not_same from to differ) in
      ap (λ (es : List Engine). record { engines = es; events = with_number (with_number p.events h from (what.Handover to)) h to happened })
      (set_twice p.engines h to to to within)
      ∙ ap (λ (es : List Event). record { engines = set p.engines h to; events = with_number es h to happened }) (sym moves)
      ∙ is_event

-- with the machine's event more
pub split_more : (plan : Plan) (harts : ℕ) (before after : List Made) (m : Made) (p : Splitting) → after ≡ before ++ m ∷ []
    → p ≡ split_event plan (split_run plan harts before) m → p ≡ split_run plan harts after
split_more plan harts before after m p more is = is ∙ sym (split_push plan harts before m) ∙ ap (split_run plan harts) (sym more)
