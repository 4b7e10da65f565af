-- The split run: each event in the engine that the plan names, with handovers between, all numbered. And what it is that a
-- journal obeys a plan, which is said without the split.
use Rattle.std.specs.Prelude.{◌≡◌, ◌≢◌, ℕ, Bool, true, false, if◌then◌else◌, List, [], ◌∷◌, ◌++◌, length, fold, map, filter, ◌==◌, slice_set, slice_index_or}
use Rattle.std.specs.List.{range_with_len}
use Rattle.flex_base.specs.Classes.{class_of_what}
use Rattle.flex_base.specs.Unsplit.{Made}
use Rattle.flex_base.specs.Journal.{event, is_handover}
use Rattle.flex_base.specs.declared.class.Class.{Class}
use Rattle.flex_base.specs.declared.class.Class.TheVariants as class
use Rattle.flex_base.specs.declared.engine.Engine.{Engine}
use Rattle.flex_base.specs.declared.engine.Engine.TheVariants as engine
use Rattle.flex_base.specs.declared.event.Event.{Event}
use Rattle.flex_base.specs.declared.event.What.{What}
use Rattle.flex_base.specs.declared.event.What.TheVariants as what

-- the engine that a plan gives each class of work of each hart
abbrev pub Plan : Type 0
Plan = ℕ → Class → Engine

-- the engine that holds each hart, and the events so far
pub record Splitting : Type 0 where
  pub engines : List Engine
  pub events : List Event

abbrev pub is_same_engine : Engine → Engine → Bool
is_same_engine engine.Pipe engine.Pipe = true
is_same_engine engine.Kernel engine.Kernel = true
is_same_engine engine.Host engine.Host = true
is_same_engine from to = false

-- the event gets the next number
abbrev pub with_number : List Event → ℕ → Engine → What → List Event
with_number events hart holder happened = events ++ event (length events) hart holder happened ∷ []

-- a handover stands directly before an event whose hart is in another engine
abbrev pub with_handover : List Event → ℕ → Engine → Engine → List Event
with_handover events hart from to =
    if is_same_engine from to then events else with_number events hart from (what.Handover to)

-- the engine that holds the hart; at first that of fetch
abbrev pub holder_of : Plan → Splitting → ℕ → Engine
holder_of plan s hart = slice_index_or s.engines hart (plan hart class.Fetch)

abbrev pub split_event : Plan → Splitting → Made → Splitting
split_event plan s m = record {
  engines = slice_set s.engines m.hart (plan m.hart (class_of_what m.what));
  events = with_number (with_handover s.events m.hart (holder_of plan s m.hart) (plan m.hart (class_of_what m.what)))
      m.hart (plan m.hart (class_of_what m.what)) m.what;
}

abbrev pub first_split : Plan → ℕ → Splitting
first_split plan harts =
    record { engines = map (λ hart. plan hart class.Fetch) (range_with_len 0 harts); events = [] }

unfoldable pub split_run : Plan → ℕ → List Made → Splitting
split_run plan harts made = fold (split_event plan) (first_split plan harts) made

abbrev pub split : Plan → ℕ → List Made → List Event
split plan harts made = (split_run plan harts made).events

-- Obeying a plan.

-- the engines and events of one hart, handovers among them, without their numbers
unfoldable pub moves_of : ℕ → List Event → List (Engine × What)
moves_of hart journal =
    map (λ (e : Event). (e.engine, e.what)) (filter (λ (e : Event). e.hart.0 == hart) journal)

-- What a hart does by its plan from one engine to another: each event is in the engine that the plan names for its class.
-- Where that is the engine that holds the hart, no handover stands before it; where it is another, exactly one does, in the
-- engine that is left and to the one that is entered. None stands at the end.
pub data ByPlan (plan : Class → Engine) : Engine → List (Engine × What) → Engine → Type 0 where
  Nothing : (at : Engine) → ByPlan plan at [] at
  Stays : (at last : Engine) (does : What) (rest : List (Engine × What)) → is_handover does ≡ false
      → plan (class_of_what does) ≡ at → ByPlan plan at rest last → ByPlan plan at ((at, does) ∷ rest) last
  Moves : (at to last : Engine) (does : What) (rest : List (Engine × What)) → at ≢ to → is_handover does ≡ false
      → plan (class_of_what does) ≡ to → ByPlan plan to rest last
      → ByPlan plan at ((at, what.Handover to) ∷ (to, does) ∷ rest) last

-- each hart is first in the engine of fetch, and does by the plan what it does; other harts' events may stand anywhere between
abbrev pub Obeys : Plan → List Event → Type 0
Obeys plan journal =
    (hart : ℕ) → (last : Engine) × ByPlan (plan hart) (plan hart class.Fetch) (moves_of hart journal) last
