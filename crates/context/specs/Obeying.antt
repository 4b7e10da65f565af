-- What a hart wants by its class, and that its events so far obey the plan.
use Rattle.std.specs.Prelude.{◌≡◌, ◌≢◌, ◌⊎◌, List, [], ◌∷◌, ◌++◌, map}
use Rattle.flex_base.specs.StoryTree.{Want, Asks, Ends, IsOver, IsParked}
use Rattle.flex_base.specs.Classes.{class_of_access}
use Rattle.flex_base.specs.declared.class.Class.{Class}
use Rattle.flex_base.specs.declared.class.Class.TheVariants as class
use Rattle.flex_base.specs.declared.engine.Engine.{Engine}
use Rattle.flex_base.specs.declared.event.Event.{Event}
use Rattle.flex_base.specs.declared.event.What.{What}
use Rattle.flex_base.specs.declared.event.What.TheVariants as what
use Rattle.transplant_plan.specs.Split.{ByPlan}
use Rattle.context.specs.declared.wants.Wants.{Wants}
use Rattle.context.specs.declared.wants.Wants.TheVariants as wants

-- what a hart wants, by its class alone
abbrev pub wants_of : Want → Wants
wants_of (Asks access) = wants.Ask (class_of_access access)
wants_of (Ends part next) = wants.Finish part.class
wants_of IsParked = wants.Parked
wants_of IsOver = wants.Over

-- it wants an event of a class that the plan gives this engine
abbrev pub IsFor : (Class → Engine) → Wants → Engine → Type 0
IsFor plan (wants.Ask class) engine = plan class ≡ engine
IsFor plan (wants.Finish class) engine = plan class ≡ engine
IsFor plan other engine = ⊥

-- the engine of what it wants; who wants no event stays where it is
abbrev pub engine_wanted : (Class → Engine) → Engine → Wants → Engine
engine_wanted plan at (wants.Ask class) = plan class
engine_wanted plan at (wants.Finish class) = plan class
engine_wanted plan at other = at

-- a hart's events by the engines in which they were made
abbrev pub moves : List Event → List (Engine × What)
moves events = map (λ (e : Event). (e.engine, e.what)) events

-- the hart did by the plan what it did, and then was handed over to the engine of the class that it wants
pub record IsHandedOver (plan : Class → Engine) (w : Wants) (at : Engine) (made : List (Engine × What)) : Type 0 where
  pub before : List (Engine × What)
  pub from : Engine
  pub obeys : ByPlan plan (plan class.Fetch) before from
  pub other : from ≢ at
  pub wanted : IsFor plan w at
  pub last : made ≡ before ++ (from, what.Handover at) ∷ []

-- the hart is in this engine, and what it did is by the plan so far, except that a last handover may already have gone to the
-- engine of the wanted class
abbrev pub ObeysSoFar : (Class → Engine) → Wants → Engine → List (Engine × What) → Type 0
ObeysSoFar plan w at made = ByPlan plan (plan class.Fetch) made at ⊎ IsHandedOver plan w at made
