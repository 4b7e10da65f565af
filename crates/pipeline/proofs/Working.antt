-- A hart in flight makes its event.
use Rattle.std.proofs.Common.{◌≡◌, ◌≢◌, ◌⊎◌, ℕ, ◌<◌, ◌≤◌, inl, inr, refl, List, length, slice_index_or, sym, ap, subst, ◌∙◌, arith}
use Rattle.std.proofs.lemmas.List.{get_or_default}
use Rattle.flex_base.specs.declared.class.Class.{Class}
use Rattle.flex_base.specs.declared.class.Class.TheVariants as class
use Rattle.flex_base.specs.declared.engine.Engine.{Engine}
use Rattle.context.specs.declared.wants.Wants.{Wants}
use Rattle.context.specs.declared.wants.Wants.TheVariants as wants
use Rattle.context.specs.Obeying.{IsFor, engine_wanted}
use Rattle.context.specs.Contexts.{Context, plan_of, IsWanting, IsElsewhere}
use Rattle.context.specs.Runs.{MakesNone, WantsElsewhere, Waits, IsOver}
use Rattle.context.proofs.Keeping.{wants_one}
use Rattle.pipeline.specs.Pipes.{IsDue, NoneLater, latch_for}

-- what is wanted is of one engine
same_engine : (plan : Class → Engine) (w : Wants) (at to : Engine) → IsFor plan w at → IsFor plan w to → to ≡ at
same_engine plan (wants.Ask class) at to one two = sym two ∙ one
same_engine plan (wants.Finish class) at to one two = sym two ∙ one
same_engine plan wants.Parked at to one two = absurd one
same_engine plan wants.Over at to one two = absurd one

-- a hart that has an event of its engine due, makes one
pub makes_one : (c : Context) (latch : ℕ) → IsDue c latch → MakesNone c → ⊥
makes_one c latch due (WantsElsewhere to elsewhere) =
    let (w, wanting, for_it) = elsewhere.wanted in
    let For : Wants → Type 0 = λ x. IsFor (plan_of c) x to in
    elsewhere.other (same_engine (plan_of c) due.wants c.engine to due.here (subst For (wants_one c w due.wants wanting due.wanting) for_it))
makes_one c latch due (Waits waiting) =
    let For : Wants → Type 0 = λ x. IsFor (plan_of c) x c.engine in
    subst For (wants_one c due.wants wants.Parked due.wanting waiting) due.here
makes_one c latch due (IsOver over) =
    let For : Wants → Type 0 = λ x. IsFor (plan_of c) x c.engine in
    subst For (wants_one c due.wants wants.Over due.wanting over) due.here

-- events are made in fetch, in memory and in end
due_by : (plan : Class → Engine) (w : Wants) (at : Engine) → IsFor plan w at → (latch_for w ≡ 1) ⊎ ((latch_for w ≡ 4) ⊎ (latch_for w ≡ 5))
due_by plan (wants.Ask class.Fetch) at here = inl refl
due_by plan (wants.Ask other) at here = inr (inl refl)
due_by plan (wants.Finish class) at here = inr (inr refl)
due_by plan wants.Parked at here = absurd here
due_by plan wants.Over at here = absurd here

pub due_is : (c : Context) (latch : ℕ) → IsDue c latch → (latch ≡ 1) ⊎ ((latch ≡ 4) ⊎ (latch ≡ 5))
due_is c latch due =
    let Is : ℕ → Type 0 = λ n. (n ≡ 1) ⊎ ((n ≡ 4) ⊎ (n ≡ 5)) in
    subst Is due.latch_is (due_by (plan_of c) due.wants c.engine due.here)

-- after that in end none is due in a later latch
pub none_after_end : (c : Context) → NoneLater 5 c
none_after_end c due is = elim (due_is c due is) [
  | inl one ↦ omega (arith, one)
  | inr other ↦ elim other [
    | inl four ↦ omega (arith, four)
    | inr five ↦ omega (arith, five)
  ]
]

-- an event is due in one latch
due_one : (c : Context) (one other : ℕ) → IsDue c one → IsDue c other → one ≡ other
due_one c one other is also = sym is.latch_is ∙ ap latch_for (wants_one c is.wants also.wants is.wanting also.wanting) ∙ also.latch_is

-- so none is due in a later one than this
pub none_later : (c : Context) (due latch : ℕ) → IsDue c due → due ≤ latch → NoneLater latch c
none_later c due latch is least other also = omega (arith, least, due_one c due other is also)

-- nor where a hart makes none
pub none_at_all : (c : Context) (latch : ℕ) → MakesNone c → NoneLater latch c
none_at_all c latch none due is = absurd (makes_one c due is none)

-- what is read at a place stands there
pub at_place : (held : List Context) (place n : ℕ) (x : Context) → n ≡ place → x ≡ slice_index_or held n x → slice_index_or held place x ≡ x
at_place held place n x is read =
    let At : ℕ → Type 0 = λ m. slice_index_or held m x ≡ x in
    subst At is (sym read)

-- and is the hart of this place
pub is_hart : (held : List Context) (place : ℕ) (x hart : Context) → place < length held → slice_index_or held place x ≡ x
    → slice_index_or held place hart ≡ hart → hart ≡ x
is_hart held place x hart within one two = sym two ∙ get_or_default held place hart x within ∙ one

-- the engine of what is wanted

wanted_is : (plan : Class → Engine) (w : Wants) (at to : Engine) → IsFor plan w to → engine_wanted plan at w ≡ to
wanted_is plan (wants.Ask class) at to for_it = for_it
wanted_is plan (wants.Finish class) at to for_it = for_it
wanted_is plan wants.Parked at to for_it = absurd for_it
wanted_is plan wants.Over at to for_it = absurd for_it

is_for_other : (plan : Class → Engine) (w : Wants) (at to : Engine) → to ≡ engine_wanted plan at w → to ≢ at → IsFor plan w to
is_for_other plan (wants.Ask class) at to is other = sym is
is_for_other plan (wants.Finish class) at to is other = sym is
is_for_other plan wants.Parked at to is other = absurd (other is)
is_for_other plan wants.Over at to is other = absurd (other is)

-- who wants the engine that it is in, wants no other
pub stays_here : (c : Context) (engine to : Engine) → ((w : Wants) → IsWanting c w → engine ≡ engine_wanted (plan_of c) c.engine w) → engine ≡ c.engine
    → IsElsewhere to c → ⊥
stays_here c engine to told here elsewhere =
    let (w, wanting, for_it) = elsewhere.wanted in
    elsewhere.other (sym (wanted_is (plan_of c) w c.engine to for_it) ∙ sym (told w wanting) ∙ here)

-- who wants another is to go there
pub goes_there : (c : Context) (engine : Engine) (w : Wants) → IsWanting c w → ((w : Wants) → IsWanting c w → engine ≡ engine_wanted (plan_of c) c.engine w)
    → engine ≢ c.engine → 0 < c.left → IsElsewhere engine c
goes_there c engine w wanting told other some = record {
  wanted = (w, wanting, is_for_other (plan_of c) w c.engine engine (told w wanting) other);
  other = other;
  left = some;
}
