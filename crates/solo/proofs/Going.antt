-- Who makes no event in its engine wants another's.
use Rattle.std.proofs.Common.{◌≡◌, ◌≢◌, sym, subst, ◌∙◌}
use Rattle.flex_base.specs.declared.class.Class.{Class}
use Rattle.flex_base.specs.declared.engine.Engine.{Engine}
use Rattle.context.specs.declared.wants.Wants.{Wants}
use Rattle.context.specs.declared.wants.Wants.TheVariants as wants
use Rattle.context.specs.Contexts.{Context, plan_of, IsWanting, IsElsewhere}
use Rattle.context.specs.Obeying.{IsFor, engine_wanted}
use Rattle.context.specs.Runs.{MakesNone, WantsElsewhere, Waits, IsOver}
use Rattle.context.proofs.Keeping.{wants_one}

wanted_is : (plan : Class → Engine) (w : Wants) (at to : Engine) → IsFor plan w to → engine_wanted plan at w ≡ to
wanted_is plan (wants.Ask class) at to for_it = for_it
wanted_is plan (wants.Finish class) at to for_it = for_it
wanted_is plan wants.Parked at to for_it = absurd for_it
wanted_is plan wants.Over at to for_it = absurd for_it

module _ (c : Context) (engine : Engine) (told : (w : Wants) → IsWanting c w → engine ≡ engine_wanted (plan_of c) c.engine w) where
  elsewhere_by : (w : Wants) → IsWanting c w → w ≢ wants.Parked → w ≢ wants.Over → MakesNone c → IsElsewhere engine c
  elsewhere_by w wanting unparked going (WantsElsewhere to elsewhere) =
      let (other, its, for_it) = elsewhere.wanted in
      let Is : Engine → Type 0 = λ e. IsElsewhere e c in
      subst Is (sym (told other its ∙ wanted_is (plan_of c) other c.engine to for_it)) elsewhere
  elsewhere_by w wanting unparked going (Waits waiting) = absurd (unparked (wants_one c w wants.Parked wanting waiting))
  elsewhere_by w wanting unparked going (IsOver over) = absurd (going (wants_one c w wants.Over wanting over))

  pub asks_elsewhere : (class : Class) → IsWanting c (wants.Ask class) → MakesNone c → IsElsewhere engine c
  asks_elsewhere class wanting none = elsewhere_by (wants.Ask class) wanting (λ same. cc) (λ same. cc) none

  pub ends_elsewhere : (class : Class) → IsWanting c (wants.Finish class) → MakesNone c → IsElsewhere engine c
  ends_elsewhere class wanting none = elsewhere_by (wants.Finish class) wanting (λ same. cc) (λ same. cc) none
