-- Contexts of harts that have made no event.
use Rattle.std.specs.Prelude.{◌≡◌, ℕ, ◌<◌, List, length, slice_index_or}
use Rattle.flex_base.specs.declared.class.Class.TheVariants as class
use Rattle.flex_base.specs.declared.settings.Settings.{Settings}
use Rattle.access_record.specs.Passes.{Enrolment, new_pass}
use Rattle.access_record.specs.Buses.{Run}
use Rattle.transplant_plan.specs.Planning.{engine_at}
use Rattle.transplant_plan.specs.declared.plan.Plan.{Plan}
use Rattle.mem_banks.specs.Plain.{numbers_below}
use Rattle.context.specs.Contexts.{Context, IsOn}

-- the context of the hart of this number, in the engine of fetch
pub record IsBegun (run : Run) (plan : Plan) (settings : Settings) (h : ℕ) (c : Context) : Type 0 where
  pub on : IsOn run c
  pub pass : c.pass ≡ new_pass run.book.id (record { 0 = h })
  pub plan_is : c.plan ≡ plan
  pub settings_are : c.settings ≡ settings
  pub engine : c.engine ≡ engine_at plan.engines class.Fetch

-- so many harts are enrolled, and each has its context at the place of its number
pub record AreBegun (run : Run) (plan : Plan) (settings : Settings) (harts : ℕ) (before after : Enrolment) (contexts : List Context) : Type 0 where
  pub id : after.id ≡ before.id
  pub banks : after.banks ≡ before.banks
  pub enrolled : after.harts ≡ numbers_below harts
  pub counted : length contexts ≡ harts
  pub each : (h : ℕ) (other : Context) → h < harts → IsBegun run plan settings h (slice_index_or contexts h other)
