-- What contracts see of a solo machine.
use Rattle.std.specs.Prelude.{ℕ, List, length}
use Rattle.flex_base.specs.Setup.{Setup}
use Rattle.flex_base.specs.Loaded.{Loaded}
use Rattle.flex_base.specs.FlatMemory.{Done}
use Rattle.flex_base.specs.declared.settings.Settings.{Settings}
use Rattle.access_record.specs.Histories as history
use Rattle.access_record.specs.Passes.{Enrolment}
use Rattle.transplant_plan.specs.Split as split
use Rattle.transplant_plan.specs.Shown.{shown}
use Rattle.transplant_plan.specs.declared.plan.Plan.{Plan}
use Rattle.mem_banks.specs.Plain.{Plain}
use Rattle.context.specs.Contexts.{Context}

-- each hart's context at the place of its number, their bus and the founder of its record, the plan and the settings
pub record Solo : Type 0 where
  pub contexts : List Context
  pub bus : Plain
  pub founder : Enrolment
  pub plan : Plan
  pub settings : Settings

abbrev pub solo_of : List Context → Plain → Enrolment → Plan → Settings → Solo
solo_of contexts bus founder plan settings =
    record { contexts = contexts; bus = bus; founder = founder; plan = plan; settings = settings }

-- the run of this image, these settings and this input
abbrev pub setup_of : Loaded → Settings → List ℕ → Setup
setup_of image settings input = record {
  image = image;
  harts = settings.harts;
  ram = settings.ram;
  budget = settings.budget;
  input = input;
}

abbrev pub settings_of : Setup → Settings
settings_of setup = record { harts = setup.harts; ram = setup.ram; budget = setup.budget }

-- the engine of each class of work, the same for all harts
abbrev pub engines_of : Plan → split.Plan
engines_of plan = (shown plan).engines

-- the accesses that this bank of a bus has made; the devices are the last bank
abbrev pub done_at : Plain → ℕ → List Done
done_at bus bank = history.done_at bus.history bank

-- the least number that it may give next
abbrev pub least_in : Plain → ℕ
least_in bus = bus.history.least

-- how many banks it has, with the devices
abbrev pub bank_count : Plain → ℕ
bank_count bus = length bus.history.banks
