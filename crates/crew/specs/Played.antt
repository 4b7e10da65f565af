-- What is left of a run on threads.
use Rattle.std.specs.Prelude.{◌≡◌, ℕ, ◌+◌, ◌*◌, ◌<◌, ◌≤◌, ◌⊎◌, true, false, List, length, slice_index_or, Option, None, Some}
use Rattle.flex_base.specs.Setup.{Setup}
use Rattle.flex_base.specs.FlatMemory.{Done}
use Rattle.flex_base.specs.Limits.{is_lawful}
use Rattle.flex_base.specs.Loaded.{Loaded, image_fits}
use Rattle.flex_base.specs.declared.settings.Settings.{Settings}
use Rattle.transplant_plan.specs.Shown.{shown}
use Rattle.flex_base.specs.Devices.{woken}
use Rattle.flex_base.specs.Unsplit.{reach, has_ended}
use Rattle.flex_base.specs.Journal.{IsLegal, order_of}
use Rattle.flex_base.specs.declared.event.Event.{Event}
use Rattle.access_record.specs.Buses.{Run, ram_banks}
use Rattle.access_record.specs.Passes.{Enrolment}
use Rattle.mem_lines.specs.Bank.{is_bank_count}
use Rattle.devices.specs.View.{DevicesView, IsReplay}
use Rattle.transplant_plan.specs.Split.{Obeys}
use Rattle.transplant_plan.specs.declared.plan.Plan.{Plan}
use Rattle.mem_banks.specs.Plain.{numbers_below}
use Rattle.mem_banks.specs.End.{Memory, IsMemoryOf, IsFounderOf}
use Rattle.mem_banks.specs.declared.ended.Ended.{Ended}
use Rattle.context.specs.declared.wants.Wants.TheVariants as wants
use Rattle.context.specs.Contexts.{Context, IsWanting}
use Rattle.solo.specs.Solo.{settings_of, engines_of}
use Rattle.solo.specs.End.{IsEndOf}
use Rattle.crew.specs.Crews.{Crew, IsCrew, AreHome}

-- a run of lawful settings whose image fits, with a record of its harts and of so many banks as there may be
pub record IsRunnable (run : Run) : Type 0 where
  pub lawful : is_lawful (settings_of run.setup) ≡ true
  pub fits : image_fits run.setup.ram run.setup.image ≡ true
  pub few : run.setup.harts * run.setup.budget ≤ 262144
  pub harts : run.book.limits.harts ≡ run.setup.harts
  pub room : run.book.limits.room ≡ 24 * run.setup.budget + 24
  pub counted : is_bank_count (ram_banks run) ≡ true
  pub whole : ram_banks run + 1 ≡ run.book.limits.banks

-- it is of this image and these settings, with as many banks as the plan says
pub record IsRunFor (run : Run) (image : Loaded) (settings : Settings) (plan : Plan) : Type 0 where
  pub runnable : IsRunnable run
  pub image_is : run.setup.image ≡ image
  pub settings_are : settings_of run.setup ≡ settings
  pub banks : (shown plan).banks ≡ ram_banks run

-- the founder has enrolled each hart of the run
pub record HasEnrolled (run : Run) (founder : Enrolment) : Type 0 where
  pub founder_is : IsFounderOf run founder
  pub harts : founder.harts ≡ numbers_below run.setup.harts

-- the hart is over, or waits and these devices don't wake it
abbrev pub IsAtRest : DevicesView → Context → Type 0
IsAtRest d c = IsWanting c wants.Over
    ⊎ (IsWanting c wants.Parked × ((harts : ℕ) (input : List ℕ) (made : List Done) → IsReplay harts input made d → woken harts made c.pass.hart.0 ≡ false))

abbrev pub IsAtRestAt : DevicesView → Option Context → Type 0
IsAtRestAt d None = Unit {0}
IsAtRestAt d (Some c) = IsAtRest d c

-- each hart that rests with the coordinator does so
abbrev pub AreAtRest : DevicesView → Crew → Type 0
AreAtRest d crew = (hart : ℕ) (other : Option Context) → hart < length crew.resting
    → IsAtRestAt d (slice_index_or crew.resting hart other)

-- a run that is over: all harts have come back and rest, and the memory isn't settled
pub record IsOver (run : Run) (crew : Crew) (memory : Memory) (founder : Enrolment) : Type 0 where
  pub runnable : IsRunnable run
  pub is_crew : IsCrew run crew
  pub home : AreHome crew
  pub rest : AreAtRest memory.devices crew
  pub of_run : IsMemoryOf run memory
  pub enrolled : HasEnrolled run founder

-- The harts' events in the order of their numbers are a legal journal that obeys the plan. Where it leads the run has ended,
-- and that is what is left
pub record HasPlayed (setup : Setup) (plan : Plan) (ended : Ended) : Type 0 where
  pub journal : List Event
  pub legal : IsLegal setup journal
  pub obeys : Obeys (engines_of plan) journal
  pub has_ended : has_ended setup (reach setup (order_of journal)) ≡ true
  pub left : IsEndOf setup journal (reach setup (order_of journal)) ended
