-- What `solo` and `run` answer, and what they leave.
use Rattle.std.specs.Prelude.{◌≡◌, ℕ, true, if◌then◌else◌, nat_lt, List, [], length, Option, None, Some, Result, Ok, Err}
use Rattle.flex_base.specs.Loaded.{Loaded}
use Rattle.flex_base.specs.Setup.{Setup}
use Rattle.flex_base.specs.Files.{Files}
use Rattle.transplant_plan.specs.Assignment.{Assignment, default_assignment}
use Rattle.transplant_plan.specs.PlanFile.{plan_of}
use Rattle.flex_base.specs.Unsplit.{unsplit, reach, has_ended}
use Rattle.flex_base.specs.Rounds.{names_played}
use Rattle.transplant_plan.specs.Split.{Plan, split, Obeys}
use Rattle.transplant_plan.specs.declared.fault.PlanFault.{PlanFault}
use Rattle.transplant_plan.specs.declared.fault.PlanFault.TheVariants as plan_fault
use Rattle.flex_base.specs.Journal.{IsLegal, order_of, console, strip}
use Rattle.flex_base.specs.declared.event.Event.{Event}
use Rattle.flex_base.specs.declared.settings.Settings.{Settings}
use Rattle.image_loader.specs.Loading.{loaded}
use Rattle.image_loader.specs.declared.fault.ImageFault.{ImageFault}
use Rattle.image_loader.specs.declared.fault.ImageFault.TheVariants as fault
use Rattle.tracer.specs.Trace.{settings_of, whole_text, trace_text}
use Rattle.tracer.specs.declared.tail_text.TailLine.{TailLine}
use Rattle.flex_top.specs.Words.{Reading}
use Rattle.flex_top.specs.declared.status.Status.{Status}
use Rattle.flex_top.specs.declared.status.Status.TheVariants as status

-- Files.

-- the files that are read, each where there is one
pub record Sources : Type 0 where
  pub plan : Option (List ℕ)
  pub image : Option (List ℕ)
  pub input : Option (List ℕ)

-- the file of a name, and an empty one where none is named
abbrev pub file_among : Option (List ℕ) → Files → Option (List ℕ)
file_among None files = Some []
file_among (Some name) files = files name

-- those that the words name
abbrev pub sources_among : Reading → Files → Sources
sources_among r files = record {
  plan = file_among r.plan files;
  image = files r.image;
  input = file_among r.input files;
}

-- Plans.

-- a plan, or the refusal of it
abbrev pub or_plan_refusal : Result Assignment PlanFault → Result Assignment Status
or_plan_refusal (Ok plan) = Ok plan
or_plan_refusal (Err fault) = Err (status.PlanRefused fault)

-- the plan that a file says, or the refusal by its first fault
abbrev pub plan_in : List ℕ → Result Assignment Status
plan_in file = or_plan_refusal (plan_of file)

-- a plan's file has at most 64 KiB
abbrev pub plan_limit : ℕ
plan_limit = 65536

-- the plan of a file, if there is one
abbrev pub plan_from : Option (List ℕ) → Result Assignment Status
plan_from None = Err status.ReadFault
plan_from (Some file) =
    if nat_lt plan_limit (length file) then Err (status.PlanRefused (plan_fault.TooLong (length file))) else plan_in file

-- the plan of the file of this name; the default one where none is named
abbrev pub plan_by : Option (List ℕ) → Option (List ℕ) → Result Assignment Status
plan_by None file = Ok default_assignment
plan_by (Some name) file = plan_from file

-- Images.

-- an image, or the refusal of it
abbrev pub or_refusal : Result Loaded ImageFault → Result Loaded Status
or_refusal (Ok image) = Ok image
or_refusal (Err fault) = Err (status.ImageRefused fault)

-- the image that a file is in so much RAM, or the refusal by the first fault of the file
abbrev pub image_in : List ℕ → ℕ → Result Loaded Status
image_in file ram = or_refusal (loaded file ram)

-- an image file has at most 256 MiB
abbrev pub image_limit : ℕ
image_limit = 268435456

-- the image of a file, if there is one
abbrev pub image_from : Option (List ℕ) → ℕ → Result Loaded Status
image_from None ram = Err status.ReadFault
image_from (Some file) ram =
    if nat_lt image_limit (length file) then Err (status.ImageRefused (fault.TooLong (length file)))
    else image_in file ram

-- The console's input.

-- it has at most 1 MiB
abbrev pub input_limit : ℕ
input_limit = 1048576

-- the input that a file is, if there is one, or the refusal of it
abbrev pub input_from : Option (List ℕ) → Result (List ℕ) Status
input_from None = Err status.ReadFault
input_from (Some file) = if nat_lt input_limit (length file) then Err (status.InputTooLong (length file)) else Ok file

-- Runs.

-- a run of an image and this input with these settings
abbrev pub setup_of : Loaded → List ℕ → Settings → Setup
setup_of image input settings = record {
  image = image;
  harts = settings.harts;
  ram = settings.ram;
  budget = settings.budget;
  input = input;
}

-- the journal of the run: what the unsplit machine does in the order and then in the rounds, split by the plan
unfoldable pub journal_of : Plan → Setup → List ℕ → List Event
journal_of plan setup order = split plan setup.harts (unsplit setup (names_played setup order))

unfoldable pub trace_of : Plan → Setup → List ℕ → List ℕ
trace_of plan setup order = trace_text setup (journal_of plan setup order)

-- the journal is that of a legal run that obeys the plan and has ended
pub record IsWhole (plan : Plan) (setup : Setup) (order : List ℕ) : Type 0 where
  pub legal : IsLegal setup (journal_of plan setup order)
  pub obeys : Obeys plan (journal_of plan setup order)
  pub ended : has_ended setup (reach setup (order_of (journal_of plan setup order))) ≡ true

-- Answers.

-- the first refusal, of the plan, then of the image and then of the input; where there is none, the run ends
abbrev pub answer_of : Result Assignment Status → Result Loaded Status → Result (List ℕ) Status → Status
answer_of (Err refusal) image input = refusal
answer_of (Ok plan) (Err refusal) input = refusal
answer_of (Ok plan) (Ok image) (Err refusal) = refusal
answer_of (Ok plan) (Ok image) (Ok input) = status.Ended

-- the answer that the words and the files determine
abbrev pub expected : Reading → Sources → Status
expected r files = answer_of (plan_by r.plan files.plan) (image_from files.image r.settings.ram) (input_from files.input)

-- What is left.

-- the bytes said, and then the text of a file by its name
pub record Outcome : Type 0 where
  pub said : List ℕ
  pub file : Option (List ℕ × List ℕ)

abbrev pub outcome_with : List ℕ → List ℕ → List ℕ → Outcome
outcome_with said name text = record { said = said; file = Some (name, text) }

-- the console bytes of a run, and its trace
abbrev pub outcome_of_run : Reading → Plan → Setup → Outcome
outcome_of_run r plan setup = outcome_with (console (journal_of plan setup r.order)) r.trace (trace_of plan setup r.order)

-- those of the run of an image and an input under a plan; nothing where one of them is refused
abbrev pub outcome_of : Reading → Result Assignment Status → Result Loaded Status → Result (List ℕ) Status → Outcome
outcome_of r (Ok plan) (Ok image) (Ok input) = outcome_of_run r plan.engines (setup_of image input r.settings)
outcome_of r plan image input = record { said = []; file = None }

-- what the words and the files determine to be left
abbrev pub outcome : Reading → Sources → Outcome
outcome r files =
    outcome_of r (plan_by r.plan files.plan) (image_from files.image r.settings.ram) (input_from files.input)

-- so of `solo`, whose order is given
abbrev pub IsOutcome : Reading → Sources → Outcome → Type 0
IsOutcome r files o = o ≡ outcome r files

-- an outcome of `run`, whose harts make their events in whatever order: a legal journal that obeys the plan and has ended, and
-- its console bytes and its trace
pub record IsRunOutcome (r : Reading) (plan : Plan) (setup : Setup) (o : Outcome) : Type 0 where
  pub journal : List Event
  pub legal : IsLegal setup journal
  pub obeys : Obeys plan journal
  pub ended : has_ended setup (reach setup (order_of journal)) ≡ true
  pub outcome : o ≡ outcome_with (console journal) r.trace (trace_text setup journal)

-- one of the run of the image and the input that the files mean, under the plan that they mean
pub record IsOutcomeOfRun (r : Reading) (files : Sources) (o : Outcome) : Type 0 where
  pub plan : Assignment
  pub image : Loaded
  pub input : List ℕ
  pub plan_is : plan_by r.plan files.plan ≡ Ok plan
  pub image_is : image_from files.image r.settings.ram ≡ Ok image
  pub input_is : input_from files.input ≡ Ok input
  pub of_run : IsRunOutcome r plan.engines (setup_of image input r.settings) o

-- Two plans.

-- what a run leaves: it says these bytes, and its trace is the header, a line of each of these events, and these lines
pub record IsLeft (r : Reading) (setup : Setup) (o : Outcome) (said : List ℕ) (events : List Event) (tail : List TailLine) : Type 0 where
  pub said_is : o.said ≡ said
  pub file_is : o.file ≡ Some (r.trace, whole_text (settings_of setup) events tail)

-- under either plan the same bytes are said, and the traces have the same events but for handovers, engines and numbers,
-- and the same lines after them
pub record SplitsAlike (r : Reading) (setup : Setup) (one other : Plan) : Type 0 where
  pub said : List ℕ
  pub tail : List TailLine
  pub left : IsLeft r setup (outcome_of_run r one setup) said (journal_of one setup r.order) tail
  pub other_left : IsLeft r setup (outcome_of_run r other setup) said (journal_of other setup r.order) tail
  pub events : strip (journal_of one setup r.order) ≡ strip (journal_of other setup r.order)
