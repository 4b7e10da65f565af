-- The logs of harts and banks of one run, each right by itself; and the run that they are when they are merged.
use Rattle.std.specs.Prelude.{◌≡◌, ℕ, ◌<◌, true, List, length}
use Rattle.std.specs.List.{All}
use Rattle.flex_base.specs.Setup.{Setup}
use Rattle.flex_base.specs.FlatMemory.{byte}
use Rattle.flex_base.specs.Word.{is_multiple}
use Rattle.flex_base.specs.Banks.{bank_of, accesses_of, IsBanked}
use Rattle.flex_base.specs.Following.{Follows, instruction_of}
use Rattle.flex_base.specs.Unsplit.{Machine, instruction_at, reach}
use Rattle.flex_base.specs.Journal.{IsLegal, order_of}
use Rattle.flex_base.specs.Merging.{merge}
use Rattle.flex_base.specs.declared.class.Class.TheVariants as class
use Rattle.flex_base.specs.declared.engine.Engine.{Engine}
use Rattle.flex_base.specs.declared.event.Event.{Event}
use Rattle.access_record.specs.declared.entry.LogEntry.{LogEntry}
use Rattle.access_record.specs.Logs.{IsRecord}
use Rattle.access_record.specs.Buses.{Run, ram_banks, events_of, NamePlaces}
use Rattle.transplant_plan.specs.Split.{Plan, ByPlan, Obeys}
use Rattle.context.specs.Obeying.{moves}
use Rattle.solo.specs.Standing.{of_bank}
use Rattle.journal.specs.Merged.{of_hart}
use Rattle.crew.specs.Merging.{entries_of}
use Rattle.crew.specs.Placing.{AreEventsPlaced}

-- each access of a log stands where its kind may stand
abbrev pub ArePlacedIn : Setup → List LogEntry → Type 0
ArePlacedIn setup log = AreEventsPlaced setup (events_of log)

-- The logs meet the rule of the record, which has a log for each hart of the run and at least one bank of RAM; the entry of the
-- image is that of an instruction. The log of each hart follows its instructions and is by the plan, and its accesses name the
-- bank of their address. The log of each bank is banked
pub record AreLogsOfRun (run : Run) (plan : Plan) (n : ℕ) (harts banks : ℕ → List LogEntry) : Type 0 where
  pub rule : IsRecord run.book.limits n harts banks
  pub counted : run.book.limits.harts ≡ run.setup.harts
  pub some : 0 < ram_banks run
  pub follow : (hart : ℕ) → hart < run.setup.harts → Follows run.setup hart (events_of (harts hart))
  pub name : (hart : ℕ) → hart < run.setup.harts → NamePlaces run (harts hart)
  pub entry : is_multiple run.setup.image.entry 4 ≡ true
  pub banked : (bank : ℕ) → bank < run.book.limits.banks → IsBanked run.setup (ram_banks run) bank (events_of (banks bank))
  pub by_plan : (hart : ℕ) → hart < run.setup.harts
      → (last : Engine) × ByPlan (plan hart) (plan hart class.Fetch) (moves (events_of (harts hart))) last

-- the events of the harts' logs in the order of their numbers
unfoldable pub journal_of : Run → ℕ → (ℕ → List LogEntry) → List Event
journal_of run n harts = merge n (events_of (entries_of run.setup.harts harts))

-- harts, memory and devices of a state are what these logs lead to, and each byte of RAM is what its bank's log left
pub record IsStateOf (run : Run) (harts banks : ℕ → List LogEntry) (u : Machine) : Type 0 where
  pub instructions : (hart : ℕ) → hart < run.setup.harts
      → instruction_at u hart ≡ instruction_of run.setup hart (events_of (harts hart))
  pub memory : (bank : ℕ) → bank < ram_banks run → accesses_of (events_of (banks bank)) ≡ of_bank (ram_banks run) bank u.ram
  pub bytes : (a : ℕ) → byte run.setup.image u.ram a
      ≡ byte run.setup.image (accesses_of (events_of (banks (bank_of (ram_banks run) a)))) a
  pub devices : accesses_of (events_of (banks (ram_banks run))) ≡ u.devices

-- The journal is a legal run by this plan. It has n events, each of a hart of the run; its part of each hart is the hart's log.
-- The state that it leads to is that of the logs
pub record IsRunOf (run : Run) (plan : Plan) (n : ℕ) (harts banks : ℕ → List LogEntry) (journal : List Event) : Type 0 where
  pub legal : IsLegal run.setup journal
  pub obeys : Obeys plan journal
  pub counted : length journal ≡ n
  pub of_run : All (λ (e : Event). e.hart.0 < run.setup.harts) journal
  pub parts : (hart : ℕ) → of_hart hart journal ≡ events_of (harts hart)
  pub part_counted : (hart : ℕ) → length (of_hart hart journal) ≡ length (harts hart)
  pub state : IsStateOf run harts banks (reach run.setup (order_of journal))
