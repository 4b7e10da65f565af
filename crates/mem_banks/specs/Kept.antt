-- What a bank and the devices keep: they are the replay of their logs, and the logs are what a bank's log must be.
use Rattle.std.specs.Prelude.{◌≡◌, ℕ, ◌+◌, ◌*◌, ◌<◌, ◌≤◌, true, false, List, [], ◌∷◌, length, Option}
use Rattle.flex_base.specs.FlatMemory.{is_ram_access}
use Rattle.flex_base.specs.Forms.{IsPlaced}
use Rattle.flex_base.specs.Devices.{hart_at, still_waits, devices}
use Rattle.flex_base.specs.Following.{is_waiting}
use Rattle.flex_base.specs.Banks.{accesses_of, IsBanked}
use Rattle.flex_base.specs.declared.access.Access.{Access}
use Rattle.mem_lines.specs.Bank as lines
use Rattle.devices.specs.View as devices
use Rattle.access_record.specs.declared.entry.LogEntry.{LogEntry}
use Rattle.access_record.specs.Logs.{of_hart}
use Rattle.access_record.specs.Passes.{RecordIdentity, PassOfHart, PassOfBank}
use Rattle.access_record.specs.Buses.{Run, ram_banks, place_in, events_of, NamePlaces, bytes_sent, HasByte, waits}
use Rattle.mem_banks.specs.Slots.{log_in, HasPass}

-- the lines are those of the bank of this number, and the replay of its log from the run's image
pub record IsBankOf (run : Run) (bank : ℕ) (b : lines.Bank) (log : List LogEntry) : Type 0 where
  pub is_bank : lines.IsBank run.setup.ram (ram_banks run) bank b
  pub replay : lines.IsReplay run.setup (accesses_of (events_of log)) b
  pub banked : IsBanked run.setup (ram_banks run) bank (events_of log)

-- each entry is of one of so many harts
abbrev pub AreOfHarts : ℕ → List LogEntry → Type 0
AreOfHarts harts [] = Unit {0}
AreOfHarts harts (e ∷ log) = (e.event.hart.0 < harts) × AreOfHarts harts log

-- the devices are the replay of their log. No hart has transmitted more bytes than its budget, and there is room for as many;
-- a hart waits where it was told so
pub record AreDevicesOf (run : Run) (d : devices.DevicesView) (log : List LogEntry) : Type 0 where
  pub replay : devices.IsReplay run.setup.harts run.setup.input (accesses_of (events_of log)) d
  pub banked : IsBanked run.setup (ram_banks run) (ram_banks run) (events_of log)
  pub harts : AreOfHarts run.setup.harts log
  pub bytes : (hart : ℕ) → bytes_sent (of_hart hart log) ≤ run.setup.budget
  pub waiting : (hart : ℕ) → still_waits (hart_at (devices run.setup.harts (accesses_of (events_of log))) hart).standing
      ≡ is_waiting (events_of (of_hart hart log))
  pub room : d.console.room ≡ run.setup.harts * run.setup.budget
  pub keeps : d.console.keeps ≡ true

-- with the pass of the log
pub record IsBankAt (run : Run) (bank : ℕ) (b : lines.Bank) (slot : Option PassOfBank) : Type 0 where
  pub pass : HasPass run.book bank slot
  pub lines : IsBankOf run bank b (log_in slot)

pub record AreDevicesAt (run : Run) (d : devices.DevicesView) (slot : Option PassOfBank) : Type 0 where
  pub pass : HasPass run.book (ram_banks run) slot
  pub devices : AreDevicesOf run d (log_in slot)

-- the run has a bank for the devices, and at most 32 harts
pub record IsRun (run : Run) : Type 0 where
  pub some : ram_banks run + 1 ≡ run.book.limits.banks
  pub few : run.setup.harts ≤ 32

-- a pass of the run's record and of one of its harts, whose log has room and names the bank of each access
pub record IsReady (run : Run) (pass : PassOfHart) : Type 0 where
  pub book : pass.id ≡ run.book.id
  pub hart : pass.hart.0 < run.setup.harts
  pub room : length pass.log < run.book.limits.room
  pub places : NamePlaces run pass.log

-- what an access asks for wherever it goes
pub record MayMake (run : Run) (pass : PassOfHart) (access : Access) : Type 0 where
  pub ready : IsReady run pass
  pub placed : IsPlaced run.setup.harts run.setup.ram access
  pub awake : waits pass ≡ false
  pub console : HasByte run pass access

-- what an access of this bank asks for
pub record MakesAt (run : Run) (book : RecordIdentity) (b : lines.Bank) (slot : Option PassOfBank) (pass : PassOfHart) (access : Access) : Type 0 where
  pub book_is : book ≡ run.book
  pub run_is : IsRun run
  pub kept : IsBankAt run b.bank b slot
  pub may : MayMake run pass access
  pub ram : is_ram_access access ≡ true
  pub here : place_in run access ≡ b.bank

-- what an access of the devices asks for
pub record MakesAtDevices (run : Run) (book : RecordIdentity) (d : devices.DevicesView) (slot : Option PassOfBank) (pass : PassOfHart) (access : Access) : Type 0 where
  pub book_is : book ≡ run.book
  pub run_is : IsRun run
  pub kept : AreDevicesAt run d slot
  pub may : MayMake run pass access
  pub device : is_ram_access access ≡ false

-- what it asks for to wake a hart
pub record MayWake (run : Run) (book : RecordIdentity) (d : devices.DevicesView) (slot : Option PassOfBank) (pass : PassOfHart) : Type 0 where
  pub book_is : book ≡ run.book
  pub run_is : IsRun run
  pub kept : AreDevicesAt run d slot
  pub ready : IsReady run pass
  pub waits : waits pass ≡ true
