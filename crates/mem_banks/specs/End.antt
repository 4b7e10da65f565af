-- The memory at the end of a run, and how its record is closed.
use Rattle.std.specs.Prelude.{◌≡◌, ℕ, zero, suc, ◌<◌, List, [], ◌∷◌, map, length, slice_index_or, Option, None, Some}
use Rattle.std.specs.List.{All}
use Rattle.mem_lines.specs.Bank.{Bank}
use Rattle.devices.specs.View.{DevicesView}
use Rattle.access_record.specs.declared.entry.LogEntry.{LogEntry}
use Rattle.access_record.specs.Passes.{RecordIdentity, PassOfHart, PassOfBank, Enrolment, EachHasPass, bank_logs_of, some_record}
use Rattle.access_record.specs.Buses.{Run, ram_banks}
use Rattle.mem_banks.specs.Slots.{pass_of}
use Rattle.mem_banks.specs.Kept.{IsBankOf, AreDevicesOf}
use Rattle.mem_banks.specs.Plain.{numbers_below}

-- the record and the passes of its banks, which are there until the record is closed
pub record Unsettled : Type 0 where
  pub book : RecordIdentity
  pub passes : List PassOfBank

-- the lines of each bank, the devices, and what isn't settled yet
pub record Memory : Type 0 where
  pub lines : List Bank
  pub devices : DevicesView
  pub unsettled : Option Unsettled

abbrev pub passes_in : Option Unsettled → List PassOfBank
passes_in None = []
passes_in (Some u) = u.passes

-- the passes of the banks, and their logs by number
abbrev pub bank_passes : Memory → List PassOfBank
bank_passes memory = passes_in memory.unsettled

abbrev pub logs_in : Memory → ℕ → List LogEntry
logs_in memory = bank_logs_of (bank_passes memory)

-- The memory is of this run and isn't settled. Its lines and devices are the replay of the logs of its banks, which are such
-- as a bank's log must be
pub record IsMemoryOf (run : Run) (memory : Memory) : Type 0 where
  pub unsettled : memory.unsettled ≡ Some (record { book = run.book; passes = bank_passes memory })
  pub ids : All (λ (p : PassOfBank). p.id ≡ run.book.id) (bank_passes memory)
  pub numbers : map (λ (p : PassOfBank). p.bank) (bank_passes memory) ≡ numbers_below run.book.limits.banks
  pub counted : length memory.lines ≡ ram_banks run
  pub banks : (bank : ℕ) (b : Bank) → bank < length memory.lines
      → IsBankOf run bank (slice_index_or memory.lines bank b) (logs_in memory bank)
  pub devices : AreDevicesOf run memory.devices (logs_in memory (ram_banks run))

-- the founder of the run's record, who has enrolled its banks
pub record IsFounderOf (run : Run) (founder : Enrolment) : Type 0 where
  pub id : founder.id ≡ run.book.id
  pub banks : founder.banks ≡ numbers_below run.book.limits.banks

-- the founder and these passes close the record of the memory
pub record MaySettle (run : Run) (memory : Memory) (founder : Enrolment) (passes : List PassOfHart) : Type 0 where
  pub of_run : IsMemoryOf run memory
  pub founder_is : IsFounderOf run founder
  pub ids : All (λ (p : PassOfHart). p.id ≡ run.book.id) passes
  pub harts : EachHasPass founder.harts passes

-- the pass that lies in a slot; where none does, one of no meaning
abbrev pub pass_in : Option PassOfBank → PassOfBank
pass_in None = pass_of some_record 0 [] 0
pass_in (Some p) = p

-- the passes of the first n slots, the last one first
abbrev pub passes_down : List (Option PassOfBank) → ℕ → List PassOfBank
passes_down slots zero = []
passes_down slots (suc n) = pass_in (slice_index_or slots n None) ∷ passes_down slots n

-- a pass lies in each slot
abbrev pub AreHeld : List (Option PassOfBank) → Type 0
AreHeld slots = (k : ℕ) (slot : Option PassOfBank) → k < length slots
    → slice_index_or slots k slot ≡ Some (pass_in (slice_index_or slots k slot))
