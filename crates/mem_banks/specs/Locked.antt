-- What lies under the locks of the banks and of the devices.
use Rattle.std.specs.Prelude.{ℕ, ◌<◌, List, length, slice_index_or, Option, Some}
use Rattle.mem_lines.specs.Bank.{Bank}
use Rattle.devices.specs.View.{DevicesView}
use Rattle.access_record.specs.declared.entry.LogEntry.{LogEntry}
use Rattle.access_record.specs.Passes.{PassOfBank}
use Rattle.access_record.specs.Buses.{Run, ram_banks}
use Rattle.mem_banks.specs.Slots.{log_in}
use Rattle.mem_banks.specs.Kept.{IsRun, IsBankAt, AreDevicesAt}

-- a locked bank as contracts see it: its lines and its log
pub record LockedBank : Type 0 where
  pub lines : Bank
  pub log : List LogEntry

abbrev pub locked_bank : Bank → Option PassOfBank → LockedBank
locked_bank b slot = record { lines = b; log = log_in slot }

-- so the locked devices
pub record LockedDevices : Type 0 where
  pub devices : DevicesView
  pub log : List LogEntry

abbrev pub locked_devices : DevicesView → Option PassOfBank → LockedDevices
locked_devices d slot = record { devices = d; log = log_in slot }

-- the run has at least one bank of RAM, and one more for the devices
pub record HasBanks (run : Run) : Type 0 where
  pub run_is : IsRun run
  pub some : 0 < ram_banks run

-- the lines of some bank of the run, with the pass of their log
pub record IsLockedBank (run : Run) (b : Bank) (slot : Option PassOfBank) : Type 0 where
  pub run_is : IsRun run
  pub kept : IsBankAt run b.bank b slot

-- the devices of the run, with the pass of their log
pub record AreLockedDevices (run : Run) (d : DevicesView) (slot : Option PassOfBank) : Type 0 where
  pub run_is : IsRun run
  pub kept : AreDevicesAt run d slot

-- bank b lies at place b, and its pass too
abbrev pub AreInOrder : Run → List Bank → List PassOfBank → Type 0
AreInOrder run lines passes = (bank : ℕ) (b : Bank) (p : PassOfBank) → bank < length lines
    → IsBankAt run bank (slice_index_or lines bank b) (Some (slice_index_or passes bank p))
