-- The end of a run, and the state of the unsplit machine that it is.
use Rattle.std.specs.Prelude.{◌≡◌, ℕ, ◌<◌, true, List, length, slice_index_or, None, Some}
use Rattle.flex_base.specs.Setup.{Setup}
use Rattle.flex_base.specs.FlatMemory.{byte}
use Rattle.flex_base.specs.Devices.{device_stop}
use Rattle.flex_base.specs.Unsplit.{Machine, instruction_at}
use Rattle.flex_base.specs.Journal.{strip}
use Rattle.flex_base.specs.declared.event.Event.{Event}
use Rattle.hart_story.specs.StandsFor.{StandsFor}
use Rattle.hart_story.specs.declared.hart.Hart.{Hart}
use Rattle.journal.specs.Log.{Log}
use Rattle.journal.specs.Merged.{AreLogsOf}
use Rattle.mem_lines.specs.Bank.{Bank, is_bank_count, IsBank, IsIn, byte_held}
use Rattle.devices.specs.View.{IsReplay}
use Rattle.transplant_plan.specs.Split.{split}
use Rattle.transplant_plan.specs.declared.plan.Plan.{Plan}
use Rattle.mem_banks.specs.End.{Memory}
use Rattle.mem_banks.specs.declared.ended.Ended.{Ended}
use Rattle.solo.specs.Solo.{engines_of}

-- the logs of the harts in rising order, of this journal
pub record AreHartLogs (harts : ℕ) (journal : List Event) (logs : List Log) : Type 0 where
  pub counted : length logs ≡ harts
  pub parts : AreLogsOf journal logs

-- each byte of the bank is as the machine's accesses have left it
pub record HoldsRam (setup : Setup) (u : Machine) (banks bank : ℕ) (b : Bank) : Type 0 where
  pub is_bank : IsBank setup.ram banks bank b
  pub each : (address : ℕ) → IsIn b address → byte_held b address ≡ byte setup.image u.ram address

-- the banks of RAM, which may be so many, and the devices are as the machine's accesses have left them
pub record IsMemoryAt (setup : Setup) (u : Machine) (memory : Memory) : Type 0 where
  pub counted : is_bank_count (length memory.lines) ≡ true
  pub lines : (bank : ℕ) (b : Bank) → bank < length memory.lines
      → HoldsRam setup u (length memory.lines) bank (slice_index_or memory.lines bank b)
  pub devices : IsReplay setup.harts setup.input u.devices memory.devices
  pub keeps : memory.devices.console.keeps ≡ true
  pub settled : memory.unsettled ≡ None

-- what is left of a run that ended in this state, with this journal
pub record IsEndOf (setup : Setup) (journal : List Event) (u : Machine) (ended : Ended) : Type 0 where
  pub made : strip journal ≡ u.events
  pub stop_is : device_stop setup.harts u.devices ≡ Some ended.stop
  pub counted : length ended.harts.items ≡ setup.harts
  pub harts : (h : ℕ) (other : Hart) → h < setup.harts
      → StandsFor (slice_index_or ended.harts.items h other) (instruction_at u h).state
  pub logs : AreHartLogs setup.harts journal ended.logs.items
  pub memory : IsMemoryAt setup u ended.memory

-- so of one whose journal is the plan's split of what was done
abbrev pub IsEnd : Setup → Plan → Machine → Ended → Type 0
IsEnd setup plan u ended = IsEndOf setup (split (engines_of plan) setup.harts u.events) u ended
