-- The memory that an end memory shows.
use Rattle.std.specs.Prelude.{List, Option, None, Some}
use Rattle.mem_lines.specs.Bank.{Bank}
use Rattle.devices.specs.View.{DevicesView}
use Rattle.mem_banks.specs.declared.end_memory.Unsettled as kept
use Rattle.mem_banks.specs.End.{Unsettled, Memory}

abbrev pub unsettled_of : Option kept.Unsettled → Option Unsettled
unsettled_of None = None
unsettled_of (Some u) = Some (record { book = u.book; passes = u.passes.items })

abbrev pub memory_of : List Bank → DevicesView → Option kept.Unsettled → Memory
memory_of lines d u = record { lines = lines; devices = d; unsettled = unsettled_of u }
