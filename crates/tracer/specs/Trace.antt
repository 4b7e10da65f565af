-- The whole trace text.
use Rattle.std.specs.Prelude.{ℕ, ◌+◌, List, ◌++◌, map}
use Rattle.std.specs.List.{flat_map, range_with_len}
use Rattle.flex_base.specs.Place.{ram_base}
use Rattle.flex_base.specs.Setup.{Setup}
use Rattle.flex_base.specs.FlatMemory.{byte}
use Rattle.flex_base.specs.Unsplit.{Machine, instruction_at, reach}
use Rattle.flex_base.specs.Devices.{device_stop}
use Rattle.flex_base.specs.Journal.{order_of}
use Rattle.flex_base.specs.declared.event.Event.{Event}
use Rattle.flex_base.specs.declared.settings.Settings.{Settings}
use Rattle.tracer.specs.EventText.{header_text, event_text}
use Rattle.tracer.specs.TailText.{tail_line_text}
use Rattle.tracer.specs.Tail.{tail_lines}
use Rattle.tracer.specs.declared.tail_text.TailLine.{TailLine}

-- the header, a line of each event, and the lines after them
unfoldable pub whole_text : Settings → List Event → List TailLine → List ℕ
whole_text settings events tail = header_text settings ++ flat_map event_text events ++ flat_map tail_line_text tail

abbrev pub settings_of : Setup → Settings
settings_of setup = record { harts = setup.harts; ram = setup.ram; budget = setup.budget }

-- all bytes of RAM
unfoldable pub ram_bytes : Setup → Machine → List ℕ
ram_bytes setup u = map (λ i. byte setup.image u.ram (ram_base + i)) (range_with_len 0 setup.ram)

-- the lines after the events, of this state
abbrev pub tail_of : Setup → Machine → List TailLine
tail_of setup u =
    tail_lines (device_stop setup.harts u.devices) setup.harts (λ h. (instruction_at u h).state) (ram_bytes setup u)

-- the trace of a run with these events; its tail is that of the state to which their order leads
unfoldable pub trace_text : Setup → List Event → List ℕ
trace_text setup journal = whole_text (settings_of setup) journal (tail_of setup (reach setup (order_of journal)))
