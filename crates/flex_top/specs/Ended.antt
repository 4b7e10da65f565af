-- What a run leaves that ended in a state of the machine.
use Rattle.std.specs.Prelude.{ℕ, List}
use Rattle.flex_base.specs.Setup.{Setup}
use Rattle.flex_base.specs.Devices.{sent_bytes}
use Rattle.flex_base.specs.Unsplit.{Machine}
use Rattle.flex_base.specs.declared.event.Event.{Event}
use Rattle.tracer.specs.Trace.{settings_of, tail_of, whole_text}
use Rattle.flex_top.specs.Answer.{Outcome, outcome_with}

-- the bytes that the devices have sent, and the trace of this journal, under this name
abbrev pub outcome_at : List Event → Setup → Machine → List ℕ → Outcome
outcome_at journal setup u name =
    outcome_with (sent_bytes u.devices) name (whole_text (settings_of setup) journal (tail_of setup u))
