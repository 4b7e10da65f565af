-- Logs that are taken before the run.
use Rattle.std.specs.Prelude.{ℕ, ◌+◌, ◌*◌, List, [], replicate}
use Rattle.flex_base.specs.declared.settings.Settings.{Settings}
use Rattle.journal.specs.Log.{Log}

-- an empty log, with room for all events of a hart
abbrev pub empty_log : ℕ → Log
empty_log budget = record { events = []; room = 24 * budget + 24 }

abbrev pub are_empty : Settings → ℕ → List Log
are_empty settings n = replicate n (empty_log settings.budget)
