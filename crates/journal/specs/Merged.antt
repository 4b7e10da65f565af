-- The logs of one journal.
use Rattle.std.specs.Prelude.{◌≡◌, ℕ, ◌==◌, ◌<◌, ◌≤◌, List, filter, length, slice_index_or}
use Rattle.std.specs.List.{All, range_with_len}
use Rattle.flex_base.specs.Journal.{numbers_of}
use Rattle.flex_base.specs.declared.event.Event.{Event}
use Rattle.journal.specs.Log.{Log}

-- those of one hart
unfoldable pub of_hart : ℕ → List Event → List Event
of_hart hart events = filter (λ (e : Event). e.hart.0 == hart) events

-- the logs of a journal by hart: its events are numbered 0, 1, 2 and so on, each is of a hart that has a log, and the log of
-- each hart has its events
pub record AreLogsOf (journal : List Event) (logs : List Log) : Type 0 where
  pub few : length logs ≤ 32
  pub numbers : numbers_of journal ≡ range_with_len 0 (length journal)
  pub harts : All (λ (e : Event). e.hart.0 < length logs) journal
  pub each : (h : ℕ) (other : Log) → h < length logs → (slice_index_or logs h other).events ≡ of_hart h journal
