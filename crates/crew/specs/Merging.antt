-- The entries of several logs in the order of their numbers.
use Rattle.std.specs.Prelude.{ℕ, Bool, ◌==◌, List}
use Rattle.std.specs.List.{filter, flat_map, range_with_len}
use Rattle.access_record.specs.declared.entry.LogEntry.{LogEntry}

-- the logs of the harts below this one, hart by hart
unfoldable pub entries_of : ℕ → (ℕ → List LogEntry) → List LogEntry
entries_of harts logs = flat_map logs (range_with_len 0 harts)

abbrev pub is_numbered : ℕ → LogEntry → Bool
is_numbered number e = e.event.number == number

-- those of these entries that have numbers below n, in rising number
unfoldable pub merged : ℕ → List LogEntry → List LogEntry
merged n entries = flat_map (λ k. filter (is_numbered k) entries) (range_with_len 0 n)
