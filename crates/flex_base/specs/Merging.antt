-- The events of several logs as one journal.
use Rattle.std.specs.Prelude.{ℕ, Bool, ◌==◌, List, filter}
use Rattle.std.specs.List.{flat_map, range_with_len}
use Rattle.flex_base.specs.declared.event.Event.{Event}

abbrev pub has_number : ℕ → Event → Bool
has_number number e = e.number == number

-- those of these events that have numbers below n, in rising number
unfoldable pub merge : ℕ → List Event → List Event
merge n events = flat_map (λ k. filter (has_number k) events) (range_with_len 0 n)
