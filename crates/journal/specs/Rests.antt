-- What is left of logs that are read by number.
use Rattle.std.specs.Prelude.{◌≡◌, ℕ, ◌<◌, ◌≤◌, ◌%◌, ◌^◌, Bool, false, if◌then◌else◌, nat_lt, List, [], ◌∷◌, get_or, slice_index_or, length}
use Rattle.std.specs.List.{All, flat_map, range_with_len}
use Rattle.flex_base.specs.Journal.{numbers_of}
use Rattle.flex_base.specs.declared.event.Event.{Event}
use Rattle.flex_base.specs.Merging.{has_number}
use Rattle.journal.specs.Log.{Log}
use Rattle.journal.specs.Merged.{of_hart}
use Rattle.journal.specs.Packing.{events_of}
use Rattle.journal.specs.declared.rest.Rest.{Rest}

-- the events of what is left of a log
abbrev pub events_left : Rest → List Event
events_left rest = events_of rest.kept.now rest.beside.now

-- an event more, before the first of these that has no lower number
abbrev pub put_in : Event → List Event → List Event
put_in e [] = e ∷ []
put_in e (x ∷ xs) = if nat_lt x.number e.number then x ∷ put_in e xs else e ∷ x ∷ xs

abbrev pub in_order : List Event → List Event
in_order [] = []
in_order (e ∷ es) = put_in e (in_order es)

-- the events of all these rests by number
unfoldable pub merged : List (List Event) → List Event
merged rests = in_order (flat_map (λ (rest : List Event). rest) rests)

-- the first of the events has this number
abbrev pub begins_with : ℕ → List Event → Bool
begins_with number [] = false
begins_with number (e ∷ es) = has_number number e

-- and it is one of 64 bits
abbrev pub is_in_range : List Event → Type 0
is_in_range [] = Unit {0}
is_in_range (e ∷ es) = e.number < 2 ^ 64

-- the rests are the whole of the first n logs, and nothing past them
pub record AreRests (n : ℕ) (logs : List Log) (rests : List (List Event)) : Type 0 where
  pub size : length rests ≡ 32
  pub within : (h : ℕ) (other : Log) → h < n → get_or rests h [] ≡ (slice_index_or logs h other).events
  pub past : (h : ℕ) → n ≤ h → get_or rests h [] ≡ []

-- the rests are those of a journal from this number on, by hart, and no hart has a place from count on
pub record IsLeft (left : List Event) (number count : ℕ) (rests : List (List Event)) : Type 0 where
  pub numbers : numbers_of left ≡ range_with_len number (length left)
  pub harts : All (λ (e : Event). e.hart.0 < count) left
  pub each : (h : ℕ) → h < length rests → get_or rests h [] ≡ of_hart h left

-- what an iterator by number keeps true; its number is the next event's, if there is one
pub record IsByNumber (rests : List (List Event)) (count last number : ℕ) : Type 0 where
  pub size : length rests ≡ 32
  pub few : count ≤ 32
  pub within : last < 32
  pub left : (left : List Event) × (next : ℕ) × IsLeft left next count rests × (number ≡ next % 2 ^ 64)
