-- Journals: the events of a split run, handovers among them.
use Rattle.std.specs.Prelude.{◌≡◌, ℕ, Bool, true, false, not, if◌then◌else◌, List, map, filter, length}
use Rattle.std.specs.List.{filter_map, range_with_len}
use Rattle.std.specs.Prelude.{Option, None, Some}
use Rattle.flex_base.specs.Setup.{Setup}
use Rattle.flex_base.specs.Devices as devices
use Rattle.flex_base.specs.Unsplit.{Made, does, unsplit}
use Rattle.flex_base.specs.declared.engine.Engine.{Engine}
use Rattle.flex_base.specs.declared.event.Event.{Event}
use Rattle.flex_base.specs.declared.event.What.{What}
use Rattle.flex_base.specs.declared.event.What.TheVariants as what

-- an event, by its number, its hart, its engine and what happened
abbrev pub event : ℕ → ℕ → Engine → What → Event
event number hart holder happened =
    record { number = number; hart = record { 0 = hart }; engine = holder; what = happened }

abbrev pub is_handover : What → Bool
is_handover (what.Handover to) = true
is_handover other = false

-- the journal without handovers, engines and numbers
unfoldable pub strip : List Event → List Made
strip journal = map (λ (e : Event). does e.hart.0 e.what) (filter (λ (e : Event). not (is_handover e.what)) journal)

-- the harts of its events in order
unfoldable pub order_of : List Event → List ℕ
order_of journal = map (λ (m : Made). m.hart) (strip journal)

unfoldable pub numbers_of : List Event → List ℕ
numbers_of journal = map (λ (e : Event). e.number) journal

-- the numbers are 0, 1, 2 and so on, and stripped the journal is what the unsplit machine does in its order
pub record IsLegal (setup : Setup) (journal : List Event) : Type 0 where
  pub numbers : numbers_of journal ≡ range_with_len 0 (length journal)
  pub events : strip journal ≡ unsplit setup (order_of journal)

-- the byte that an event transmits
abbrev pub byte_of : What → Option ℕ
byte_of (what.Acc access reply) = if devices.is_transmit access then Some (devices.byte_of access) else None
byte_of other = None

-- the bytes that these events transmit
unfoldable pub sent : List Made → List ℕ
sent made = filter_map (λ (m : Made). byte_of m.what) made

-- the bytes written to the console
abbrev pub console : List Event → List ℕ
console journal = sent (strip journal)
