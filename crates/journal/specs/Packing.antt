-- The event that a packed one stands for.
use Rattle.std.specs.Prelude.{ℕ, ◌+◌, ◌-◌, ◌^◌, Bool, true, false, if◌then◌else◌, List, [], ◌∷◌, drop, length, slice_index}
use Rattle.flex_base.specs.declared.access.Access.{Access}
use Rattle.flex_base.specs.declared.access.Access.TheVariants as acc
use Rattle.flex_base.specs.declared.event.Event.{Event}
use Rattle.flex_base.specs.declared.event.What.{What}
use Rattle.flex_base.specs.declared.event.What.TheVariants as what
use Rattle.journal.specs.Log.{Log}
use Rattle.journal.specs.declared.kept.Kept.{Kept}
use Rattle.journal.specs.declared.kept.Last.{Last}
use Rattle.journal.specs.declared.kept.Last.TheVariants as last
use Rattle.journal.specs.declared.parts.Kind.{Kind}
use Rattle.journal.specs.declared.parts.Kind.TheVariants as kind
use Rattle.journal.specs.declared.parts.Parts.{Parts}

-- an access that hands in one number at most: the second number is the reply's value, the third its lines
abbrev pub read_by : Access → Parts → What
read_by access p = what.Acc access (record { value = p.second; lines = p.third; stop = p.stop })

-- one that hands in two: the third number is the reply's value, the last its lines
abbrev pub written_by : Access → Parts → What
written_by access p = what.Acc access (record { value = p.third; lines = p.last; stop = p.stop })

abbrev pub what_by : Kind → Parts → What
what_by kind.Fetch p = read_by (acc.Fetch p.first) p
what_by kind.Pte p = read_by (acc.Pte p.first) p
what_by (kind.Read width) p = read_by (acc.Read p.first width) p
what_by (kind.Write width) p = written_by (acc.Write p.first width p.second) p
what_by (kind.Lr width) p = read_by (acc.Lr p.first width) p
what_by (kind.Sc width) p = written_by (acc.Sc p.first width p.second) p
what_by (kind.Amo op width) p = written_by (acc.Amo op p.first width p.second) p
what_by (kind.DevRead width) p = read_by (acc.DevRead p.first width) p
what_by (kind.DevWrite width) p = written_by (acc.DevWrite p.first width p.second) p
what_by (kind.Pulse tick) p = read_by (acc.Pulse tick) p
what_by kind.Wait p = read_by (acc.Wait p.first) p
what_by kind.Retire p = read_by acc.Retire p
what_by kind.Time p = read_by acc.Time p
what_by (kind.End class) p = what.End (record { class = class; pc = p.first; next = p.second; first = p.last; second = p.third })
what_by (kind.Handover to) p = what.Handover to

abbrev pub what_of : Parts → What
what_of p = what_by p.kind p

-- the last number, where the next of those beside the events is given
abbrev pub last_number : Last → ℕ → ℕ
last_number (last.Small n) beside = n
last_number (last.Interrupt n) beside = 2 ^ 63 + n
last_number last.Beside beside = beside

abbrev pub is_beside : Last → Bool
is_beside last.Beside = true
is_beside other = false

-- the event, where its last number is given
abbrev pub event_by : Kept → ℕ → Event
event_by k last = record {
  number = k.number;
  hart = k.hart;
  engine = k.engine;
  what = what_of (record { kind = k.kind; stop = k.stop; first = k.first; second = k.second; third = k.third; last = last });
}

-- the event, where the next of the numbers beside is given
abbrev pub event_of : Kept → ℕ → Event
event_of k beside = event_by k (last_number k.last beside)

-- the numbers beside that are left after this event
abbrev pub beside_after : Kept → List ℕ → List ℕ
beside_after k beside = if is_beside k.last then drop 1 beside else beside

-- the events in order, each with the next of the numbers beside where it has its last number there
abbrev pub events_of : List Kept → List ℕ → List Event
events_of [] beside = []
events_of (k ∷ ks) beside = event_of k (slice_index beside 0) ∷ events_of ks (beside_after k beside)

-- the log of these events, with room for so many in all
abbrev pub view_of : List Kept → List ℕ → ℕ → Log
view_of ks beside whole = record { events = events_of ks beside; room = whole - length ks }
