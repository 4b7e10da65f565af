-- What contracts see of a pipe.
use Rattle.std.specs.Prelude.{◌≡◌, ◌≢◌, ◌⊎◌, ℕ, zero, suc, ◌+◌, ◌-◌, ◌/◌, ◌%◌, ◌<◌, ◌≤◌, Bool, true, false, ◌||◌, if◌then◌else◌, nat_lt, nat_eq, min, List, [], ◌∷◌, ◌++◌, map, take, drop, reverse, length, slice_index_or, slice_set, Option, None, Some}
use Rattle.std.specs.List.{All}
use Rattle.flex_base.specs.declared.class.Class.{Class}
use Rattle.flex_base.specs.declared.class.Class.TheVariants as class
use Rattle.flex_base.specs.declared.engine.Engine.{Engine}
use Rattle.flex_base.specs.declared.engine.Engine.TheVariants as engine
use Rattle.access_record.specs.Buses.{Run}
use Rattle.access_record.specs.Histories.{History}
use Rattle.context.specs.declared.wants.Wants.{Wants}
use Rattle.context.specs.declared.wants.Wants.TheVariants as wants
use Rattle.context.specs.Obeying.{IsFor}
use Rattle.context.specs.Runs.{MakesNone}
use Rattle.context.specs.Contexts.{Context, plan_of, IsWanting, IsWantedIn, IsOn, IsSame, IsElsewhere, Steps, Goes}
use Rattle.pipeline.specs.declared.flight.Flight.{Flight}
use Rattle.pipeline.specs.declared.flight.Made.{Made}

-- the latches by their numbers, from select, which is 0, to end

-- the latch in which the event that is wanted is made; one that makes no event has none
abbrev pub latch_for : Wants → ℕ
latch_for (wants.Ask class.Fetch) = 1
latch_for (wants.Ask other) = 4
latch_for (wants.Finish class) = 5
latch_for other = 0

-- the hart's next event is the work of its engine, and is made in this latch
pub record IsDue (c : Context) (latch : ℕ) : Type 0 where
  pub wants : Wants
  pub wanting : IsWanting c wants
  pub here : IsFor (plan_of c) wants c.engine
  pub latch_is : latch_for wants ≡ latch

-- what is in a latch, by the byte that says it: 255 where nothing is, else eight times the place and the latch of its event
abbrev pub flight_in : ℕ → Option Flight
flight_in slot = if nat_eq slot 255 then None else Some (record { place = slot / 8; due = slot % 8 })

-- what is in the latches
abbrev pub flights_in : List ℕ → List (Option Flight)
flights_in slots = map flight_in slots

-- nothing is
abbrev pub no_flights : List (Option Flight)
no_flights = None ∷ None ∷ None ∷ None ∷ None ∷ None ∷ []

-- the harts that are held, in the order in which they were admitted, what is in the latches, the place of whose turn it is in select,
-- and the events of the last cycle
pub record Pipe : Type 0 where
  pub held : List Context
  pub latches : List (Option Flight)
  pub next : ℕ
  pub made : ℕ

-- the hart of what is in a latch
abbrev pub place_in : Option Flight → Option ℕ
place_in (Some f) = Some f.place
place_in None = None

abbrev pub is_of : Option Flight → ℕ → Bool
is_of (Some f) place = nat_eq f.place place
is_of None place = false

abbrev pub is_among : List (Option Flight) → ℕ → Bool
is_among [] place = false
is_among (f ∷ rest) place = is_of f place || is_among rest place

-- so many cycles more than the next one until the instruction in this latch makes its event
abbrev pub wait_at : ℕ → Option Flight → ℕ
wait_at latch (Some f) = if nat_lt latch f.due then f.due - latch - 1 else 5
wait_at latch None = 5

-- the least of these, 5 where nothing in the latches makes one
abbrev pub least_wait : ℕ → List (Option Flight) → ℕ
least_wait latch [] = 5
least_wait latch (f ∷ rest) = min (wait_at latch f) (least_wait (suc latch) rest)

-- after how many cycles more than the next one an event is made at the latest, where some hart has one due
abbrev pub wait_of : Pipe → ℕ
wait_of pipe = least_wait 0 pipe.latches

abbrev pub pipe_of : List Context → List (Option Flight) → ℕ → ℕ → Pipe
pipe_of held latches next made = record { held = held; latches = latches; next = next; made = made }

-- each latch's content goes to the next one; what was in end has left
abbrev pub moved : List (Option Flight) → List (Option Flight)
moved latches = None ∷ take 5 latches

-- what is in a latch once the hart at this place is taken out, and those after it have moved up
abbrev pub without_place : ℕ → Option Flight → Option Flight
without_place place None = None
without_place place (Some f) =
    if nat_eq f.place place then None else if nat_lt f.place place then Some f else Some (record f { place = f.place - 1 })

abbrev pub without_in : ℕ → List (Option Flight) → List (Option Flight)
without_in place latches = map (without_place place) latches

-- the hart at this place
abbrev pub HasHart : List Context → ℕ → (Context → Type 0) → Type 0
HasHart held place Is = (c : Context) × (place < length held) × (slice_index_or held place c ≡ c) × Is c

-- this instruction is in this latch
abbrev pub IsAt : List (Option Flight) → ℕ → Flight → Type 0
IsAt latches latch f = slice_index_or latches latch None ≡ Some f

-- an instruction in flight is that of a hart that is held, which has its event due in a later latch
pub record IsInFlight (held : List Context) (latch : ℕ) (f : Flight) : Type 0 where
  pub later : latch < f.due
  pub most : f.due ≤ 5
  pub hart : HasHart held f.place (λ c. IsDue c f.due)

-- each instruction is in flight, and no hart has two
pub record AreInFlight (held : List Context) (latches : List (Option Flight)) : Type 0 where
  pub six : length latches ≡ 6
  pub each : (latch : ℕ) (f : Flight) → IsAt latches latch f → IsInFlight held latch f
  pub once : (one other : ℕ) (f g : Flight) → IsAt latches one f → IsAt latches other g → f.place ≡ g.place → one ≡ other

-- the same where each may also have its event due in the latch in which it is, as after the latches have moved on, for the latches
-- from this one on; in those before it the events are made
pub record AreMoving (held : List Context) (latches : List (Option Flight)) : Type 0 where
  pub six : length latches ≡ 6
  pub each : (latch : ℕ) (f : Flight) → IsAt latches latch f → (latch ≤ f.due) × (f.due ≤ 5) × HasHart held f.place (λ c. IsDue c f.due)
  pub once : (one other : ℕ) (f g : Flight) → IsAt latches one f → IsAt latches other g → f.place ≡ g.place → one ≡ other

-- none of these is this place
abbrev pub IsNotAmong : Option ℕ → List (Option ℕ) → Type 0
IsNotAmong None rest = Unit {0}
IsNotAmong (Some place) [] = Unit {0}
IsNotAmong (Some place) (other ∷ rest) = (other ≢ Some place) × IsNotAmong (Some place) rest

-- no hart has two instructions in flight
abbrev pub AreOnce : List (Option ℕ) → Type 0
AreOnce [] = Unit {0}
AreOnce (place ∷ rest) = IsNotAmong place rest × AreOnce rest

-- each hart that is held is in the pipe
abbrev pub AreHere : List Context → Type 0
AreHere held = All (λ c. c.engine ≡ engine.Pipe) held

-- what the type of a pipe keeps
pub record IsPipe (held : List Context) (latches : List (Option Flight)) (next capacity : ℕ) : Type 0 where
  pub few : length held ≤ 32
  pub turn : next ≤ length held
  pub here : AreHere held
  pub flights : AreInFlight held latches
  pub room : capacity ≡ 32

-- harts of these places made at most one event each, one place after another, so many in all
abbrev pub Passes : Run → Option History → Option History → ℕ → List (Option ℕ) → List Context → List Context → Type 0
Passes run before after made [] old new = (made ≡ 0) × (new ≡ old) × (after ≡ before)
Passes run before after made (None ∷ rest) old new = Passes run before after made rest old new
Passes run before after made (Some place ∷ rest) old new =
    Passes run before after made rest old new
    ⊎ ((between : Option History) × (c : Context) × (next : Context) × (less : ℕ) × (made ≡ suc less) × (place < length old)
    × (slice_index_or old place c ≡ c) × Steps run before between c next × IsSame c next
    × Passes run between after less rest (slice_set old place next) new)

-- the places of what is in the latches after each has moved on by one, from end to fetch
abbrev pub moved_places : Pipe → List (Option ℕ)
moved_places pipe = reverse (map place_in (take 5 pipe.latches))

-- an event was made or comes nearer, where some hart has one due
abbrev pub IsNearer : Pipe → Pipe → Type 0
IsNearer old new = (place : ℕ) (c : Context) → place < length old.held → slice_index_or old.held place c ≡ c → IsWantedIn c engine.Pipe
    → (0 < new.made) ⊎ (wait_of new < wait_of old)

-- whose turn it is once the hart at this place is taken out, and those after it have moved up
abbrev pub next_without : ℕ → ℕ → ℕ
next_without place next = if nat_lt place next then next - 1 else next

-- a hart that was held isn't any more, nor is its instruction in flight, and all others are as before, in their order
pub record IsOut (old new : Pipe) (c : Context) : Type 0 where
  pub before : List Context
  pub after : List Context
  pub was : old.held ≡ before ++ c ∷ after
  pub left : new.held ≡ before ++ after
  pub latches : new.latches ≡ without_in (length before) old.latches
  pub next : new.next ≡ next_without (length before) old.next
  pub made : new.made ≡ old.made

-- the hart at this place was taken out, and its instruction
pub record IsTakenOut (place : ℕ) (old new : Pipe) (c : Context) : Type 0 where
  pub was : slice_index_or old.held place c ≡ c
  pub left : new.held ≡ take place old.held ++ drop (suc place) old.held
  pub latches : new.latches ≡ without_in place old.latches
  pub next : new.next ≡ next_without place old.next
  pub made : new.made ≡ old.made

-- each hart that is held is of this run
abbrev pub AreOn : Run → List Context → Type 0
AreOn run held = All (λ c. IsOn run c) held

-- none of them wants another engine
abbrev pub NoneElsewhere : List Context → Type 0
NoneElsewhere held = All (λ c. (to : Engine) → IsElsewhere to c → ⊥) held

-- the event of what is in a latch isn't due in this one
abbrev pub IsNotDue : ℕ → Option Flight → Type 0
IsNotDue latch None = Unit {0}
IsNotDue latch (Some f) = f.due ≢ latch

-- the event of what is in this latch was made, and it was such an event
pub record Works (run : Run) (before after : Option History) (wanted : Class → Wants) (f : Flight) (old new : List Context) : Type 0 where
  pub was : Context
  pub next : Context
  pub there : f.place < length old
  pub was_is : slice_index_or old f.place was ≡ was
  pub goes : Goes run before after wanted was next
  pub same : IsSame was next
  pub held : new ≡ slice_set old f.place next

-- what is made in this latch, so many events: the one that is due there, or none
abbrev pub HasWorked : Run → Option History → Option History → (Class → Wants) → ℕ → ℕ → Option Flight → List Context → List Context → Type 0
HasWorked run before after wanted latch zero f old new = IsNotDue latch f × (new ≡ old) × (after ≡ before)
HasWorked run before after wanted latch (suc zero) (Some f) old new = (f.due ≡ latch) × Works run before after wanted f old new
HasWorked run before after wanted latch made f old new = ⊥

-- no event of the hart's engine is due in a latch after this one
abbrev pub NoneLater : ℕ → Context → Type 0
NoneLater latch c = (due : ℕ) → IsDue c due → due ≤ latch

-- what is in a latch after its event: the instruction, exactly where its next event is due in a later one. Where it made none it stays
abbrev pub IsLeft : List Context → ℕ → ℕ → Option Flight → Option Flight → Type 0
IsLeft held latch zero old new = new ≡ old
IsLeft held latch made None None = Unit {0}
IsLeft held latch made (Some f) None = HasHart held f.place (NoneLater latch)
IsLeft held latch made None (Some g) = ⊥
IsLeft held latch made (Some f) (Some g) = (g.place ≡ f.place) × IsInFlight held latch g

-- the latches moved on by one, and then the events that were due were made: in end, after that in memory, and after that in fetch
pub record HasAdvanced (run : Run) (before after : Option History) (made : Made) (latches left : List (Option Flight)) (old new : List Context) : Type 0 where
  pub memory : ℕ
  pub fetch : ℕ
  pub accesses : made.accesses ≡ memory + fetch
  pub after_end : Option History
  pub after_memory : Option History
  pub held_end : List Context
  pub held_memory : List Context
  pub in_end : HasWorked run before after_end wants.Finish 5 made.ends (slice_index_or latches 4 None) old held_end
  pub in_memory : HasWorked run after_end after_memory wants.Ask 4 memory (slice_index_or latches 3 None) held_end held_memory
  pub in_fetch : HasWorked run after_memory after wants.Ask 1 fetch (slice_index_or latches 0 None) held_memory new
  pub still : made.ends + made.accesses ≡ 0 → left ≡ moved latches
  pub leaves : (m f : Option Flight) × (left ≡ slice_set (slice_set (slice_set (moved latches) 5 None) 4 m) 1 f)
      × IsLeft held_memory 4 memory (slice_index_or latches 3 None) m × IsLeft new 1 fetch (slice_index_or latches 0 None) f

-- after an access in this latch: the instruction, exactly where its next event is due in a later one
abbrev pub IsGoingOn : Context → ℕ → ℕ → Option Flight → Type 0
IsGoingOn c place latch None = NoneLater latch c
IsGoingOn c place latch (Some f) = (f.place ≡ place) × (latch < f.due) × (f.due ≤ 5) × IsDue c f.due

-- the instruction of this hart was laid into the latch before the one of its next event
pub record Lays (place : ℕ) (c : Context) (old new : List (Option Flight)) : Type 0 where
  pub due : ℕ
  pub is_due : IsDue c due
  pub some : 0 < due
  pub most : due ≤ 5
  pub free : slice_index_or old (due - 1) None ≡ None
  pub laid : new ≡ slice_set old (due - 1) (Some (record { place = place; due = due }))

-- or it wasn't, since it has none, or since that latch isn't free
pub record LaysNone (c : Context) (old new : List (Option Flight)) : Type 0 where
  pub same : new ≡ old
  pub why : MakesNone c ⊎ ((due : ℕ) × IsDue c due × (slice_index_or old (due - 1) None ≢ None))

abbrev pub HasLaid : ℕ → Context → List (Option Flight) → List (Option Flight) → Bool → Type 0
HasLaid place c old new true = Lays place c old new
HasLaid place c old new false = LaysNone c old new

-- this hart has an event of its engine due, and isn't in flight
abbrev pub MayStart : List Context → List (Option Flight) → Flight → Type 0
MayStart held latches f = (0 < f.due) × (f.due ≤ 5) × (is_among latches f.place ≡ false) × HasHart held f.place (λ c. IsDue c f.due)

-- none of these harts may start
abbrev pub NoneMayStart : List Context → List (Option Flight) → ℕ → ℕ → Type 0
NoneMayStart held latches from to = (place : ℕ) (c : Context) → from ≤ place → place < to → is_among latches place ≡ false
    → slice_index_or held place c ≡ c → MakesNone c

-- The turn of select goes from a place to the last one, and from the first one on to that place.

-- none of the harts that come before this place may start
pub record NoneBefore (held : List Context) (latches : List (Option Flight)) (next place : ℕ) : Type 0 where
  pub on : next ≤ place → NoneMayStart held latches next place
  pub round : place < next → NoneMayStart held latches next (length held) × NoneMayStart held latches 0 place

-- how many of so many places come before this one
abbrev pub places_before : ℕ → ℕ → ℕ → ℕ
places_before count next place = if nat_lt place next then count - next + place else place - next

-- select started the hart whose turn it was, after which it is that of the next place; or none may start, and the turn is as before
abbrev pub IsTurn : List Context → List (Option Flight) → ℕ → ℕ → Type 0
IsTurn held [] next after = ⊥
IsTurn held (Some f ∷ rest) next after = MayStart held (None ∷ rest) f × NoneBefore held (None ∷ rest) next f.place × (after ≡ suc f.place)
IsTurn held (None ∷ rest) next after = NoneMayStart held (None ∷ rest) 0 (length held) × (after ≡ next)

-- each hart that has an event due and isn't in flight is nearer to its turn
abbrev pub AreNearerToStart : Pipe → Pipe → Type 0
AreNearerToStart old new = (place : ℕ) (c : Context) → place < length new.held → slice_index_or new.held place c ≡ c → IsWantedIn c engine.Pipe
    → is_among new.latches place ≡ false → places_before (length new.held) new.next place < places_before (length old.held) old.next place

-- What a cycle does with what is in the latches.

-- an instruction whose event isn't due in the next latch is there now
abbrev pub AreMovedOn : List (Option Flight) → List (Option Flight) → Type 0
AreMovedOn old new = (latch : ℕ) (f : Flight) → IsAt old latch f → suc latch < f.due → IsAt new (suc latch) f

-- one whose access was due in the next latch is there now exactly where its hart's next event is due in a later one
abbrev pub HaveGoneOn : List Context → List (Option Flight) → List (Option Flight) → Type 0
HaveGoneOn held old new = (latch : ℕ) (f : Flight) → IsAt old latch f → suc latch ≡ f.due → f.due < 5
    → IsLeft held (suc latch) 1 (Some f) (slice_index_or new (suc latch) None)
