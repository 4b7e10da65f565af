-- A hart that its engine plays.
use Rattle.std.specs.Prelude.{ℕ, List, [], ◌∷◌, Option, slice_index_or}
use Rattle.access_record.specs.Buses.{Run}
use Rattle.access_record.specs.Histories.{History}
use Rattle.context.specs.declared.wants.Wants.{Wants}
use Rattle.context.specs.declared.wants.Wants.TheVariants as wants
use Rattle.context.specs.declared.wants.Went.{Went}
use Rattle.context.specs.declared.wants.Went.TheVariants as went
use Rattle.context.specs.Contexts.{Context, IsWanting, IsElsewhere, Goes}
use Rattle.pipeline.specs.declared.flight.Flight.{Flight}
use Rattle.pipeline.specs.Pipes.{AreInFlight}
use Rattle.solo.specs.Solo.{Solo}

-- what is in the latches of a pipe is the instruction of this hart, or nothing is
abbrev pub IsFlying : Solo → ℕ → List (Option Flight) → Type 0
IsFlying s h latches = (other : Context) → AreInFlight (slice_index_or s.contexts h other ∷ []) latches

-- why a hart makes no event in its engine
abbrev pub MakesNo : Context → Went → Type 0
MakesNo c went.Accessed = ⊥
MakesNo c went.Ended = ⊥
MakesNo c (went.Elsewhere to) = IsElsewhere to c
MakesNo c went.Parked = IsWanting c wants.Parked
MakesNo c went.Over = IsWanting c wants.Over

-- it made the access or the end that it wanted
abbrev pub HasMade : Run → Option History → Option History → Context → Context → Went → Type 0
HasMade run before after old new went.Accessed = Goes run before after wants.Ask old new
HasMade run before after old new went.Ended = Goes run before after wants.Finish old new
HasMade run before after old new other = ⊥

-- what has come of it, by what it wanted
abbrev pub IsToldBy : Wants → Went → Type 0
IsToldBy (wants.Ask class) went.Accessed = Unit {0}
IsToldBy (wants.Finish class) went.Ended = Unit {0}
IsToldBy w other = ⊥
