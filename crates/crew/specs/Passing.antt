-- How the harts of a pipe go through its latches once.
use Rattle.std.specs.Prelude.{◌≡◌, ℕ, ◌+◌, ◌<◌, ◌≤◌, List, length, slice_index_or, Option}
use Rattle.access_record.specs.Buses.{Run}
use Rattle.context.specs.Contexts.{Context, IsSame}
use Rattle.pipeline.specs.declared.flight.Flight.{Flight}
use Rattle.pipeline.specs.Pipes.{AreOn, AreHere, AreInFlight, IsAt}

-- the same hart in the same engine, after at most so many ends
pub record HasMade (most : ℕ) (old new : Context) : Type 0 where
  pub same : IsSame old new
  pub engine : new.engine ≡ old.engine
  pub ends : old.left ≤ new.left + most

-- the harts before this place have had their turn, in which each made one end at most, and those from there on are as they were.
-- Who is still in the latches has made none
pub record IsPassing (run : Run) (place : ℕ) (start held : List Context) (latches : List (Option Flight)) : Type 0 where
  pub few : length held ≤ 32
  pub on : AreOn run held
  pub here : AreHere held
  pub flights : AreInFlight held latches
  pub counted : length held ≡ length start
  pub each : (k : ℕ) (other : Context) → HasMade 1 (slice_index_or start k other) (slice_index_or held k other)
  pub after : (k : ℕ) (other : Context) → place ≤ k → slice_index_or held k other ≡ slice_index_or start k other
  pub still : (latch : ℕ) (f : Flight) → IsAt latches latch f
      → (f.place < place) × ((other : Context) → HasMade 0 (slice_index_or start f.place other) (slice_index_or held f.place other))
