-- Events in the order in which they were made: their numbers rise.
use Rattle.std.specs.Prelude.{ℕ, suc, ◌<◌, ◌≤◌, List, [], ◌∷◌}
use Rattle.flex_base.specs.Journal.{event}
use Rattle.flex_base.specs.declared.event.Event.{Event}

-- from low on and below high
abbrev pub Rises : ℕ → ℕ → List Event → Type 0
Rises low high [] = low ≤ high
Rises low high (e ∷ events) = (low ≤ e.number) × Rises (suc e.number) high events

-- the same events, numbered one after another from n on
abbrev pub numbered_from : ℕ → List Event → List Event
numbered_from n [] = []
numbered_from n (e ∷ events) = event n e.hart.0 e.engine e.what ∷ numbered_from (suc n) events

-- each is of one of so many harts
abbrev pub AreOfHarts : ℕ → List Event → Type 0
AreOfHarts harts [] = Unit {0}
AreOfHarts harts (e ∷ events) = (e.hart.0 < harts) × AreOfHarts harts events
