-- What a contract sees of logs.
use Rattle.std.specs.Prelude.{ℕ, List}
use Rattle.flex_base.specs.declared.event.Event.{Event}

-- the events of a hart in order, and how many more there is room for
pub record Log : Type 0 where
  pub events : List Event
  pub room : ℕ
