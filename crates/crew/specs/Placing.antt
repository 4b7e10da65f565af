-- Where the accesses of a hart's events stand.
use Rattle.std.specs.Prelude.{List, [], ◌∷◌}
use Rattle.flex_base.specs.Setup.{Setup}
use Rattle.flex_base.specs.declared.event.Event.{Event}
use Rattle.context.specs.Contexts.{IsPlacedIn}

-- each access of these events stands where its kind may stand
abbrev pub AreEventsPlaced : Setup → List Event → Type 0
AreEventsPlaced setup [] = Unit {0}
AreEventsPlaced setup (e ∷ events) = IsPlacedIn setup e.what × AreEventsPlaced setup events
