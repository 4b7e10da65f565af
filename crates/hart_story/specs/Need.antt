-- What a hart needs next.
use Rattle.std.specs.Prelude.{◌≡◌, ℕ, true, Option}
use Rattle.flex_base.specs.Setup.{Setup}
use Rattle.flex_base.specs.State.{State}
use Rattle.flex_base.specs.FlatMemory.{reservation_set, is_reserved}
use Rattle.flex_base.specs.StoryTree.{Want, Asks, Ends, IsOver, IsParked}
use Rattle.flex_base.specs.Classes.{class_of_access}
use Rattle.flex_base.specs.Forms.{IsPlaced}
use Rattle.flex_base.specs.declared.access.Access.{Access}
use Rattle.flex_base.specs.declared.access.Access.TheVariants as acc
use Rattle.hart_story.specs.declared.progress.Need.{Need}
use Rattle.hart_story.specs.declared.progress.Need.TheVariants as need

-- what a hart wants, with its class
abbrev pub need_of : Want → Need
need_of (Asks access) = need.Ask access (class_of_access access)
need_of (Ends part after) = need.Finish part.class
need_of IsOver = need.Over
need_of IsParked = need.Parked

-- an access that is asked stands where its kind may stand
abbrev pub AsksPlaced : Setup → Need → Type 0
AsksPlaced setup (need.Ask access class) = IsPlaced setup.harts setup.ram access
AsksPlaced setup other = Unit {0}

-- a store-conditional lies within this reservation
abbrev pub IsReservedFor : Option ℕ → Access → Type 0
IsReservedFor reservation (acc.Sc address width value) = is_reserved reservation (reservation_set address) ≡ true
IsReservedFor reservation other = Unit {0}

-- a store-conditional is asked only within the hart's reservation
abbrev pub NeedsReserved : State → Need → Type 0
NeedsReserved a (need.Ask access class) = IsReservedFor a.reservation access
NeedsReserved a other = Unit {0}
