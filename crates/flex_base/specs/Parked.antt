-- Where a hart is in its story, beside how it stands with the devices.
use Rattle.std.specs.Prelude.{◌≡◌, true, false, ◌==◌, if◌then◌else◌, Option, is_some}
use Rattle.flex_base.specs.StoryTree.{Story, Says, Closes, StaysOver, Parks}
use Rattle.flex_base.specs.declared.access.Access.{Access}
use Rattle.flex_base.specs.declared.access.Access.TheVariants as acc
use Rattle.flex_base.specs.declared.access.Reply.{Reply}
use Rattle.flex_base.specs.declared.event.Stop.{Stop}
use Rattle.flex_base.specs.declared.hart_device.HartStanding.{HartStanding}
use Rattle.flex_base.specs.declared.hart_device.HartStanding.TheVariants as stand

-- a hart has an event by itself, or is parked, or has none any more
pub data Node : Type 0 where
  Busy : Node
  Parked : Node
  Gone : Node

abbrev pub node_of : Story → Node
node_of (Says access next) = Busy
node_of (Closes part after) = Busy
node_of (Parks wakes) = Parked
node_of StaysOver = Gone

-- where an access and its reply leave the hart that made it
abbrev pub told_node : Reply → Node
told_node reply = if reply.stop then Gone else (if reply.value == 1 then Parked else Busy)

abbrev pub next_node : Access → Reply → Node
next_node (acc.Pulse tick) reply = told_node reply
next_node (acc.Wait mie) reply = told_node reply
next_node acc.Retire reply = Gone
next_node other reply = Busy

-- how a hart stands with the devices fits where it is: one that runs isn't parked, one that waits is, one that is spent has no
-- event any more, and any hart may have none by a reply that told the stop
abbrev pub Fits : HartStanding → Option Stop → Node → Type 0
Fits stand.Runs stop Busy = Unit {0}
Fits stand.Runs stop Parked = ⊥
Fits stand.Runs stop Gone = is_some stop ≡ true
Fits (stand.Waits mie) stop Busy = ⊥
Fits (stand.Waits mie) stop Parked = Unit {0}
Fits (stand.Waits mie) stop Gone = is_some stop ≡ true
Fits stand.Woken stop Busy = ⊥
Fits stand.Woken stop Parked = Unit {0}
Fits stand.Woken stop Gone = is_some stop ≡ true
Fits stand.Spent stop Busy = ⊥
Fits stand.Spent stop Parked = ⊥
Fits stand.Spent stop Gone = Unit {0}

-- a hart that runs makes any access; a parked one a pulse without tick, and only once it is woken
abbrev pub MayMake : Node → HartStanding → Access → Type 0
MayMake Busy standing access = Unit {0}
MayMake Parked standing access = (standing ≡ stand.Woken) × (access ≡ acc.Pulse false)
MayMake Gone standing access = ⊥
