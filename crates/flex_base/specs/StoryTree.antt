-- What a hart does, as a tree: its next event, and by the reply what follows.
use Rattle.std.specs.Prelude.{ℕ, ◌==◌, if◌then◌else◌, List, [], ◌∷◌}
use Rattle.flex_base.specs.State.{State}
use Rattle.flex_base.specs.declared.access.Access.{Access}
use Rattle.flex_base.specs.declared.access.Reply.{Reply}
use Rattle.flex_base.specs.declared.event.EndPart.{EndPart}

-- what a hart wants next: an access; an end that leaves a state; nothing any more; or, parked, a pulse, which it may make only
-- once the devices have woken it
pub data Want : Type 0 where
  Asks : Access → Want
  Ends : EndPart → State → Want
  IsOver : Want
  IsParked : Want

-- what a hart does from here on: an access and then, by its reply, what follows; an end; nothing any more; or, parked, the
-- pulse that wakes it and then, by the lines that are told, what follows
pub data Story : Type 0 where
  Says : Access → (Reply → Story) → Story
  Closes : EndPart → State → Story
  StaysOver : Story
  Parks : (ℕ → Story) → Story

-- where the pulse of a parked hart leads: one that tells the stop leaves it over, and one of value 1 leaves it parked
abbrev pub after_park : (ℕ → Story) → Reply → Story
after_park wakes reply =
    if reply.stop then StaysOver else (if reply.value == 1 then Parks wakes else wakes reply.lines)

-- what follows one reply
abbrev pub after_one : Story → Reply → Story
after_one (Says access next) reply = next reply
after_one (Closes part after) reply = Closes part after
after_one StaysOver reply = StaysOver
after_one (Parks wakes) reply = after_park wakes reply

-- where the replies lead
abbrev pub goes : Story → List Reply → Story
goes s [] = s
goes s (reply ∷ replies) = goes (after_one s reply) replies

abbrev pub want : Story → Want
want (Says access next) = Asks access
want (Closes part after) = Ends part after
want StaysOver = IsOver
want (Parks wakes) = IsParked
