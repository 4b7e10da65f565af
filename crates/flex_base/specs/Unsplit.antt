-- The unsplit machine: harts over one flat memory and one set of devices, where any hart may make the next event.
use Rattle.std.specs.Prelude.{ℕ, Bool, true, false, ◌&&◌, nat_lt, if◌then◌else◌, List, [], ◌∷◌, ◌++◌, map, fold, slice_set, slice_index_or, is_some}
use Rattle.std.specs.List.{list_all, range_with_len}
use Rattle.flex_base.specs.Setup.{Setup}
use Rattle.flex_base.specs.State.{State, start}
use Rattle.flex_base.specs.StoryTree.{Want, Asks, Ends, IsOver, IsParked, Story, goes, want}
use Rattle.flex_base.specs.Story.{story}
use Rattle.flex_base.specs.FlatMemory.{Done, is_ram_access, flat, reply_with}
use Rattle.flex_base.specs.Devices.{reply_after, woken, device_stop}
use Rattle.flex_base.specs.declared.access.Access.{Access}
use Rattle.flex_base.specs.declared.access.Access.TheVariants as acc
use Rattle.flex_base.specs.declared.access.Reply.{Reply}
use Rattle.flex_base.specs.declared.event.What.{What}
use Rattle.flex_base.specs.declared.event.What.TheVariants as what

-- an instruction in flight: the hart's state at its start, and the replies so far
pub record Instruction : Type 0 where
  pub state : State
  pub replies : List Reply

-- a hart and what it did
pub record Made : Type 0 where
  pub hart : ℕ
  pub what : What

-- each hart's instruction; the accesses of RAM and of the devices so far; the events so far
pub record Machine : Type 0 where
  pub harts : List Instruction
  pub ram : List Done
  pub devices : List Done
  pub events : List Made

-- an instruction of which nothing has happened
abbrev pub instruction_from : State → Instruction
instruction_from a = record { state = a; replies = [] }

-- the instruction of the hart of this number
abbrev pub instruction_at : Machine → ℕ → Instruction
instruction_at u h = slice_index_or u.harts h (instruction_from (start h 0))

-- the instruction after what its hart wanted happened, by the reply to the access that it asked; after an end the next one
abbrev pub instruction_after : Instruction → Want → Reply → Instruction
instruction_after i (Asks access) reply = record i { replies = i.replies ++ reply ∷ [] }
instruction_after i (Ends part next) reply = instruction_from next
instruction_after i other reply = i

-- one more access
abbrev pub with_access : List Done → ℕ → Access → Reply → List Done
with_access made h access reply = made ++ record { hart = h; access = access; reply = reply } ∷ []

abbrev pub does : ℕ → What → Made
does h happened = record { hart = h; what = happened }

-- the hart makes the access, and is told the reply
abbrev pub makes : Machine → ℕ → Access → Reply → Machine
makes u h access reply = record {
  harts = slice_set u.harts h (instruction_after (instruction_at u h) (Asks access) reply);
  ram = if is_ram_access access then with_access u.ram h access reply else u.ram;
  devices = if is_ram_access access then u.devices else with_access u.devices h access reply;
  events = u.events ++ does h (what.Acc access reply) ∷ [];
}

abbrev pub is_over : Want → Bool
is_over IsOver = true
is_over other = false

-- the hart makes no event by itself: it is over or parked
abbrev pub is_idle : Want → Bool
is_idle (Asks access) = false
is_idle (Ends part next) = false
is_idle other = true

-- a parked hart makes a pulse without tick, and only once it is woken
abbrev pub resumes : Want → Bool → Want
resumes IsParked woken = if woken then Asks (acc.Pulse false) else IsParked
resumes other woken = other

module _ (setup : Setup) where
  -- the numbers of the harts
  abbrev pub hart_numbers : List ℕ
  hart_numbers = range_with_len 0 setup.harts

  -- each hart begins at the entry of the image; nothing has happened
  abbrev pub begin : Machine
  begin = record {
    harts = map (λ h. instruction_from (start h setup.image.entry)) hart_numbers;
    ram = [];
    devices = [];
    events = [];
  }

  -- where the hart is in its instruction
  abbrev pub story_of : Machine → ℕ → Story
  story_of u h = goes (story setup (instruction_at u h).state) (instruction_at u h).replies

  abbrev pub want_of : Machine → ℕ → Want
  want_of u h = want (story_of u h)

  -- whether the devices have woken the hart, so that a parked one may make its pulse
  abbrev pub is_woken_in : Machine → ℕ → Bool
  is_woken_in u h = woken setup.harts u.devices h

  -- the hart's next event, where it has one
  abbrev pub next_of : Machine → ℕ → Want
  next_of u h = resumes (want_of u h) (is_woken_in u h)

  -- memory's or the devices' reply
  abbrev pub reply_to : Machine → ℕ → Access → Reply
  reply_to u h access =
      if is_ram_access access then flat setup.image u.ram h access
      else reply_after setup.harts setup.input u.devices h access

  -- the event that the hart wants; where it wants none, nothing
  abbrev pub make : Machine → ℕ → Want → Machine
  make u h (Asks access) = makes u h access (reply_to u h access)
  make u h (Ends part next) = record u {
    harts = slice_set u.harts h (instruction_after (instruction_at u h) (Ends part next) (reply_with 0));
    events = u.events ++ does h (what.End part) ∷ [];
  }
  make u h other = u

  -- the named hart makes its next event; a name without one is passed over
  abbrev pub step : Machine → ℕ → Machine
  step u h = if nat_lt h setup.harts then make u h (next_of u h) else u

  -- the state after the harts were taken in this order
  unfoldable pub reach_from : Machine → List ℕ → Machine
  reach_from u order = fold step u order

  abbrev pub reach : List ℕ → Machine
  reach order = reach_from begin order

  -- what the harts do in this order
  abbrev pub unsplit : List ℕ → List Made
  unsplit order = (reach order).events

  -- a stop stands, and each hart has spent its budget, was told the stop, or waits, woken or not
  abbrev pub has_ended : Machine → Bool
  has_ended u = is_some (device_stop setup.harts u.devices) && list_all (λ h. is_idle (want_of u h)) hart_numbers
