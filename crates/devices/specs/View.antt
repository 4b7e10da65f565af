-- The devices as contracts see them, and what they stand for.
use Rattle.std.specs.Prelude.{◌≡◌, ℕ, ◌*◌, Bool, true, not, ◌&&◌, ◌||◌, nat_lt, if◌then◌else◌, min, List, [], ◌∷◌, ◌++◌, length, drop}
use Rattle.flex_base.specs.Place.{UART}
use Rattle.flex_base.specs.FlatMemory.{Done}
use Rattle.flex_base.specs.Devices.{DeviceState, devices, input_left, sent_bytes, is_receive, is_transmit, byte_of}
use Rattle.flex_base.specs.declared.access.Access.{Access}
use Rattle.flex_base.specs.declared.access.Access.TheVariants as acc

-- the input that is left; the bytes that were kept, and how many there is room for; whether bytes are kept
pub record ConsoleView : Type 0 where
  pub left : List ℕ
  pub sent : List ℕ
  pub room : ℕ
  pub keeps : Bool

pub record DevicesView : Type 0 where
  pub state : DeviceState
  pub console : ConsoleView

-- the devices are as these accesses left them; of the bytes that were sent only while they are kept
pub record IsReplay (harts : ℕ) (input : List ℕ) (made : List Done) (d : DevicesView) : Type 0 where
  pub state : d.state ≡ devices harts made
  pub left : d.console.left ≡ input_left input made
  pub sent : d.console.keeps ≡ true → d.console.sent ≡ sent_bytes made

-- one more byte may be sent: one that is kept needs room
abbrev pub has_room : ConsoleView → Bool
has_room c = not c.keeps || nat_lt (length c.sent) c.room

-- there is room for the byte that the access sends, if it sends one
abbrev pub HasRoom : DevicesView → Access → Type 0
HasRoom d (acc.DevWrite address width value) = address ≡ UART → has_room d.console ≡ true
HasRoom d other = Unit {0}

-- the most bytes that are reserved
abbrev pub most_kept : ℕ
most_kept = 262144

-- as many bytes as harts and budget allow
abbrev pub room_for : ℕ → ℕ → ℕ
room_for harts budget = min (harts * budget) most_kept

-- the input that is left after an access
abbrev pub left_after : DevicesView → Access → List ℕ
left_after d access = if is_receive access then drop 1 d.console.left else d.console.left

-- the bytes that are kept after an access
abbrev pub kept_after : DevicesView → Access → List ℕ
kept_after d access =
    if is_transmit access && d.console.keeps then d.console.sent ++ byte_of access ∷ [] else d.console.sent

-- as many harts, as much room, and bytes are kept or not as before
pub record IsSame (old new : DevicesView) : Type 0 where
  pub harts : length new.state.harts ≡ length old.state.harts
  pub room : new.console.room ≡ old.console.room
  pub keeps : new.console.keeps ≡ old.console.keeps
