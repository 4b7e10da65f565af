-- The forms that accesses and replies have.
use Rattle.std.specs.Prelude.{◌≡◌, ℕ, ◌*◌, ◌^◌, ◌<◌, true, false, ◌||◌, ◌==◌}
use Rattle.flex_base.specs.Word.{is_multiple}
use Rattle.flex_base.specs.Place.{in_ram, place_of}
use Rattle.flex_base.specs.declared.access.Access.{Access}
use Rattle.flex_base.specs.declared.access.Access.TheVariants as acc
use Rattle.flex_base.specs.declared.access.Reply.{Reply}
use Rattle.flex_base.specs.declared.settings.Place.TheVariants as place

-- a reply that tells a value of so many bits, and no lines
pub record TellsValue (bits : ℕ) (reply : Reply) : Type 0 where
  pub value : reply.value < 2 ^ bits
  pub lines : reply.lines ≡ 0
  pub stop : reply.stop ≡ false

-- a reply that tells the lines and the stop, and whether the hart still waits
pub record TellsLines (reply : Reply) : Type 0 where
  pub value : reply.value < 2
  pub lines : reply.lines < 2 ^ 64

-- the form of a reply: what the access doesn't use is 0 and false, and what was read is zero-extended
abbrev pub HasForm : Access → Reply → Type 0
HasForm (acc.Fetch address) reply = TellsValue 32 reply
HasForm (acc.Pte address) reply = TellsValue 64 reply
HasForm (acc.Read address width) reply = TellsValue (8 * width) reply
HasForm (acc.Write address width value) reply = TellsValue 0 reply
HasForm (acc.Lr address width) reply = TellsValue (8 * width) reply
HasForm (acc.Sc address width value) reply = TellsValue 1 reply
HasForm (acc.Amo op address width value) reply = TellsValue (8 * width) reply
HasForm (acc.DevRead address width) reply = TellsValue (8 * width) reply
HasForm (acc.DevWrite address width value) reply = TellsValue 0 reply
HasForm (acc.Pulse tick) reply = TellsLines reply
HasForm (acc.Wait mie) reply = TellsLines reply
HasForm acc.Retire reply = TellsValue 0 reply
HasForm acc.Time reply = TellsValue 64 reply

-- aligned bytes of RAM, as many as the width
pub record IsAlignedRam (ram address width : ℕ) : Type 0 where
  pub aligned : is_multiple address width ≡ true
  pub in_ram : in_ram ram address width ≡ true

-- a width of a load, a store or a device register
abbrev pub IsWidth : ℕ → Type 0
IsWidth width = (width == 1) || (width == 2) || (width == 4) || (width == 8) ≡ true

-- a width of an atomic instruction
abbrev pub IsAtomicWidth : ℕ → Type 0
IsAtomicWidth width = (width == 4) || (width == 8) ≡ true

-- where an access of RAM may stand, in so much RAM in bytes: an instruction's 4 bytes, an entry's 8 bytes, and loads, stores
-- and atomic operations of their widths, all of them aligned
abbrev pub IsInRam : ℕ → Access → Type 0
IsInRam ram (acc.Fetch address) = IsAlignedRam ram address 4
IsInRam ram (acc.Pte address) = IsAlignedRam ram address 8
IsInRam ram (acc.Read address width) = IsWidth width × IsAlignedRam ram address width
IsInRam ram (acc.Write address width value) = IsWidth width × IsAlignedRam ram address width
IsInRam ram (acc.Lr address width) = IsAtomicWidth width × IsAlignedRam ram address width
IsInRam ram (acc.Sc address width value) = IsAtomicWidth width × IsAlignedRam ram address width
IsInRam ram (acc.Amo op address width value) = IsAtomicWidth width × IsAlignedRam ram address width
IsInRam ram other = ⊥

-- where each kind of access may stand, among so many harts' device registers too
abbrev pub IsPlaced : ℕ → ℕ → Access → Type 0
IsPlaced harts ram (acc.DevRead address width) = place_of harts ram address width ≡ place.Device
IsPlaced harts ram (acc.DevWrite address width value) = place_of harts ram address width ≡ place.Device
IsPlaced harts ram (acc.Pulse tick) = Unit {0}
IsPlaced harts ram (acc.Wait mie) = Unit {0}
IsPlaced harts ram acc.Retire = Unit {0}
IsPlaced harts ram acc.Time = Unit {0}
IsPlaced harts ram access = IsInRam ram access
