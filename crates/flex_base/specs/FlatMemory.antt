-- Memory: what a read gives follows from the image and the list of the accesses so far (Volume I, "Memory Model").
use Rattle.std.specs.Prelude.{ℕ, ◌+◌, ◌-◌, ◌*◌, ◌/◌, ◌%◌, ◌^◌, zero, suc, Bool, true, false, ◌&&◌, not, ◌==◌, nat_le, nat_lt, if◌then◌else◌, List, length, fold, slice_index, Option, None, Some}
use Rattle.flex_base.specs.Arithmetic.{amo_of}
use Rattle.flex_base.specs.Loaded.{Loaded}
use Rattle.flex_base.specs.declared.access.Access.{Access}
use Rattle.flex_base.specs.declared.access.Access.TheVariants as acc
use Rattle.flex_base.specs.declared.access.Reply.{Reply}

-- an access that was made, with its reply
pub record Done : Type 0 where
  pub hart : ℕ
  pub access : Access
  pub reply : Reply

abbrev pub is_ram_access : Access → Bool
is_ram_access (acc.Fetch address) = true
is_ram_access (acc.Pte address) = true
is_ram_access (acc.Read address width) = true
is_ram_access (acc.Write address width value) = true
is_ram_access (acc.Lr address width) = true
is_ram_access (acc.Sc address width value) = true
is_ram_access (acc.Amo op address width value) = true
is_ram_access other = false

-- so many bytes from the address up contain the byte at a
abbrev pub covers : ℕ → ℕ → ℕ → Bool
covers address width a = nat_le address a && nat_lt a (address + width)

-- the byte of the image at a: that of the last part that has one, else 0
abbrev pub image_byte : Loaded → ℕ → ℕ
image_byte image a = fold (λ old (part : ℕ × List ℕ). if covers part.0 (length part.1) a then slice_index part.1 (a - part.0) else old) 0 image.parts

-- byte i of a value, from the lowest
abbrev pub byte_at : ℕ → ℕ → ℕ
byte_at value i = value / 256 ^ i % 256

-- what a write of so many bytes leaves at a
abbrev pub put : ℕ → ℕ → ℕ → ℕ → ℕ → ℕ
put a old address width value = if covers address width a then byte_at value (a - address) else old

-- what an access leaves of the byte at a: stores, atomic operations and successful store-conditionals write
abbrev pub left_by : ℕ → ℕ → Access → Reply → ℕ
left_by a old (acc.Write address width value) reply = put a old address width value
left_by a old (acc.Sc address width value) reply = if reply.value == 0 then put a old address width value else old
left_by a old (acc.Amo op address width value) reply = put a old address width (amo_of op reply.value value width)
left_by a old other reply = old

-- the byte at a after these accesses
abbrev pub byte : Loaded → List Done → ℕ → ℕ
byte image made a = fold (λ old (d : Done). left_by a old d.access d.reply) (image_byte image a) made

-- the little-endian value of so many bytes from a up
abbrev pub value_at : (ℕ → ℕ) → ℕ → ℕ → ℕ
value_at f a zero = 0
value_at f a (suc n) = f a + 256 * value_at f (a + 1) n

-- the aligned 8 bytes that contain the address
abbrev pub reservation_set : ℕ → ℕ
reservation_set address = address - address % 8

-- a reservation after a write at the address by some hart: another hart's write into it ends it. A write is aligned and
-- at most 8 bytes wide, so it lies within one granule
abbrev pub broken : ℕ → ℕ → ℕ → Option ℕ → Option ℕ
broken hart by address None = None
broken hart by address (Some g) = if (reservation_set address == g) && not (hart == by) then None else Some g

-- the hart's reservation after an access: its own last load-reserved, unless its own store-conditional
-- or another hart's write in the same 8 bytes came after it (Volume I, "Load-Reserved/Store-Conditional Instructions")
abbrev pub reserved_after : ℕ → Option ℕ → ℕ → Access → Reply → Option ℕ
reserved_after hart old by (acc.Lr address width) reply = if hart == by then Some (reservation_set address) else old
reserved_after hart old by (acc.Sc address width value) reply = if hart == by then None else (if reply.value == 0 then broken hart by address old else old)
reserved_after hart old by (acc.Write address width value) reply = broken hart by address old
reserved_after hart old by (acc.Amo op address width value) reply = broken hart by address old
reserved_after hart old by other reply = old

abbrev pub reserved_by : ℕ → Option ℕ → Done → Option ℕ
reserved_by hart old d = reserved_after hart old d.hart d.access d.reply

abbrev pub reservation_of : List Done → ℕ → Option ℕ
reservation_of made hart = fold (reserved_by hart) None made

abbrev pub is_reserved : Option ℕ → ℕ → Bool
is_reserved None g = false
is_reserved (Some h) g = h == g

-- the hart's reservation stands on these 8 bytes
abbrev pub stands : List Done → ℕ → ℕ → Bool
stands made hart g = is_reserved (reservation_of made hart) g

abbrev pub reply_with : ℕ → Reply
reply_with value = record { value = value; lines = 0; stop = false }

abbrev pub read_at : Loaded → List Done → ℕ → ℕ → Reply
read_at image made address width = reply_with (value_at (byte image made) address width)

-- the reply to an access of RAM by this hart after these accesses
abbrev pub flat : Loaded → List Done → ℕ → Access → Reply
flat image made hart (acc.Fetch address) = read_at image made address 4
flat image made hart (acc.Pte address) = read_at image made address 8
flat image made hart (acc.Read address width) = read_at image made address width
flat image made hart (acc.Lr address width) = read_at image made address width
flat image made hart (acc.Amo op address width value) = read_at image made address width
flat image made hart (acc.Sc address width value) = reply_with (if stands made hart (reservation_set address) then 0 else 1)
flat image made hart other = reply_with 0
