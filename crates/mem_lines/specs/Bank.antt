-- One bank of memory, as contracts see it, and what it stands for.
use Rattle.std.specs.Prelude.{◌≡◌, ℕ, ◌+◌, ◌-◌, ◌*◌, ◌/◌, ◌%◌, ◌<◌, ◌≤◌, Bool, true, if◌then◌else◌, List, length, slice_index, slice_index_or, Option, None, Some}
use Rattle.std.specs.List.{sum_by}
use Rattle.flex_base.specs.Limits.{mebibyte}
use Rattle.flex_base.specs.Word.{is_multiple}
use Rattle.flex_base.specs.Place.{ram_base, in_ram}
use Rattle.flex_base.specs.Setup.{Setup}
pub use Rattle.flex_base.specs.Banks.{bank_of, address_of}
use Rattle.flex_base.specs.FlatMemory.{Done, byte, covers, reservation_of}

-- the size of the whole RAM in bytes; how many banks there are and which this is; the bytes of its lines, one line after
-- another; and for each hart the aligned 8 bytes that it has reserved
pub record Bank : Type 0 where
  pub ram : ℕ
  pub banks : ℕ
  pub bank : ℕ
  pub bytes : List ℕ
  pub places : List (Option ℕ)

-- a power of two from 1 to 64, which are the divisors of 64
abbrev pub is_bank_count : ℕ → Bool
is_bank_count banks = is_multiple 64 banks

-- where the bank of an address holds its byte
unfoldable pub offset : ℕ → ℕ → ℕ
offset banks address = ((address - ram_base) / 64) / banks * 64 + (address - ram_base) % 64

-- the byte that a bank holds for an address
abbrev pub byte_held : Bank → ℕ → ℕ
byte_held b address = slice_index b.bytes (offset b.banks address)

-- the aligned 8 bytes that a hart has reserved
abbrev pub reservation_at : Bank → ℕ → Option ℕ
reservation_at b hart = slice_index_or b.places hart None

-- 1 where there is one
abbrev pub one_where_some : Option ℕ → ℕ
one_where_some None = 0
one_where_some (Some g) = 1

-- so many reservations stand, all of harts below this one
pub record IsCounted (places : List (Option ℕ)) (standing harts : ℕ) : Type 0 where
  pub standing_are : standing ≡ sum_by one_where_some places
  pub few : harts ≤ 32
  pub above : (hart : ℕ) → harts ≤ hart → slice_index_or places hart None ≡ None

-- the address is in RAM and in this bank
pub record IsIn (b : Bank) (address : ℕ) : Type 0 where
  pub ram : in_ram b.ram address 1 ≡ true
  pub bank : bank_of b.banks address ≡ b.bank

-- each byte of the bank, and the reservation of each hart, are as these accesses left them
pub record IsReplay (setup : Setup) (made : List Done) (b : Bank) : Type 0 where
  pub ram : b.ram ≡ setup.ram
  pub each : (address : ℕ) → IsIn b address → byte_held b address ≡ byte setup.image made address
  pub reservations : (hart : ℕ) → hart < 32 → reservation_at b hart ≡ reservation_of made hart

-- these are the size of RAM, the number of banks and the number of the bank
pub record IsBank (ram banks bank : ℕ) (b : Bank) : Type 0 where
  pub ram_is : b.ram ≡ ram
  pub banks_are : b.banks ≡ banks
  pub bank_is : b.bank ≡ bank

-- the same bank of the same RAM
abbrev pub IsSame : Bank → Bank → Type 0
IsSame old new = IsBank old.ram old.banks old.bank new

-- whole MiB of RAM, of which each bank holds an equal part
pub record IsWhole (ram banks : ℕ) (bytes : List ℕ) : Type 0 where
  pub banks_are : is_bank_count banks ≡ true
  pub mebibytes : is_multiple ram mebibyte ≡ true
  pub small : ram ≤ 256 * mebibyte
  pub part : length bytes ≡ ram / banks

-- what a bank keeps: its part of RAM, and its number is below that of the banks
pub record IsKept (ram banks bank : ℕ) (bytes : List ℕ) : Type 0 where
  pub whole : IsWhole ram banks bytes
  pub below : bank < banks

-- what a part of the image leaves of the byte at an address
abbrev pub with_part : ℕ → ℕ → ℕ × List ℕ → ℕ
with_part address old part = if covers part.0 (length part.1) address then slice_index part.1 (address - part.0) else old
