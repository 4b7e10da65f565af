-- The aligned 8 bytes round an address of RAM lie in RAM, which is whole MiB.
use Rattle.std.proofs.Common.{◌≡◌, ℕ, true, Some, arith}
use Rattle.flex_base.specs.Word.{is_multiple}
use Rattle.flex_base.specs.Limits.{mebibyte}
use Rattle.flex_base.specs.Place.{in_ram}
use Rattle.flex_base.specs.Forms.{IsAtomicWidth}
use Rattle.flex_base.specs.FlatMemory.{reservation_set}
use Rattle.flex_base.specs.State.{IsReservation}

pub set_in_ram : (ram address width : ℕ) → is_multiple ram mebibyte ≡ true → IsAtomicWidth width → in_ram ram address width ≡ true → IsReservation ram (Some (reservation_set address))
set_in_ram ram address width whole wide inside = grind arith
