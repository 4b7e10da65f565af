-- What an access does to one bank.
use Rattle.std.specs.Prelude.{◌≡◌, ℕ, ◌<◌, if◌then◌else◌}
use Rattle.flex_base.specs.Forms.{IsWidth, IsAlignedRam, IsInRam}
use Rattle.flex_base.specs.FlatMemory as memory
use Rattle.flex_base.specs.declared.access.Access.{Access}
use Rattle.flex_base.specs.declared.access.Access.TheVariants as acc
use Rattle.flex_base.specs.declared.access.Reply.{Reply}
use Rattle.mem_lines.specs.Bank.{Bank, IsIn, byte_held, reservation_at, bank_of, address_of, IsSame}

abbrev pub done_of : ℕ → Access → Reply → memory.Done
done_of hart access reply = record { hart = hart; access = access; reply = reply }

-- aligned bytes of RAM in this bank, as many as a load or a store has
pub record IsSpan (b : Bank) (address width : ℕ) : Type 0 where
  pub width_is : IsWidth width
  pub in_ram : IsAlignedRam b.ram address width
  pub bank_is : bank_of b.banks address ≡ b.bank

-- the access is one of RAM that stands where it may, in this bank
abbrev pub IsHere : Bank → Access → Type 0
IsHere b access = IsInRam b.ram access × (bank_of b.banks (address_of access) ≡ b.bank)

abbrev pub value_of : Bank → ℕ → ℕ → Reply
value_of b address width = memory.reply_with (memory.value_at (byte_held b) address width)

-- the reply to an access by a hart, of what the bank holds
abbrev pub reply_of : Bank → ℕ → Access → Reply
reply_of b hart (acc.Fetch address) = value_of b address 4
reply_of b hart (acc.Pte address) = value_of b address 8
reply_of b hart (acc.Read address width) = value_of b address width
reply_of b hart (acc.Lr address width) = value_of b address width
reply_of b hart (acc.Amo op address width value) = value_of b address width
reply_of b hart (acc.Sc address width value) =
    memory.reply_with (if memory.is_reserved (reservation_at b hart) (memory.reservation_set address) then 0 else 1)
reply_of b hart other = memory.reply_with 0

-- what an access leaves of a bank
pub record Follows (d : memory.Done) (old new : Bank) : Type 0 where
  pub same : IsSame old new
  pub each : (address : ℕ) → IsIn old address → byte_held new address ≡ memory.left_by address (byte_held old address) d.access d.reply
  pub reservations : (hart : ℕ) → hart < 32 → reservation_at new hart ≡ memory.reserved_by hart (reservation_at old hart) d
