-- The banks of memory, and what the log of a bank must be.
use Rattle.std.specs.Prelude.{◌≡◌, ℕ, ◌/◌, ◌%◌, false, if◌then◌else◌, List, [], ◌∷◌, ◌++◌}
use Rattle.flex_base.specs.Setup.{Setup}
use Rattle.flex_base.specs.FlatMemory.{Done, is_ram_access, flat}
use Rattle.flex_base.specs.Devices.{hart_at, is_unwoken, devices, reply_after}
use Rattle.flex_base.specs.declared.access.Access.{Access}
use Rattle.flex_base.specs.declared.access.Access.TheVariants as acc
use Rattle.flex_base.specs.declared.access.Reply.{Reply}
use Rattle.flex_base.specs.declared.event.Event.{Event}
use Rattle.flex_base.specs.declared.event.What.{What}
use Rattle.flex_base.specs.declared.event.What.TheVariants as what

-- the bank of an address: lines of 64 bytes are dealt to the banks in turn
abbrev pub bank_of : ℕ → ℕ → ℕ
bank_of banks address = (address / 64) % banks

-- the address of an access of RAM
abbrev pub address_of : Access → ℕ
address_of (acc.Fetch address) = address
address_of (acc.Pte address) = address
address_of (acc.Read address width) = address
address_of (acc.Write address width value) = address
address_of (acc.Lr address width) = address
address_of (acc.Sc address width value) = address
address_of (acc.Amo op address width value) = address
address_of other = 0

-- the bank of an access, where RAM has so many; the devices count as one bank more, the last one
abbrev pub bank_of_access : ℕ → Access → ℕ
bank_of_access banks access = if is_ram_access access then bank_of banks (address_of access) else banks

-- the access that happened, if one did, by this hart
abbrev pub access_in : ℕ → What → List Done
access_in hart (what.Acc access reply) = record { hart = hart; access = access; reply = reply } ∷ []
access_in hart other = []

-- the accesses of these events, in order
abbrev pub accesses_of : List Event → List Done
accesses_of [] = []
accesses_of (e ∷ events) = access_in e.hart.0 e.what ++ accesses_of events

-- the reply to an access at a bank after the accesses that this bank had
abbrev pub reply_at : Setup → List Done → ℕ → Access → Reply
reply_at setup made hart access =
    if is_ram_access access then flat setup.image made hart access
    else reply_after setup.harts setup.input made hart access

-- a pulse of a hart that waits is made only where that hart is woken
abbrev pub IsProper : ℕ → List Done → ℕ → Access → Type 0
IsProper harts made hart (acc.Pulse tick) = is_unwoken (hart_at (devices harts made) hart).standing ≡ false
IsProper harts made hart other = Unit {0}

-- an access belongs to this bank, and its reply is that of the bank's accesses before it
pub record IsAnswered (setup : Setup) (banks bank : ℕ) (made : List Done) (hart : ℕ) (access : Access) (reply : Reply) : Type 0 where
  pub here : bank_of_access banks access ≡ bank
  pub reply_is : reply ≡ reply_at setup made hart access
  pub proper : IsProper setup.harts made hart access

module _ (setup : Setup) (banks bank : ℕ) where
  -- what happens at a bank is an access
  abbrev pub IsAt : List Done → ℕ → What → Type 0
  IsAt made hart (what.Acc access reply) = IsAnswered setup banks bank made hart access reply
  IsAt made hart other = ⊥

  -- each of these events is answered after the accesses before it
  abbrev pub BankedFrom : List Done → List Event → Type 0
  BankedFrom made [] = Unit {0}
  BankedFrom made (e ∷ events) =
      IsAt made e.hart.0 e.what × BankedFrom (made ++ access_in e.hart.0 e.what) events

  -- a log that this bank can have
  abbrev pub IsBanked : List Event → Type 0
  IsBanked events = BankedFrom [] events
