-- Memory's reply to what a hart asks, by the accesses of the bank.
use Rattle.std.proofs.Common.{◌≡◌, ℕ, true, List}
use Rattle.flex_base.specs.Setup.{Setup}
use Rattle.flex_base.specs.Loaded.{Loaded}
use Rattle.flex_base.specs.FlatMemory.{Done, is_ram_access, byte, flat}
use Rattle.flex_base.specs.Forms.{IsPlaced}
use Rattle.flex_base.specs.Banks.{bank_of, bank_of_access}
use Rattle.flex_base.specs.Reservations.{AsksReserved}
use Rattle.flex_base.specs.StoryTree.{Asks}
use Rattle.flex_base.specs.declared.access.Access.{Access}
use Rattle.flex_base.specs.declared.access.Access.TheVariants as acc
use Rattle.solo.specs.Standing.{of_bank, ArePlaced}
use Rattle.solo.proofs.Flat.{IsReserved, flat_part, byte_of_part}

reserved : (made : List Done) (hart : ℕ) (access : Access) → AsksReserved made hart (Asks access) → IsReserved made hart access
reserved made hart (acc.Sc address width value) has = has
reserved made hart (acc.Fetch address) has = tt
reserved made hart (acc.Pte address) has = tt
reserved made hart (acc.Read address width) has = tt
reserved made hart (acc.Write address width value) has = tt
reserved made hart (acc.Lr address width) has = tt
reserved made hart (acc.Amo op address width value) has = tt
reserved made hart (acc.DevRead address width) has = tt
reserved made hart (acc.DevWrite address width value) has = tt
reserved made hart (acc.Pulse tick) has = tt
reserved made hart (acc.Wait mie) has = tt
reserved made hart acc.Retire has = tt
reserved made hart acc.Time has = tt

pub flat_of_bank : (setup : Setup) (image : Loaded) (banks : ℕ) (made : List Done) (hart : ℕ) (access : Access) → ArePlaced setup made
    → is_ram_access access ≡ true → IsPlaced setup.harts setup.ram access → AsksReserved made hart (Asks access)
    → flat image made hart access ≡ flat image (of_bank banks (bank_of_access banks access) made) hart access
flat_of_bank setup image banks made hart access are ram placed asks = flat_part setup image banks made hart access are ram placed (reserved made hart access asks)

pub byte_of_bank : (setup : Setup) (image : Loaded) (banks : ℕ) (made : List Done) (a : ℕ) → ArePlaced setup made
    → byte image made a ≡ byte image (of_bank banks (bank_of banks a) made) a
byte_of_bank setup image banks made a are = byte_of_part setup image banks made a are
