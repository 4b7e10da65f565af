-- What the place of an address tells.
use Rattle.std.proofs.Common.{◌≡◌, ℕ, Bool, true, false, if◌then◌else◌, refl}
use Rattle.std.specs.List.{list_any}
use Rattle.flex_base.specs.Place.{in_ram, place_of, is_among, device_registers}
use Rattle.flex_base.specs.FlatMemory.{is_ram_access}
use Rattle.flex_base.specs.Forms.{IsInRam, IsPlaced}
use Rattle.flex_base.specs.declared.access.Access.{Access}
use Rattle.flex_base.specs.declared.access.Access.TheVariants as acc
use Rattle.flex_base.specs.declared.settings.Place.TheVariants as place

ram_by : (device inside : Bool) → (if inside then place.Ram else (if device then place.Device else place.Nowhere)) ≡ place.Ram → inside ≡ true
ram_by device true e = refl
ram_by true false e = cc
ram_by false false e = cc

pub in_ram-placed : (harts ram address width : ℕ) → place_of harts ram address width ≡ place.Ram → in_ram ram address width ≡ true
in_ram-placed harts ram address width e = ram_by (list_any (is_among address width) (device_registers harts)) (in_ram ram address width) e

-- an access of RAM that is placed stands in RAM
pub in_ram-access : (harts ram : ℕ) (access : Access) → is_ram_access access ≡ true → IsPlaced harts ram access → IsInRam ram access
in_ram-access harts ram (acc.Fetch address) e placed = placed
in_ram-access harts ram (acc.Pte address) e placed = placed
in_ram-access harts ram (acc.Read address width) e placed = placed
in_ram-access harts ram (acc.Write address width value) e placed = placed
in_ram-access harts ram (acc.Lr address width) e placed = placed
in_ram-access harts ram (acc.Sc address width value) e placed = placed
in_ram-access harts ram (acc.Amo op address width value) e placed = placed
in_ram-access harts ram other e placed = absurd cc
