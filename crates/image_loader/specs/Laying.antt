-- Parts that are laid over zero RAM one after another.
use Rattle.std.specs.Prelude.{◌≡◌, ℕ, ◌+◌, ◌≤◌, true, List}
use Rattle.std.specs.List.{list_all}
use Rattle.flex_base.specs.Loaded.{part_fits}
use Rattle.flex_base.specs.Place.{ram_base}
use Rattle.flex_base.specs.FlatMemory.{image_byte}

-- the byte at an address, once the parts are laid
abbrev pub laid_byte : List (ℕ × List ℕ) → ℕ → ℕ
laid_byte parts a = image_byte (record { entry = 0; parts = parts }) a

-- the same byte at each address
abbrev pub AreSameBytes : List (ℕ × List ℕ) → List (ℕ × List ℕ) → Type 0
AreSameBytes one other = (a : ℕ) → laid_byte one a ≡ laid_byte other a

-- the bytes of RAM from this offset on are zero
abbrev pub IsZeroAbove : ℕ → List (ℕ × List ℕ) → Type 0
IsZeroAbove filled parts = (a : ℕ) → ram_base + filled ≤ a → laid_byte parts a ≡ 0

-- all bytes of the parts lie in RAM
abbrev pub AreInRam : ℕ → List (ℕ × List ℕ) → Type 0
AreInRam ram parts = list_all (part_fits ram) parts ≡ true
