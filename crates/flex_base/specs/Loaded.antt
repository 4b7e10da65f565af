-- An image as contracts see it.
use Rattle.std.specs.Prelude.{ℕ, Bool, ◌&&◌, ◌||◌, ◌==◌, List, length}
use Rattle.std.specs.List.{list_all}
use Rattle.flex_base.specs.Word.{is_multiple}
use Rattle.flex_base.specs.Place.{in_ram}

-- where the harts begin, and the parts that are written over zero RAM, one after another
pub record Loaded : Type 0 where
  pub entry : ℕ
  pub parts : List (ℕ × List ℕ)

-- a part without bytes fits anywhere
abbrev pub part_fits : ℕ → ℕ × List ℕ → Bool
part_fits ram part = (length part.1 == 0) || in_ram ram part.0 (length part.1)

-- the entry is a multiple of 4 in RAM, and all bytes of the parts lie in RAM
abbrev pub image_fits : ℕ → Loaded → Bool
image_fits ram image = is_multiple image.entry 4 && in_ram ram image.entry 1 && list_all (part_fits ram) image.parts
