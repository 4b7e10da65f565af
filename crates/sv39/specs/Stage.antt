-- Levels, and what a walk in the code holds.
use Rattle.std.specs.Prelude.{ℕ, Bool, true}
use Rattle.flex_base.specs.Word.{is_multiple}
use Rattle.flex_base.specs.Translation.{frame_of, pages_at}
use Rattle.sv39.specs.declared.level.Level.{Level}
use Rattle.sv39.specs.declared.level.Level.TheVariants as level
use Rattle.sv39.specs.declared.walk.Stage.{Stage}
use Rattle.sv39.specs.declared.walk.Stage.TheVariants as stage

-- the manual's number of a level
abbrev pub number_of : Level → ℕ
number_of level.Gigapages = 2
number_of level.Megapages = 1
number_of level.Pages = 0

-- an entry's address is a multiple of its 8 bytes, and a leaf's frame of what the leaf maps
abbrev pub fits : Stage → ℕ → Bool
fits (stage.Reads l) at = is_multiple at 8
fits (stage.Found l) at = is_multiple (frame_of at) (pages_at (number_of l))
fits stage.Faults at = true
