use Rattle.std.proofs.Common.{arith}
use Rattle.std.proofs.lemmas.List.Folds.{list_all-map}
use Rattle.flex_base.proofs.image.Image.fits.Goals as goal

pub returns-then-is_entry : goal.returns-then-is_entry
returns-then-is_entry c = grind (arith, list_all-map)
