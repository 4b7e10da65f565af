-- The image that the code has of a file.
use Rattle.std.proofs.Common.{◌≡◌, ℕ, List, refl, ap}
use Rattle.std.specs.Prelude.{Result, Ok, Err, IsOkAnd}
use Rattle.flex_base.specs.Loaded.{Loaded}
use Rattle.image_loader.specs.Loading.{loaded, IsSameStart}
use Rattle.image_loader.specs.declared.fault.ImageFault.{ImageFault}
use Rattle.flex_top.specs.Answer.{or_refusal}
use Rattle.flex_top.specs.Images.{IsTaken}

-- where the file means an image with this start, it is taken
pub taken_as : (file : List ℕ) (ram : ℕ) (image : Loaded) (meaning : Result Loaded ImageFault) → loaded file ram ≡ meaning → IsOkAnd meaning (λ start. IsSameStart start image) → IsTaken file ram image
taken_as file ram image (Ok start) is same = record { start = start; is = ap or_refusal is; same = same }
taken_as file ram image (Err fault) is same = absurd same

-- an image has the start that it has
pub same_itself : (image : Loaded) → IsSameStart image image
same_itself image = record { entry = refl; bytes = λ address. refl }
