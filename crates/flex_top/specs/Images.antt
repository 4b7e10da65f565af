-- What the code makes of a file: an image, or a refusal.
use Rattle.std.specs.Prelude.{◌≡◌, ℕ, true, List, Ok, Err}
use Rattle.flex_base.specs.Loaded.{Loaded}
use Rattle.image_loader.specs.Faults.{is_of_file}
use Rattle.image_loader.specs.Loading.{loaded, IsSameStart}
use Rattle.image_loader.specs.declared.fault.ImageFault.{ImageFault}
use Rattle.image_loader.specs.declared.fault.ImageFault.TheVariants as fault
use Rattle.flex_top.specs.Answer.{image_in}

-- a run of this image begins as one of the image that the file means
pub record IsTaken (file : List ℕ) (ram : ℕ) (image : Loaded) : Type 0 where
  pub start : Loaded
  pub is : image_in file ram ≡ Ok start
  pub same : IsSameStart start image

-- the file has this fault; want of memory may come to any file
abbrev pub IsRefused : List ℕ → ℕ → ImageFault → Type 0
IsRefused file ram fault.OutOfMemory = Unit {0}
IsRefused file ram found = (loaded file ram ≡ Err found) × (is_of_file found ≡ true)
