-- A file that is taken, and what it means: a plan, an image or an input, or the refusal of it.
use Rattle.std.specs.Prelude.{◌≡◌, ℕ, ◌<◌, List, Option, None, Some, IfSome, Result, Ok, Err}
use Rattle.flex_base.specs.Files.{Files}
use Rattle.flex_base.specs.Loaded.{Loaded}
use Rattle.image_loader.specs.Loading.{IsSameStart}
use Rattle.image_loader.specs.declared.fault.ImageFault.{ImageFault}
use Rattle.image_loader.specs.declared.fault.ImageFault.TheVariants as image
use Rattle.transplant_plan.specs.Assignment.{Assignment}
use Rattle.transplant_plan.specs.declared.fault.PlanFault.{PlanFault}
use Rattle.transplant_plan.specs.declared.fault.PlanFault.TheVariants as plan
use Rattle.transplant_plan.specs.Shown.{shown}
use Rattle.flex_top.specs.Words.{Reading}
use Rattle.flex_top.specs.Answer.{Sources, file_among, sources_among, plan_limit, plan_from, plan_by, image_limit, image_from, input_limit, input_from, expected}
use Rattle.flex_top.specs.Does.{Answers, first_file}
use Rattle.flex_top.specs.declared.sources.Inputs.{Inputs}
use Rattle.flex_top.specs.declared.status.Status.{Status}
use Rattle.flex_top.specs.declared.status.Status.TheVariants as status

-- the file of this name, where files are told; else any
abbrev pub IsFile : Option Files → Option (List ℕ) → Option (List ℕ) → Type 0
IsFile held name file = IfSome held (λ files. file ≡ file_among name files)

-- the file means this
pub record Gives (A : Type 0) (held : Option Files) (name : Option (List ℕ)) (means : Option (List ℕ) → Result A Status) (value : A) : Type 0 where
  pub file : Option (List ℕ)
  pub told : IsFile held name file
  pub is : means file ≡ Ok value

-- the answer to a file is the refusal that it means; where there is one, a fault of its read and want of memory may come before
abbrev pub Refuses : (A : Type 0) → Option (List ℕ) → Result A Status → Status → Type 0
Refuses A None meaning why = meaning ≡ Err why
Refuses A (Some file) meaning status.ReadFault = Unit {0}
Refuses A (Some file) meaning status.OutOfMemory = Unit {0}
Refuses A (Some file) meaning why = meaning ≡ Err why

-- the file is refused so
pub record IsRefused (A : Type 0) (held : Option Files) (name : Option (List ℕ)) (means : Option (List ℕ) → Result A Status) (why : Status) : Type 0 where
  pub file : Option (List ℕ)
  pub told : IsFile held name file
  pub refuses : Refuses A file (means file) why

-- the file of this name means an image in so much RAM with the same start as the code's
pub record GivesImage (held : Option Files) (name : List ℕ) (ram : ℕ) (image : Loaded) : Type 0 where
  pub start : Loaded
  pub gives : Gives Loaded held (Some name) (λ file. image_from file ram) start
  pub same : IsSameStart start image

-- the file of this name is no plan; where none is named, none is refused
abbrev pub IsPlanRefused : Option Files → Option (List ℕ) → Status → Type 0
IsPlanRefused held None why = ⊥
IsPlanRefused held (Some name) why = IsRefused Assignment held (Some name) plan_from why

-- the files that the words name give the plan, the input, and an image with the same start as that of the code
pub record AreGiven (r : Reading) (held : Option Files) (inputs : Inputs) : Type 0 where
  pub plan : Gives Assignment held r.plan (plan_by r.plan) (shown inputs.plan)
  pub image : GivesImage held r.image r.settings.ram inputs.image
  pub input : Gives (List ℕ) held r.input input_from inputs.input.items

-- one of them is refused, and that is the answer to them
pub record AreRefused (r : Reading) (held : Option Files) (why : Status) : Type 0 where
  pub files : Sources
  pub told : IfSome held (λ told. files ≡ sources_among r told)
  pub answers : Answers (first_file r files) (expected r files) why

-- a status that refuses a file: one that is too long is so, and want of memory is no refusal of a plan or an image
abbrev pub IsRefusal : Status → Type 0
IsRefusal status.ReadFault = Unit {0}
IsRefusal status.OutOfMemory = Unit {0}
IsRefusal (status.PlanRefused (plan.TooLong n)) = plan_limit < n
IsRefusal (status.PlanRefused plan.OutOfMemory) = ⊥
IsRefusal (status.PlanRefused why) = Unit {0}
IsRefusal (status.ImageRefused (image.TooLong n)) = image_limit < n
IsRefusal (status.ImageRefused image.OutOfMemory) = ⊥
IsRefusal (status.ImageRefused why) = Unit {0}
IsRefusal (status.InputTooLong n) = input_limit < n
IsRefusal other = ⊥

-- the answer to a file that isn't loaded: want of memory is no refusal of the image
abbrev pub answer_to : ImageFault → Status
answer_to image.OutOfMemory = status.OutOfMemory
answer_to why = status.ImageRefused why

-- the answer to one that is no plan
abbrev pub answer_to_plan : PlanFault → Status
answer_to_plan plan.OutOfMemory = status.OutOfMemory
answer_to_plan why = status.PlanRefused why

-- an answer of a run whose files aren't refused
abbrev pub IsOfRun : Status → Type 0
IsOfRun status.Ended = Unit {0}
IsOfRun status.OutOfMemory = Unit {0}
IsOfRun status.WriteFault = Unit {0}
IsOfRun other = ⊥
