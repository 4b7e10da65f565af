-- A file that was taken, or why it wasn't.
use Rattle.std.proofs.Common.{◌≡◌, ◌≢◌, ℕ, ◌<◌, ◌≤◌, true, false, nat_lt, if◌then◌else◌, List, [], length, Option, None, Some, Result, Ok, Err, refl, ap, sym, subst, ◌∙◌, arith}
use Rattle.std.specs.Prelude.{replicate}
use Rattle.std.proofs.lemmas.Bool.Decides.{nat_tests}
use Rattle.std.proofs.lemmas.List.{length-replicate}
use Rattle.flex_base.specs.Files.{Files, Taken}
use Rattle.flex_base.specs.Loaded.{Loaded}
use Rattle.flex_base.specs.declared.outer.TakeFault.{TakeFault}
use Rattle.flex_base.specs.declared.outer.TakeFault.TheVariants as fault
use Rattle.image_loader.specs.Faults.{is_of_file}
use Rattle.image_loader.specs.Loading.{loaded}
use Rattle.image_loader.specs.declared.fault.ImageFault.{ImageFault}
use Rattle.image_loader.specs.declared.fault.ImageFault.TheVariants as image
use Rattle.flex_top.specs.Answer.{or_refusal, image_limit, image_in, image_from, input_limit, input_from}
use Rattle.flex_top.specs.Images as images
use Rattle.flex_top.specs.Images.{IsTaken}
use Rattle.flex_top.specs.Taking.{IsFile, Gives, Refuses, IsRefused, GivesImage, IsRefusal, answer_to}
use Rattle.flex_top.specs.declared.status.Status.{Status}
use Rattle.flex_top.specs.declared.status.Status.TheVariants as status
use Rattle.flex_top.proofs.Doing.{file_held, told_file}

-- the file that was taken is the one of its name
pub told_taken : (held : Option Files) (name file : List ℕ) (limit : ℕ) → Taken held name limit (Ok file) → IsFile held (Some name) (Some file)
told_taken None name file limit took = tt
told_taken (Some files) name file limit took = sym took

pub within : (file : List ℕ) (limit : ℕ) → length file ≤ limit → nat_lt limit (length file) ≡ false
within file limit fits = grind (arith, nat_tests)

pub past : (file : List ℕ) (limit : ℕ) → limit < length file → nat_lt limit (length file) ≡ true
past file limit over = grind (arith, nat_tests)

image_within : (file : List ℕ) (ram : ℕ) → length file ≤ image_limit → image_from (Some file) ram ≡ image_in file ram
image_within file ram fits = ap (λ b. if b then Err (status.ImageRefused (image.TooLong (length file))) else image_in file ram) (within file image_limit fits)

-- by the fault that it has
pub taken_as : (held : Option Files) (name : List ℕ) (limit : ℕ) (why other : TakeFault) → why ≡ other → Taken held name limit (Err why) → Taken held name limit (Err other)
taken_as held name limit why other is took =
    let At : TakeFault → Type 0 = λ f. Taken held name limit (Err f) in
    subst At is took

-- Given.

pub image_taken : (held : Option Files) (name file : List ℕ) (ram : ℕ) (made : Loaded) → Taken held name image_limit (Ok file) → length file ≤ image_limit → IsTaken file ram made → GivesImage held name ram made
image_taken held name file ram made took fits taken = record {
  start = taken.start;
  gives = record { file = Some file; told = told_taken held name file image_limit took; is = image_within file ram fits ∙ taken.is };
  same = taken.same;
}

pub input_taken : (held : Option Files) (name file : List ℕ) → Taken held name input_limit (Ok file) → length file ≤ input_limit → Gives (List ℕ) held (Some name) input_from file
input_taken held name file took fits = record {
  file = Some file;
  told = told_taken held name file input_limit took;
  is = ap (λ b. if b then Err (status.InputTooLong (length file)) else Ok file) (within file input_limit fits);
}

input_none_is : (held : Option Files) → input_from (file_held held None) ≡ Ok []
input_none_is None = refl
input_none_is (Some files) = refl

pub input_none : (held : Option Files) → Gives (List ℕ) held None input_from []
input_none held = record { file = file_held held None; told = told_file held None; is = input_none_is held }

-- Refused.

refuses_read : (A : Type 0) (file : Option (List ℕ)) (means : Option (List ℕ) → Result A Status) → means None ≡ Err status.ReadFault → Refuses A file (means file) status.ReadFault
refuses_read A None means none = none
refuses_read A (Some file) means none = tt

-- by a fault of its read
pub unread : (A : Type 0) (held : Option Files) (name : Option (List ℕ)) (means : Option (List ℕ) → Result A Status) → means None ≡ Err status.ReadFault → IsRefused A held name means status.ReadFault
unread A held name means none = record { file = file_held held name; told = told_file held name; refuses = refuses_read A (file_held held name) means none }

refuses_wanting : (A : Type 0) (held : Option Files) (name : List ℕ) (limit : ℕ) (means : Option (List ℕ) → Result A Status) → Taken held name limit (Err fault.OutOfMemory)
    → Refuses A (file_held held (Some name)) (means (file_held held (Some name))) status.OutOfMemory
refuses_wanting A None name limit means took = tt
refuses_wanting A (Some files) name limit means (bytes, is, fits) =
    let At : Option (List ℕ) → Type 0 = λ o. Refuses A o (means o) status.OutOfMemory in
    subst At (sym is) tt

-- for want of memory
pub wanting : (A : Type 0) (held : Option Files) (name : List ℕ) (limit : ℕ) (means : Option (List ℕ) → Result A Status) → Taken held name limit (Err fault.OutOfMemory) → IsRefused A held (Some name) means status.OutOfMemory
wanting A held name limit means took = record { file = file_held held (Some name); told = told_file held (Some name); refuses = refuses_wanting A held name limit means took }

-- a file of so many bytes, which may be any where files aren't told
pub record IsLong (held : Option Files) (name : List ℕ) (n : ℕ) : Type 0 where
  pub bytes : List ℕ
  pub told : IsFile held (Some name) (Some bytes)
  pub size : n ≡ length bytes

pub long_file : (held : Option Files) (name : List ℕ) (limit n : ℕ) → Taken held name limit (Err (fault.TooLong n)) → IsLong held name n
long_file None name limit n took = record { bytes = replicate n 0; told = tt; size = sym (length-replicate n 0) }
long_file (Some files) name limit n (bytes, is, same, over) = record { bytes = bytes; told = sym is; size = same }

-- since it is too long
pub image_long : (held : Option Files) (name : List ℕ) (n ram : ℕ) → Taken held name image_limit (Err (fault.TooLong n)) → image_limit < n
    → IsRefused Loaded held (Some name) (λ file. image_from file ram) (status.ImageRefused (image.TooLong n))
image_long held name n ram took over =
    let long = long_file held name image_limit n took in
    let refused : ℕ → Status = λ size. status.ImageRefused (image.TooLong size) in
    let is = ap (λ b. if b then Err (refused (length long.bytes)) else image_in long.bytes ram) (past long.bytes image_limit (omega (arith, over, long.size))) in
    record { file = Some long.bytes; told = long.told; refuses = is ∙ ap (λ (size : ℕ). Err (refused size)) (sym long.size) }

pub input_long : (held : Option Files) (name : List ℕ) (n : ℕ) → Taken held name input_limit (Err (fault.TooLong n)) → input_limit < n
    → IsRefused (List ℕ) held (Some name) input_from (status.InputTooLong n)
input_long held name n took over =
    let long = long_file held name input_limit n took in
    let is = ap (λ b. if b then Err (status.InputTooLong (length long.bytes)) else Ok long.bytes) (past long.bytes input_limit (omega (arith, over, long.size))) in
    record { file = Some long.bytes; told = long.told; refuses = is ∙ ap (λ (size : ℕ). Err (status.InputTooLong size)) (sym long.size) }

found_fault : (file : List ℕ) (ram : ℕ) (why : ImageFault) → images.IsRefused file ram why → why ≢ image.OutOfMemory → (loaded file ram ≡ Err why) × (is_of_file why ≡ true)
found_fault file ram image.OutOfMemory refused other = absurd (other refl)
found_fault file ram image.Short refused other = refused
found_fault file ram image.NotElf64Little refused other = refused
found_fault file ram (image.NotExec n) refused other = refused
found_fault file ram (image.NotRiscv n) refused other = refused
found_fault file ram image.BadHeaderSize refused other = refused
found_fault file ram image.TableOutside refused other = refused
found_fault file ram (image.SegmentOutsideFile n) refused other = refused
found_fault file ram (image.FileOverMemory n) refused other = refused
found_fault file ram (image.SegmentOutsideRam n) refused other = refused
found_fault file ram (image.BadEntry n) refused other = refused
found_fault file ram (image.TooLong n) refused other = refused

refusal_of : (why : ImageFault) → is_of_file why ≡ true → IsRefusal (status.ImageRefused why)
refusal_of image.OutOfMemory is = absurd cc
refusal_of (image.TooLong n) is = absurd cc
refusal_of image.Short is = tt
refusal_of image.NotElf64Little is = tt
refusal_of (image.NotExec n) is = tt
refusal_of (image.NotRiscv n) is = tt
refusal_of image.BadHeaderSize is = tt
refusal_of image.TableOutside is = tt
refusal_of (image.SegmentOutsideFile n) is = tt
refusal_of (image.FileOverMemory n) is = tt
refusal_of (image.SegmentOutsideRam n) is = tt
refusal_of (image.BadEntry n) is = tt

-- since it can't be loaded
pub image_faulty : (held : Option Files) (name file : List ℕ) (ram : ℕ) (why : ImageFault) → Taken held name image_limit (Ok file) → length file ≤ image_limit → images.IsRefused file ram why
    → why ≢ image.OutOfMemory → IsRefused Loaded held (Some name) (λ o. image_from o ram) (status.ImageRefused why)
image_faulty held name file ram why took fits refused other = record {
  file = Some file;
  told = told_taken held name file image_limit took;
  refuses = image_within file ram fits ∙ ap or_refusal (found_fault file ram why refused other).0;
}

-- or loaded for want of memory
pub image_wanting : (held : Option Files) (name file : List ℕ) (ram : ℕ) → Taken held name image_limit (Ok file) → IsRefused Loaded held (Some name) (λ o. image_from o ram) status.OutOfMemory
image_wanting held name file ram took = record { file = Some file; told = told_taken held name file image_limit took; refuses = tt }

-- a fault of the file is a refusal
pub faulty_refusal : (file : List ℕ) (ram : ℕ) (why : ImageFault) → images.IsRefused file ram why → why ≢ image.OutOfMemory → IsRefusal (status.ImageRefused why)
faulty_refusal file ram why refused other = refusal_of why (found_fault file ram why refused other).1

pub answer_other : (why : ImageFault) → why ≢ image.OutOfMemory → status.ImageRefused why ≡ answer_to why
answer_other image.OutOfMemory other = absurd (other refl)
answer_other image.Short other = refl
answer_other image.NotElf64Little other = refl
answer_other (image.NotExec n) other = refl
answer_other (image.NotRiscv n) other = refl
answer_other image.BadHeaderSize other = refl
answer_other image.TableOutside other = refl
answer_other (image.SegmentOutsideFile n) other = refl
answer_other (image.FileOverMemory n) other = refl
answer_other (image.SegmentOutsideRam n) other = refl
answer_other (image.BadEntry n) other = refl
answer_other (image.TooLong n) other = refl

-- what is answered to a file that isn't loaded
abbrev pub IsAnswered : Option Files → List ℕ → ℕ → Status → Type 0
IsAnswered held name ram why = IsRefused Loaded held (Some name) (λ o. image_from o ram) why × IsRefusal why

faulty : (held : Option Files) (name file : List ℕ) (ram : ℕ) (why : ImageFault) → Taken held name image_limit (Ok file) → length file ≤ image_limit → images.IsRefused file ram why
    → why ≢ image.OutOfMemory → IsAnswered held name ram (status.ImageRefused why)
faulty held name file ram why took fits refused other =
    (image_faulty held name file ram why took fits refused other, faulty_refusal file ram why refused other)

pub answered : (held : Option Files) (name file : List ℕ) (ram : ℕ) (why : ImageFault) → Taken held name image_limit (Ok file) → length file ≤ image_limit → images.IsRefused file ram why
    → IsAnswered held name ram (answer_to why)
answered held name file ram image.OutOfMemory took fits refused = (image_wanting held name file ram took, tt)
answered held name file ram image.Short took fits refused = faulty held name file ram image.Short took fits refused (λ e. cc)
answered held name file ram image.NotElf64Little took fits refused = faulty held name file ram image.NotElf64Little took fits refused (λ e. cc)
answered held name file ram (image.NotExec n) took fits refused = faulty held name file ram (image.NotExec n) took fits refused (λ e. cc)
answered held name file ram (image.NotRiscv n) took fits refused = faulty held name file ram (image.NotRiscv n) took fits refused (λ e. cc)
answered held name file ram image.BadHeaderSize took fits refused = faulty held name file ram image.BadHeaderSize took fits refused (λ e. cc)
answered held name file ram image.TableOutside took fits refused = faulty held name file ram image.TableOutside took fits refused (λ e. cc)
answered held name file ram (image.SegmentOutsideFile n) took fits refused = faulty held name file ram (image.SegmentOutsideFile n) took fits refused (λ e. cc)
answered held name file ram (image.FileOverMemory n) took fits refused = faulty held name file ram (image.FileOverMemory n) took fits refused (λ e. cc)
answered held name file ram (image.SegmentOutsideRam n) took fits refused = faulty held name file ram (image.SegmentOutsideRam n) took fits refused (λ e. cc)
answered held name file ram (image.BadEntry n) took fits refused = faulty held name file ram (image.BadEntry n) took fits refused (λ e. cc)
answered held name file ram (image.TooLong n) took fits refused = faulty held name file ram (image.TooLong n) took fits refused (λ e. cc)
