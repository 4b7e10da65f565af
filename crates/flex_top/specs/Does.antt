-- What a command does: its answer, and what it leaves outside.
use Rattle.std.specs.Prelude.{◌≡◌, ◌≢◌, ℕ, ◌-◌, ◌^◌, ◌<◌, ◌⊎◌, List, Option, None, Some, IfSome}
use Rattle.flex_base.specs.Files.{Counts, Said, SaidPart}
use Rattle.flex_base.specs.Outside.{Outside, Writes, Says}
use Rattle.flex_top.specs.Words.{Reading}
use Rattle.flex_top.specs.Answer.{Sources, sources_among, Outcome, expected, plan_limit, image_limit, input_limit}
use Rattle.flex_top.specs.Written.{Becomes, BecomesPart}
use Rattle.flex_top.specs.declared.status.Status.{Status}
use Rattle.flex_top.specs.declared.status.Status.TheVariants as status
use Rattle.image_loader.specs.declared.fault.ImageFault.TheVariants as image
use Rattle.transplant_plan.specs.declared.fault.PlanFault.TheVariants as plan

-- the answer is the expected one, unless a fault of the outside or want of memory came before
abbrev pub IsAnswer : Status → Status → Type 0
IsAnswer expected status.ReadFault = Unit {0}
IsAnswer expected status.OutOfMemory = Unit {0}
IsAnswer expected status.WriteFault = expected ≡ status.Ended
IsAnswer expected answer = answer ≡ expected

-- the plan's file where one is named, or the other
abbrev pub first_named : Option (List ℕ) → Option (List ℕ) → Option (List ℕ) → Option (List ℕ)
first_named None plan image = image
first_named (Some name) plan image = plan

-- the file that is read first: the plan's, where one is named, or the image's
abbrev pub first_file : Reading → Sources → Option (List ℕ)
first_file r files = first_named r.plan files.plan files.image

-- where it is missing, nothing comes before
abbrev pub Answers : Option (List ℕ) → Status → Status → Type 0
Answers None expected answer = answer ≡ expected
Answers (Some file) expected answer = IsAnswer expected answer

-- a count of faults that doesn't rise and is below its end
abbrev pub IsCalm : ℕ → ℕ → Type 0
IsCalm before now = (now ≡ before) × (now < 2 ^ 64 - 1)

-- the trace was written, or memory ran out
abbrev pub IsEnded : Status → Type 0
IsEnded answer = (answer ≡ status.Ended) ⊎ (answer ≡ status.OutOfMemory)

abbrev pub WritesAll : Outside → Outside → Option (List ℕ × List ℕ) → Type 0
WritesAll old new None = new.written ≡ old.written
WritesAll old new (Some file) = Writes old new file.0 (Becomes file.1)

abbrev pub WritesPart : Outside → Outside → Option (List ℕ × List ℕ) → Type 0
WritesPart old new None = new.written ≡ old.written
WritesPart old new (Some file) = Writes old new file.0 (BecomesPart file.1)

-- all of the outcome is left
pub record Leaves (o : Outcome) (old new : Outside) : Type 0 where
  pub said : Says old new (Said o.said)
  pub file : WritesAll old new o.file

-- a write failed while the bytes were said: the first of them are, and no file is touched
pub record BreaksSaying (o : Outcome) (old new : Outside) : Type 0 where
  pub said : Says old new (SaidPart o.said)
  pub written : new.written ≡ old.written

-- or while the file was written: all bytes are said, and the file is as it was or the beginning of its text
pub record BreaksWriting (o : Outcome) (old new : Outside) : Type 0 where
  pub said : Says old new (Said o.said)
  pub file : WritesPart old new o.file

-- the beginning of the outcome is left, of which the bytes come first
abbrev pub LeavesPart : Outcome → Outside → Outside → Type 0
LeavesPart o old new = BreaksSaying o old new ⊎ BreaksWriting o old new

-- nothing is said or written
pub record LeavesNothing (old new : Outside) : Type 0 where
  pub said : new.said ≡ old.said
  pub written : new.written ≡ old.written

-- all of an outcome that is such a one is left
pub record LeavesOne (Is : Outcome → Type 0) (old new : Outside) : Type 0 where
  pub outcome : Outcome
  pub is : Is outcome
  pub left : Leaves outcome old new

-- the beginning of one is left
pub record LeavesPartOfOne (Is : Outcome → Type 0) (old new : Outside) : Type 0 where
  pub outcome : Outcome
  pub is : Is outcome
  pub left : LeavesPart outcome old new

-- what a command does whose files may have these outcomes
pub record Does (Is : Sources → Outcome → Type 0) (r : Reading) (old : Outside) (answer : Status) (new : Outside) : Type 0 where
  -- the files that it goes by, which are those that can be taken where these are told
  pub files : Sources
  pub told : IfSome old.held (λ held. files ≡ sources_among r held)
  -- the answer that they lead to, and that it comes where the outside has no fault
  pub answers : Answers (first_file r files) (expected r files) answer
  pub completes : expected r files ≡ status.Ended → IsCalm old.read_faults new.read_faults
      → IsCalm old.write_faults new.write_faults → IsEnded answer
  -- what is left of an outcome of theirs once it has ended, and where a write failed
  pub ended : answer ≡ status.Ended → LeavesOne (Is files) old new
  pub cut : answer ≡ status.WriteFault → LeavesPartOfOne (Is files) old new
  -- else nothing is left; never is another file written; files that can be taken stay
  pub nothing : answer ≢ status.Ended → answer ≢ status.WriteFault → LeavesNothing old new
  pub others : Writes old new r.trace (λ was is. Unit {0})
  pub held : new.held ≡ old.held
  -- a file that is too long is so
  pub long_plan : (n : ℕ) → answer ≡ status.PlanRefused (plan.TooLong n) → plan_limit < n
  pub long_image : (n : ℕ) → answer ≡ status.ImageRefused (image.TooLong n) → image_limit < n
  pub long_input : (n : ℕ) → answer ≡ status.InputTooLong n → input_limit < n

-- each fault of the outside is answered exactly where its count rose
pub record TellsFaults (old : Outside) (answer : Status) (new : Outside) : Type 0 where
  pub read : Counts old.read_faults new.read_faults (answer ≡ status.ReadFault)
  pub write : Counts old.write_faults new.write_faults (answer ≡ status.WriteFault)
