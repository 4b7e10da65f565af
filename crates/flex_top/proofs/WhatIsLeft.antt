-- What is said and then written.
use Rattle.std.proofs.Common.{◌≡◌, ℕ, List, Option, None, Some, inl, inr, refl, subst, sym, ◌∙◌}
use Rattle.flex_base.specs.Files.{Files, Counts, ChangesFile, ChangesText, Said, SaidPart}
use Rattle.flex_base.specs.Outside.{Outside, OnlySays, OnlyWrites, Writes, Says}
use Rattle.flex_top.specs.Answer.{outcome_with}
use Rattle.flex_top.specs.Does.{Leaves, BreaksSaying, BreaksWriting, LeavesPart}
use Rattle.flex_top.specs.Written.{OnlyLeaves, Becomes, BecomesPart}

says_to : (old mid new : Outside) (bytes : List ℕ) → Says old mid (Said bytes) → new.said ≡ mid.said → Says old new (Said bytes)
says_to old mid new bytes says same = let To : Option (List ℕ) → Type 0 = λ t. ChangesText old.said t (Said bytes) in subst To (sym same) says

writes_after : (old mid new : Outside) (name : List ℕ) (Change : Option (List ℕ) → Option (List ℕ) → Type 0) → mid.written ≡ old.written → Writes mid new name Change → Writes old new name Change
writes_after old mid new name Change same writes = let From : Option Files → Type 0 = λ t. ChangesFile t new.written name Change in subst From same writes

-- both were done
pub leaves_both : (old mid new : Outside) (bytes name text : List ℕ) (Fails Fails' : Type 0) → Says old mid (Said bytes) → OnlySays old mid Fails → Writes mid new name (Becomes text) → OnlyWrites mid new Fails'
    → Leaves (outcome_with bytes name text) old new
leaves_both old mid new bytes name text Fails Fails' says said writes wrote = record {
  said = says_to old mid new bytes says wrote.said;
  file = writes_after old mid new name (Becomes text) said.written writes;
}

-- the bytes weren't said whole
pub breaks_saying : (old new : Outside) (bytes name text : List ℕ) (Fails : Type 0) → Says old new (SaidPart bytes) → OnlySays old new Fails → LeavesPart (outcome_with bytes name text) old new
breaks_saying old new bytes name text Fails says said =
    let broken : BreaksSaying (outcome_with bytes name text) old new = record { said = says; written = said.written } in
    inl broken

-- or the file wasn't written whole
pub breaks_writing : (old mid new : Outside) (bytes name text : List ℕ) (Fails Fails' : Type 0) → Says old mid (Said bytes) → OnlySays old mid Fails → Writes mid new name (BecomesPart text) → OnlyWrites mid new Fails'
    → LeavesPart (outcome_with bytes name text) old new
breaks_writing old mid new bytes name text Fails Fails' says said writes wrote =
    let broken : BreaksWriting (outcome_with bytes name text) old new = record {
      said = says_to old mid new bytes says wrote.said;
      file = writes_after old mid new name (BecomesPart text) said.written writes;
    } in
    inr broken

-- Other files stay.

any_change : (old new : Option Files) (name : List ℕ) (Change : Option (List ℕ) → Option (List ℕ) → Type 0) → ChangesFile old new name Change → ChangesFile old new name (λ was is. Unit {0})
any_change None new name Change same = same
any_change (Some old) None name Change none = absurd none
any_change (Some old) (Some new) name Change (change, others) = (tt, others)

no_change : (files : Option Files) (name : List ℕ) → ChangesFile files files name (λ was is. Unit {0})
no_change None name = refl
no_change (Some files) name = (tt, λ other differs. refl)

pub others_saying : (old new : Outside) (name : List ℕ) (Fails : Type 0) → OnlySays old new Fails → Writes old new name (λ was is. Unit {0})
others_saying old new name Fails said =
    let To : Option Files → Type 0 = λ t. ChangesFile old.written t name (λ was is. Unit {0}) in
    subst To (sym said.written) (no_change old.written name)

pub others_writing : (old mid new : Outside) (name : List ℕ) (Fails : Type 0) (Change : Option (List ℕ) → Option (List ℕ) → Type 0) → OnlySays old mid Fails → Writes mid new name Change → Writes old new name (λ was is. Unit {0})
others_writing old mid new name Fails Change said writes =
    writes_after old mid new name (λ was is. Unit {0}) said.written (any_change mid.written new.written name Change writes)

-- Counts.

pub frame_saying : (old new : Outside) (Fails : Type 0) → OnlySays old new Fails → OnlyLeaves old new Fails
frame_saying old new Fails said = record { cause = said.cause; read_faults = said.read_faults; held = said.held }

pub frame_both : (old mid new : Outside) (Fails Fails' : Type 0) → OnlySays old mid Fails → (Fails → ⊥) → OnlyWrites mid new Fails' → OnlyLeaves old new Fails'
frame_both old mid new Fails Fails' said unfailed wrote =
    let From : ℕ → Type 0 = λ n. Counts n new.write_faults Fails' in
    record {
      cause = subst From (said.cause.calm unfailed) wrote.cause;
      read_faults = wrote.read_faults ∙ said.read_faults;
      held = wrote.held ∙ said.held;
    }
