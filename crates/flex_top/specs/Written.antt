-- What a command leaves outside, and a text written to a file in pieces.
use Rattle.std.specs.Prelude.{◌≡◌, ℕ, ◌⊎◌, List, [], ◌++◌, take, Option, Some, unwrap_or}
use Rattle.flex_base.specs.Files.{Counts}
use Rattle.flex_base.specs.Outside.{Outside, Writes}

-- nothing changed but the bytes said, written files and the count of write faults, which rose where the call fails
pub record OnlyLeaves (old new : Outside) (Fails : Type 0) : Type 0 where
  pub cause : Counts old.write_faults new.write_faults Fails
  pub read_faults : new.read_faults ≡ old.read_faults
  pub held : new.held ≡ old.held

-- the file gained these bytes; one that gained none may be as it was
abbrev pub Gains : List ℕ → Option (List ℕ) → Option (List ℕ) → Type 0
Gains added old new = (new ≡ Some (unwrap_or old [] ++ added)) ⊎ ((new ≡ old) × (added ≡ []))

-- of the files the named one gained these bytes
abbrev pub Grows : Outside → Outside → List ℕ → List ℕ → Type 0
Grows old new name added = Writes old new name (Gains added)

-- some bytes went to the file, and with what is held they are what was held before and the new bytes
pub record Passes (old new : Outside) (name held held' bytes : List ℕ) : Type 0 where
  pub added : List ℕ
  pub grows : Grows old new name added
  pub whole : added ++ held' ≡ held ++ bytes

-- some bytes went to the file, the first of what was held before and the new bytes
pub record PassesPart (old new : Outside) (name held bytes : List ℕ) : Type 0 where
  pub added : List ℕ
  pub rest : List ℕ
  pub grows : Grows old new name added
  pub whole : added ++ rest ≡ held ++ bytes

-- the file is this text
abbrev pub Becomes : List ℕ → Option (List ℕ) → Option (List ℕ) → Type 0
Becomes text old new = new ≡ Some text

-- the file is as it was, or the first bytes of this text, maybe none
abbrev pub BecomesPart : List ℕ → Option (List ℕ) → Option (List ℕ) → Type 0
BecomesPart text old new = (new ≡ old) ⊎ ((n : ℕ) × (new ≡ Some (take n text)))
