-- The outside as contracts see it, and what each kind of call changes of it.
use Rattle.std.specs.Prelude.{◌≡◌, ℕ, List, Option}
use Rattle.flex_base.specs.Files.{Files, Counts, ChangesFile, ChangesText}

-- what there is outside: files and bytes said, each told to contracts or not, and two counts
pub record Outside : Type 0 where
  -- the files that can be taken
  pub held : Option Files
  -- the files as written
  pub written : Option Files
  -- the bytes said
  pub said : Option (List ℕ)
  -- how often a read has failed
  pub read_faults : ℕ
  -- how often a write has failed
  pub write_faults : ℕ

-- nothing changed but the count of read faults, which rose where the call fails so
pub record OnlyReads (old new : Outside) (Fails : Type 0) : Type 0 where
  pub cause : Counts old.read_faults new.read_faults Fails
  pub write_faults : new.write_faults ≡ old.write_faults
  pub held : new.held ≡ old.held
  pub written : new.written ≡ old.written
  pub said : new.said ≡ old.said

-- nothing changed but written files and the count of write faults, which rose where the call fails
pub record OnlyWrites (old new : Outside) (Fails : Type 0) : Type 0 where
  pub cause : Counts old.write_faults new.write_faults Fails
  pub read_faults : new.read_faults ≡ old.read_faults
  pub held : new.held ≡ old.held
  pub said : new.said ≡ old.said

-- nothing changed but the bytes said and the count of write faults, which rose where the call fails
pub record OnlySays (old new : Outside) (Fails : Type 0) : Type 0 where
  pub cause : Counts old.write_faults new.write_faults Fails
  pub read_faults : new.read_faults ≡ old.read_faults
  pub held : new.held ≡ old.held
  pub written : new.written ≡ old.written

-- of the written files the named one changes so, and the others stay
abbrev pub Writes : Outside → Outside → List ℕ → (Option (List ℕ) → Option (List ℕ) → Type 0) → Type 0
Writes old new name Change = ChangesFile old.written new.written name Change

-- the bytes said change so
abbrev pub Says : Outside → Outside → (List ℕ → List ℕ → Type 0) → Type 0
Says old new Change = ChangesText old.said new.said Change
