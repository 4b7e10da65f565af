-- What the outside holds and is given.
use Rattle.std.specs.Prelude.{◌≡◌, ◌≢◌, ℕ, ◌-◌, ◌^◌, ◌<◌, ◌≤◌, ◌⊎◌, List, [], ◌++◌, length, take, Option, None, Some, unwrap_or, Result, Ok, Err}
use Rattle.std.specs.Io.KnownBytes.{Appends}
use Rattle.flex_base.specs.declared.outer.TakeFault.{TakeFault}
use Rattle.flex_base.specs.declared.outer.TakeFault.TheVariants as fault

-- files by name
abbrev pub Files : Type 0
Files = List ℕ → Option (List ℕ)

-- a count has risen; it ends at 2^64 - 1 and stays there
abbrev pub HasRisen : ℕ → ℕ → Type 0
HasRisen before now = now < 2 ^ 64 - 1 → before < now

-- a count of faults never falls, has risen where the call failed, and stays where it didn't
pub record Counts (before now : ℕ) (Fails : Type 0) : Type 0 where
  pub no_fall : before ≤ now
  pub failed : Fails → HasRisen before now
  pub calm : (Fails → ⊥) → now ≡ before

-- of the files, where they are told, the named one changes so, and the others stay
abbrev pub ChangesFile : Option Files → Option Files → List ℕ → (Option (List ℕ) → Option (List ℕ) → Type 0) → Type 0
ChangesFile None new name Change = new ≡ None
ChangesFile (Some old) None name Change = ⊥
ChangesFile (Some old) (Some new) name Change = Change (old name) (new name) × ((other : List ℕ) → other ≢ name → new other ≡ old other)

-- the file gained these bytes
abbrev pub Appended : List ℕ → Option (List ℕ) → Option (List ℕ) → Type 0
Appended bytes old new = new ≡ Some (unwrap_or old [] ++ bytes)

-- the file is as it was, or gained the first of these bytes
abbrev pub AppendedPart : List ℕ → Option (List ℕ) → Option (List ℕ) → Type 0
AppendedPart bytes old new = (new ≡ old) ⊎ ((n : ℕ) × (new ≡ Some (unwrap_or old [] ++ take n bytes)))

-- the file is empty
abbrev pub Started : Option (List ℕ) → Option (List ℕ) → Type 0
Started old new = new ≡ Some []

-- the file is as it was, or empty
abbrev pub StartedPart : Option (List ℕ) → Option (List ℕ) → Type 0
StartedPart old new = (new ≡ old) ⊎ (new ≡ Some [])

-- the bytes said, where they are told, change so
abbrev pub ChangesText : Option (List ℕ) → Option (List ℕ) → (List ℕ → List ℕ → Type 0) → Type 0
ChangesText None new Change = new ≡ None
ChangesText (Some old) None Change = ⊥
ChangesText (Some old) (Some new) Change = Change old new

-- the answer of a read, where the files are told: the whole file within the limit; too long exactly where it is longer
abbrev pub Taken : Option Files → List ℕ → ℕ → Result (List ℕ) TakeFault → Type 0
Taken None name limit answer = Unit {0}
Taken (Some files) name limit (Ok bytes) = files name ≡ Some bytes
Taken (Some files) name limit (Err fault.Failed) = Unit {0}
Taken (Some files) name limit (Err fault.OutOfMemory) = (bytes : List ℕ) × (files name ≡ Some bytes) × (length bytes ≤ limit)
Taken (Some files) name limit (Err (fault.TooLong n)) = (bytes : List ℕ) × (files name ≡ Some bytes) × (n ≡ length bytes) × (limit < n)

-- these bytes were said
abbrev pub Said : List ℕ → List ℕ → List ℕ → Type 0
Said bytes old new = new ≡ old ++ bytes

-- the first of these bytes were said, maybe none
abbrev pub SaidPart : List ℕ → List ℕ → List ℕ → Type 0
SaidPart bytes old new = (n : ℕ) × (new ≡ old ++ take n bytes)

-- a writer's bytes, where they are known, grow by the first of these, maybe none
abbrev pub AppendsPart : Option (List ℕ) → Option (List ℕ) → List ℕ → Type 0
AppendsPart old new bytes = (n : ℕ) × Appends old new (take n bytes)
