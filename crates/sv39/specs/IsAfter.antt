-- What a walk in the code stands for.
use Rattle.std.specs.Prelude.{◌≡◌, ℕ, ◌+◌, ◌-◌, List, [], ◌∷◌, ◌++◌}
use Rattle.flex_base.specs.Translation.{follows, leaf_at, walk, walk_from}
use Rattle.flex_base.specs.declared.translation.WalkStep.{WalkStep}
use Rattle.flex_base.specs.declared.translation.WalkStep.TheVariants as step
use Rattle.sv39.specs.Stage.{number_of}
use Rattle.sv39.specs.declared.walk.Stage.{Stage}
use Rattle.sv39.specs.declared.walk.Stage.TheVariants as stage
use Rattle.sv39.specs.declared.walk.Walk.{Walk}

-- where entries that are still to be read lead from a stage of the walk for this address
abbrev pub ahead_by : Stage → ℕ → ℕ → List ℕ → WalkStep
ahead_by (stage.Reads l) va at [] = step.Need at
ahead_by (stage.Reads l) va at (entry ∷ entries) =
    follows (number_of l) va entry (λ table. walk_from (number_of l - 1) table va entries)
ahead_by (stage.Found l) va at entries = step.Leaf (leaf_at (number_of l) va at)
ahead_by stage.Faults va at entries = step.Fault

-- where entries that are still to be read lead from here
abbrev pub ahead : Walk → List ℕ → WalkStep
ahead w entries = ahead_by w.stage w.va w.at entries

abbrev pub left_by : Stage → ℕ
left_by (stage.Reads l) = number_of l + 1
left_by (stage.Found l) = 0
left_by stage.Faults = 0

-- how many entries the walk may still read
abbrev pub entries_left : Walk → ℕ
entries_left w = left_by w.stage

-- the walk in the code is that for this address after these entries, whatever is read next
unfoldable pub IsAfter : Walk → ℕ → ℕ → List ℕ → Type 0
IsAfter w satp va entries = (rest : List ℕ) → walk satp va (entries ++ rest) ≡ ahead w rest
