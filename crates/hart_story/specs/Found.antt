-- The leaves that the walks of one instruction have found.
use Rattle.std.specs.Prelude.{◌≡◌, ℕ, ◌==◌, if◌then◌else◌, List, [], ◌∷◌, ◌++◌}
use Rattle.flex_base.specs.State.{State}
use Rattle.flex_base.specs.Translation.{AreLeaves}
use Rattle.flex_base.specs.declared.translation.Leaf.{Leaf}
use Rattle.hart_state.specs.IsLatest.{IsLatest}
use Rattle.hart_story.specs.StandsFor.{Shows}
use Rattle.hart_story.specs.declared.found.Found.{Found}
use Rattle.hart_story.specs.declared.hart.Hart.{Hart}

-- the leaf that was found first, and the one after it
abbrev pub first_of : Found → Leaf
first_of found = record { page = found.first_page; frame = found.first_frame; flags = found.first_flags }

abbrev pub second_of : Found → Leaf
second_of found = record { page = found.second_page; frame = found.second_frame; flags = found.second_flags }

-- these leaves, that of the fetch before that of the access
abbrev pub leaves_of : Found → List Leaf
leaves_of found =
    if found.count == 0 then [] else (if found.count == 1 then first_of found ∷ [] else first_of found ∷ second_of found ∷ [])

-- the hart, at the start of an instruction, and what its walks have found since then show this state
pub record Sees (hart : Hart) (found : Found) (a : State) : Type 0 where
  pub shows : Shows hart a
  pub before : List Leaf
  pub latest : IsLatest hart.kept before
  pub leaves : a.leaves ≡ before ++ leaves_of found
  pub fit : AreLeaves a.leaves

-- the state at the start of an instruction, with the lines that the last pulse told and what walks have found
abbrev pub state_at : State → ℕ → Found → State
state_at a lines found = record a { lines = lines; leaves = a.leaves ++ leaves_of found }
