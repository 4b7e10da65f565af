-- What the kept translations of a hart stand for.
use Rattle.std.specs.Prelude.{◌≡◌, ℕ, ◌/◌, ◌%◌, ◌^◌, ◌<◌, nat_lt, if◌then◌else◌, List, slice_index, Option, None, Some}
use Rattle.flex_base.specs.Translation.{latest, places}
use Rattle.flex_base.specs.declared.translation.Leaf.{Leaf}
use Rattle.hart_state.specs.declared.kept.Kept.{Kept}

-- the leaf of a page and a word, which has the frame above 8 flags; no page has a number of 2^27 or more
abbrev pub leaf_of : ℕ → ℕ → Option Leaf
leaf_of page word = if nat_lt page (2 ^ 27)
    then Some (record { page = page; frame = word / 256; flags = word % 256 })
    else None

-- what a place holds
abbrev pub leaf_at : Kept → ℕ → Option Leaf
leaf_at held place = leaf_of (slice_index held.pages place) (slice_index held.words place)

-- each place has the last of these leaves whose page has its remainder, or nothing where there is none
unfoldable pub IsLatest : Kept → List Leaf → Type 0
IsLatest held leaves = (place : ℕ) → place < places → leaf_at held place ≡ latest leaves place
