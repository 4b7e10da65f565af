-- What a translation comes to in the story.
use Rattle.std.specs.Prelude.{◌≡◌, ℕ, ◌+◌, ◌%◌}
use Rattle.flex_base.specs.Csrs.{IsCause}
use Rattle.flex_base.specs.State.{State}
use Rattle.flex_base.specs.StoryTree.{Story}
use Rattle.flex_base.specs.Ends.{traps}
use Rattle.flex_base.specs.Translation.{IsLeaf}
use Rattle.flex_base.specs.Translating.{with_leaf}
use Rattle.flex_base.specs.declared.translation.Kind.{Kind}
use Rattle.sv39.specs.IsAfter.{entries_left}
use Rattle.hart_story.specs.Stage.{walking, IsReading}
use Rattle.hart_story.specs.declared.translation.Translated.{Translated}
use Rattle.hart_story.specs.declared.translation.Translated.TheVariants as translated

-- how the story goes on
abbrev pub translated_of : ℕ → State → Kind → ℕ → (State → ℕ → Story) → Translated → Story
translated_of ram a kind va next (translated.Walks walk) = walking ram a kind va next walk
translated_of ram a kind va next (translated.To address) = next a address
translated_of ram a kind va next (translated.Found address leaf) = next (with_leaf a leaf) address
translated_of ram a kind va next (translated.Fails cause) = traps a cause va

-- the state from there on, which keeps what a walk has found
abbrev pub state_after : State → Translated → State
state_after a (translated.Found address leaf) = with_leaf a leaf
state_after a other = a

-- the entries that it may still read
abbrev pub entries_in : Translated → ℕ
entries_in (translated.Walks walk) = entries_left walk
entries_in other = 0

-- how many accesses may still come before the end, at most, where it is the fetch's and where it is that of an access
abbrev pub fetch_left : Translated → ℕ
fetch_left (translated.Walks walk) = entries_left walk + 7
fetch_left other = 6

abbrev pub access_left : Translated → ℕ
access_left (translated.Walks walk) = entries_left walk + 2
access_left other = 1

-- a physical address has the virtual one's place in its page
abbrev pub IsSoundTranslated : ℕ → ℕ → Translated → Type 0
IsSoundTranslated ram va (translated.Walks walk) = IsReading ram walk
IsSoundTranslated ram va (translated.To address) = address % 4096 ≡ va % 4096
IsSoundTranslated ram va (translated.Found address leaf) = (address % 4096 ≡ va % 4096) × IsLeaf leaf
IsSoundTranslated ram va (translated.Fails cause) = IsCause cause
