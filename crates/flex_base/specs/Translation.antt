-- Translation of addresses by Sv39 (Volume II, "Sv39: Page-Based 39-bit Virtual-Memory System").
use Rattle.std.specs.Prelude.{ℕ, ◌+◌, ◌-◌, ◌*◌, ◌%◌, ◌^◌, ◌<◌, Bool, true, false, not, ◌&&◌, ◌||◌, ◌==◌, if◌then◌else◌, List, [], ◌∷◌, reverse, find, Option, None, Some}
use Rattle.std.specs.List.{list_any, list_all}
use Rattle.flex_base.specs.Word.{field, is_set}
use Rattle.flex_base.specs.declared.hart.Mode.{Mode}
use Rattle.flex_base.specs.declared.hart.Mode.TheVariants as mode
use Rattle.flex_base.specs.declared.translation.Kind.{Kind}
use Rattle.flex_base.specs.declared.translation.Kind.TheVariants as kind
use Rattle.flex_base.specs.declared.translation.Leaf.{Leaf}
use Rattle.flex_base.specs.declared.translation.WalkStep.{WalkStep}
use Rattle.flex_base.specs.declared.translation.WalkStep.TheVariants as step

-- Virtual addresses ("Addressing and Memory Protection").

-- bits 63 to 39 equal bit 38
abbrev pub is_canonical : ℕ → Bool
is_canonical va = field 39 25 va == (if is_set 38 va then 2 ^ 25 - 1 else 0)

-- the number of the page of 4 KiB
abbrev pub page_of : ℕ → ℕ
page_of va = field 12 27 va

-- the index into a table of this level; the root's level is 2
abbrev pub index_at : ℕ → ℕ → ℕ
index_at level va = field (12 + 9 * level) 9 va

-- how many pages of 4 KiB an entry of this level maps
abbrev pub pages_at : ℕ → ℕ
pages_at level = 512 ^ level

-- Page table entries (the same section); a leaf's flags have the same bits.
abbrev pub is_valid : ℕ → Bool
is_valid entry = is_set 0 entry

abbrev pub is_readable : ℕ → Bool
is_readable entry = is_set 1 entry

abbrev pub is_writable : ℕ → Bool
is_writable entry = is_set 2 entry

abbrev pub is_executable : ℕ → Bool
is_executable entry = is_set 3 entry

abbrev pub is_user : ℕ → Bool
is_user entry = is_set 4 entry

abbrev pub is_accessed : ℕ → Bool
is_accessed entry = is_set 6 entry

abbrev pub is_dirty : ℕ → Bool
is_dirty entry = is_set 7 entry

-- the physical page number
abbrev pub frame_of : ℕ → ℕ
frame_of entry = field 10 44 entry

-- an entry with one of R, W and X is a leaf, which maps pages; one with none names the next table
abbrev pub is_leaf : ℕ → Bool
is_leaf entry = is_readable entry || is_writable entry || is_executable entry

-- what makes an entry of this level a page fault; a leaf above level 0 maps a superpage, and what is no leaf names a table
abbrev pub faults : ℕ → ℕ → List Bool
faults level entry =
    not (is_valid entry)
    ∷ (is_writable entry && not (is_readable entry))  -- a reserved combination
    ∷ not (field 54 10 entry == 0)  -- reserved bits
    ∷ (is_leaf entry && not (frame_of entry % pages_at level == 0))  -- a misaligned superpage
    ∷ (not (is_leaf entry) && (level == 0))  -- no level is left
    ∷ (not (is_leaf entry) && (is_user entry || is_accessed entry || is_dirty entry))  -- this project's own
    ∷ []

-- the leaf of this address by an entry of this level; of a superpage it is the frame of the page of 4 KiB
abbrev pub leaf_at : ℕ → ℕ → ℕ → Leaf
leaf_at level va entry = record {
  page = page_of va;
  frame = frame_of entry + page_of va % pages_at level;
  flags = field 0 8 entry;
}

-- Walks ("Virtual Address Translation Process").

-- what an entry of this level comes to; by the frame of the table that it names the walk goes on
abbrev pub follows : ℕ → ℕ → ℕ → (ℕ → WalkStep) → WalkStep
follows level va entry onward =
    if list_any (λ (b : Bool). b) (faults level entry) then step.Fault
    else (if is_leaf entry then step.Leaf (leaf_at level va entry) else onward (frame_of entry))

-- the walk from the table of this level in this frame, by the entries read from there on
abbrev pub walk_from : ℕ → ℕ → ℕ → List ℕ → WalkStep
walk_from level table va [] = step.Need (4096 * table + 8 * index_at level va)
walk_from level table va (entry ∷ entries) = follows level va entry (λ next. walk_from (level - 1) next va entries)

-- the frame of the root table
abbrev pub root_of : ℕ → ℕ
root_of satp = field 0 44 satp

-- the walk for this address, by the entries read so far
abbrev pub walk : ℕ → ℕ → List ℕ → WalkStep
walk satp va entries = if is_canonical va then walk_from 2 (root_of satp) va entries else step.Fault

-- Permission ("Addressing and Memory Protection"; "Memory Privilege in mstatus Register").
abbrev pub is_fetch : Kind → Bool
is_fetch kind.Fetch = true
is_fetch other = false

abbrev pub is_load : Kind → Bool
is_load kind.Load = true
is_load other = false

abbrev pub is_store : Kind → Bool
is_store kind.Store = true
is_store other = false

abbrev pub is_mode_u : Mode → Bool
is_mode_u mode.U = true
is_mode_u other = false

abbrev pub is_mode_s : Mode → Bool
is_mode_s mode.S = true
is_mode_s other = false

-- where the first holds, the second has to hold
abbrev pub needs : Bool → Bool → Bool
needs first second = not first || second

-- what an access needs of a leaf's flags, by the bits SUM and MXR of mstatus
abbrev pub conditions : Kind → Mode → Bool → Bool → ℕ → List Bool
conditions kind mode sum mxr flags =
    needs (is_fetch kind) (is_executable flags)
    ∷ needs (is_load kind) (is_readable flags || (mxr && is_executable flags))
    ∷ needs (is_store kind) (is_writable flags)
    ∷ needs (is_mode_u mode) (is_user flags)
    ∷ needs (is_mode_s mode && is_fetch kind) (not (is_user flags))
    ∷ needs (is_mode_s mode && not (is_fetch kind)) (sum || not (is_user flags))
    ∷ is_accessed flags  -- the walker sets neither A nor D
    ∷ needs (is_store kind) (is_dirty flags)
    ∷ []

abbrev pub permitted : Leaf → Kind → Mode → Bool → Bool → Bool
permitted leaf kind mode sum mxr = list_all (λ (b : Bool). b) (conditions kind mode sum mxr leaf.flags)

-- the physical address of a virtual one of this page
abbrev pub address_in : Leaf → ℕ → ℕ
address_in leaf va = 4096 * leaf.frame + va % 4096

-- The leaves of a hart, from the first that it found to the last (this project's own).

-- a page and a frame that there are
pub record IsLeaf (leaf : Leaf) : Type 0 where
  pub page : leaf.page < 2 ^ 27
  pub frame : leaf.frame < 2 ^ 44

-- where it is one
abbrev pub IfLeaf : Option Leaf → Type 0
IfLeaf None = Unit {0}
IfLeaf (Some leaf) = IsLeaf leaf

abbrev pub AreLeaves : List Leaf → Type 0
AreLeaves [] = Unit {0}
AreLeaves (leaf ∷ leaves) = IsLeaf leaf × AreLeaves leaves

-- how many translations a hart keeps: one for each remainder of a page's number
abbrev pub places : ℕ
places = 16

-- the last leaf whose page has this remainder
abbrev pub latest : List Leaf → ℕ → Option Leaf
latest leaves place = find (λ (leaf : Leaf). leaf.page % places == place) (reverse leaves)

-- a leaf, where it is this page's
abbrev pub of_page : ℕ → Option Leaf → Option Leaf
of_page page None = None
of_page page (Some leaf) = if leaf.page == page then Some leaf else None

-- the leaf that is kept for this page
abbrev pub kept : List Leaf → ℕ → Option Leaf
kept leaves page = of_page page (latest leaves (page % places))
