-- A virtual address in the story of an instruction (Volume II, "Virtual Address Translation Process").
use Rattle.std.specs.Prelude.{ℕ, zero, suc, Bool, ◌&&◌, ◌||◌, ◌==◌, if◌then◌else◌, List, [], ◌∷◌, ◌++◌, Option, None, Some, slice_index}
use Rattle.flex_base.specs.Word.{field, is_set}
use Rattle.flex_base.specs.Place.{in_ram}
use Rattle.flex_base.specs.Causes.{page_fault, access_fault}
use Rattle.flex_base.specs.Csrs.{mstatus, satp, MPP, MPRV, SUM, MXR}
use Rattle.flex_base.specs.Traps.{mode_of}
use Rattle.flex_base.specs.State.{State}
use Rattle.flex_base.specs.Translation.{is_canonical, is_mode_u, is_mode_s, page_of, walk, permitted, address_in, kept}
use Rattle.flex_base.specs.StoryTree.{Story, Says}
use Rattle.flex_base.specs.Ends.{traps}
use Rattle.flex_base.specs.declared.access.Access.TheVariants as acc
use Rattle.flex_base.specs.declared.access.Reply.{Reply}
use Rattle.flex_base.specs.declared.hart.Mode.{Mode}
use Rattle.flex_base.specs.declared.hart.Mode.TheVariants as mode
use Rattle.flex_base.specs.declared.translation.Kind.{Kind}
use Rattle.flex_base.specs.declared.translation.Kind.TheVariants as kind
use Rattle.flex_base.specs.declared.translation.Leaf.{Leaf}
use Rattle.flex_base.specs.declared.translation.WalkStep.{WalkStep}
use Rattle.flex_base.specs.declared.translation.WalkStep.TheVariants as step

-- Who is translated (Volume II, "Memory Privilege in mstatus Register" and "Supervisor Address Translation and Protection
-- (satp) Register").

-- with MPRV set M loads and stores as in the mode that stands in MPP
abbrev pub mode_by_mprv : Mode → ℕ → Mode
mode_by_mprv mode.M status = if is_set MPRV status then mode_of (field MPP 2 status) else mode.M
mode_by_mprv lower status = lower

-- the mode in which an access is made
abbrev pub mode_for : State → Kind → Mode
mode_for a kind.Fetch = a.mode
mode_for a other = mode_by_mprv a.mode (slice_index a.csrs mstatus)

-- MODE of satp is Sv39
abbrev pub has_sv39 : ℕ → Bool
has_sv39 satp = field 60 4 satp == 8

-- an access in S or U is translated
abbrev pub is_translated : State → Kind → Bool
is_translated a kind = (is_mode_s (mode_for a kind) || is_mode_u (mode_for a kind)) && has_sv39 (slice_index a.csrs satp)

-- an access may use a leaf
abbrev pub may_use : State → Kind → Leaf → Bool
may_use a kind leaf =
    permitted leaf kind (mode_for a kind) (is_set SUM (slice_index a.csrs mstatus)) (is_set MXR (slice_index a.csrs mstatus))

-- a leaf more is kept
abbrev pub with_leaf : State → Leaf → State
with_leaf a leaf = record a { leaves = a.leaves ++ leaf ∷ [] }

-- a page fault of the access that is translated
abbrev pub page_faults : State → Kind → ℕ → Story
page_faults a kind va = traps a (page_fault kind) va

-- a walk reads the entry at this address; outside RAM that is an access fault of the access that is translated
abbrev pub reads_entry : ℕ → State → Kind → ℕ → (Reply → Story) → ℕ → Story
reads_entry ram a kind va onward address =
    if in_ram ram address 8 then Says (acc.Pte address) onward else traps a (access_fault kind) va

-- What a translation comes to: some reads of page table entries, and then what follows by the state and the physical address,
-- or an exception of this kind of access.
module _ (ram : ℕ) (a : State) (kind : Kind) (va : ℕ) (next : State → ℕ → Story) where
  -- a leaf that stands in this state; what it permits is tested at each use, and a leaf that doesn't permit the access isn't
  -- kept for it
  abbrev pub uses : State → Leaf → Story
  uses with_it leaf = if may_use a kind leaf then next with_it (address_in leaf va) else page_faults a kind va

  -- a leaf that a walk finds is kept from then on; the walk goes on by an entry at this address
  abbrev pub arrives : WalkStep → (ℕ → Story) → Story
  arrives (step.Need address) reads = reads address
  arrives (step.Leaf leaf) reads = uses (with_leaf a leaf) leaf
  arrives step.Fault reads = page_faults a kind va

  -- a walk, by where the entries that are still to be read lead; three are enough, so no fourth is asked
  unfoldable pub walks : ℕ → (List ℕ → WalkStep) → Story
  walks zero ahead = arrives (ahead []) (λ address. page_faults a kind va)
  walks (suc left) ahead =
      arrives (ahead []) (reads_entry ram a kind va (λ reply. walks left (λ entries. ahead (reply.value ∷ entries))))

  -- what is kept for the page is used, and else there is a walk
  abbrev pub looks_up : Option Leaf → Story
  looks_up (Some leaf) = uses a leaf
  looks_up None = walks 3 (walk (slice_index a.csrs satp) va)

  unfoldable pub translates : Story
  translates =
      if is_translated a kind
      then (if is_canonical va then looks_up (kept a.leaves (page_of va)) else page_faults a kind va)
      else next a va
