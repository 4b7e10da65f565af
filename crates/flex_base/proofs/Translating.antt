-- What holds of all that a translation leads to holds of the translation.
use Rattle.std.proofs.Common.{ℕ, zero, suc, Bool, true, false, if◌then◌else◌, List, ◌∷◌, ◌++◌, [], Option, None, Some, slice_index}
use Rattle.flex_base.specs.Place.{in_ram}
use Rattle.flex_base.specs.Causes.{page_fault, access_fault}
use Rattle.flex_base.specs.Csrs.{satp}
use Rattle.flex_base.specs.State.{State}
use Rattle.flex_base.specs.Translation.{is_canonical, page_of, walk, address_in, kept}
use Rattle.flex_base.specs.StoryTree.{Story, Says}
use Rattle.flex_base.specs.Ends.{traps}
use Rattle.flex_base.specs.Translating.{is_translated, may_use, with_leaf, page_faults, reads_entry, uses, arrives, walks, looks_up, translates}
use Rattle.flex_base.specs.declared.access.Access.TheVariants as acc
use Rattle.flex_base.specs.declared.access.Reply.{Reply}
use Rattle.flex_base.specs.declared.translation.Kind.{Kind}
use Rattle.flex_base.specs.declared.translation.Leaf.{Leaf}
use Rattle.flex_base.specs.declared.translation.WalkStep.{WalkStep}
use Rattle.flex_base.specs.declared.translation.WalkStep.TheVariants as step

-- so many more
abbrev pub more : ℕ → ℕ → ℕ
more zero n = n
more (suc k) n = suc (more k n)

-- a property of stories, by how many events they may still make, that passes through the reads of a walk and holds of traps
pub record PassesWalks (a : State) (va : ℕ) (P : ℕ → Story → Type 0) : Type 0 where
  pub more : (n : ℕ) (s : Story) → P n s → P (suc n) s
  pub reads : (n address : ℕ) (onward : Reply → Story) → ((reply : Reply) → P n (onward reply))
      → P (suc n) (Says (acc.Pte address) onward)
  pub faults : (n cause : ℕ) → P (suc n) (traps a cause va)

module _ (ram : ℕ) (a : State) (kind : Kind) (va : ℕ) (next : State → ℕ → Story) (P : ℕ → Story → Type 0)
    (passes : PassesWalks a va P) (n : ℕ) (then_ : (leaves : List Leaf) (address : ℕ) → P (suc n) (next (record a { leaves = leaves }) address)) where
  either_has : (m : ℕ) (b : Bool) (s t : Story) → P m s → P m t → P m (if b then s else t)
  either_has m true s t first second = first
  either_has m false s t first second = second

  -- so many events more
  more_has : (k : ℕ) (s : Story) → P (suc n) s → P (more k (suc n)) s
  more_has zero s has = has
  more_has (suc k) s has = passes.more (more k (suc n)) s (more_has k s has)

  uses_has : (leaves : List Leaf) (leaf : Leaf) → P (suc n) (uses ram a kind va next (record a { leaves = leaves }) leaf)
  uses_has leaves leaf = either_has (suc n) (may_use a kind leaf) (next (record a { leaves = leaves }) (address_in leaf va)) (page_faults a kind va)
      (then_ leaves (address_in leaf va)) (passes.faults n (page_fault kind))

  arrives_has : (k : ℕ) (s : WalkStep) (reads : ℕ → Story) → ((address : ℕ) → P (more k (suc n)) (reads address))
      → P (more k (suc n)) (arrives ram a kind va next s reads)
  arrives_has k (step.Need address) reads has = has address
  arrives_has k (step.Leaf leaf) reads has = more_has k (uses ram a kind va next (with_leaf a leaf) leaf) (uses_has (a.leaves ++ leaf ∷ []) leaf)
  arrives_has k step.Fault reads has = more_has k (page_faults a kind va) (passes.faults n (page_fault kind))

  walks_has : (left : ℕ) (ahead : List ℕ → WalkStep) → P (more left (suc n)) (walks ram a kind va next left ahead)
  unfolding walks
  walks_has zero ahead = arrives_has zero (ahead []) (λ address. page_faults a kind va) (λ address. passes.faults n (page_fault kind))
  walks_has (suc left) ahead =
      let onward : Reply → Story = λ reply. walks ram a kind va next left (λ entries. ahead (reply.value ∷ entries)) in
      arrives_has (suc left) (ahead []) (reads_entry ram a kind va onward) (λ address.
      either_has (more (suc left) (suc n)) (in_ram ram address 8) (Says (acc.Pte address) onward) (traps a (access_fault kind) va)
      (passes.reads (more left (suc n)) address onward (λ reply. walks_has left (λ entries. ahead (reply.value ∷ entries))))
      (more_has (suc left) (traps a (access_fault kind) va) (passes.faults n (access_fault kind))))

  looks_up_has : (held : Option Leaf) → P (more 3 (suc n)) (looks_up ram a kind va next held)
  looks_up_has (Some leaf) = more_has 3 (uses ram a kind va next a leaf) (uses_has a.leaves leaf)
  looks_up_has None = walks_has 3 (walk (slice_index a.csrs satp) va)

  -- a translation makes at most three accesses before what follows
  pub translates_has : P (more 3 (suc n)) (translates ram a kind va next)
  unfolding translates
  translates_has =
      either_has (more 3 (suc n)) (is_translated a kind) _ (next a va)
      (either_has (more 3 (suc n)) (is_canonical va) (looks_up ram a kind va next (kept a.leaves (page_of va))) (page_faults a kind va)
      (looks_up_has (kept a.leaves (page_of va))) (more_has 3 (page_faults a kind va) (passes.faults n (page_fault kind))))
      (more_has 3 (next a va) (then_ a.leaves va))
