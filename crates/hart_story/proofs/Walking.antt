-- A walk in the story, by where the walk in the code is.
use Rattle.std.proofs.Common.{◌≡◌, ℕ, ◌-◌, ◌<◌, zero, suc, Bool, true, false, if◌then◌else◌, List, [], ◌∷◌, Option, None, refl, ap, sym, subst, ◌∙◌, arith, slice_index}
use Rattle.std.proofs.Math.Path.{fun_ext}
use Rattle.flex_base.specs.Place.{in_ram}
use Rattle.flex_base.specs.Csrs.{satp}
use Rattle.flex_base.specs.Forms.{IsAlignedRam}
use Rattle.flex_base.specs.State.{State}
use Rattle.flex_base.specs.Causes.{access_fault}
use Rattle.flex_base.specs.StoryTree.{Story, Says, after_one}
use Rattle.flex_base.specs.Ends.{traps}
use Rattle.flex_base.specs.Translation.{is_canonical, page_of, walk, kept}
use Rattle.flex_base.specs.Translating.{is_translated, with_leaf, page_faults, reads_entry, uses, arrives, walks, looks_up, translates}
use Rattle.flex_base.specs.declared.access.Access.TheVariants as acc
use Rattle.flex_base.specs.declared.access.Reply.{Reply}
use Rattle.flex_base.specs.declared.translation.Kind.{Kind}
use Rattle.flex_base.specs.declared.translation.Leaf.{Leaf}
use Rattle.flex_base.specs.declared.translation.WalkStep.{WalkStep}
use Rattle.flex_base.specs.declared.translation.WalkStep.TheVariants as step
use Rattle.sv39.specs.IsAfter.{ahead, ahead_by, left_by, entries_left}
use Rattle.sv39.specs.declared.walk.Stage.{Stage}
use Rattle.sv39.specs.declared.walk.Stage.TheVariants as stage
use Rattle.sv39.specs.declared.walk.Walk.{Walk}
use Rattle.hart_story.specs.Stage.{IsRead, IsReading}

module _ (ram : ℕ) (a : State) (k : Kind) (va : ℕ) (next : State → ℕ → Story) where
  pub walks_leaf : (left : ℕ) (forth : List ℕ → WalkStep) (leaf : Leaf) → forth [] ≡ step.Leaf leaf
      → walks ram a k va next left forth ≡ uses ram a k va next (with_leaf a leaf) leaf
  unfolding walks
  walks_leaf zero forth leaf e = ap (λ s. arrives ram a k va next s (λ address. page_faults a k va)) e
  walks_leaf (suc left) forth leaf e = ap (λ s. arrives ram a k va next s
      (reads_entry ram a k va (λ reply. walks ram a k va next left (λ entries. forth (reply.value ∷ entries))))) e

  pub walks_fault : (left : ℕ) (forth : List ℕ → WalkStep) → forth [] ≡ step.Fault
      → walks ram a k va next left forth ≡ page_faults a k va
  unfolding walks
  walks_fault zero forth e = ap (λ s. arrives ram a k va next s (λ address. page_faults a k va)) e
  walks_fault (suc left) forth e = ap (λ s. arrives ram a k va next s
      (reads_entry ram a k va (λ reply. walks ram a k va next left (λ entries. forth (reply.value ∷ entries))))) e

  -- where so many entries are left and one is needed
  walks_need : (left : ℕ) (forth : List ℕ → WalkStep) (address : ℕ) → forth [] ≡ step.Need address
      → walks ram a k va next (suc left) forth
      ≡ reads_entry ram a k va (λ reply. walks ram a k va next left (λ entries. forth (reply.value ∷ entries))) address
  unfolding walks
  walks_need left forth address e = ap (λ s. arrives ram a k va next s
      (reads_entry ram a k va (λ reply. walks ram a k va next left (λ entries. forth (reply.value ∷ entries))))) e

  reads : (n left : ℕ) (forth : List ℕ → WalkStep) (address : ℕ) → n ≡ suc left → forth [] ≡ step.Need address
      → walks ram a k va next n forth
      ≡ reads_entry ram a k va (λ reply. walks ram a k va next left (λ entries. forth (reply.value ∷ entries))) address
  reads n left forth address many e = ap (λ m. walks ram a k va next m forth) many ∙ walks_need left forth address e

  reads_by : (b : Bool) (address : ℕ) (onward : Reply → Story) → in_ram ram address 8 ≡ b
      → reads_entry ram a k va onward address ≡ (if b then Says (acc.Pte address) onward else traps a (access_fault k) va)
  reads_by b address onward e = ap (λ c. if c then Says (acc.Pte address) onward else traps a (access_fault k) va) e

  one_less : (n : ℕ) → 0 < n → n ≡ suc (n - 1)
  one_less n pos = omega (arith, pos)

  -- an entry outside RAM
  pub walks_outside : (n : ℕ) (forth : List ℕ → WalkStep) (address : ℕ) → 0 < n → forth [] ≡ step.Need address
      → in_ram ram address 8 ≡ false → walks ram a k va next n forth ≡ traps a (access_fault k) va
  walks_outside n forth address pos e outside =
      reads n (n - 1) forth address (one_less n pos) e
      ∙ reads_by false address (λ reply. walks ram a k va next (n - 1) (λ entries. forth (reply.value ∷ entries))) outside

  -- a walk that needs an entry of RAM asks for it
  pub walks_asks : (n : ℕ) (forth : List ℕ → WalkStep) (address : ℕ) → 0 < n → forth [] ≡ step.Need address
      → in_ram ram address 8 ≡ true → walks ram a k va next n forth
      ≡ Says (acc.Pte address) (λ reply. walks ram a k va next (n - 1) (λ entries. forth (reply.value ∷ entries)))
  walks_asks n forth address pos e inside =
      reads n (n - 1) forth address (one_less n pos) e
      ∙ reads_by true address (λ reply. walks ram a k va next (n - 1) (λ entries. forth (reply.value ∷ entries))) inside

  -- and goes on by the reply with the walk that has it
  pub walks_on : (n : ℕ) (forth after : List ℕ → WalkStep) (address : ℕ) (reply : Reply) → 0 < n → forth [] ≡ step.Need address
      → in_ram ram address 8 ≡ true → ((rest : List ℕ) → after rest ≡ forth (reply.value ∷ rest))
      → after_one (walks ram a k va next n forth) reply ≡ walks ram a k va next (n - 1) after
  walks_on n forth after address reply pos e inside given =
      ap (λ s. after_one s reply) (walks_asks n forth address pos e inside)
      ∙ ap (walks ram a k va next (n - 1)) (fun_ext (λ rest. sym (given rest)))

  -- Where a translation begins.

  pub translates_not : is_translated a k ≡ false → translates ram a k va next ≡ next a va
  unfolding translates
  translates_not e = ap (λ b. if b then (if is_canonical va then looks_up ram a k va next (kept a.leaves (page_of va)) else page_faults a k va) else next a va) e

  translates_if : is_translated a k ≡ true
      → translates ram a k va next ≡ (if is_canonical va then looks_up ram a k va next (kept a.leaves (page_of va)) else page_faults a k va)
  unfolding translates
  translates_if e = ap (λ b. if b then (if is_canonical va then looks_up ram a k va next (kept a.leaves (page_of va)) else page_faults a k va) else next a va) e

  pub translates_outside : is_translated a k ≡ true → is_canonical va ≡ false → translates ram a k va next ≡ page_faults a k va
  translates_outside e outside =
      translates_if e ∙ ap (λ b. if b then looks_up ram a k va next (kept a.leaves (page_of va)) else page_faults a k va) outside

  pub translates_looks : (held : Option Leaf) → is_translated a k ≡ true → is_canonical va ≡ true → held ≡ kept a.leaves (page_of va)
      → translates ram a k va next ≡ looks_up ram a k va next held
  translates_looks held e inside is =
      translates_if e ∙ ap (λ b. if b then looks_up ram a k va next (kept a.leaves (page_of va)) else page_faults a k va) inside
      ∙ ap (looks_up ram a k va next) (sym is)

  -- a walk from its beginning
  pub walks_from_start : (w : Walk) → ((rest : List ℕ) → ahead w rest ≡ walk (slice_index a.csrs satp) va rest)
      → looks_up ram a k va next None ≡ walks ram a k va next 3 (ahead w)
  walks_from_start w is = ap (walks ram a k va next 3) (fun_ext (λ rest. sym (is rest)))

-- what a walk that reads needs
pub record Needs (ram : ℕ) (w : Walk) : Type 0 where
  pub address : ℕ
  pub need : ahead w [] ≡ step.Need address
  pub lies : IsAlignedRam ram address 8

needs_by : (ram : ℕ) (w : Walk) (s : WalkStep) → ahead w [] ≡ s → IsRead ram s → Needs ram w
needs_by ram w (step.Need address) e is = record { address = address; need = e; lies = is }
needs_by ram w (step.Leaf leaf) e is = absurd is
needs_by ram w step.Fault e is = absurd is

pub needs : (ram : ℕ) (w : Walk) → IsReading ram w → Needs ram w
needs ram w is = needs_by ram w (ahead w []) refl is

pub is_reading : (ram : ℕ) (w : Walk) (address : ℕ) → ahead w [] ≡ step.Need address → IsAlignedRam ram address 8 → IsReading ram w
is_reading ram w address e lies = let Read : WalkStep → Type 0 = λ s. IsRead ram s in subst Read (sym e) lies

-- a walk that needs an entry has one left
some_by : (s : Stage) (va at address : ℕ) → ahead_by s va at [] ≡ step.Need address → 0 < left_by s
some_by (stage.Reads l) va at address e = omega arith
some_by (stage.Found l) va at address e = absurd cc
some_by stage.Faults va at address e = absurd cc

pub some_left : (w : Walk) (address : ℕ) → ahead w [] ≡ step.Need address → 0 < entries_left w
some_left w address e = some_by w.stage w.va w.at address e

-- what one step is it isn't another
pub need_is : (address other : ℕ) → step.Need address ≡ step.Need other → address ≡ other
need_is address other e = cc

pub walk_starts : (satp va : ℕ) (leaf : Leaf) → walk satp va [] ≡ step.Leaf leaf → ⊥
walk_starts satp va leaf e = starts_by (is_canonical va) _ leaf e
  where
    starts_by : (b : Bool) (address : ℕ) (leaf : Leaf) → (if b then step.Need address else step.Fault) ≡ step.Leaf leaf → ⊥
    starts_by true address leaf f = cc
    starts_by false address leaf f = cc
