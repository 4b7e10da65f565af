-- Where walks end, and what is kept of them.
use Rattle.std.proofs.Common.{◌≡◌, ℕ, Bool, true, false, ◌==◌, ◌%◌, if◌then◌else◌, List, [], ◌∷◌, ◌++◌, length, find, Option, None, Some, refl, sym, subst, arith}
use Rattle.std.specs.Prelude.{reverse}
use Rattle.std.specs.List.{list_any}
use Rattle.std.proofs.lemmas.List.{reverse-append}
use Rattle.flex_base.specs.Translation.{is_canonical, is_leaf, frame_of, faults, leaf_at, follows, walk_from, walk, root_of, IsLeaf, IfLeaf, AreLeaves, latest, places, of_page, kept}
use Rattle.flex_base.specs.declared.translation.Leaf.{Leaf}
use Rattle.flex_base.specs.declared.translation.WalkStep.{WalkStep}
use Rattle.flex_base.specs.declared.translation.WalkStep.TheVariants as step

-- Three entries are enough.

abbrev pub IsEnded : WalkStep → Type 0
IsEnded (step.Need address) = ⊥
IsEnded (step.Leaf leaf) = Unit {0}
IsEnded step.Fault = Unit {0}

ended_by : (b : Bool) (s t : WalkStep) → IsEnded s → IsEnded t → IsEnded (if b then s else t)
ended_by true s t first second = first
ended_by false s t first second = second

follows_ends : (level va entry : ℕ) (onward : ℕ → WalkStep) → ((table : ℕ) → IsEnded (onward table))
    → IsEnded (follows level va entry onward)
follows_ends level va entry onward ends =
    ended_by (list_any (λ (b : Bool). b) (faults level entry)) step.Fault _ tt
    (ended_by (is_leaf entry) (step.Leaf (leaf_at level va entry)) (onward (frame_of entry)) tt (ends (frame_of entry)))

-- an entry of the last level names no table
last_faults : (leaf : Bool) (entry : ℕ) → is_leaf entry ≡ leaf → leaf ≡ false → list_any (λ (b : Bool). b) (faults 0 entry) ≡ true
last_faults leaf entry is none = grind (arith, is, none)

last_by : (leaf : Bool) (va entry : ℕ) (onward : ℕ → WalkStep) → is_leaf entry ≡ leaf
    → IsEnded (if list_any (λ (b : Bool). b) (faults 0 entry) then step.Fault else (if leaf then step.Leaf (leaf_at 0 va entry) else onward (frame_of entry)))
last_by true va entry onward is = ended_by (list_any (λ (b : Bool). b) (faults 0 entry)) step.Fault _ tt tt
last_by false va entry onward is =
    let By : Bool → Type 0 = λ b. IsEnded (if b then step.Fault else onward (frame_of entry)) in
    subst By (sym (last_faults false entry is refl)) tt

follows_last : (va entry : ℕ) (onward : ℕ → WalkStep) → IsEnded (follows 0 va entry onward)
follows_last va entry onward = last_by (is_leaf entry) va entry onward refl

three_end : (satp va e1 e2 e3 : ℕ) (rest : List ℕ) → IsEnded (walk satp va (e1 ∷ e2 ∷ e3 ∷ rest))
three_end satp va e1 e2 e3 rest =
    ended_by (is_canonical va) (walk_from 2 (root_of satp) va (e1 ∷ e2 ∷ e3 ∷ rest)) step.Fault
    (follows_ends 2 va e1 (λ one. walk_from 1 one va (e2 ∷ e3 ∷ rest)) (λ one.
    follows_ends 1 va e2 (λ two. walk_from 0 two va (e3 ∷ rest)) (λ two.
    follows_last va e3 (λ three. walk_from 0 three va rest)))) tt

-- so a walk asks for no fourth
pub walk_ends : (satp va : ℕ) (entries : List ℕ) → length entries ≡ 3 → IsEnded (walk satp va entries)
walk_ends satp va [] long = absurd (omega (arith, long))
walk_ends satp va (e1 ∷ []) long = absurd (omega (arith, long))
walk_ends satp va (e1 ∷ e2 ∷ []) long = absurd (omega (arith, long))
walk_ends satp va (e1 ∷ e2 ∷ e3 ∷ rest) long = three_end satp va e1 e2 e3 rest

-- What is kept is one of the leaves.

pub leaves_push : (leaves : List Leaf) (leaf : Leaf) → AreLeaves leaves → IsLeaf leaf → AreLeaves (leaves ++ leaf ∷ [])
leaves_push [] leaf are is = (is, tt)
leaves_push (first ∷ leaves) leaf are is = (are.0, leaves_push leaves leaf are.1 is)

leaves_reverse : (leaves : List Leaf) → AreLeaves leaves → AreLeaves (reverse leaves)
leaves_reverse [] are = are
leaves_reverse (first ∷ leaves) are =
    let Are : List Leaf → Type 0 = λ ls. AreLeaves ls in
    subst Are (sym (reverse-append (first ∷ []) leaves)) (leaves_push (reverse leaves) first (leaves_reverse leaves are.1) are.0)

found_by : (b : Bool) (leaf : Leaf) (other : Option Leaf) → IsLeaf leaf → IfLeaf other → IfLeaf (if b then Some leaf else other)
found_by true leaf other is if_is = is
found_by false leaf other is if_is = if_is

found_leaf : (p : Leaf → Bool) (leaves : List Leaf) → AreLeaves leaves → IfLeaf (find p leaves)
found_leaf p [] are = tt
found_leaf p (first ∷ leaves) are = found_by (p first) first (find p leaves) are.0 (found_leaf p leaves are.1)

of_page_leaf : (page : ℕ) (held : Option Leaf) → IfLeaf held → IfLeaf (of_page page held)
of_page_leaf page None is = tt
of_page_leaf page (Some leaf) is = found_by (leaf.page == page) leaf None is tt

pub kept_leaf : (leaves : List Leaf) (page : ℕ) → AreLeaves leaves → IfLeaf (kept leaves page)
kept_leaf leaves page are = of_page_leaf page (latest leaves (page % places))
    (found_leaf (λ (leaf : Leaf). leaf.page % places == page % places) (reverse leaves) (leaves_reverse leaves are))
