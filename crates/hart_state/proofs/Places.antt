-- What the places hold after one more leaf.
use Rattle.std.proofs.Common.{◌≡◌, ℕ, ◌/◌, ◌%◌, ◌^◌, ◌<◌, ◌≤◌, ◌==◌, if◌then◌else◌, List, [], ◌∷◌, ◌++◌, length, replicate, slice_index, slice_set, Option, None, Some, ap, sym, ◌∙◌, inl, inr, arith, eq-eqb, lt-ltb, find}
use Rattle.std.proofs.lemmas.Bool.{cases_eq, ne_eqb}
use Rattle.std.proofs.lemmas.List.{get_or-replicate, get_or-set_same, get_or-set_other, reverse-append}
use Rattle.flex_base.specs.Translation.{latest, places, IsLeaf}
use Rattle.flex_base.specs.declared.translation.Leaf.{Leaf}
use Rattle.hart_state.specs.IsLatest.{IsLatest, leaf_at, leaf_of}
use Rattle.hart_state.specs.declared.kept.Kept.{Kept}

-- the last leaf after one more
latest-push : (leaves : List Leaf) (leaf : Leaf) (place : ℕ)
    → latest (leaves ++ leaf ∷ []) place ≡ (if leaf.page % places == place then Some leaf else latest leaves place)
latest-push leaves leaf place = ap (find (λ (l : Leaf). l.page % places == place)) (reverse-append leaves (leaf ∷ []))

-- a number that no page has
leaf_of-nothing : (page word : ℕ) → page ≡ 4294967295 → leaf_of page word ≡ None
leaf_of-nothing page word e = ap (λ n. leaf_of n word) e

-- a leaf's page and word give it back
leaf_of-leaf : (leaf : Leaf) (word : ℕ) → IsLeaf leaf → word / 256 ≡ leaf.frame → word % 256 ≡ leaf.flags
    → leaf_of leaf.page word ≡ Some leaf
leaf_of-leaf leaf word is frame flags =
    ap (λ b. if b then Some (record { page = leaf.page; frame = word / 256; flags = word % 256 }) else None) (lt-ltb leaf.page (2 ^ 27) is.page)
    ∙ ap (λ n. Some (record { page = leaf.page; frame = n; flags = word % 256 })) frame
    ∙ ap (λ n. Some (record { page = leaf.page; frame = leaf.frame; flags = n })) flags

-- a place after a write at one of them
leaf_of-set : (pages words : List ℕ) (place at : ℕ) (leaf : Leaf) (word : ℕ) (held : Option Leaf) → at < length pages → at < length words
    → leaf_of leaf.page word ≡ Some leaf → leaf_of (slice_index pages place) (slice_index words place) ≡ held
    → leaf_of (slice_index (slice_set pages at leaf.page) place) (slice_index (slice_set words at word) place) ≡ (if at == place then Some leaf else held)
leaf_of-set pages words place at leaf word held first second is before = elim (cases_eq at place) [
  | inl same ↦
      ap (λ i. leaf_of (slice_index (slice_set pages at leaf.page) i) (slice_index (slice_set words at word) i)) (sym same)
      ∙ ap (λ n. leaf_of n (slice_index (slice_set words at word) at)) (get_or-set_same pages at leaf.page 0 first)
      ∙ ap (leaf_of leaf.page) (get_or-set_same words at word 0 second)
      ∙ is
      ∙ sym (ap (λ b. if b then Some leaf else held) (eq-eqb at place same))
  | inr other ↦
      ap (λ n. leaf_of n (slice_index (slice_set words at word) place)) (get_or-set_other pages at place leaf.page 0 (λ e. other (sym e)))
      ∙ ap (leaf_of (slice_index pages place)) (get_or-set_other words at place word 0 (λ e. other (sym e)))
      ∙ before
      ∙ sym (ap (λ b. if b then Some leaf else held) (ne_eqb at place other))
]

pub IsLatest-push : (old new : Kept) (leaf : Leaf) (word : ℕ) (leaves : List Leaf) → 16 ≤ length old.pages → 16 ≤ length old.words → IsLeaf leaf
    → word / 256 ≡ leaf.frame → word % 256 ≡ leaf.flags
    → new.pages ≡ slice_set old.pages (leaf.page % 16) leaf.page → new.words ≡ slice_set old.words (leaf.page % 16) word
    → IsLatest old leaves → IsLatest new (leaves ++ leaf ∷ [])
unfolding IsLatest
IsLatest-push old new leaf word leaves pages words is frame flags first second latest = λ place below.
    ap (λ ps. leaf_of (slice_index ps place) (slice_index new.words place)) first
    ∙ ap (λ ws. leaf_of (slice_index (slice_set old.pages (leaf.page % 16) leaf.page) place) (slice_index ws place)) second
    ∙ leaf_of-set old.pages old.words place (leaf.page % 16) leaf word _ (omega arith) (omega arith) (leaf_of-leaf leaf word is frame flags) (latest place below)
    ∙ sym (latest-push leaves leaf place)

pub IsLatest-nil : (held : Kept) → held.pages ≡ replicate 16 4294967295 → IsLatest held []
unfolding IsLatest
IsLatest-nil held none = λ place below. leaf_of-nothing (slice_index held.pages place) (slice_index held.words place)
    (ap (λ ps. slice_index ps place) none ∙ get_or-replicate 16 place 4294967295 0 below)

pub leaf_at-is : (held : Kept) (leaves : List Leaf) (place : ℕ) → place < 16 → IsLatest held leaves → leaf_at held place ≡ latest leaves place
unfolding IsLatest
leaf_at-is held leaves place below is = is place below
