-- How many reservations stand.
use Rattle.std.proofs.Common.{◌≡◌, ℕ, ◌≤◌, List, [], ◌∷◌, length, get_or, replicate, Option, None, Some, refl, arith, inl, inr}
use Rattle.std.specs.List.{sum_by}
use Rattle.std.proofs.lemmas.Bool.Decides.{leb_tells}
use Rattle.std.proofs.lemmas.List.{get_or_past, get_or-replicate}
use Rattle.std.proofs.lemmas.List.Sums.{sum_by-cons, get_or-le-sum_by}
use Rattle.mem_lines.specs.Bank.{one_where_some}

pub no_place : (hart : ℕ) → get_or (replicate {A = Option ℕ} 32 None) hart None ≡ None
no_place hart = elim (leb_tells 32 hart) [
  | inl beyond ↦ get_or_past (replicate {A = Option ℕ} 32 None) hart None beyond.1
  | inr within ↦ get_or-replicate 32 hart None None within.1
]

one_at_most : (place : Option ℕ) → one_where_some place ≤ 1
one_at_most None = omega arith
one_at_most (Some g) = omega arith

pub few_stand : (places : List (Option ℕ)) → sum_by one_where_some places ≤ length places
few_stand [] = omega arith
few_stand (place ∷ places) = omega (arith, sum_by-cons one_where_some place places, one_at_most place, few_stand places)

none_of : (place : Option ℕ) → one_where_some place ≤ 0 → place ≡ None
none_of None least = refl
none_of (Some g) least = absurd (omega (arith, least))

-- where none stands, no hart has one
pub none_stands : (places : List (Option ℕ)) (h : ℕ) → sum_by one_where_some places ≡ 0 → get_or places h None ≡ None
none_stands places h none = elim (leb_tells (length places) h) [
  | inl beyond ↦ get_or_past places h None beyond.1
  | inr within ↦ none_of (get_or places h None) (omega (arith, get_or-le-sum_by one_where_some places h None within.1, none))
]
