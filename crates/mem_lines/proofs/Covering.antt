-- Whether an address is among those from one address up.
use Rattle.std.proofs.Common.{◌≡◌, ℕ, suc, ◌+◌, ◌<◌, ◌≤◌, ◌⊎◌, true, false, refl, arith, inl, inr}
use Rattle.std.proofs.lemmas.Bool.Decides.{leb_tells}
use Rattle.flex_base.specs.FlatMemory.{covers}

-- whether an address is among so many
pub cases_covers : (address width a : ℕ) → ((covers address width a ≡ true) × ((address ≤ a) × (a < address + width))) ⊎ ((covers address width a ≡ false) × (((address ≤ a) × (a < address + width)) → ⊥))
cases_covers address width a = elim (leb_tells address a) [
  | inl low ↦ elim (leb_tells (suc a) (address + width)) [
    | inl high ↦ inl (rw (low.0, high.0) refl, (low.1, omega (arith, high.1)))
    | inr high ↦ inr (rw (low.0, high.0) refl, λ both. omega (arith, high.1, both.1))
  ]
  | inr low ↦ inr (rw low.0 refl, λ both. omega (arith, low.1, both.0))
]

pub covers_at : (address width a : ℕ) → address ≤ a → a < address + width → covers address width a ≡ true
covers_at address width a above below = elim (cases_covers address width a) [
  | inl here ↦ here.0
  | inr away ↦ absurd (away.1 (above, below))
]

pub covers_no : (address width a : ℕ) → (((address ≤ a) × (a < address + width)) → ⊥) → covers address width a ≡ false
covers_no address width a away = elim (cases_covers address width a) [
  | inl here ↦ absurd (away here.1)
  | inr other ↦ other.0
]
