-- Facts of the table of registers: the rows of pmpaddr0 to 15, whose numbers the code has as a range, and facts of each row.
use Rattle.std.proofs.Common.{ℕ, zero, suc, ◌+◌, ◌-◌, ◌<◌, ◌≤◌, ◌≡◌, Some, refl, arith, subst}
use Rattle.flex_base.specs.Csrs.{rows, row_of, constant}
use Rattle.csr_traps.specs.Laws.{StoreBitsAreWritten}

pmpaddr_by : (k : ℕ) → k < 16 → row_of (0x3b0 + k) ≡ Some (constant (0x3b0 + k) 0)
unfolding row_of rows
pmpaddr_by zero less = refl
pmpaddr_by (suc zero) less = refl
pmpaddr_by (suc (suc zero)) less = refl
pmpaddr_by (suc (suc (suc zero))) less = refl
pmpaddr_by (suc (suc (suc (suc zero)))) less = refl
pmpaddr_by (suc (suc (suc (suc (suc zero))))) less = refl
pmpaddr_by (suc (suc (suc (suc (suc (suc zero)))))) less = refl
pmpaddr_by (suc (suc (suc (suc (suc (suc (suc zero))))))) less = refl
pmpaddr_by (suc (suc (suc (suc (suc (suc (suc (suc zero)))))))) less = refl
pmpaddr_by (suc (suc (suc (suc (suc (suc (suc (suc (suc zero))))))))) less = refl
pmpaddr_by (suc (suc (suc (suc (suc (suc (suc (suc (suc (suc zero)))))))))) less = refl
pmpaddr_by (suc (suc (suc (suc (suc (suc (suc (suc (suc (suc (suc zero))))))))))) less = refl
pmpaddr_by (suc (suc (suc (suc (suc (suc (suc (suc (suc (suc (suc (suc zero)))))))))))) less = refl
pmpaddr_by (suc (suc (suc (suc (suc (suc (suc (suc (suc (suc (suc (suc (suc zero))))))))))))) less = refl
pmpaddr_by (suc (suc (suc (suc (suc (suc (suc (suc (suc (suc (suc (suc (suc (suc zero)))))))))))))) less = refl
pmpaddr_by (suc (suc (suc (suc (suc (suc (suc (suc (suc (suc (suc (suc (suc (suc (suc zero))))))))))))))) less = refl
pmpaddr_by (suc (suc (suc (suc (suc (suc (suc (suc (suc (suc (suc (suc (suc (suc (suc (suc k)))))))))))))))) less = absurd (omega (arith, less))

pub pmpaddr_row : (n : ℕ) → 0x3b0 ≤ n → n ≤ 0x3bf → row_of n ≡ Some (constant n 0)
pmpaddr_row n from to =
    let is : 0x3b0 + (n - 0x3b0) ≡ n = omega (arith, from) in
    let Is : ℕ → Type 0 = λ m. row_of m ≡ Some (constant m 0) in
    subst Is is (pmpaddr_by (n - 0x3b0) (omega (arith, from, to)))

-- what holds of a row and of each after it, for a list of them
infixr 30 ◌▸◌
pub ◌▸◌ : {A B : Type 0} → A → B → A × B
first ▸ rest = (first, rest)

pub store_bits_are_written : StoreBitsAreWritten
unfolding StoreBitsAreWritten rows
store_bits_are_written = refl
