-- Masks of 64 bits.
use Rattle.std.proofs.Common.{ℕ, ◌+◌, ◌-◌, ◌*◌, ◌/◌, ◌%◌, ◌^◌, ◌<◌, ◌≡◌, refl, ap, ◌∙◌, arith, subst, ◌≤◌, bit_and, bit_or}
use Rattle.std.proofs.Math.Path.{sym}
use Rattle.std.proofs.lemmas.Nat.{and_mask, and_comm, or_shifted, shl_below, pow-add, mod_below, pow_pos, pow_below, shr_split, one_shl}
use Rattle.std.proofs.Math.Nat.{mod-eq_of_lt}
use Rattle.flex_base.specs.Csrs.{all_bits, with_bits}
use Rattle.flex_base.specs.Traps.{with_field}

pub and_all : (n : ℕ) → n < 2 ^ 64 → bit_and n all_bits ≡ n
and_all n small = and_mask n 64 ∙ omega (arith, small)

pub and_nothing : (n : ℕ) → bit_and n 0 ≡ 0
and_nothing n = and_comm n 0 ∙ refl

-- a register that is written whole
pub with_bits_all : (old value : ℕ) → value < 2 ^ 64 → with_bits old all_bits value ≡ value
with_bits_all old value small = ap (λ x. bit_or x (bit_and value all_bits)) (and_nothing old) ∙ and_all value small

-- a field of a word written anew, from the part above it, the value and the part below it
pub with_field-or : (w at bits value : ℕ) → w < 2 ^ 64 → at + bits ≤ 63 → value < 2 ^ bits →
    bit_or (bit_or (w / 2 ^ (at + bits) * 2 ^ (at + bits)) (value * 2 ^ at)) (w % 2 ^ at) ≡ with_field at bits value w
with_field-or w at bits value small room less =
    let high = w / 2 ^ (at + bits) in
    let part : value * 2 ^ at < 2 ^ (at + bits) = subst (λ (k : ℕ). value * 2 ^ at < 2 ^ k) (omega arith) (shl_below value bits at less) in
    let first : bit_or (high * 2 ^ (at + bits)) (value * 2 ^ at) ≡ high * 2 ^ (at + bits) + value * 2 ^ at = or_shifted high (at + bits) (value * 2 ^ at) part in
    let split : high * 2 ^ (at + bits) + value * 2 ^ at ≡ (high * 2 ^ bits + value) * 2 ^ at = grind (arith, pow-add 2 at bits) in
    let low : w % 2 ^ at < 2 ^ at = mod_below w (2 ^ at) (pow_pos at) in
    ap (λ x. bit_or x (w % 2 ^ at)) (first ∙ split) ∙ or_shifted (high * 2 ^ bits + value) at (w % 2 ^ at) low ∙ ap (λ x. x + w % 2 ^ at) (sym split)

-- the same as the code has it, by shifts of 64 bits
pub with_field-shifts : (w at bits value : ℕ) → w < 2 ^ 64 → at + bits ≤ 63 → value < 2 ^ bits →
    bit_or (bit_or (w / 2 ^ (at + bits) * 2 ^ (at + bits) % 2 ^ 64) (value * 2 ^ at % 2 ^ 64)) (bit_and w (1 * 2 ^ at % 2 ^ 64 - 1)) ≡ with_field at bits value w
with_field-shifts w at bits value small room less =
    let part : value * 2 ^ at < 2 ^ (at + bits) = subst (λ (k : ℕ). value * 2 ^ at < 2 ^ k) (omega arith) (shl_below value bits at less) in
    let below : 2 ^ (at + bits) < 2 ^ 64 = pow_below (at + bits) 64 (omega (arith, room)) in
    let high : w / 2 ^ (at + bits) * 2 ^ (at + bits) % 2 ^ 64 ≡ w / 2 ^ (at + bits) * 2 ^ (at + bits) = mod-eq_of_lt (omega (arith, small, shr_split w (at + bits))) in
    let middle : value * 2 ^ at % 2 ^ 64 ≡ value * 2 ^ at = mod-eq_of_lt (omega (arith, part, below)) in
    let one : 1 * 2 ^ at % 2 ^ 64 ≡ 2 ^ at = one_shl at 64 (omega (arith, room)) in
    let low : bit_and w (1 * 2 ^ at % 2 ^ 64 - 1) ≡ w % 2 ^ at = ap (λ x. bit_and w (x - 1)) one ∙ and_mask w at in
    ap (λ x. bit_or (bit_or x (value * 2 ^ at % 2 ^ 64)) (bit_and w (1 * 2 ^ at % 2 ^ 64 - 1))) high
    ∙ ap (λ x. bit_or (bit_or (w / 2 ^ (at + bits) * 2 ^ (at + bits)) x) (bit_and w (1 * 2 ^ at % 2 ^ 64 - 1))) middle
    ∙ ap (λ x. bit_or (bit_or (w / 2 ^ (at + bits) * 2 ^ (at + bits)) (value * 2 ^ at)) x) low
    ∙ with_field-or w at bits value small room less
