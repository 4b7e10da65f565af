-- Words within some bits, and their fields.
use Rattle.std.proofs.Common.{ℕ, zero, suc, ◌+◌, ◌-◌, ◌*◌, ◌/◌, ◌%◌, ◌^◌, ◌<◌, ◌≤◌, ◌≡◌, refl, ap, ◌∙◌, arith, subst, bit_and, bit_or, min, max}
use Rattle.std.proofs.Math.Path.{sym}
use Rattle.std.proofs.Math.Nat.{mod-eq_of_lt}
use Rattle.std.proofs.lemmas.Nat.{and_comm, and_assoc, and_le_r, and_mask, or_comm, and_shr, and_mod, or_shr, or_mod, mod_below, pow_pos}
use Rattle.std.proofs.lemmas.Nat.Bits.{bit_at_and, bit_at_or, same_from_bits, and_high_mask}
use Rattle.std.specs.Int.{bit_at}
use Rattle.flex_base.specs.Word.{field}
use Rattle.flex_base.specs.Csrs.{IsWithin, all_but, with_bits}
use Rattle.flex_base.specs.Traps.{with_field, with_bit}
use Rattle.csr_traps.proofs.Bits.{and_nothing, with_field-or}

-- Words within some bits.

pub bit_min_max : (x y m : ℕ) → min (max x y) m ≡ max (min x m) (min y m)
bit_min_max x y m = omega arith

pub and_over_or : (a b m : ℕ) → bit_and (bit_or a b) m ≡ bit_or (bit_and a m) (bit_and b m)
and_over_or a b m = same_from_bits (bit_and (bit_or a b) m) (bit_or (bit_and a m) (bit_and b m))
    (λ i. bit_at_and (bit_or a b) m i ∙ ap (λ x. min x (bit_at m i)) (bit_at_or a b i) ∙ bit_min_max (bit_at a i) (bit_at b i) (bit_at m i)
    ∙ sym (bit_at_or (bit_and a m) (bit_and b m) i ∙ ap (λ x. max x (bit_at (bit_and b m) i)) (bit_at_and a m i) ∙ ap (λ x. max (min (bit_at a i) (bit_at m i)) x) (bit_at_and b m i)))

pub or_within : (m a b : ℕ) → IsWithin m a → IsWithin m b → IsWithin m (bit_or a b)
or_within m a b first second = and_over_or a b m ∙ ap (λ x. bit_or x (bit_and b m)) first ∙ ap (bit_or a) second

-- some bits of a word that is within these
pub part_within : (m a x : ℕ) → IsWithin m a → IsWithin m (bit_and a x)
part_within m a x within =
    and_assoc m a x ∙ ap (bit_and a) (and_comm x m) ∙ sym (and_assoc x a m) ∙ ap (λ y. bit_and y x) within

-- a value's bits, of some that are within these
pub mask_within : (m value bits : ℕ) → IsWithin m bits → IsWithin m (bit_and value bits)
mask_within m value bits within = and_assoc m value bits ∙ ap (bit_and value) within

pub with_bits-within : (m old bits value : ℕ) → IsWithin m old → IsWithin m bits → IsWithin m (with_bits old bits value)
with_bits-within m old bits value first second =
    or_within m (bit_and old (all_but bits)) (bit_and value bits) (part_within m old (all_but bits) first) (mask_within m value bits second)

pub small_within : (m a : ℕ) → m < 2 ^ 64 → IsWithin m a → a < 2 ^ 64
small_within m a small within =
    let less : bit_and a m ≤ m = and_le_r a m in
    omega (arith, less, within)

-- a word with another field, where the field's new value in its place is within these
pub with_field-within : (m at bits value w : ℕ) → m < 2 ^ 64 → at + bits ≤ 63 → value < 2 ^ bits → IsWithin m w → IsWithin m (value * 2 ^ at) → IsWithin m (with_field at bits value w)
with_field-within m at bits value w small room less within placed =
    let fits : w < 2 ^ 64 = small_within m w small within in
    let Within : ℕ → Type 0 = λ x. IsWithin m x in
    let high : IsWithin m (w / 2 ^ (at + bits) * 2 ^ (at + bits)) = subst Within (and_high_mask 64 (at + bits) (omega (arith, room)) w fits) (part_within m w (2 ^ 64 - 2 ^ (at + bits)) within) in
    let low : IsWithin m (w % 2 ^ at) = subst Within (and_mask w at) (part_within m w (2 ^ at - 1) within) in
    subst Within (with_field-or w at bits value fits room less)
    (or_within m (bit_or (w / 2 ^ (at + bits) * 2 ^ (at + bits)) (value * 2 ^ at)) (w % 2 ^ at)
    (or_within m (w / 2 ^ (at + bits) * 2 ^ (at + bits)) (value * 2 ^ at) high placed) low)

pub bit_placed : (m at value : ℕ) → value < 2 → IsWithin m (2 ^ at) → IsWithin m (value * 2 ^ at)
bit_placed m at zero less within =
    let none : 0 * 2 ^ at ≡ 0 = omega arith in
    let Within : ℕ → Type 0 = λ x. IsWithin m x in
    subst Within (sym none) refl
bit_placed m at (suc zero) less within =
    let one : 1 * 2 ^ at ≡ 2 ^ at = omega arith in
    let Within : ℕ → Type 0 = λ x. IsWithin m x in
    subst Within (sym one) within
bit_placed m at (suc (suc value)) less within = absurd (omega (arith, less))

pub with_bit-within : (m at value w : ℕ) → m < 2 ^ 64 → at + 1 ≤ 63 → value < 2 → IsWithin m w → IsWithin m (2 ^ at) → IsWithin m (with_bit at value w)
with_bit-within m at value w small room less within placed =
    with_field-within m at 1 value w small room less within (bit_placed m at value less placed)

-- Fields of a word with other bits.

pub field_or : (at n a b : ℕ) → field at n (bit_or a b) ≡ bit_or (field at n a) (field at n b)
field_or at n a b = ap (λ x. x % 2 ^ n) (or_shr a b at) ∙ or_mod (a / 2 ^ at) (b / 2 ^ at) n

pub field_and : (at n a b : ℕ) → field at n (bit_and a b) ≡ bit_and (field at n a) (field at n b)
field_and at n a b = ap (λ x. x % 2 ^ n) (and_shr a b at) ∙ and_mod (a / 2 ^ at) (b / 2 ^ at) n

pub field_with_bits : (at n old bits value : ℕ) → field at n (with_bits old bits value)
    ≡ bit_or (bit_and (field at n old) (field at n (all_but bits))) (bit_and (field at n value) (field at n bits))
field_with_bits at n old bits value =
    field_or at n (bit_and old (all_but bits)) (bit_and value bits)
    ∙ ap (λ x. bit_or x (field at n (bit_and value bits))) (field_and at n old (all_but bits))
    ∙ ap (bit_or (bit_and (field at n old) (field at n (all_but bits)))) (field_and at n value bits)

pub full : (at n word : ℕ) → bit_and (field at n word) (2 ^ n - 1) ≡ field at n word
full at n word = and_mask (field at n word) n ∙ mod-eq_of_lt (mod_below (word / 2 ^ at) (2 ^ n) (pow_pos n))

-- a field that isn't among the bits, and one that is
pub keeps_field : (at n old bits value : ℕ) → field at n bits ≡ 0 → field at n (all_but bits) ≡ 2 ^ n - 1 → field at n (with_bits old bits value) ≡ field at n old
keeps_field at n old bits value none rest =
    field_with_bits at n old bits value
    ∙ ap (λ x. bit_or (bit_and (field at n old) x) (bit_and (field at n value) (field at n bits))) rest
    ∙ ap (λ x. bit_or (bit_and (field at n old) (2 ^ n - 1)) (bit_and (field at n value) x)) none
    ∙ ap (bit_or (bit_and (field at n old) (2 ^ n - 1))) (and_nothing (field at n value))
    ∙ or_comm (bit_and (field at n old) (2 ^ n - 1)) 0 ∙ full at n old

pub takes_field : (at n old bits value : ℕ) → field at n bits ≡ 2 ^ n - 1 → field at n (all_but bits) ≡ 0 → field at n (with_bits old bits value) ≡ field at n value
takes_field at n old bits value all none =
    field_with_bits at n old bits value
    ∙ ap (λ x. bit_or (bit_and (field at n old) x) (bit_and (field at n value) (field at n bits))) none
    ∙ ap (λ x. bit_or x (bit_and (field at n value) (field at n bits))) (and_nothing (field at n old))
    ∙ ap (bit_and (field at n value)) all ∙ full at n value
