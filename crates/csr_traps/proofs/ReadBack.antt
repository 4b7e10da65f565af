-- Of every row: the bits that are written read back.
use Rattle.std.proofs.Common.{ℕ, zero, suc, ◌<◌, ◌^◌, ◌≡◌, Bool, true, false, ◌==◌, if◌then◌else◌, refl, ap, ◌∙◌, arith, bit_and, bit_or, min, slice_index}
use Rattle.std.proofs.Math.Path.{sym}
use Rattle.std.proofs.lemmas.Nat.{and_comm, or_comm, and_or_apart, and_assoc, and_le_l}
use Rattle.std.proofs.lemmas.Grind.{and-not_self}
use Rattle.std.proofs.lemmas.Nat.Bits.{bit_at_and, same_from_bits}
use Rattle.std.specs.Int.{bit_at}
use Rattle.flex_base.specs.Word.{field}
use Rattle.flex_base.specs.Csrs.{rows, all_bits, all_but, with_bits, mideleg, is_satp_mode}
use Rattle.csr_traps.specs.Laws.{AllReadBack}
use Rattle.csr_traps.proofs.Rows.{◌▸◌}
use Rattle.csr_traps.proofs.Bits.{and_nothing}

min_self : (x : ℕ) → min x x ≡ x
min_self zero = refl
min_self (suc x) = grind arith

and_self : (m : ℕ) → bit_and m m ≡ m
and_self m = same_from_bits (bit_and m m) m (λ i. bit_at_and m m i ∙ min_self (bit_at m i))

with_bits-and : (old value m : ℕ) → m < 2 ^ 64 → bit_and (with_bits old m value) m ≡ bit_and value m
with_bits-and old value m small =
    ap (λ x. bit_and x m) (or_comm (bit_and old (all_but m)) (bit_and value m))
    ∙ and_or_apart m (bit_and value m) (bit_and old (all_but m)) (and-not_self old all_bits m m refl (omega (arith, small)) refl)
    ∙ and_assoc m value m ∙ ap (bit_and value) (and_self m)

back : (old value rd m : ℕ) → m < 2 ^ 64 → bit_and rd m ≡ m → bit_and (bit_and (with_bits old m value) rd) m ≡ bit_and value m
back old value rd m small within =
    and_assoc m (with_bits old m value) rd ∙ ap (bit_and (with_bits old m value)) within ∙ with_bits-and old value m small

beside : (old value rd fixed m : ℕ) → bit_and rd m ≡ m → bit_and fixed m ≡ 0 → m < 2 ^ 64 → bit_and (bit_or (bit_and (with_bits old m value) rd) fixed) m ≡ bit_and value m
beside old value rd fixed m within apart small = and_or_apart m (bit_and (with_bits old m value) rd) fixed apart ∙ back old value rd m small within

status_by : (old value : ℕ) (b : Bool) → bit_and (bit_or (bit_and (with_bits old (if b then 0x7e01aa else 0x7e19aa) value) 0x7e19aa) 0xa00000000) (if b then 0x7e01aa else 0x7e19aa) ≡ bit_and value (if b then 0x7e01aa else 0x7e19aa)
status_by old value true = beside old value 0x7e19aa 0xa00000000 0x7e01aa refl refl (omega arith)
status_by old value false = beside old value 0x7e19aa 0xa00000000 0x7e19aa refl refl (omega arith)

satp_by : (old value : ℕ) (b : Bool) → bit_and (bit_and (with_bits old (if b then 0xf0000fffffffffff else 0) value) 0xf0000fffffffffff) (if b then 0xf0000fffffffffff else 0) ≡ bit_and value (if b then 0xf0000fffffffffff else 0)
satp_by old value true = back old value 0xf0000fffffffffff 0xf0000fffffffffff (omega arith) refl
satp_by old value false = and_nothing (bit_and (with_bits old 0 value) 0xf0000fffffffffff) ∙ sym (and_nothing value)

ssi : (d : ℕ) → bit_and d (bit_and 2 d) ≡ bit_and 2 d
ssi d = and_comm d (bit_and 2 d) ∙ and_assoc d 2 d ∙ ap (bit_and 2) (and_self d)

-- of the bits that no write changes there is nothing to say
blank : (x value : ℕ) → bit_and x 0 ≡ bit_and value 0
blank x value = and_nothing x ∙ sym (and_nothing value)

pub all_read_back : AllReadBack
unfolding AllReadBack rows
all_read_back =
    (λ stores old value fits. blank (with_bits old 0 value) value)
    ▸ (λ stores old value fits. blank (with_bits old 0 value) value)
    ▸ (λ stores old value fits. blank (with_bits old 0 value) value)
    ▸ (λ stores old value fits. beside old value 0xc0122 0x200000000 0xc0122 refl refl (omega arith))
    ▸ (λ stores old value fits. back old value (slice_index stores mideleg) (slice_index stores mideleg) fits (and_self (slice_index stores mideleg)))
    ▸ (λ stores old value fits. back old value (all_but 2) (all_but 2) (omega arith) refl)
    ▸ (λ stores old value fits. back old value 7 7 (omega arith) refl)
    ▸ (λ stores old value fits. with_bits-and old value all_bits (omega arith))
    ▸ (λ stores old value fits. back old value (all_but 3) (all_but 3) (omega arith) refl)
    ▸ (λ stores old value fits. back old value 0x800000000000003f 0x800000000000003f (omega arith) refl)
    ▸ (λ stores old value fits. with_bits-and old value all_bits (omega arith))
    ▸ (λ stores old value fits. back old value (slice_index stores mideleg) (bit_and 2 (slice_index stores mideleg)) (omega (arith, and_le_l 2 (slice_index stores mideleg))) (ssi (slice_index stores mideleg)))
    ▸ (λ stores old value fits. satp_by old value (is_satp_mode (field 60 4 value)))
    ▸ (λ stores old value fits. blank 0 value)
    ▸ (λ stores old value fits. blank 0 value)
    ▸ (λ stores old value fits. blank 0 value)
    ▸ (λ stores old value fits. blank (with_bits old 0 value) value)
    ▸ (λ stores old value fits. status_by old value (field 11 2 value == 2))
    ▸ (λ stores old value fits. blank 0x8000000000141101 value)
    ▸ (λ stores old value fits. back old value 0xb3ff 0xb3ff (omega arith) refl)
    ▸ (λ stores old value fits. back old value 0x222 0x222 (omega arith) refl)
    ▸ (λ stores old value fits. back old value 0xaaa 0xaaa (omega arith) refl)
    ▸ (λ stores old value fits. back old value (all_but 2) (all_but 2) (omega arith) refl)
    ▸ (λ stores old value fits. back old value 7 7 (omega arith) refl)
    ▸ (λ stores old value fits. with_bits-and old value all_bits (omega arith))
    ▸ (λ stores old value fits. back old value (all_but 3) (all_but 3) (omega arith) refl)
    ▸ (λ stores old value fits. back old value 0x800000000000003f 0x800000000000003f (omega arith) refl)
    ▸ (λ stores old value fits. with_bits-and old value all_bits (omega arith))
    ▸ (λ stores old value fits. back old value 0xaaa 0x222 (omega arith) refl)
    ▸ (λ stores old value fits. blank 0 value)
    ▸ (λ stores old value fits. blank 0 value)
    ▸ (λ stores old value fits. blank 0 value)
    ▸ (λ stores old value fits. blank 0 value)
    ▸ (λ stores old value fits. blank 0 value)
    ▸ (λ stores old value fits. blank 0 value)
    ▸ (λ stores old value fits. blank 0 value)
    ▸ (λ stores old value fits. blank 0 value)
    ▸ (λ stores old value fits. blank 0 value)
    ▸ (λ stores old value fits. blank 0 value)
    ▸ (λ stores old value fits. blank 0 value)
    ▸ (λ stores old value fits. blank 0 value)
    ▸ (λ stores old value fits. blank 0 value)
    ▸ (λ stores old value fits. blank 0 value)
    ▸ (λ stores old value fits. blank 0 value)
    ▸ (λ stores old value fits. blank 0 value)
    ▸ (λ stores old value fits. blank 0 value)
    ▸ (λ stores old value fits. blank 0 value)
    ▸ (λ stores old value fits. with_bits-and old value all_bits (omega arith))
    ▸ (λ stores old value fits. with_bits-and old value all_bits (omega arith))
    ▸ tt
