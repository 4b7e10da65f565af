-- Fit stores stay fit: after a write to a register.
use Rattle.std.proofs.Common.{ℕ, ◌≡◌, Bool, true, false, not, ◌&&◌, ◌==◌, if◌then◌else◌, List, [], ◌∷◌, Option, None, Some, refl, ap, ◌∙◌, arith, subst, bit_and, bit_or, slice_index}
use Rattle.std.proofs.Math.Path.{sym}
use Rattle.std.proofs.lemmas.Bool.{eqb-false}
use Rattle.std.proofs.lemmas.Nat.{and_le_l, or_comm}
use Rattle.std.specs.Prelude.{find, option_map, slice_set}
use Rattle.flex_base.specs.Word.{field}
use Rattle.flex_base.specs.Csrs.{AreFit, IsWithin, is_satp_mode, all_bits, all_but, with_bits, with_store_bits, Row, rows, row_of, after_write, csr_write, is_allowed, is_read_only, mideleg, mie, mip, medeleg, mtvec, mcounteren, scounteren, stvec, sscratch, mscratch, mhartid, mstatus, satp, mepc, mcause, mtval, sepc, scause, stval, mcycle, minstret, MPP}
use Rattle.flex_base.specs.declared.hart.Mode.{Mode}
use Rattle.csr_traps.specs.Laws.{OfEach}
use Rattle.csr_traps.proofs.Bits.{and_nothing}
use Rattle.csr_traps.proofs.Rows.{◌▸◌}
use Rattle.csr_traps.proofs.Within.{mask_within, with_bits-within, keeps_field, takes_field}
use Rattle.csr_traps.proofs.Fitting.{bits_fit, set_fit, mstatus_fit}

sstatus_fit : (harts : ℕ) (stores : List ℕ) (value : ℕ) → AreFit harts stores → AreFit harts (with_store_bits stores mstatus 0xc0122 value)
sstatus_fit harts stores value fit =
    let status : ℕ = slice_index stores mstatus in
    mstatus_fit harts stores (with_bits status 0xc0122 value) fit (with_bits-within 0x7e19aa status 0xc0122 value (fit.within mstatus (omega arith)) refl)
    (λ e. fit.mpp (sym (keeps_field 11 2 status 0xc0122 value refl refl) ∙ e))

mstatus_by : (harts : ℕ) (stores : List ℕ) (value : ℕ) (b : Bool) → (field MPP 2 value == 2) ≡ b → AreFit harts stores →
    AreFit harts (with_store_bits stores mstatus (if b then 0x7e01aa else 0x7e19aa) value)
mstatus_by harts stores value true is fit =
    let status : ℕ = slice_index stores mstatus in
    mstatus_fit harts stores (with_bits status 0x7e01aa value) fit (with_bits-within 0x7e19aa status 0x7e01aa value (fit.within mstatus (omega arith)) refl)
    (λ e. fit.mpp (sym (keeps_field 11 2 status 0x7e01aa value refl refl) ∙ e))
mstatus_by harts stores value false is fit =
    let status : ℕ = slice_index stores mstatus in
    mstatus_fit harts stores (with_bits status 0x7e19aa value) fit (with_bits-within 0x7e19aa status 0x7e19aa value (fit.within mstatus (omega arith)) refl)
    (λ e. eqb-false (field MPP 2 value) 2 is (sym (takes_field 11 2 status 0x7e19aa value refl refl) ∙ e))

satp_fit : (harts : ℕ) (stores : List ℕ) (value : ℕ) → AreFit harts stores → IsWithin 0xf0000fffffffffff value → is_satp_mode (field 60 4 value) ≡ true → AreFit harts (slice_set stores satp value)
satp_fit harts stores value fit within good =
    set_fit harts stores satp value fit (omega arith) (λ below. within) (λ e. absurd (omega (arith, e))) (λ e. good) (λ e. absurd (omega (arith, e)))

satp_by : (harts : ℕ) (stores : List ℕ) (value : ℕ) (b : Bool) → is_satp_mode (field 60 4 value) ≡ b → AreFit harts stores →
    AreFit harts (with_store_bits stores satp (if b then 0xf0000fffffffffff else 0) value)
satp_by harts stores value true is fit =
    let old : ℕ = slice_index stores satp in
    satp_fit harts stores (with_bits old 0xf0000fffffffffff value) fit (with_bits-within 0xf0000fffffffffff old 0xf0000fffffffffff value (fit.within satp (omega arith)) refl)
    (ap is_satp_mode (takes_field 60 4 old 0xf0000fffffffffff value refl refl) ∙ is)
satp_by harts stores value false is fit =
    let old : ℕ = slice_index stores satp in
    satp_fit harts stores (with_bits old 0 value) fit (with_bits-within 0xf0000fffffffffff old 0 value (fit.within satp (omega arith)) refl)
    (ap is_satp_mode (keeps_field 60 4 old 0 value refl refl) ∙ fit.satp_mode)

-- what is delegated can be enabled
delegated_within : (stores : List ℕ) (harts : ℕ) → AreFit harts stores → IsWithin 0xaaa (slice_index stores mideleg)
delegated_within stores harts fit =
    let Within : ℕ → Type 0 = λ m. IsWithin 0xaaa m in
    subst Within (fit.within mideleg (omega arith)) (mask_within 0xaaa (slice_index stores mideleg) 0x222 refl)

-- a row that takes nothing of the hart's number leaves it
hart_fit : (harts : ℕ) (stores : List ℕ) (value : ℕ) → AreFit harts stores → AreFit harts (with_store_bits stores mhartid 0 value)
hart_fit harts stores value fit =
    let old : ℕ = slice_index stores mhartid in
    let same : with_bits old 0 value ≡ bit_and old all_bits = ap (bit_or (bit_and old all_bits)) (and_nothing value) ∙ or_comm (bit_and old all_bits) 0 in
    set_fit harts stores mhartid (with_bits old 0 value) fit (omega arith) (λ below. absurd (omega (arith, below))) (λ e. absurd (omega (arith, e))) (λ e. absurd (omega (arith, e)))
    (λ e. omega (arith, same, and_le_l old all_bits, fit.hart))

-- a write to this register keeps stores fit
abbrev KeepsFit : Row → Type 0
KeepsFit r = (harts : ℕ) (stores : List ℕ) (value : ℕ) → AreFit harts stores → AreFit harts (after_write stores value r)

all_keep_fit : OfEach KeepsFit rows
unfolding rows
all_keep_fit =
    (λ harts stores value fit. bits_fit harts stores mcycle 0 value fit (omega arith) (λ e. absurd (omega (arith, e))) (λ e. absurd (omega (arith, e))) refl)
    ▸ (λ harts stores value fit. fit)
    ▸ (λ harts stores value fit. bits_fit harts stores minstret 0 value fit (omega arith) (λ e. absurd (omega (arith, e))) (λ e. absurd (omega (arith, e))) refl)
    ▸ (λ harts stores value fit. sstatus_fit harts stores value fit)
    ▸ (λ harts stores value fit. bits_fit harts stores mie (slice_index stores mideleg) value fit (omega arith) (λ e. absurd (omega (arith, e))) (λ e. absurd (omega (arith, e))) (delegated_within stores harts fit))
    ▸ (λ harts stores value fit. bits_fit harts stores stvec (all_but 2) value fit (omega arith) (λ e. absurd (omega (arith, e))) (λ e. absurd (omega (arith, e))) refl)
    ▸ (λ harts stores value fit. bits_fit harts stores scounteren 7 value fit (omega arith) (λ e. absurd (omega (arith, e))) (λ e. absurd (omega (arith, e))) refl)
    ▸ (λ harts stores value fit. bits_fit harts stores sscratch all_bits value fit (omega arith) (λ e. absurd (omega (arith, e))) (λ e. absurd (omega (arith, e))) refl)
    ▸ (λ harts stores value fit. bits_fit harts stores sepc (all_but 3) value fit (omega arith) (λ e. absurd (omega (arith, e))) (λ e. absurd (omega (arith, e))) refl)
    ▸ (λ harts stores value fit. bits_fit harts stores scause 0x800000000000003f value fit (omega arith) (λ e. absurd (omega (arith, e))) (λ e. absurd (omega (arith, e))) refl)
    ▸ (λ harts stores value fit. bits_fit harts stores stval all_bits value fit (omega arith) (λ e. absurd (omega (arith, e))) (λ e. absurd (omega (arith, e))) refl)
    ▸ (λ harts stores value fit. bits_fit harts stores mip (bit_and 2 (slice_index stores mideleg)) value fit (omega arith) (λ e. absurd (omega (arith, e))) (λ e. absurd (omega (arith, e))) (mask_within 0x222 2 (slice_index stores mideleg) (fit.within mideleg (omega arith))))
    ▸ (λ harts stores value fit. satp_by harts stores value (is_satp_mode (field 60 4 value)) refl fit)
    ▸ (λ harts stores value fit. fit)
    ▸ (λ harts stores value fit. fit)
    ▸ (λ harts stores value fit. fit)
    ▸ (λ harts stores value fit. hart_fit harts stores value fit)
    ▸ (λ harts stores value fit. mstatus_by harts stores value (field MPP 2 value == 2) refl fit)
    ▸ (λ harts stores value fit. fit)
    ▸ (λ harts stores value fit. bits_fit harts stores medeleg 0xb3ff value fit (omega arith) (λ e. absurd (omega (arith, e))) (λ e. absurd (omega (arith, e))) refl)
    ▸ (λ harts stores value fit. bits_fit harts stores mideleg 0x222 value fit (omega arith) (λ e. absurd (omega (arith, e))) (λ e. absurd (omega (arith, e))) refl)
    ▸ (λ harts stores value fit. bits_fit harts stores mie 0xaaa value fit (omega arith) (λ e. absurd (omega (arith, e))) (λ e. absurd (omega (arith, e))) refl)
    ▸ (λ harts stores value fit. bits_fit harts stores mtvec (all_but 2) value fit (omega arith) (λ e. absurd (omega (arith, e))) (λ e. absurd (omega (arith, e))) refl)
    ▸ (λ harts stores value fit. bits_fit harts stores mcounteren 7 value fit (omega arith) (λ e. absurd (omega (arith, e))) (λ e. absurd (omega (arith, e))) refl)
    ▸ (λ harts stores value fit. bits_fit harts stores mscratch all_bits value fit (omega arith) (λ e. absurd (omega (arith, e))) (λ e. absurd (omega (arith, e))) refl)
    ▸ (λ harts stores value fit. bits_fit harts stores mepc (all_but 3) value fit (omega arith) (λ e. absurd (omega (arith, e))) (λ e. absurd (omega (arith, e))) refl)
    ▸ (λ harts stores value fit. bits_fit harts stores mcause 0x800000000000003f value fit (omega arith) (λ e. absurd (omega (arith, e))) (λ e. absurd (omega (arith, e))) refl)
    ▸ (λ harts stores value fit. bits_fit harts stores mtval all_bits value fit (omega arith) (λ e. absurd (omega (arith, e))) (λ e. absurd (omega (arith, e))) refl)
    ▸ (λ harts stores value fit. bits_fit harts stores mip 0x222 value fit (omega arith) (λ e. absurd (omega (arith, e))) (λ e. absurd (omega (arith, e))) refl)
    ▸ (λ harts stores value fit. fit)
    ▸ (λ harts stores value fit. fit)
    ▸ (λ harts stores value fit. fit)
    ▸ (λ harts stores value fit. fit)
    ▸ (λ harts stores value fit. fit)
    ▸ (λ harts stores value fit. fit)
    ▸ (λ harts stores value fit. fit)
    ▸ (λ harts stores value fit. fit)
    ▸ (λ harts stores value fit. fit)
    ▸ (λ harts stores value fit. fit)
    ▸ (λ harts stores value fit. fit)
    ▸ (λ harts stores value fit. fit)
    ▸ (λ harts stores value fit. fit)
    ▸ (λ harts stores value fit. fit)
    ▸ (λ harts stores value fit. fit)
    ▸ (λ harts stores value fit. fit)
    ▸ (λ harts stores value fit. fit)
    ▸ (λ harts stores value fit. fit)
    ▸ (λ harts stores value fit. bits_fit harts stores mcycle all_bits value fit (omega arith) (λ e. absurd (omega (arith, e))) (λ e. absurd (omega (arith, e))) refl)
    ▸ (λ harts stores value fit. bits_fit harts stores minstret all_bits value fit (omega arith) (λ e. absurd (omega (arith, e))) (λ e. absurd (omega (arith, e))) refl)
    ▸ tt

found_by : (Law : Row → Type 0) (b : Bool) (x : Row) (o : Option Row) → Law x → ((r : Row) → o ≡ Some r → Law r) → (r : Row) → (if b then Some x else o) ≡ Some r → Law r
found_by Law true x o here rest r is =
    let same : x ≡ r = cc in
    subst Law same here
found_by Law false x o here rest r is = rest r is

found : (Law : Row → Type 0) (test : Row → Bool) (xs : List Row) → OfEach Law xs → (r : Row) → find test xs ≡ Some r → Law r
found Law test [] all r is = absurd cc
found Law test (x ∷ xs) all r is = found_by Law (test x) x (find test xs) all.0 (found Law test xs all.1) r is

row_fit : (number : ℕ) (r : Row) → row_of number ≡ Some r → KeepsFit r
unfolding row_of
row_fit number r is = found KeepsFit (λ x. x.number == number) rows all_keep_fit r is

write_by : (harts : ℕ) (stores : List ℕ) (value : ℕ) (b : Bool) (o : Option Row) → ((r : Row) → o ≡ Some r → KeepsFit r) →
    (after : List ℕ) → (if b then option_map (after_write stores value) o else None) ≡ Some after → AreFit harts stores → AreFit harts after
write_by harts stores value true None keep after is fit = absurd cc
write_by harts stores value true (Some r) keep after is fit =
    let same : after_write stores value r ≡ after = cc in
    let Fit : List ℕ → Type 0 = λ s. AreFit harts s in
    subst Fit same (keep r refl harts stores value fit)
write_by harts stores value false o keep after is fit = absurd cc

pub write_fit : (harts : ℕ) (stores : List ℕ) (number : ℕ) (mode : Mode) (value : ℕ) (after : List ℕ) →
    csr_write stores number mode value ≡ Some after → AreFit harts stores → AreFit harts after
unfolding csr_write
write_fit harts stores number mode value after is fit =
    write_by harts stores value (not (is_read_only number) && is_allowed stores number mode) (row_of number) (row_fit number) after is fit
