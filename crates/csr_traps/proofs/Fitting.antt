-- Fit stores stay fit: at the start, and after an end, a trap or a return.
use Rattle.std.proofs.Common.{ℕ, ◌+◌, ◌*◌, ◌/◌, ◌%◌, ◌^◌, ◌<◌, ◌≤◌, ◌≡◌, ◌≢◌, inl, inr, Bool, true, false, ◌&&◌, ◌==◌, if◌then◌else◌, List, [], ◌∷◌, refl, ap, ◌∙◌, arith, subst, length, slice_index, get_or-set_other, replicate}
use Rattle.std.proofs.Math.Path.{sym}
use Rattle.std.proofs.Math.ListN.{length-set}
use Rattle.std.proofs.lemmas.List.{get_or_append_left, get_or-replicate}
use Rattle.std.proofs.lemmas.Bool.{cases_eq, eq-eqb, eqb-true}
use Rattle.std.proofs.lemmas.Nat.{mod_below, pow_pos}
use Rattle.std.proofs.lemmas.Nat.Bits.{and_high_mask}
use Rattle.std.proofs.lemmas.Grind.{get_or-set_at}
use Rattle.std.specs.Prelude.{slice_set}
use Rattle.flex_base.specs.Word.{field, wrap, is_multiple}
use Rattle.flex_base.specs.Causes.{is_interrupt, code_of}
use Rattle.flex_base.specs.Csrs.{AreFit, IsWithin, IsCause, store_bits, start_csrs, is_satp_mode, all_bits, all_but, with_bits, with_store_bits, mode_number, SIE, MIE, SPIE, MPIE, SPP, mstatus, satp, mepc, mcause, mtval, sepc, scause, stval, mcycle, minstret, MPP}
use Rattle.flex_base.specs.Traps.{with_field, with_bit, with_trap_values, with_mprv_in_m, mode_of, mstatus_after_trap_to_m, mstatus_after_trap_to_s, mstatus_after_mret, mstatus_after_sret, trap_to_m, trap_to_s, goes_to_s, handler, trap, mret, sret, count, with_one_more}
use Rattle.flex_base.specs.declared.hart.Mode.{Mode}
use Rattle.flex_base.specs.declared.hart.Mode.TheVariants as mode
use Rattle.csr_traps.proofs.Fields.{bit_small, mpp-with_mpp, mpp-with_sie, mpp-with_mie, mpp-with_spie, mpp-with_mpie, mpp-with_spp, mpp-with_mprv}
use Rattle.csr_traps.proofs.Bits.{and_all}
use Rattle.csr_traps.proofs.Within.{with_bits-within, small_within, with_field-within, with_bit-within}

-- One store of fit stores written anew.

at_place : (P : ℕ → Type 0) (stores : List ℕ) (place value j : ℕ) → place < length stores → (j ≡ place → P value) → P (slice_index stores j) → P (slice_index (slice_set stores place value) j)
at_place P stores place value j there new old =
    elim (cases_eq j place) [
      | inl same ↦ subst P (sym (get_or-set_at stores place j value 0 same there)) (new same)
      | inr other ↦ subst P (sym (get_or-set_other stores place j value 0 other)) old
    ]

pub set_fit : (harts : ℕ) (stores : List ℕ) (place value : ℕ) → AreFit harts stores → place < 21 →
    (place < 20 → IsWithin (slice_index store_bits place) value) → (mstatus ≡ place → field MPP 2 value ≢ 2) →
    (satp ≡ place → is_satp_mode (field 60 4 value) ≡ true) → (20 ≡ place → value < harts) → AreFit harts (slice_set stores place value)
set_fit harts stores place value fit less within mpp sv hart =
    let there : place < length stores = omega (arith, less, fit.places) in
    let Mask : ℕ → ℕ → Type 0 = λ k x. IsWithin (slice_index store_bits k) x in
    let At : ℕ → Type 0 = λ k. IsWithin (slice_index store_bits k) value in
    let Mpp : ℕ → Type 0 = λ x. field MPP 2 x ≢ 2 in
    let Sv : ℕ → Type 0 = λ x. is_satp_mode (field 60 4 x) ≡ true in
    let Hart : ℕ → Type 0 = λ x. x < harts in
    record {
      places = length-set stores place value ∙ fit.places;
      within = λ k below. at_place (Mask k) stores place value k there (λ e. subst At (sym e) (within (omega (arith, e, below)))) (fit.within k below);
      mpp = at_place Mpp stores place value mstatus there mpp fit.mpp;
      satp_mode = at_place Sv stores place value satp there sv fit.satp_mode;
      hart = at_place Hart stores place value 20 there hart fit.hart;
    }

-- a store of which there is no more to say than its bits
pub plain_fit : (harts : ℕ) (stores : List ℕ) (place value : ℕ) → AreFit harts stores → place < 20 → mstatus ≢ place → satp ≢ place →
    IsWithin (slice_index store_bits place) value → AreFit harts (slice_set stores place value)
plain_fit harts stores place value fit less no_status no_satp within =
    set_fit harts stores place value fit (omega (arith, less)) (λ below. within) (λ e. absurd (no_status e)) (λ e. absurd (no_satp e)) (λ e. absurd (omega (arith, e, less)))

pub bits_fit : (harts : ℕ) (stores : List ℕ) (place bits value : ℕ) → AreFit harts stores → place < 20 → mstatus ≢ place → satp ≢ place →
    IsWithin (slice_index store_bits place) bits → AreFit harts (with_store_bits stores place bits value)
bits_fit harts stores place bits value fit less no_status no_satp within =
    plain_fit harts stores place (with_bits (slice_index stores place) bits value) fit less no_status no_satp
    (with_bits-within (slice_index store_bits place) (slice_index stores place) bits value (fit.within place less) within)

pub mstatus_fit : (harts : ℕ) (stores : List ℕ) (value : ℕ) → AreFit harts stores → IsWithin 0x7e19aa value → field MPP 2 value ≢ 2 → AreFit harts (slice_set stores mstatus value)
mstatus_fit harts stores value fit within mpp =
    set_fit harts stores mstatus value fit (omega arith) (λ below. within) (λ e. mpp) (λ e. absurd (omega (arith, e))) (λ e. absurd (omega (arith, e)))

-- Counters.

wrapped_within : (n : ℕ) → IsWithin all_bits (wrap n)
wrapped_within n = and_all (wrap n) (mod_below n (2 ^ 64) (pow_pos 64))

one_more_fit : (harts : ℕ) (stores : List ℕ) (place : ℕ) → AreFit harts stores → place < 20 → mstatus ≢ place → satp ≢ place →
    slice_index store_bits place ≡ all_bits → AreFit harts (with_one_more place stores)
one_more_fit harts stores place fit less no_status no_satp all =
    let Within : ℕ → Type 0 = λ m. IsWithin m (wrap (slice_index stores place + 1)) in
    plain_fit harts stores place (wrap (slice_index stores place + 1)) fit less no_status no_satp
    (subst Within (sym all) (wrapped_within (slice_index stores place + 1)))

cycle_fit : (harts : ℕ) (stores : List ℕ) → AreFit harts stores → AreFit harts (with_one_more mcycle stores)
cycle_fit harts stores fit = one_more_fit harts stores mcycle fit (omega arith) (λ e. absurd (omega (arith, e))) (λ e. absurd (omega (arith, e))) refl

instret_fit : (harts : ℕ) (stores : List ℕ) → AreFit harts stores → AreFit harts (with_one_more minstret stores)
instret_fit harts stores fit = one_more_fit harts stores minstret fit (omega arith) (λ e. absurd (omega (arith, e))) (λ e. absurd (omega (arith, e))) refl

pub count_fit : (harts : ℕ) (stores : List ℕ) (cycle instret : Bool) → AreFit harts stores → AreFit harts (count stores cycle instret)
unfolding count
count_fit harts stores true true fit = instret_fit harts (with_one_more mcycle stores) (cycle_fit harts stores fit)
count_fit harts stores true false fit = cycle_fit harts stores fit
count_fit harts stores false true fit = instret_fit harts stores fit
count_fit harts stores false false fit = fit

-- Addresses of instructions.

four_times : (n : ℕ) → is_multiple (wrap (4 * n)) 4 ≡ true
four_times n = eq-eqb (wrap (4 * n) % 4) 0 (omega arith)

handler_by : (tvec code : ℕ) (b : Bool) → is_multiple (wrap (tvec / 4 * 4 + (if b then 4 * code else 0))) 4 ≡ true
handler_by tvec code true =
    let four : tvec / 4 * 4 + 4 * code ≡ 4 * (tvec / 4 + code) = omega arith in
    let Multiple : ℕ → Type 0 = λ n. is_multiple (wrap n) 4 ≡ true in
    subst Multiple (sym four) (four_times (tvec / 4 + code))
handler_by tvec code false =
    let four : tvec / 4 * 4 + 0 ≡ 4 * (tvec / 4) = omega arith in
    let Multiple : ℕ → Type 0 = λ n. is_multiple (wrap n) 4 ≡ true in
    subst Multiple (sym four) (four_times (tvec / 4))

pub handler_aligned : (tvec cause : ℕ) → is_multiple (handler tvec cause) 4 ≡ true
handler_aligned tvec cause = handler_by tvec (code_of cause) (is_interrupt cause && field 0 2 tvec == 1)

from_within : (n : ℕ) → IsWithin (all_but 3) n → is_multiple n 4 ≡ true
from_within n within =
    let whole : n / 4 * 4 ≡ n = sym (and_high_mask 64 2 (omega arith) n (small_within (all_but 3) n (omega arith) within)) ∙ within in
    eq-eqb (n % 4) 0 (omega (arith, whole))

to_within : (n : ℕ) → n < 2 ^ 64 → is_multiple n 4 ≡ true → IsWithin (all_but 3) n
to_within n small multiple =
    let none : n % 4 ≡ 0 = eqb-true (n % 4) 0 multiple in
    and_high_mask 64 2 (omega arith) n small ∙ omega (arith, none)

pub mret_address : (harts : ℕ) (stores : List ℕ) → AreFit harts stores → is_multiple (mret stores).pc 4 ≡ true
unfolding mret
mret_address harts stores fit = from_within (slice_index stores mepc) (fit.within mepc (omega arith))

pub sret_address : (harts : ℕ) (stores : List ℕ) → AreFit harts stores → is_multiple (sret stores).pc 4 ≡ true
unfolding sret
sret_address harts stores fit = from_within (slice_index stores sepc) (fit.within sepc (omega arith))

-- Traps and returns.

number_placed : (mode : Mode) → IsWithin 0x7e19aa (mode_number mode * 2 ^ 11)
number_placed mode.U = refl
number_placed mode.S = refl
number_placed mode.M = refl

number_small : (mode : Mode) → mode_number mode < 4
number_small mode.U = omega arith
number_small mode.S = omega arith
number_small mode.M = omega arith

number_allowed : (mode : Mode) → mode_number mode ≢ 2
number_allowed mode.U = λ e. absurd (omega (arith, e))
number_allowed mode.S = λ e. absurd (omega (arith, e))
number_allowed mode.M = λ e. absurd (omega (arith, e))

-- mstatus as fit stores have it
pub record IsFitStatus (status : ℕ) : Type 0 where
  pub bits : IsWithin 0x7e19aa status
  pub mpp : field MPP 2 status ≢ 2

status_of : (harts : ℕ) (stores : List ℕ) → AreFit harts stores → IsFitStatus (slice_index stores mstatus)
status_of harts stores fit = record { bits = fit.within mstatus (omega arith); mpp = fit.mpp }

-- a bit of it that isn't in MPP
with_bit-status : (at value status : ℕ) → IsFitStatus status → at + 1 ≤ 63 → value < 2 → IsWithin 0x7e19aa (2 ^ at) →
    field MPP 2 (with_bit at value status) ≡ field MPP 2 status → IsFitStatus (with_bit at value status)
with_bit-status at value status fit room less placed apart = record {
  bits = with_bit-within 0x7e19aa at value status (omega arith) room less fit.bits placed;
  mpp = λ e. fit.mpp (sym apart ∙ e);
}

with_mpp-status : (value status : ℕ) → IsFitStatus status → value < 4 → value ≢ 2 → IsWithin 0x7e19aa (value * 2 ^ 11) → IsFitStatus (with_field MPP 2 value status)
with_mpp-status value status fit less allowed placed = record {
  bits = with_field-within 0x7e19aa 11 2 value status (omega arith) (omega arith) less fit.bits placed;
  mpp = λ e. allowed (sym (mpp-with_mpp status value less) ∙ e);
}

with_mprv-status : (to : Mode) (status : ℕ) → IsFitStatus status → IsFitStatus (with_mprv_in_m to status)
with_mprv-status mode.M status fit = fit
with_mprv-status mode.S status fit = with_bit-status 17 0 status fit (omega arith) (omega arith) refl (mpp-with_mprv status 0 (omega arith))
with_mprv-status mode.U status fit = with_bit-status 17 0 status fit (omega arith) (omega arith) refl (mpp-with_mprv status 0 (omega arith))

with_sie-status : (value status : ℕ) → IsFitStatus status → value < 2 → IsFitStatus (with_bit SIE value status)
with_sie-status value status fit less = with_bit-status SIE value status fit (omega arith) less refl (mpp-with_sie status value less)

with_mie-status : (value status : ℕ) → IsFitStatus status → value < 2 → IsFitStatus (with_bit MIE value status)
with_mie-status value status fit less = with_bit-status MIE value status fit (omega arith) less refl (mpp-with_mie status value less)

with_spie-status : (value status : ℕ) → IsFitStatus status → value < 2 → IsFitStatus (with_bit SPIE value status)
with_spie-status value status fit less = with_bit-status SPIE value status fit (omega arith) less refl (mpp-with_spie status value less)

with_mpie-status : (value status : ℕ) → IsFitStatus status → value < 2 → IsFitStatus (with_bit MPIE value status)
with_mpie-status value status fit less = with_bit-status MPIE value status fit (omega arith) less refl (mpp-with_mpie status value less)

with_spp-status : (value status : ℕ) → IsFitStatus status → value < 2 → IsFitStatus (with_bit SPP value status)
with_spp-status value status fit less = with_bit-status SPP value status fit (omega arith) less refl (mpp-with_spp status value less)

trap_to_m-status : (status : ℕ) (from : Mode) → IsFitStatus status → IsFitStatus (mstatus_after_trap_to_m status from)
trap_to_m-status status from fit =
    with_mpie-status (field MIE 1 status) (with_bit MIE 0 (with_field MPP 2 (mode_number from) status))
    (with_mie-status 0 (with_field MPP 2 (mode_number from) status)
    (with_mpp-status (mode_number from) status fit (number_small from) (number_allowed from) (number_placed from)) (omega arith))
    (bit_small MIE status)

trap_to_s-status : (status : ℕ) (from : Mode) → IsFitStatus status → IsFitStatus (mstatus_after_trap_to_s status from)
trap_to_s-status status from fit =
    with_spie-status (field SIE 1 status) (with_bit SIE 0 (with_bit SPP (field 0 1 (mode_number from)) status))
    (with_sie-status 0 (with_bit SPP (field 0 1 (mode_number from)) status)
    (with_spp-status (field 0 1 (mode_number from)) status fit (bit_small 0 (mode_number from))) (omega arith))
    (bit_small SIE status)

mret-status : (status : ℕ) → IsFitStatus status → IsFitStatus (mstatus_after_mret status)
mret-status status fit =
    with_mprv-status (mode_of (field MPP 2 status)) (with_field MPP 2 0 (with_bit MPIE 1 (with_bit MIE (field MPIE 1 status) status)))
    (with_mpp-status 0 (with_bit MPIE 1 (with_bit MIE (field MPIE 1 status) status))
    (with_mpie-status 1 (with_bit MIE (field MPIE 1 status) status)
    (with_mie-status (field MPIE 1 status) status fit (bit_small MPIE status)) (omega arith))
    (omega arith) (λ e. absurd (omega (arith, e))) refl)

sret-status : (status : ℕ) → IsFitStatus status → IsFitStatus (mstatus_after_sret status)
sret-status status fit =
    with_mprv-status mode.U (with_bit SPP 0 (with_bit SPIE 1 (with_bit SIE (field SPIE 1 status) status)))
    (with_spp-status 0 (with_bit SPIE 1 (with_bit SIE (field SPIE 1 status) status))
    (with_spie-status 1 (with_bit SIE (field SPIE 1 status) status)
    (with_sie-status (field SPIE 1 status) status fit (bit_small SPIE status)) (omega arith)) (omega arith))

status_fit : (harts : ℕ) (stores : List ℕ) (status : ℕ) → AreFit harts stores → IsFitStatus status → AreFit harts (slice_set stores mstatus status)
status_fit harts stores status fit good = mstatus_fit harts stores status fit good.bits good.mpp

-- a trap's three values at the places of a level
values_fit : (harts : ℕ) (stores : List ℕ) (epc why value pc cause tval : ℕ) → AreFit harts stores →
    (epc < 20) × (mstatus ≢ epc) × (satp ≢ epc) × (slice_index store_bits epc ≡ all_but 3) →
    (why < 20) × (mstatus ≢ why) × (satp ≢ why) × (slice_index store_bits why ≡ 0x800000000000003f) →
    (value < 20) × (mstatus ≢ value) × (satp ≢ value) × (slice_index store_bits value ≡ all_bits) →
    IsWithin (all_but 3) pc → IsCause cause → tval < 2 ^ 64 → AreFit harts (with_trap_values stores epc why value pc cause tval)
values_fit harts stores epc why value pc cause tval fit at_epc at_why at_value good_pc good_cause small =
    let Pc : ℕ → Type 0 = λ m. IsWithin m pc in
    let Cause : ℕ → Type 0 = λ m. IsWithin m cause in
    let Tval : ℕ → Type 0 = λ m. IsWithin m tval in
    let one : AreFit harts (slice_set stores epc pc) =
    plain_fit harts stores epc pc fit at_epc.0 at_epc.1 at_epc.2 (subst Pc (sym at_epc.3) good_pc) in
    let two : AreFit harts (slice_set (slice_set stores epc pc) why cause) =
    plain_fit harts (slice_set stores epc pc) why cause one at_why.0 at_why.1 at_why.2 (subst Cause (sym at_why.3) good_cause) in
    plain_fit harts (slice_set (slice_set stores epc pc) why cause) value tval two at_value.0 at_value.1 at_value.2
    (subst Tval (sym at_value.3) (and_all tval small))

trap_by : (stores : List ℕ) (pc : ℕ) (mode : Mode) (cause tval : ℕ) (b : Bool) → pc < 2 ^ 64 → tval < 2 ^ 64 → is_multiple pc 4 ≡ true → IsCause cause →
    (harts : ℕ) → AreFit harts stores → AreFit harts (if b then trap_to_s stores pc mode cause tval else trap_to_m stores pc mode cause tval).stores
trap_by stores pc mode cause tval true fits small multiple good harts fit =
    status_fit harts (with_trap_values stores sepc scause stval pc cause tval) (mstatus_after_trap_to_s (slice_index stores mstatus) mode)
    (values_fit harts stores sepc scause stval pc cause tval fit (omega arith, λ e. absurd (omega (arith, e)), λ e. absurd (omega (arith, e)), refl)
    (omega arith, λ e. absurd (omega (arith, e)), λ e. absurd (omega (arith, e)), refl)
    (omega arith, λ e. absurd (omega (arith, e)), λ e. absurd (omega (arith, e)), refl) (to_within pc fits multiple) good small)
    (trap_to_s-status (slice_index stores mstatus) mode (status_of harts stores fit))
trap_by stores pc mode cause tval false fits small multiple good harts fit =
    status_fit harts (with_trap_values stores mepc mcause mtval pc cause tval) (mstatus_after_trap_to_m (slice_index stores mstatus) mode)
    (values_fit harts stores mepc mcause mtval pc cause tval fit (omega arith, λ e. absurd (omega (arith, e)), λ e. absurd (omega (arith, e)), refl)
    (omega arith, λ e. absurd (omega (arith, e)), λ e. absurd (omega (arith, e)), refl)
    (omega arith, λ e. absurd (omega (arith, e)), λ e. absurd (omega (arith, e)), refl) (to_within pc fits multiple) good small)
    (trap_to_m-status (slice_index stores mstatus) mode (status_of harts stores fit))

pub trap_fit : (harts : ℕ) (stores : List ℕ) (pc : ℕ) (mode : Mode) (cause tval : ℕ) → pc < 2 ^ 64 → tval < 2 ^ 64 →
    AreFit harts stores → is_multiple pc 4 ≡ true → IsCause cause → AreFit harts (trap stores pc mode cause tval).stores
unfolding trap
trap_fit harts stores pc mode cause tval fits small fit multiple good =
    trap_by stores pc mode cause tval (goes_to_s stores mode cause) fits small multiple good harts fit

pub mret_fit : (harts : ℕ) (stores : List ℕ) → AreFit harts stores → AreFit harts (mret stores).stores
unfolding mret
mret_fit harts stores fit =
    status_fit harts stores (mstatus_after_mret (slice_index stores mstatus)) fit (mret-status (slice_index stores mstatus) (status_of harts stores fit))

pub sret_fit : (harts : ℕ) (stores : List ℕ) → AreFit harts stores → AreFit harts (sret stores).stores
unfolding sret
sret_fit harts stores fit =
    status_fit harts stores (mstatus_after_sret (slice_index stores mstatus)) fit (sret-status (slice_index stores mstatus) (status_of harts stores fit))

-- What a definition gives, by another name.

pub as_address : (given pc : ℕ) → is_multiple given 4 ≡ true → pc ≡ given → is_multiple pc 4 ≡ true
as_address given pc multiple is = ap (λ n. is_multiple n 4) is ∙ multiple

pub as_fit : (harts : ℕ) (given after : List ℕ) → AreFit harts given → after ≡ given → AreFit harts after
as_fit harts given after fit is =
    let Fit : List ℕ → Type 0 = λ s. AreFit harts s in
    subst Fit (sym is) fit
