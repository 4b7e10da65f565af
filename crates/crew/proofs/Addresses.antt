-- Instructions begin at multiples of 4, and so does what a trap or a return leads to, whatever is written to the stores.
use Rattle.std.proofs.Common.{◌≡◌, ◌≢◌, ℕ, zero, suc, ◌+◌, ◌*◌, ◌/◌, ◌%◌, Bool, true, false, not, ◌&&◌, ◌||◌, ◌==◌, if◌then◌else◌, List, [], ◌∷◌, Option, None, Some, inl, inr, refl, ap, sym, subst, ◌∙◌, arith, eq-eqb, slice_index, slice_set, bit_and, bit_or, find}
use Rattle.std.specs.Prelude.{option_map, unwrap_or}
use Rattle.std.specs.Int.Bits.{and_zero_l, and_zero_r}
use Rattle.std.proofs.lemmas.Bool.{cases_eq, eqb-true}
use Rattle.std.proofs.lemmas.List.{get_or-set_other}
use Rattle.std.proofs.lemmas.Nat.{and_mod, or_mod}
use Rattle.flex_base.specs.Word.{field, wrap, is_multiple}
use Rattle.flex_base.specs.Causes.{is_interrupt, code_of}
use Rattle.flex_base.specs.Csrs.{sepc, scause, stval, mstatus, mepc, mcause, mtval, mip, mcycle, minstret, mtvec, stvec, all_but, with_bits, with_store_bits, Source, Store, Pending, Clock, Nothing, Row, rows, row_of, after_source_write, after_write, csr_write, is_allowed, is_read_only, start_csrs}
use Rattle.flex_base.specs.Traps.{Transfer, with_trap_values, mstatus_after_trap_to_m, mstatus_after_trap_to_s, mstatus_after_mret, mstatus_after_sret, trap_to_m, trap_to_s, goes_to_s, handler, trap, mret, sret, count, with_one_more}
use Rattle.flex_base.specs.State.{State}
use Rattle.flex_base.specs.Zicsr.{csrs_with}
use Rattle.flex_base.specs.declared.hart.Mode.{Mode}

-- the stores that hold an address to which a return leads
abbrev is_return : ℕ → Bool
is_return place = place == mepc || place == sepc

-- they hold multiples of 4
pub record AreAligned (stores : List ℕ) : Type 0 where
  pub to_m : is_multiple (slice_index stores mepc) 4 ≡ true
  pub to_s : is_multiple (slice_index stores sepc) 4 ≡ true

-- the instruction begins at a multiple of 4, and so do those to which a return leads
abbrev pub IsAligned : State → Type 0
IsAligned a = (is_multiple a.pc 4 ≡ true) × AreAligned a.csrs

-- One store written anew.

abbrev Four : ℕ → Type 0
Four n = is_multiple n 4 ≡ true

set_same : (stores : List ℕ) (place value : ℕ) → Four value → Four (slice_index stores place)
    → Four (slice_index (slice_set stores place value) place)
set_same [] place value new old = old
set_same (x ∷ stores) zero value new old = new
set_same (x ∷ stores) (suc place) value new old = set_same stores place value new old

set_at : (stores : List ℕ) (place value j : ℕ) → (j ≡ place → Four value) → Four (slice_index stores j)
    → Four (slice_index (slice_set stores place value) j)
set_at stores place value j new old = elim (cases_eq j place) [
  | inl same ↦
      let At : ℕ → Type 0 = λ p. Four (slice_index (slice_set stores p value) j) in
      subst At same (set_same stores j value (new same) old)
  | inr other ↦ subst Four (sym (get_or-set_other stores place j value 0 other)) old
]

set_aligned : (stores : List ℕ) (place value : ℕ) → AreAligned stores → (mepc ≡ place → Four value) → (sepc ≡ place → Four value)
    → AreAligned (slice_set stores place value)
set_aligned stores place value are to_m to_s = record {
  to_m = set_at stores place value mepc to_m are.to_m;
  to_s = set_at stores place value sepc to_s are.to_s;
}

-- a store to which no return leads
other_aligned : (stores : List ℕ) (place value : ℕ) → AreAligned stores → mepc ≢ place → sepc ≢ place
    → AreAligned (slice_set stores place value)
other_aligned stores place value are no_m no_s = set_aligned stores place value are (λ e. absurd (no_m e)) (λ e. absurd (no_s e))

-- any store, by a multiple of 4
four_aligned : (stores : List ℕ) (place value : ℕ) → AreAligned stores → Four value → AreAligned (slice_set stores place value)
four_aligned stores place value are four = set_aligned stores place value are (λ e. four) (λ e. four)

pub start_aligned : (hart : ℕ) → AreAligned (start_csrs hart)
start_aligned hart = record { to_m = refl; to_s = refl }

-- Counters.

cycle_aligned : (stores : List ℕ) → AreAligned stores → AreAligned (with_one_more mcycle stores)
cycle_aligned stores are = other_aligned stores mcycle _ are (λ e. absurd (omega (arith, e))) (λ e. absurd (omega (arith, e)))

instret_aligned : (stores : List ℕ) → AreAligned stores → AreAligned (with_one_more minstret stores)
instret_aligned stores are = other_aligned stores minstret _ are (λ e. absurd (omega (arith, e))) (λ e. absurd (omega (arith, e)))

pub count_aligned : (stores : List ℕ) (cycle instret : Bool) → AreAligned stores → AreAligned (count stores cycle instret)
unfolding count
count_aligned stores true true are = instret_aligned (with_one_more mcycle stores) (cycle_aligned stores are)
count_aligned stores true false are = cycle_aligned stores are
count_aligned stores false true are = instret_aligned stores are
count_aligned stores false false are = are

-- Traps and returns.

four_times : (n : ℕ) → Four (wrap (4 * n))
four_times n = eq-eqb (wrap (4 * n) % 4) 0 (omega arith)

handler_by : (tvec code : ℕ) (b : Bool) → Four (wrap (tvec / 4 * 4 + (if b then 4 * code else 0)))
handler_by tvec code true =
    let four : tvec / 4 * 4 + 4 * code ≡ 4 * (tvec / 4 + code) = omega arith in
    let At : ℕ → Type 0 = λ n. Four (wrap n) in
    subst At (sym four) (four_times (tvec / 4 + code))
handler_by tvec code false =
    let four : tvec / 4 * 4 + 0 ≡ 4 * (tvec / 4) = omega arith in
    let At : ℕ → Type 0 = λ n. Four (wrap n) in
    subst At (sym four) (four_times (tvec / 4))

handler_aligned : (tvec cause : ℕ) → Four (handler tvec cause)
handler_aligned tvec cause = handler_by tvec (code_of cause) (is_interrupt cause && field 0 2 tvec == 1)

-- a trap or a return leads to a multiple of 4
abbrev pub LeadsOn : Transfer → Type 0
LeadsOn to = (is_multiple to.pc 4 ≡ true) × AreAligned to.stores

status_aligned : (stores : List ℕ) (status : ℕ) → AreAligned stores → AreAligned (slice_set stores mstatus status)
status_aligned stores status are = other_aligned stores mstatus status are (λ e. absurd (omega (arith, e))) (λ e. absurd (omega (arith, e)))

values_aligned : (stores : List ℕ) (epc why told pc cause tval : ℕ) → AreAligned stores → Four pc
    → (mepc ≢ why) × (sepc ≢ why) → (mepc ≢ told) × (sepc ≢ told) → AreAligned (with_trap_values stores epc why told pc cause tval)
values_aligned stores epc why told pc cause tval are four of_why of_told =
    let first = four_aligned stores epc pc are four in
    let second = other_aligned (slice_set stores epc pc) why cause first of_why.0 of_why.1 in
    other_aligned (slice_set (slice_set stores epc pc) why cause) told tval second of_told.0 of_told.1

trap_to_m_leads : (stores : List ℕ) (pc : ℕ) (from : Mode) (cause tval : ℕ) → AreAligned stores → Four pc
    → LeadsOn (trap_to_m stores pc from cause tval)
trap_to_m_leads stores pc from cause tval are four = (
  handler_aligned (slice_index stores mtvec) cause,
  status_aligned (with_trap_values stores mepc mcause mtval pc cause tval) (mstatus_after_trap_to_m (slice_index stores mstatus) from)
      (values_aligned stores mepc mcause mtval pc cause tval are four
      (λ e. absurd (omega (arith, e)), λ e. absurd (omega (arith, e)))
      (λ e. absurd (omega (arith, e)), λ e. absurd (omega (arith, e)))),
)

trap_to_s_leads : (stores : List ℕ) (pc : ℕ) (from : Mode) (cause tval : ℕ) → AreAligned stores → Four pc
    → LeadsOn (trap_to_s stores pc from cause tval)
trap_to_s_leads stores pc from cause tval are four = (
  handler_aligned (slice_index stores stvec) cause,
  status_aligned (with_trap_values stores sepc scause stval pc cause tval) (mstatus_after_trap_to_s (slice_index stores mstatus) from)
      (values_aligned stores sepc scause stval pc cause tval are four
      (λ e. absurd (omega (arith, e)), λ e. absurd (omega (arith, e)))
      (λ e. absurd (omega (arith, e)), λ e. absurd (omega (arith, e)))),
)

trap_by : (b : Bool) (s m : Transfer) → LeadsOn s → LeadsOn m → LeadsOn (if b then s else m)
trap_by true s m first second = first
trap_by false s m first second = second

pub trap_leads : (stores : List ℕ) (pc : ℕ) (from : Mode) (cause tval : ℕ) → is_multiple pc 4 ≡ true → AreAligned stores
    → LeadsOn (trap stores pc from cause tval)
unfolding trap
trap_leads stores pc from cause tval four are =
    trap_by (goes_to_s stores from cause) (trap_to_s stores pc from cause tval) (trap_to_m stores pc from cause tval)
    (trap_to_s_leads stores pc from cause tval are four) (trap_to_m_leads stores pc from cause tval are four)

pub mret_leads : (stores : List ℕ) → AreAligned stores → LeadsOn (mret stores)
unfolding mret
mret_leads stores are = (are.to_m, status_aligned stores (mstatus_after_mret (slice_index stores mstatus)) are)

pub sret_leads : (stores : List ℕ) → AreAligned stores → LeadsOn (sret stores)
unfolding sret
sret_leads stores are = (are.to_s, status_aligned stores (mstatus_after_sret (slice_index stores mstatus)) are)

-- Writes of registers.

-- a write of all bits but the lowest two leaves a multiple of 4
with_bits_four : (old value : ℕ) → Four old → Four (with_bits old (all_but 3) value)
with_bits_four old value four =
    let kept = bit_and old (all_but (all_but 3)) in
    let taken = bit_and value (all_but 3) in
    let kept_none : kept % 4 ≡ 0 = and_mod old (all_but (all_but 3)) 2 ∙ ap (λ x. bit_and x 3) (eqb-true (old % 4) 0 four) ∙ and_zero_l 3 in
    let taken_none : taken % 4 ≡ 0 = and_mod value (all_but 3) 2 ∙ and_zero_r (value % 4) in
    eq-eqb (bit_or kept taken % 4) 0 (or_mod kept taken 2 ∙ ap (λ x. bit_or x (taken % 4)) kept_none ∙ ap (bit_or 0) taken_none)

-- so is each write of a store to which a return leads
abbrev TakesAddress : Bool → ℕ → Type 0
TakesAddress true bits = bits ≡ all_but 3
TakesAddress false bits = Unit {0}

abbrev Takes : Source → ℕ → Type 0
Takes (Store place) bits = TakesAddress (is_return place) bits
Takes other bits = Unit {0}

abbrev AllTake : List ℕ → ℕ → List Row → Type 0
AllTake stores value [] = Unit {0}
AllTake stores value (r ∷ xs) = Takes r.source (r.writes stores value) × AllTake stores value xs

rows_take : (stores : List ℕ) (value : ℕ) → AllTake stores value rows
unfolding rows
rows_take stores value =
    let addresses : all_but 3 ≡ all_but 3 = refl in
    assumption addresses

store_by : (stores : List ℕ) (place bits value : ℕ) (b : Bool) → is_return place ≡ b → TakesAddress b bits → AreAligned stores
    → AreAligned (with_store_bits stores place bits value)
store_by stores place bits value true is takes are =
    let At : ℕ → Type 0 = λ k. Four (slice_index stores k) in
    let By : ℕ → Type 0 = λ m. Four (with_bits (slice_index stores place) m value) in
    set_aligned stores place (with_bits (slice_index stores place) bits value) are
    (λ e. subst By (sym takes) (with_bits_four (slice_index stores place) value (subst At e are.to_m)))
    (λ e. subst By (sym takes) (with_bits_four (slice_index stores place) value (subst At e are.to_s)))
store_by stores place bits value false is takes are =
    other_aligned stores place (with_bits (slice_index stores place) bits value) are
    (λ e. let one : is_return mepc ≡ false = ap is_return e ∙ is in absurd cc)
    (λ e. let one : is_return sepc ≡ false = ap is_return e ∙ is in absurd cc)

source_aligned : (stores : List ℕ) (s : Source) (bits value : ℕ) → Takes s bits → AreAligned stores
    → AreAligned (after_source_write stores s bits value)
source_aligned stores (Store place) bits value takes are = store_by stores place bits value (is_return place) refl takes are
source_aligned stores Pending bits value takes are =
    other_aligned stores mip (with_bits (slice_index stores mip) bits value) are (λ e. absurd (omega (arith, e))) (λ e. absurd (omega (arith, e)))
source_aligned stores Clock bits value takes are = are
source_aligned stores Nothing bits value takes are = are

-- the stores after a write to this row, where it is one
abbrev IsWritten : List ℕ → ℕ → Option Row → Type 0
IsWritten stores value None = Unit {0}
IsWritten stores value (Some r) = AreAligned (after_write stores value r)

written_by : (stores : List ℕ) (value : ℕ) (b : Bool) (r : Row) (other : Option Row) → IsWritten stores value (Some r) → IsWritten stores value other
    → IsWritten stores value (if b then Some r else other)
written_by stores value true r other first second = first
written_by stores value false r other first second = second

found_aligned : (stores : List ℕ) (value : ℕ) (test : Row → Bool) (xs : List Row) → AreAligned stores → AllTake stores value xs
    → IsWritten stores value (find test xs)
found_aligned stores value test [] are all = tt
found_aligned stores value test (r ∷ xs) are all =
    written_by stores value (test r) r (find test xs) (source_aligned stores r.source (r.writes stores value) value all.0 are)
    (found_aligned stores value test xs are all.1)

row_aligned : (stores : List ℕ) (number value : ℕ) → AreAligned stores → IsWritten stores value (row_of number)
unfolding row_of
row_aligned stores number value are = found_aligned stores value (λ r. r.number == number) rows are (rows_take stores value)

write_by : (stores : List ℕ) (value : ℕ) (b : Bool) (o : Option Row) → IsWritten stores value o → AreAligned stores
    → AreAligned (unwrap_or (if b then option_map (after_write stores value) o else None) stores)
write_by stores value true None written are = are
write_by stores value true (Some r) written are = written
write_by stores value false o written are = are

pub csrs_with_aligned : (a : State) (number value : ℕ) → AreAligned a.csrs → AreAligned (csrs_with a number value)
unfolding csr_write
csrs_with_aligned a number value are =
    write_by a.csrs value (not (is_read_only number) && is_allowed a.csrs number a.mode) (row_of number) (row_aligned a.csrs number value are) are
