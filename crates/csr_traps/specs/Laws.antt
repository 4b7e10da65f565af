-- Laws of the definitions of CSRs, traps and interrupts.
use Rattle.std.specs.Prelude.{◌≡◌, ◌≢◌, ℕ, ◌⊎◌, Bool, true, false, ◌&&◌, ◌==◌, List, [], ◌∷◌, ◌++◌, Some, ◌<◌, ◌^◌, slice_index, bit_and}
use Rattle.std.specs.List.{list_all, list_any, range_with_len}
use Rattle.flex_base.specs.Causes.{interrupt}
use Rattle.flex_base.specs.Csrs.{csr_read, MIE, MPP, SIE, SPP, Row, Source, Store, Pending, rows, mideleg, mip, store_bits, with_bits}
use Rattle.flex_base.specs.Traps.{interrupts, is_ready, is_for_m, is_for_s, takeable, mode_of, mstatus_after_trap_to_m, mstatus_after_trap_to_s, mstatus_after_mret, mstatus_after_sret}
use Rattle.flex_base.specs.Word.{field}
use Rattle.flex_base.specs.declared.hart.Mode.{Mode}
use Rattle.flex_base.specs.declared.hart.Mode.TheVariants as mode

-- none of these interrupts meets a test
abbrev pub NoneOf : (ℕ → Bool) → List ℕ → Type 0
NoneOf test [] = Unit {0}
NoneOf test (i ∷ rest) = (test i ≡ false) × NoneOf test rest

-- this interrupt meets a test, and none before it does
abbrev pub IsFirst : (ℕ → Bool) → ℕ → Type 0
IsFirst test i = (before : List ℕ) × (after : List ℕ) × (interrupts ≡ before ++ i ∷ after) × NoneOf test before × (test i ≡ true)

-- the interrupt that is taken is pending and enabled, and is the first of those to M; where none goes to M it is the first of
-- those to S
unfoldable pub TakesFirst : List ℕ → ℕ → Mode → Type 0
TakesFirst stores lines mode =
    (cause : ℕ) → takeable stores lines mode ≡ Some cause → (i : ℕ) × (cause ≡ interrupt i) × (is_ready stores lines i ≡ true)
    × (IsFirst (is_for_m stores lines mode) i ⊎ (NoneOf (is_for_m stores lines mode) interrupts × IsFirst (is_for_s stores lines mode) i))

-- a return from the trap that was just taken to M leads to the mode that was left, with its enable bit
unfoldable pub RestoresM : ℕ → Mode → Type 0
RestoresM status from =
    (mode_of (field MPP 2 (mstatus_after_trap_to_m status from)) ≡ from)
    × (field MIE 1 (mstatus_after_mret (mstatus_after_trap_to_m status from)) ≡ field MIE 1 status)

-- and so does one from S, where no trap from M goes
unfoldable pub RestoresS : ℕ → Mode → Type 0
RestoresS status from =
    (from ≢ mode.M → mode_of (field SPP 1 (mstatus_after_trap_to_s status from)) ≡ from)
    × (field SIE 1 (mstatus_after_sret (mstatus_after_trap_to_s status from)) ≡ field SIE 1 status)

-- the bits that a write to this register changes read back as they were written, whatever stood there
abbrev pub ReadsBack : Row → Type 0
ReadsBack r =
    (stores : List ℕ) (old value : ℕ) → slice_index stores mideleg < 2 ^ 64 →
    bit_and (r.reads stores (with_bits old (r.writes stores value) value)) (r.writes stores value) ≡ bit_and value (r.writes stores value)

-- each of these rows meets a law
abbrev pub OfEach : (Row → Type 0) → List Row → Type 0
OfEach Law [] = Unit {0}
OfEach Law (r ∷ rest) = Law r × OfEach Law rest

-- so it is of every register
unfoldable pub AllReadBack : Type 0
AllReadBack = OfEach ReadsBack rows

-- a source that is this store
abbrev pub is_store : ℕ → Source → Bool
is_store place (Store other) = place == other
is_store place Pending = place == mip
is_store place other = false

-- of the bits that fit stores may have each is written: they are those that a write of 0 changes, for each store by one of its
-- registers
unfoldable pub StoreBitsAreWritten : Type 0
StoreBitsAreWritten =
    list_all (λ place. list_any (λ r. is_store place r.source && r.writes [] 0 == slice_index store_bits place) rows) (range_with_len 0 20) ≡ true

-- sstatus is a view of mstatus: in the bits that it shows, both read the same
unfoldable pub IsView : List ℕ → Type 0
IsView stores =
    (lines time whole part : ℕ) → csr_read stores 0x300 mode.M lines time ≡ Some whole → csr_read stores 0x100 mode.M lines time ≡ Some part →
    bit_and part 0xc0122 ≡ bit_and whole 0xc0122
