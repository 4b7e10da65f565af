-- Control and status registers (Volume II, "Control and Status Registers (CSRs)" and the chapters of each level).
--
-- A hart holds 21 words for them, the stores. Several registers can be views of one store.
use Rattle.std.specs.Prelude.{◌≡◌, ◌≢◌, ℕ, ◌-◌, ◌<◌, Bool, true, not, ◌&&◌, ◌||◌, ◌==◌, nat_le, if◌then◌else◌, List, [], ◌∷◌, Option, None, Some, find, option_map, length, replicate, ◌++◌, slice_index, slice_set, bit_and, bit_or}
use Rattle.flex_base.specs.Word.{field, is_set}
use Rattle.flex_base.specs.declared.hart.Mode.{Mode}
use Rattle.flex_base.specs.declared.hart.Mode.TheVariants as mode

-- The places of the stores: the registers that a trace shows, by their numbers, and the hart's number.
abbrev pub stvec : ℕ
stvec = 0

abbrev pub scounteren : ℕ
scounteren = 1

abbrev pub sscratch : ℕ
sscratch = 2

abbrev pub sepc : ℕ
sepc = 3

abbrev pub scause : ℕ
scause = 4

abbrev pub stval : ℕ
stval = 5

abbrev pub satp : ℕ
satp = 6

abbrev pub mstatus : ℕ
mstatus = 7

abbrev pub medeleg : ℕ
medeleg = 8

abbrev pub mideleg : ℕ
mideleg = 9

abbrev pub mie : ℕ
mie = 10

abbrev pub mtvec : ℕ
mtvec = 11

abbrev pub mcounteren : ℕ
mcounteren = 12

abbrev pub mscratch : ℕ
mscratch = 13

abbrev pub mepc : ℕ
mepc = 14

abbrev pub mcause : ℕ
mcause = 15

abbrev pub mtval : ℕ
mtval = 16

-- the software bits alone; the hart's interrupt lines join them where mip is read
abbrev pub mip : ℕ
mip = 17

abbrev pub mcycle : ℕ
mcycle = 18

abbrev pub minstret : ℕ
minstret = 19

abbrev pub mhartid : ℕ
mhartid = 20

-- all stores are 0 at the start but the hart's number
abbrev pub start_csrs : ℕ → List ℕ
start_csrs hart = replicate 20 0 ++ hart ∷ []

-- Bits of mstatus (Volume II, "Machine Status Registers (mstatus and mstatush)"). MPP has two bits, from this one on.
abbrev pub SIE : ℕ
SIE = 1

abbrev pub MIE : ℕ
MIE = 3

abbrev pub SPIE : ℕ
SPIE = 5

abbrev pub MPIE : ℕ
MPIE = 7

abbrev pub SPP : ℕ
SPP = 8

abbrev pub MPP : ℕ
MPP = 11

abbrev pub MPRV : ℕ
MPRV = 17

abbrev pub SUM : ℕ
SUM = 18

abbrev pub MXR : ℕ
MXR = 19

abbrev pub TVM : ℕ
TVM = 20

abbrev pub TW : ℕ
TW = 21

abbrev pub TSR : ℕ
TSR = 22

-- a mode as the manual numbers it; 2 is reserved
abbrev pub mode_number : Mode → ℕ
mode_number mode.U = 0
mode_number mode.S = 1
mode_number mode.M = 3

-- What a register is read from: a store, the store of mip with the hart's interrupt lines, the time, or nothing.
pub data Source : Type 0 where
  Store : ℕ → Source
  Pending : Source
  Clock : Source
  Nothing : Source

-- Who may use a register beyond what its number says: anybody, S only with TVM clear, or the modes below M only with this
-- bit of mcounteren set, and U with that of scounteren too.
pub data Guard : Type 0 where
  Free : Guard
  ByTvm : Guard
  ByCounter : ℕ → Guard

-- A register. `reads` is what is read of what stands in the source, and `writes` are the bits that a write of this value
-- changes; both may depend on the stores.
pub record Row : Type 0 where
  pub number : ℕ
  pub source : Source
  pub reads : List ℕ → ℕ → ℕ
  pub writes : List ℕ → ℕ → ℕ
  pub guard : Guard

abbrev pub all_bits : ℕ
all_bits = 0xffffffffffffffff

abbrev pub all_but : ℕ → ℕ
all_but bits = all_bits - bits

-- What is read: all bits, some bits, some bits beside others that always read as these, or a constant.
abbrev pub shows_all : List ℕ → ℕ → ℕ
shows_all stores value = value

abbrev pub shows : ℕ → List ℕ → ℕ → ℕ
shows bits stores value = bit_and value bits

abbrev pub shows_beside : ℕ → ℕ → List ℕ → ℕ → ℕ
shows_beside bits fixed stores value = bit_or (bit_and value bits) fixed

abbrev pub shows_constant : ℕ → List ℕ → ℕ → ℕ
shows_constant fixed stores value = fixed

-- the bits of the interrupts that are delegated to S
abbrev pub shows_delegated : List ℕ → ℕ → ℕ
shows_delegated stores value = bit_and value (slice_index stores mideleg)

-- What is written: some bits, nothing, or what is delegated.
abbrev pub takes : ℕ → List ℕ → ℕ → ℕ
takes bits stores value = bits

abbrev pub takes_nothing : List ℕ → ℕ → ℕ
takes_nothing = takes 0

abbrev pub takes_delegated : List ℕ → ℕ → ℕ
takes_delegated stores value = slice_index stores mideleg

-- of the delegated ones S itself raises the software interrupt of S alone
abbrev pub takes_delegated_ssi : List ℕ → ℕ → ℕ
takes_delegated_ssi stores value = bit_and 2 (slice_index stores mideleg)

-- MPP keeps what it has where the reserved mode is written
abbrev pub takes_mstatus : List ℕ → ℕ → ℕ
takes_mstatus stores value = if field MPP 2 value == 2 then 0x7e01aa else 0x7e19aa

-- MODE of satp is 0 (Bare) or 8 (Sv39)
abbrev pub is_satp_mode : ℕ → Bool
is_satp_mode mode = mode == 0 || mode == 8

-- satp takes nothing of a value with another MODE
abbrev pub takes_satp : List ℕ → ℕ → ℕ
takes_satp stores value = if is_satp_mode (field 60 4 value) then 0xf0000fffffffffff else 0

abbrev pub row : ℕ → Source → (List ℕ → ℕ → ℕ) → (List ℕ → ℕ → ℕ) → Guard → Row
row number source reads writes guard = record { number = number; source = source; reads = reads; writes = writes; guard = guard }

-- a register of nothing but constant bits, which takes no write
abbrev pub constant : ℕ → ℕ → Row
constant number fixed = row number Nothing (shows_constant fixed) takes_nothing Free

-- The registers, in the order of Volume II, "CSR Listing". The columns are number, source, what is read, bits written,
-- guard, and the name. Whether a write is illegal is by the number alone: a row of a read-only number takes nothing.
unfoldable pub rows : List Row
rows =
    -- unprivileged counters and timers
    row 0xc00 (Store mcycle) shows_all takes_nothing (ByCounter 0)  -- cycle
    ∷ row 0xc01 Clock shows_all takes_nothing (ByCounter 1)  -- time
    ∷ row 0xc02 (Store minstret) shows_all takes_nothing (ByCounter 2)  -- instret
    -- supervisor trap setup
    ∷ row 0x100 (Store mstatus) (shows_beside 0xc0122 0x200000000) (takes 0xc0122) Free  -- sstatus
    ∷ row 0x104 (Store mie) shows_delegated takes_delegated Free  -- sie
    ∷ row 0x105 (Store stvec) (shows (all_but 2)) (takes (all_but 2)) Free  -- stvec
    ∷ row 0x106 (Store scounteren) (shows 7) (takes 7) Free  -- scounteren
    -- supervisor trap handling
    ∷ row 0x140 (Store sscratch) shows_all (takes all_bits) Free  -- sscratch
    ∷ row 0x141 (Store sepc) (shows (all_but 3)) (takes (all_but 3)) Free  -- sepc
    ∷ row 0x142 (Store scause) (shows 0x800000000000003f) (takes 0x800000000000003f) Free  -- scause
    ∷ row 0x143 (Store stval) shows_all (takes all_bits) Free  -- stval
    ∷ row 0x144 Pending shows_delegated takes_delegated_ssi Free  -- sip
    -- supervisor protection and translation
    ∷ row 0x180 (Store satp) (shows 0xf0000fffffffffff) takes_satp ByTvm  -- satp
    -- machine information registers
    ∷ constant 0xf11 0  -- mvendorid
    ∷ constant 0xf12 0  -- marchid
    ∷ constant 0xf13 0  -- mimpid
    ∷ row 0xf14 (Store mhartid) shows_all takes_nothing Free  -- mhartid
    -- machine trap setup
    ∷ row 0x300 (Store mstatus) (shows_beside 0x7e19aa 0xa00000000) takes_mstatus Free  -- mstatus
    ∷ constant 0x301 0x8000000000141101  -- misa
    ∷ row 0x302 (Store medeleg) (shows 0xb3ff) (takes 0xb3ff) Free  -- medeleg
    ∷ row 0x303 (Store mideleg) (shows 0x222) (takes 0x222) Free  -- mideleg
    ∷ row 0x304 (Store mie) (shows 0xaaa) (takes 0xaaa) Free  -- mie
    ∷ row 0x305 (Store mtvec) (shows (all_but 2)) (takes (all_but 2)) Free  -- mtvec
    ∷ row 0x306 (Store mcounteren) (shows 7) (takes 7) Free  -- mcounteren
    -- machine trap handling
    ∷ row 0x340 (Store mscratch) shows_all (takes all_bits) Free  -- mscratch
    ∷ row 0x341 (Store mepc) (shows (all_but 3)) (takes (all_but 3)) Free  -- mepc
    ∷ row 0x342 (Store mcause) (shows 0x800000000000003f) (takes 0x800000000000003f) Free  -- mcause
    ∷ row 0x343 (Store mtval) shows_all (takes all_bits) Free  -- mtval
    ∷ row 0x344 Pending (shows 0xaaa) (takes 0x222) Free  -- mip
    -- machine memory protection, of which there is none
    ∷ constant 0x3a0 0  -- pmpcfg0
    ∷ constant 0x3a2 0  -- pmpcfg2
    ∷ constant 0x3b0 0  -- pmpaddr0
    ∷ constant 0x3b1 0  -- pmpaddr1
    ∷ constant 0x3b2 0  -- pmpaddr2
    ∷ constant 0x3b3 0  -- pmpaddr3
    ∷ constant 0x3b4 0  -- pmpaddr4
    ∷ constant 0x3b5 0  -- pmpaddr5
    ∷ constant 0x3b6 0  -- pmpaddr6
    ∷ constant 0x3b7 0  -- pmpaddr7
    ∷ constant 0x3b8 0  -- pmpaddr8
    ∷ constant 0x3b9 0  -- pmpaddr9
    ∷ constant 0x3ba 0  -- pmpaddr10
    ∷ constant 0x3bb 0  -- pmpaddr11
    ∷ constant 0x3bc 0  -- pmpaddr12
    ∷ constant 0x3bd 0  -- pmpaddr13
    ∷ constant 0x3be 0  -- pmpaddr14
    ∷ constant 0x3bf 0  -- pmpaddr15
    -- machine counters and timers
    ∷ row 0xb00 (Store mcycle) shows_all (takes all_bits) Free  -- mcycle
    ∷ row 0xb02 (Store minstret) shows_all (takes all_bits) Free  -- minstret
    ∷ []

-- the row of a number, if it is listed
unfoldable pub row_of : ℕ → Option Row
row_of number = find (λ r. r.number == number) rows

-- bits 9:8 of the number are the lowest mode, and bits 11:10 = 11 say that nothing writes it (Volume II, "CSR Address Mapping
-- Conventions")
abbrev pub is_high_enough : ℕ → Mode → Bool
is_high_enough number mode = nat_le (field 8 2 number) (mode_number mode)

abbrev pub is_read_only : ℕ → Bool
is_read_only number = field 10 2 number == 3

-- a mode reads a counter by this bit of the counter enables (Volume II, "Machine Counter-Enable Register (mcounteren)",
-- "Counter-Enable Register (scounteren)")
abbrev pub has_counter : List ℕ → ℕ → Mode → Bool
has_counter stores bit mode.M = true
has_counter stores bit mode.S = is_set bit (slice_index stores mcounteren)
has_counter stores bit mode.U = is_set bit (slice_index stores mcounteren) && is_set bit (slice_index stores scounteren)

-- TVM keeps S from satp (Volume II, "Virtualization Support in mstatus Register")
abbrev pub has_satp : List ℕ → Mode → Bool
has_satp stores mode.S = not (is_set TVM (slice_index stores mstatus))
has_satp stores other = true

abbrev pub passes_guard : List ℕ → Guard → Mode → Bool
passes_guard stores Free mode = true
passes_guard stores ByTvm mode = has_satp stores mode
passes_guard stores (ByCounter bit) mode = has_counter stores bit mode

-- the guard of a number; one that isn't listed needs none, since it is refused anyway
abbrev pub guard_of : Option Row → Guard
guard_of None = Free
guard_of (Some r) = r.guard

-- whether a mode may use a register, if it is listed
abbrev pub is_allowed : List ℕ → ℕ → Mode → Bool
is_allowed stores number mode = is_high_enough number mode && passes_guard stores (guard_of (row_of number)) mode

-- what stands in a source
abbrev pub source_value : List ℕ → ℕ → ℕ → Source → ℕ
source_value stores lines time (Store place) = slice_index stores place
source_value stores lines time Pending = bit_or (slice_index stores mip) lines
source_value stores lines time Clock = time
source_value stores lines time Nothing = 0

-- what a register reads as
abbrev pub value_of : List ℕ → ℕ → ℕ → Row → ℕ
value_of stores lines time r = r.reads stores (source_value stores lines time r.source)

-- a word in which these bits are those of a value
abbrev pub with_bits : ℕ → ℕ → ℕ → ℕ
with_bits old bits value = bit_or (bit_and old (all_but bits)) (bit_and value bits)

-- the stores with these bits of one of them as in a value
abbrev pub with_store_bits : List ℕ → ℕ → ℕ → ℕ → List ℕ
with_store_bits stores place bits value = slice_set stores place (with_bits (slice_index stores place) bits value)

-- the stores after a write to what stands in a source
abbrev pub after_source_write : List ℕ → Source → ℕ → ℕ → List ℕ
after_source_write stores (Store place) bits value = with_store_bits stores place bits value
after_source_write stores Pending bits value = with_store_bits stores mip bits value
after_source_write stores Clock bits value = stores
after_source_write stores Nothing bits value = stores

-- the stores after a write to a register
abbrev pub after_write : List ℕ → ℕ → Row → List ℕ
after_write stores value r = after_source_write stores r.source (r.writes stores value) value

-- what a CSR instruction reads in this mode, with these interrupt lines and at this time; None is an illegal instruction
unfoldable pub csr_read : List ℕ → ℕ → Mode → ℕ → ℕ → Option ℕ
csr_read stores number mode lines time =
    if is_allowed stores number mode then option_map (value_of stores lines time) (row_of number) else None

-- the stores after a CSR instruction's write; None is an illegal instruction
unfoldable pub csr_write : List ℕ → ℕ → Mode → ℕ → Option (List ℕ)
csr_write stores number mode value =
    if not (is_read_only number) && is_allowed stores number mode then option_map (after_write stores value) (row_of number) else None

-- The bits that each store may have, in the order of the stores but for the hart's number: those that its own row writes.
abbrev pub store_bits : List ℕ
store_bits =
    all_but 2  -- stvec
    ∷ 7  -- scounteren
    ∷ all_bits  -- sscratch
    ∷ all_but 3  -- sepc
    ∷ 0x800000000000003f  -- scause
    ∷ all_bits  -- stval
    ∷ 0xf0000fffffffffff  -- satp
    ∷ 0x7e19aa  -- mstatus
    ∷ 0xb3ff  -- medeleg
    ∷ 0x222  -- mideleg
    ∷ 0xaaa  -- mie
    ∷ all_but 2  -- mtvec
    ∷ 7  -- mcounteren
    ∷ all_bits  -- mscratch
    ∷ all_but 3  -- mepc
    ∷ 0x800000000000003f  -- mcause
    ∷ all_bits  -- mtval
    ∷ 0x222  -- mip
    ∷ all_bits  -- mcycle
    ∷ all_bits  -- minstret
    ∷ []

-- a word has no bit beside these
abbrev pub IsWithin : ℕ → ℕ → Type 0
IsWithin bits word = bit_and word bits ≡ word

-- a cause as mcause and scause can hold it
abbrev pub IsCause : ℕ → Type 0
IsCause cause = IsWithin 0x800000000000003f cause

-- The stores that a hart can have among so many harts: none has a bit beside its own, MPP is no reserved mode, satp's MODE is
-- Bare or Sv39, and the hart's number is one of theirs.
pub record AreFit (harts : ℕ) (stores : List ℕ) : Type 0 where
  pub places : length stores ≡ 21
  pub within : (k : ℕ) → k < 20 → IsWithin (slice_index store_bits k) (slice_index stores k)
  pub mpp : field MPP 2 (slice_index stores mstatus) ≢ 2
  pub satp_mode : is_satp_mode (field 60 4 (slice_index stores satp)) ≡ true
  pub hart : slice_index stores mhartid < harts
