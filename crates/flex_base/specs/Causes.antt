-- Causes of traps (Volume II, "Machine Cause (mcause) Register", table of mcause values).
use Rattle.std.specs.Prelude.{ℕ, ◌+◌, ◌^◌, Bool}
use Rattle.flex_base.specs.Word.{field, is_set}
use Rattle.flex_base.specs.declared.hart.Mode.{Mode}
use Rattle.flex_base.specs.declared.hart.Mode.TheVariants as mode
use Rattle.flex_base.specs.declared.translation.Kind.{Kind}
use Rattle.flex_base.specs.declared.translation.Kind.TheVariants as kind

-- Exceptions.
abbrev pub instruction_address_misaligned : ℕ
instruction_address_misaligned = 0

abbrev pub instruction_access_fault : ℕ
instruction_access_fault = 1

abbrev pub illegal_instruction : ℕ
illegal_instruction = 2

abbrev pub breakpoint : ℕ
breakpoint = 3

abbrev pub load_address_misaligned : ℕ
load_address_misaligned = 4

abbrev pub load_access_fault : ℕ
load_access_fault = 5

abbrev pub store_address_misaligned : ℕ
store_address_misaligned = 6

abbrev pub store_access_fault : ℕ
store_access_fault = 7

abbrev pub ecall_from : Mode → ℕ
ecall_from mode.U = 8
ecall_from mode.S = 9
ecall_from mode.M = 11

abbrev pub instruction_page_fault : ℕ
instruction_page_fault = 12

abbrev pub load_page_fault : ℕ
load_page_fault = 13

abbrev pub store_page_fault : ℕ
store_page_fault = 15

-- The exceptions of each kind of access: by its alignment, by its translation, and by its place.
abbrev pub misaligned : Kind → ℕ
misaligned kind.Fetch = instruction_address_misaligned
misaligned kind.Load = load_address_misaligned
misaligned kind.Store = store_address_misaligned

abbrev pub page_fault : Kind → ℕ
page_fault kind.Fetch = instruction_page_fault
page_fault kind.Load = load_page_fault
page_fault kind.Store = store_page_fault

abbrev pub access_fault : Kind → ℕ
access_fault kind.Fetch = instruction_access_fault
access_fault kind.Load = load_access_fault
access_fault kind.Store = store_access_fault

-- Interrupts, by their bits in mip and mie.
abbrev pub SSI : ℕ
SSI = 1

abbrev pub MSI : ℕ
MSI = 3

abbrev pub STI : ℕ
STI = 5

abbrev pub MTI : ℕ
MTI = 7

abbrev pub SEI : ℕ
SEI = 9

abbrev pub MEI : ℕ
MEI = 11

-- the cause of an interrupt has the highest bit set
abbrev pub interrupt : ℕ → ℕ
interrupt i = 2 ^ 63 + i

abbrev pub is_interrupt : ℕ → Bool
is_interrupt cause = is_set 63 cause

-- the number of a cause, without the bit of interrupts
abbrev pub code_of : ℕ → ℕ
code_of cause = field 0 6 cause
