-- What is wrong with an image file: a table of tests, of which the first that finds a fault gives it. Sums don't wrap.
use Rattle.std.specs.Prelude.{◌≡◌, ℕ, ◌+◌, ◌*◌, Bool, ◌&&◌, not, ◌==◌, nat_le, nat_lt, if◌then◌else◌, List, [], ◌∷◌, ◌++◌, length, flat_map, Option, None, Some}
use Rattle.std.specs.List.{range_with_len}
use Rattle.flex_base.specs.Word.{is_multiple}
use Rattle.flex_base.specs.Place.{in_ram}
use Rattle.image_loader.specs.Headers.{elf_header, program_header, program_header_size}
use Rattle.image_loader.specs.declared.fault.ImageFault.{ImageFault}
use Rattle.image_loader.specs.declared.fault.ImageFault.TheVariants as fault

-- the number of a fault in the table of all
abbrev pub fault_number : ImageFault → ℕ
fault_number fault.Short = 1
fault_number fault.NotElf64Little = 2
fault_number (fault.NotExec found) = 3
fault_number (fault.NotRiscv found) = 4
fault_number fault.BadHeaderSize = 5
fault_number fault.TableOutside = 6
fault_number (fault.SegmentOutsideFile index) = 7
fault_number (fault.FileOverMemory index) = 8
fault_number (fault.SegmentOutsideRam index) = 9
fault_number (fault.BadEntry entry) = 10
fault_number (fault.TooLong bytes) = 11
fault_number fault.OutOfMemory = 12

-- the fault is one of those that a file is tested for, which are neither its length nor want of memory
abbrev pub is_of_file : ImageFault → Bool
is_of_file fault = nat_le (fault_number fault) 10

-- a test: whether it finds its fault, and the fault
abbrev pub FaultTest : Type 0
FaultTest = Bool × ImageFault

-- the fault of the first test that finds one
abbrev pub first_fault : List FaultTest → Option ImageFault
first_fault [] = None
first_fault (test ∷ tests) = if test.0 then Some test.1 else first_fault tests

-- no test finds a fault
abbrev pub IsFaultless : List FaultTest → Type 0
IsFaultless tests = first_fault tests ≡ None

-- of the ELF header: its size, ELFCLASS64 and ELFDATA2LSB, ET_EXEC, EM_RISCV, and the table of program headers
abbrev pub header_tests : List ℕ → List FaultTest
header_tests file = let h = elf_header file in
    (nat_lt (length file) 64, fault.Short)
    ∷ (not ((h.ei_class == 2) && (h.ei_data == 1)), fault.NotElf64Little)
    ∷ (not (h.e_type == 2), fault.NotExec h.e_type)
    ∷ (not (h.e_machine == 243), fault.NotRiscv h.e_machine)
    ∷ (not (h.e_phnum == 0) && not (h.e_phentsize == program_header_size), fault.BadHeaderSize)
    ∷ (nat_lt (length file) (h.e_phoff + program_header_size * h.e_phnum), fault.TableOutside)
    ∷ []

-- of program header n: its bytes in the file, in memory, and its place; what isn't PT_LOAD is passed over
abbrev pub segment_tests : List ℕ → ℕ → ℕ → List FaultTest
segment_tests file ram n = let h = program_header file n in if h.p_type == 1 then
    ((nat_lt (length file) (h.p_offset + h.p_filesz), fault.SegmentOutsideFile n)
    ∷ (nat_lt h.p_memsz h.p_filesz, fault.FileOverMemory n)
    ∷ (not (h.p_memsz == 0) && not (in_ram ram h.p_paddr h.p_memsz), fault.SegmentOutsideRam n)
    ∷ []) else []

-- of the entry
abbrev pub entry_tests : List ℕ → ℕ → List FaultTest
entry_tests file ram = let h = elf_header file in
    (not (is_multiple h.e_entry 4 && in_ram ram h.e_entry 1), fault.BadEntry h.e_entry)
    ∷ []

-- of the segments, in the order of their program headers
abbrev pub table_tests : List ℕ → ℕ → ℕ → List FaultTest
table_tests file ram count = flat_map (segment_tests file ram) (range_with_len 0 count)

-- of an ELF file
abbrev pub elf_tests : List ℕ → ℕ → List FaultTest
elf_tests file ram = header_tests file ++ table_tests file ram (elf_header file).e_phnum ++ entry_tests file ram

-- of a raw file
abbrev pub raw_tests : List ℕ → ℕ → List FaultTest
raw_tests file ram = (nat_lt ram (length file), fault.SegmentOutsideRam 0) ∷ []
