-- The headers of an ELF-64 object file, little-endian (System V ABI, "ELF Header" and "Program Header").
use Rattle.std.specs.Prelude.{◌≡◌, ℕ, ◌+◌, ◌*◌, ◌≤◌, Bool, false, ◌&&◌, ◌==◌, List, ◌∷◌, length, slice_index}
use Rattle.flex_base.specs.FlatMemory.{value_at}
use Rattle.image_loader.specs.declared.headers.ElfHeader.{ElfHeader}
use Rattle.image_loader.specs.declared.headers.ProgramHeader.{ProgramHeader}

-- the little-endian value of so many bytes at an offset of the file
abbrev pub little_endian : List ℕ → ℕ → ℕ → ℕ
little_endian file at size = value_at (λ i. slice_index file i) at size

-- an ELF file begins with the magic number 7f 45 4c 46
abbrev pub is_elf : List ℕ → Bool
is_elf (a ∷ b ∷ c ∷ d ∷ rest) = (a == 0x7f) && (b == 0x45) && (c == 0x4c) && (d == 0x46)
is_elf other = false

-- the ELF header, at the beginning of the file
unfoldable pub elf_header : List ℕ → ElfHeader
elf_header file = record {
  ei_class = little_endian file 4 1;
  ei_data = little_endian file 5 1;
  e_type = little_endian file 16 2;
  e_machine = little_endian file 18 2;
  e_entry = little_endian file 24 8;
  e_phoff = little_endian file 32 8;
  e_phentsize = little_endian file 54 2;
  e_phnum = little_endian file 56 2;
}

-- a program header has 56 bytes
abbrev pub program_header_size : ℕ
program_header_size = 56

-- the program header at an offset of the file
unfoldable pub program_header_at : List ℕ → ℕ → ProgramHeader
program_header_at file at = record {
  p_type = little_endian file at 4;
  p_offset = little_endian file (at + 8) 8;
  p_paddr = little_endian file (at + 24) 8;
  p_filesz = little_endian file (at + 32) 8;
  p_memsz = little_endian file (at + 40) 8;
}

-- the ELF header of a file in which the table of program headers lies whole
pub record IsHeader (file : List ℕ) (header : ElfHeader) : Type 0 where
  pub fields : header ≡ elf_header file
  pub table : header.e_phoff + program_header_size * header.e_phnum ≤ length file

-- program header n of the table
abbrev pub program_header : List ℕ → ℕ → ProgramHeader
program_header file n = program_header_at file ((elf_header file).e_phoff + program_header_size * n)
