-- What is loaded from an image file.
use Rattle.std.specs.Prelude.{◌≡◌, ℕ, ◌-◌, ◌==◌, if◌then◌else◌, List, [], ◌∷◌, ◌++◌, length, take, drop, replicate, flat_map, Option, None, Some, Result, Ok, Err, IsOk, IsOkAnd}
use Rattle.std.specs.List.{range_with_len}
use Rattle.flex_base.specs.Place.{ram_base}
use Rattle.flex_base.specs.Loaded.{Loaded}
use Rattle.flex_base.specs.FlatMemory.{image_byte}
use Rattle.image_loader.specs.Headers.{is_elf, elf_header, program_header}
use Rattle.image_loader.specs.Faults.{first_fault, elf_tests, raw_tests}
use Rattle.image_loader.specs.declared.fault.ImageFault.{ImageFault}
use Rattle.image_loader.specs.declared.fault.ImageFault.TheVariants as fault

-- bytes at an address that are filled up with zeros to a size
abbrev pub filled_up : ℕ → List ℕ → ℕ → ℕ × List ℕ
filled_up address bytes size = (address, bytes ++ replicate (size - length bytes) 0)

-- the segment of program header n, where its type is PT_LOAD, 1: its bytes in the file, and then zeros
abbrev pub segment : List ℕ → ℕ → List (ℕ × List ℕ)
segment file n = let h = program_header file n in if h.p_type == 1 then filled_up h.p_paddr (take h.p_filesz (drop h.p_offset file)) h.p_memsz ∷ [] else []

-- the segments of the first program headers
abbrev pub segments : List ℕ → ℕ → List (ℕ × List ℕ)
segments file count = flat_map (segment file) (range_with_len 0 count)

-- the segments are written one after another, so a later one stands where two overlap
abbrev pub elf_image : List ℕ → Loaded
elf_image file = record { entry = (elf_header file).e_entry; parts = segments file (elf_header file).e_phnum }

-- a raw file stands at the beginning of RAM, which is its entry
abbrev pub raw_image : List ℕ → Loaded
raw_image file = record { entry = ram_base; parts = (ram_base, file) ∷ [] }

abbrev pub unless_fault : Option ImageFault → Loaded → Result Loaded ImageFault
unless_fault None image = Ok image
unless_fault (Some fault) image = Err fault

-- what an image file means in RAM of so many bytes: an image, or the first fault of the table
unfoldable pub loaded : List ℕ → ℕ → Result Loaded ImageFault
loaded file ram = if is_elf file then unless_fault (first_fault (elf_tests file ram)) (elf_image file)
    else unless_fault (first_fault (raw_tests file ram)) (raw_image file)

-- two images with which a run begins in the same way: the entry, and each byte of RAM, however they are cut into parts
pub record IsSameStart (one other : Loaded) : Type 0 where
  pub entry : one.entry ≡ other.entry
  pub bytes : (a : ℕ) → image_byte one a ≡ image_byte other a

-- what comes of loading a file of this meaning: its image, however cut into parts; its fault; or want of memory, where it has none
abbrev pub IsOutcome : Result Loaded ImageFault → Result Loaded ImageFault → Type 0
IsOutcome meaning (Ok image) = IsOkAnd meaning (λ start. IsSameStart start image)
IsOutcome meaning (Err fault.OutOfMemory) = IsOk meaning
IsOutcome meaning (Err fault) = meaning ≡ Err fault
