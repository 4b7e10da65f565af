-- What follows from the first fault of an ELF file.
use Rattle.std.proofs.Common.{◌≡◌, ℕ, Bool, true, false, ◌&&◌, not, ◌==◌, if◌then◌else◌, List, [], ◌∷◌, ◌++◌, refl, ap, sym, ◌∙◌}
use Rattle.std.specs.Prelude.{Option, None, Some, Err, IfErr, flat_map}
use Rattle.std.specs.List.{list_all, range_with_len}
use Rattle.std.proofs.lemmas.List.Folds.{list_all-append}
use Rattle.flex_base.specs.Word.{is_multiple}
use Rattle.flex_base.specs.Place.{in_ram}
use Rattle.flex_base.specs.Loaded.{Loaded, part_fits, image_fits}
use Rattle.image_loader.specs.Headers.{is_elf, elf_header, program_header}
use Rattle.image_loader.specs.Faults.{is_of_file, FaultTest, first_fault, header_tests, segment_tests, table_tests, entry_tests, elf_tests, raw_tests}
use Rattle.image_loader.specs.Loading.{elf_image, raw_image, unless_fault, loaded, IsOutcome}
use Rattle.image_loader.proofs.Tables.{no_fault_last}
use Rattle.image_loader.specs.declared.fault.ImageFault.{ImageFault}
use Rattle.image_loader.specs.declared.fault.ImageFault.TheVariants as fault

abbrev are_of_file : List FaultTest → Bool
are_of_file tests = list_all (λ test. is_of_file test.1) tests

both : (a b : Bool) → a ≡ true → b ≡ true → (a && b) ≡ true
both a b first second = rw (first, second) refl

first_true : (a b : Bool) → (a && b) ≡ true → a ≡ true
first_true true b e = refl
first_true false b e = absurd cc

second_true : (a b : Bool) → (a && b) ≡ true → b ≡ true
second_true true b e = e
second_true false b e = absurd cc

are_of_file-append : (tests more : List FaultTest) → are_of_file tests ≡ true → are_of_file more ≡ true → are_of_file (tests ++ more) ≡ true
are_of_file-append tests more first second = list_all-append (λ (test : FaultTest). is_of_file test.1) tests more ∙ both (are_of_file tests) (are_of_file more) first second

of_one_segment : (b : Bool) (x y z : FaultTest) → is_of_file x.1 ≡ true → is_of_file y.1 ≡ true → is_of_file z.1 ≡ true → are_of_file (if b then (x ∷ y ∷ z ∷ []) else []) ≡ true
of_one_segment true x y z p q r = rw (p, q, r) refl
of_one_segment false x y z p q r = refl

of_segments : (file : List ℕ) (ram : ℕ) (ns : List ℕ) → are_of_file (flat_map (segment_tests file ram) ns) ≡ true
of_segments file ram [] = refl
of_segments file ram (n ∷ ns) = are_of_file-append (segment_tests file ram n) (flat_map (segment_tests file ram) ns) (of_one_segment ((program_header file n).p_type == 1) _ _ _ refl refl refl) (of_segments file ram ns)

of_file : (file : List ℕ) (ram : ℕ) → are_of_file (elf_tests file ram) ≡ true
of_file file ram =
    let table = table_tests file ram (elf_header file).e_phnum in
    are_of_file-append (header_tests file ++ table) (entry_tests file ram) (are_of_file-append (header_tests file) table refl (of_segments file ram (range_with_len 0 (elf_header file).e_phnum))) refl

first_of_file : (tests : List FaultTest) (found : ImageFault) → are_of_file tests ≡ true → first_fault tests ≡ Some found → is_of_file found ≡ true
first_of_file [] found all none = absurd cc
first_of_file ((true, fault) ∷ tests) found all here =
    let same : fault ≡ found = cc in
    ap is_of_file (sym same) ∙ first_true (is_of_file fault) (are_of_file tests) all
first_of_file ((false, fault) ∷ tests) found all there = first_of_file tests found (second_true (is_of_file fault) (are_of_file tests) all) there

of_raw_file : (file : List ℕ) (ram : ℕ) → are_of_file (raw_tests file ram) ≡ true
of_raw_file file ram = refl

of_meaning : (tests : List FaultTest) (image : Loaded) (first : Option ImageFault) → first ≡ first_fault tests → are_of_file tests ≡ true → IfErr (unless_fault first image) (λ fault. is_of_file fault ≡ true)
of_meaning tests image None is all = tt
of_meaning tests image (Some found) is all = first_of_file tests found all (sym is)

-- what a file is refused for is a fault of the file
pub refused_of_file : (file : List ℕ) (ram : ℕ) → IfErr (loaded file ram) (λ fault. is_of_file fault ≡ true)
unfolding loaded
refused_of_file file ram = elim (is_elf file) as (λ b. IfErr (if b then unless_fault (first_fault (elf_tests file ram)) (elf_image file) else unless_fault (first_fault (raw_tests file ram)) (raw_image file)) (λ fault. is_of_file fault ≡ true)) [
  | true ↦ of_meaning (elf_tests file ram) (elf_image file) (first_fault (elf_tests file ram)) refl (of_file file ram)
  | false ↦ of_meaning (raw_tests file ram) (raw_image file) (first_fault (raw_tests file ram)) refl (of_raw_file file ram)
]

answers : (found : ImageFault) (meaning : Option ImageFault) (image : Loaded) → meaning ≡ Some found → is_of_file found ≡ true → IsOutcome (unless_fault meaning image) (Err found)
answers fault.OutOfMemory meaning image is named = absurd cc
answers other meaning image is named = rw is refl

-- the answer is the first fault
pub answers_fault : (file : List ℕ) (ram : ℕ) (found : ImageFault) (image : Loaded) → first_fault (elf_tests file ram) ≡ Some found → IsOutcome (unless_fault (first_fault (elf_tests file ram)) image) (Err found)
answers_fault file ram found image is = answers found (first_fault (elf_tests file ram)) image is (first_of_file (elf_tests file ram) found (of_file file ram) is)

passed : (b : Bool) (found : ImageFault) → (if not b then Some found else None) ≡ None → b ≡ true
passed true found none = refl
passed false found none = absurd cc

-- an entry without a fault, and parts that lie in RAM
pub fits_without_fault : (file : List ℕ) (ram : ℕ) (parts : List (ℕ × List ℕ)) → first_fault (elf_tests file ram) ≡ None → list_all (part_fits ram) parts ≡ true → image_fits ram (record { entry = (elf_header file).e_entry; parts = parts }) ≡ true
fits_without_fault file ram parts none fit =
    let entry = (elf_header file).e_entry in
    let good = passed (is_multiple entry 4 && in_ram ram entry 1) _ (no_fault_last (header_tests file) (table_tests file ram (elf_header file).e_phnum) (entry_tests file ram) none) in
    both (is_multiple entry 4 && in_ram ram entry 1) (list_all (part_fits ram) parts) good fit
