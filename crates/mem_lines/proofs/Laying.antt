-- Bytes of the image that are written into a bank, one after another.
use Rattle.std.proofs.Common.{◌≡◌, ℕ, ◌%◌, ◌+◌, ◌-◌, ◌<◌, ◌≤◌, Bool, true, false, if◌then◌else◌, List, length, get_or, refl, ap, sym, ◌∙◌, arith, inl, inr, ◌||◌, ◌&&◌, map, Vec, Global}
use Rattle.std.proofs.lemmas.Bool.Decides.{eqb_tells, leb_tells, nat_tests}
use Rattle.std.proofs.lemmas.List.Edits.{get_or-between, length-between}
use Rattle.std.proofs.lemmas.List.Folds.{fold-map, list_all-map}
use Rattle.std.specs.List.{fold, list_all, between}
use Rattle.flex_base.specs.Word.{is_multiple}
use Rattle.flex_base.specs.Loaded.{part_fits, image_fits}
use Rattle.flex_base.specs.Place.{ram_base, in_ram}
use Rattle.flex_base.specs.FlatMemory.{covers, image_byte}
use Rattle.mem_lines.specs.Bank.{is_bank_count, bank_of, offset, with_part}
use Rattle.mem_lines.proofs.Covering.{cases_covers, covers_at, covers_no}
use Rattle.mem_lines.proofs.Dealing.{offset_apart, offset_next, bank_next}

-- n more bytes change nothing elsewhere
laid_other : (address i n a here old : ℕ) → (((address + i ≤ a) × (a < address + i + n)) → ⊥) → (if covers address i a then here else old) ≡ (if covers address (i + n) a then here else old)
laid_other address i n a here old other = elim (cases_covers address i a) [
  | inl in_it ↦ rw (in_it.0, covers_at address (i + n) a in_it.1.0 (omega (arith, in_it.1.1))) refl
  | inr away ↦
      let none : covers address (i + n) a ≡ false = covers_no address (i + n) a (λ both. elim (leb_tells (address + i) a) [
        | inl above ↦ other (above.1, omega (arith, both.1))
        | inr below ↦ away.1 (both.0, below.1)
      ]) in
      rw (away.0, none) refl
]

-- a byte of this bank, after n bytes within a line
pub with_part_more : (bytes after part : List ℕ) (banks address i n a old : ℕ) → is_bank_count banks ≡ true → ram_base ≤ address → ram_base ≤ a → bank_of banks a ≡ bank_of banks (address + i) → (address + i) % 64 + n ≤ 64 → i + n ≤ length part
    → ((k : ℕ) → get_or after k 0 ≡ with_part k (get_or bytes k 0) (offset banks (address + i), between i (i + n) part))
    → get_or bytes (offset banks a) 0 ≡ (if covers address i a then get_or part (a - address) 0 else old)
    → get_or after (offset banks a) 0 ≡ (if covers address (i + n) a then get_or part (a - address) 0 else old)
with_part_more bytes after part banks address i n a old count above_part above bank line within each before =
    let at = offset banks (address + i) in
    let size : length (between i (i + n) part) ≡ n = length-between part i (i + n) within ∙ omega arith in
    let next : (j : ℕ) → j < n → offset banks (address + i + j) ≡ at + j = λ j below. offset_next banks (address + i) j (omega arith) (omega arith) in
    let same_bank : (j : ℕ) → j < n → bank_of banks (address + i + j) ≡ bank_of banks a = λ j below. bank_next banks (address + i) j (omega arith) ∙ sym bank in
    each (offset banks a) ∙ elim (cases_covers (address + i) n a) [
      | inl here ↦
          let j = a - (address + i) in
          let low : j < n = omega (arith, here.1) in
          let place : offset banks a ≡ at + j = ap (offset banks) (omega (arith, here.1)) ∙ next j low in
          let inside : covers at (length (between i (i + n) part)) (offset banks a) ≡ true = covers_at at (length (between i (i + n) part)) (offset banks a) (omega (arith, place)) (omega (arith, place, size, low)) in
          let whole : covers address (i + n) a ≡ true = covers_at address (i + n) a (omega (arith, here.1)) (omega (arith, here.1)) in
          rw (inside, whole) (ap (λ k. get_or (between i (i + n) part) k 0) (omega (arith, place)) ∙ get_or-between part i (i + n) j 0 (omega (arith, low)) ∙ ap (λ k. get_or part k 0) (omega (arith, here.1)))
      | inr away ↦
          let none : covers at (length (between i (i + n) part)) (offset banks a) ≡ false = covers_no at (length (between i (i + n) part)) (offset banks a) (λ both.
          let j = offset banks a - at in
          let low : j < n = omega (arith, both.0, both.1, size) in
          let spots : offset banks (address + i + j) ≡ offset banks a = next j low ∙ omega (arith, both.0) in
          let one = offset_apart banks (address + i + j) a count (omega arith) above (same_bank j low) spots in
          away.1 (omega (arith, one), omega (arith, one, low))) in
          rw none (before ∙ laid_other address i n a (get_or part (a - address) 0) old away.1)
    ]

-- a byte of another bank
pub laid_none : (bytes part : List ℕ) (banks address i n a old : ℕ) → (address + i) % 64 + n ≤ 64 → (bank_of banks a ≡ bank_of banks (address + i) → ⊥)
    → get_or bytes (offset banks a) 0 ≡ (if covers address i a then get_or part (a - address) 0 else old)
    → get_or bytes (offset banks a) 0 ≡ (if covers address (i + n) a then get_or part (a - address) 0 else old)
laid_none bytes part banks address i n a old line other before =
    before ∙ laid_other address i n a (get_or part (a - address) 0) old (λ here.
    let j = a - (address + i) in
    let place : a ≡ address + i + j = omega (arith, here) in
    other (ap (bank_of banks) place ∙ bank_next banks (address + i) j (omega (arith, here))))

-- The image.

pub part_in : (ram address : ℕ) (part : List ℕ) (i : ℕ) → part_fits ram (address, part) ≡ true → i < length part → (ram_base ≤ address) × (address + i < ram_base + ram)
part_in ram address part i fits below = elim (eqb_tells (length part) 0) [
  | inl none ↦ absurd (omega (arith, none.1))
  | inr some ↦
      let inside : in_ram ram address (length part) ≡ true = ap (λ t. t || in_ram ram address (length part)) (sym some.0) ∙ fits in
      let low : ram_base ≤ address = grind (arith, nat_tests, inside) in
      let high : address + length part ≤ ram_base + ram = grind (arith, nat_tests, inside) in
      (low, omega arith)
]

pub image_laid : (entry a : ℕ) (parts : List (ℕ × Vec ℕ Global)) → image_byte (record { entry = entry; parts = map (λ part. (part.0, part.1.items)) parts }) a ≡ fold (λ old part. with_part a old (part.0, part.1.items)) 0 parts
image_laid entry a parts = fold-map (with_part a) (λ (part : ℕ × Vec ℕ Global). (part.0, part.1.items)) 0 parts

last_true : (a b d : Bool) → (a && b && d) ≡ true → d ≡ true
last_true true true d e = e
last_true true false d e = absurd cc
last_true false b d e = absurd cc

pub parts_fit : (ram entry : ℕ) (parts : List (ℕ × Vec ℕ Global)) → image_fits ram (record { entry = entry; parts = map (λ part. (part.0, part.1.items)) parts }) ≡ true → list_all (λ part. part_fits ram (part.0, part.1.items)) parts ≡ true
parts_fit ram entry parts fits = sym (list_all-map (part_fits ram) (λ (part : ℕ × Vec ℕ Global). (part.0, part.1.items)) parts) ∙ last_true (is_multiple entry 4) (in_ram ram entry 1) (list_all (part_fits ram) (map (λ part. (part.0, part.1.items)) parts)) fits
