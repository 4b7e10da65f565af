-- The bytes of one bank alone are those of RAM, and the bytes of a line.
use Rattle.std.proofs.Common.{◌≡◌, ℕ, ◌+◌, ◌/◌, ◌%◌, ◌<◌, ◌≤◌, true, List, length, slice_index, map, Option, ap, sym, ◌∙◌, arith}
use Rattle.std.specs.List.{range_with_len}
use Rattle.std.proofs.lemmas.List.FromFn.{fill_by_all}
use Rattle.std.proofs.lemmas.Bool.Decides.{nat_tests, Decides-eqb}
use Rattle.flex_base.specs.Place.{ram_base}
use Rattle.flex_base.specs.Setup.{Setup}
use Rattle.flex_base.specs.Word.{is_multiple}
use Rattle.flex_base.specs.FlatMemory.{Done, byte}
use Rattle.mem_lines.specs.Bank.{Bank, IsIn, IsKept, IsReplay, IsWhole, bank_of, byte_held, offset}
use Rattle.mem_lines.proofs.Dealing.{bank_next, byte_within, offset_next}

-- one bank holds the bytes of RAM in their order
offset_alone : (i : ℕ) → offset 1 (ram_base + i) ≡ i
unfolding offset
offset_alone i = omega arith

alone_in : (b : Bank) (i : ℕ) → IsKept b.ram b.banks b.bank b.bytes → b.banks ≡ 1 → i < b.ram → IsIn b (ram_base + i)
alone_in b i kept alone below = record {
  ram = grind (arith, nat_tests, below);
  bank = ap (λ n. bank_of n (ram_base + i)) alone ∙ omega (arith, kept.below, alone);
}

pub bytes_are_ram : (setup : Setup) (made : List Done) (b : Bank) → IsKept b.ram b.banks b.bank b.bytes → IsReplay setup made b → b.banks ≡ 1
    → b.bytes ≡ map (λ i. byte setup.image made (ram_base + i)) (range_with_len 0 setup.ram)
bytes_are_ram setup made b kept replay alone =
    let size : length b.bytes ≡ setup.ram = kept.whole.part ∙ ap (λ n. b.ram / n) alone ∙ omega (arith, replay.ram) in
    fill_by_all (λ i. byte setup.image made (ram_base + i)) b.bytes setup.ram 0 size (λ i below.
    let here = alone_in b i kept alone (omega (arith, below, replay.ram)) in
    let place : i ≡ offset b.banks (ram_base + i) = sym (ap (λ n. offset n (ram_base + i)) alone ∙ offset_alone i) in
    ap (λ k. slice_index b.bytes k) place ∙ replay.each (ram_base + i) here)

-- The bytes of a line.

multiple_of : (n : ℕ) (m : ℕ) → is_multiple n m ≡ true → n % m ≡ 0
multiple_of n m is = (Decides-eqb (n % m) 0).0 is

-- the last byte of a line of the bank is in the bank too
line_in : (ram banks bank address : ℕ) (bytes : List ℕ) (places : List (Option ℕ)) → IsWhole ram banks bytes
    → IsIn (record { ram = ram; banks = banks; bank = bank; bytes = bytes; places = places }) address → is_multiple address 64 ≡ true
    → IsIn (record { ram = ram; banks = banks; bank = bank; bytes = bytes; places = places }) (address + 63)
line_in ram banks bank address bytes places whole inside begins =
    let at : address % 64 ≡ 0 = multiple_of address 64 begins in
    let whole_ram : ram % 1048576 ≡ 0 = multiple_of ram 1048576 whole.mebibytes in
    let above : ram_base ≤ address = grind (arith, nat_tests, inside.ram) in
    let below : address < ram_base + ram = grind (arith, nat_tests, inside.ram) in
    let all : address + 64 ≤ ram_base + ram = omega (arith, at, whole_ram, above, below) in
    record {
      ram = grind (arith, nat_tests, above, all);
      bank = bank_next banks address 63 (omega (arith, at)) ∙ inside.bank;
    }

-- all spots of a line of the bank are among its bytes
pub line_within : (ram banks bank address : ℕ) (bytes : List ℕ) (places : List (Option ℕ)) → IsWhole ram banks bytes
    → IsIn (record { ram = ram; banks = banks; bank = bank; bytes = bytes; places = places }) address → is_multiple address 64 ≡ true
    → (0 < banks) × (ram_base ≤ address) × (offset banks address + 64 ≤ length bytes)
line_within ram banks bank address bytes places whole inside begins =
    let at : address % 64 ≡ 0 = multiple_of address 64 begins in
    let first = byte_within ram banks bank address bytes places whole inside in
    let last = byte_within ram banks bank (address + 63) bytes places whole (line_in ram banks bank address bytes places whole inside begins) in
    let next = offset_next banks address 63 first.1 (omega (arith, at)) in
    (first.0, first.1, omega (arith, last.2, next))

-- byte i of a line is the one of its address
pub line_byte : (b : Bank) (address i : ℕ) → ram_base ≤ address → is_multiple address 64 ≡ true → i < 64 → slice_index b.bytes (offset b.banks address + i) ≡ byte_held b (address + i)
line_byte b address i above begins below =
    let at : address % 64 ≡ 0 = multiple_of address 64 begins in
    ap (λ k. slice_index b.bytes k) (sym (offset_next b.banks address i above (omega (arith, at, below))))
