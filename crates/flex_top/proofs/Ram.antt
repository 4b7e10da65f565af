-- The bytes of RAM, line by line.
use Rattle.std.proofs.Common.{◌≡◌, ℕ, ◌+◌, ◌*◌, ◌/◌, ◌%◌, ◌<◌, ◌≤◌, zero, suc, true, List, [], ◌∷◌, ◌++◌, length, map, slice_index, get_or, refl, ap, sym, subst, ◌∙◌, arith}
use Rattle.std.specs.List.{range_with_len}
use Rattle.std.proofs.lemmas.Bool.Decides.{nat_tests, Decides-eqb}
use Rattle.std.proofs.lemmas.List.FromFn.{fill_by_all}
use Rattle.std.proofs.lemmas.Nat.{mod_below}
use Rattle.flex_base.specs.FlatMemory.{byte}
use Rattle.flex_base.specs.Place.{in_ram, ram_base}
use Rattle.flex_base.specs.Setup.{Setup}
use Rattle.flex_base.specs.Unsplit.{Machine}
use Rattle.flex_base.specs.Word.{is_multiple}
use Rattle.mem_lines.specs.Bank.{Bank, IsIn, bank_of, byte_held}
use Rattle.mem_lines.proofs.Dealing.{bank_next, some_banks}
use Rattle.tracer.specs.Trace.{ram_bytes}
use Rattle.solo.specs.End.{HoldsRam}
use Rattle.flex_top.specs.Ram.{AreBanks, bytes_from}

-- Bytes from an address up.

range_join : (f : ℕ → ℕ) (a m n : ℕ) → map f (range_with_len a (m + n)) ≡ map f (range_with_len a m) ++ map f (range_with_len (a + m) n)
range_join f a zero n =
    let none : 0 + n ≡ n = omega arith in
    let same : a ≡ a + 0 = omega arith in
    ap (λ k. map f (range_with_len a k)) none ∙ ap (λ k. map f (range_with_len k n)) same
range_join f a (suc m) n =
    let count : suc m + n ≡ suc (m + n) = omega arith in
    let next : a + 1 + m ≡ a + suc m = omega arith in
    ap (λ k. map f (range_with_len a k)) count
    ∙ ap (λ xs. f a ∷ xs) (range_join f (a + 1) m n ∙ ap (λ k. map f (range_with_len (a + 1) m) ++ map f (range_with_len k n)) next)

range_moved : (f : ℕ → ℕ) (a k n : ℕ) → map f (range_with_len (a + k) n) ≡ map (λ i. f (a + i)) (range_with_len k n)
range_moved f a k zero = refl
range_moved f a k (suc n) =
    let next : a + k + 1 ≡ a + (k + 1) = omega arith in
    ap (λ xs. f (a + k) ∷ xs) (ap (λ j. map f (range_with_len j n)) next ∙ range_moved f a (k + 1) n)

bytes_are : (setup : Setup) (u : Machine) (address count : ℕ) → bytes_from setup u address count ≡ map (byte setup.image u.ram) (range_with_len address count)
unfolding bytes_from
bytes_are setup u address count =
    let from : address + 0 ≡ address = omega arith in
    sym (range_moved (byte setup.image u.ram) address 0 count) ∙ ap (λ k. map (byte setup.image u.ram) (range_with_len k count)) from

pub bytes_none : (setup : Setup) (u : Machine) (address : ℕ) → bytes_from setup u address 0 ≡ []
unfolding bytes_from
bytes_none setup u address = refl

pub bytes_join : (setup : Setup) (u : Machine) (address m n : ℕ) → bytes_from setup u address (m + n) ≡ bytes_from setup u address m ++ bytes_from setup u (address + m) n
bytes_join setup u address m n =
    bytes_are setup u address (m + n)
    ∙ range_join (byte setup.image u.ram) address m n
    ∙ ap (λ xs. xs ++ map (byte setup.image u.ram) (range_with_len (address + m) n)) (sym (bytes_are setup u address m))
    ∙ ap (λ xs. bytes_from setup u address m ++ xs) (sym (bytes_are setup u (address + m) n))

-- all of them are RAM
pub bytes_all : (setup : Setup) (u : Machine) (count : ℕ) → setup.ram ≡ count → bytes_from setup u ram_base count ≡ ram_bytes setup u
unfolding bytes_from ram_bytes
bytes_all setup u count size = ap (λ n. map (λ i. byte setup.image u.ram (ram_base + i)) (range_with_len 0 n)) (sym size)

-- Lines.

aligned : (address n : ℕ) → is_multiple address n ≡ true → address % n ≡ 0
aligned address n is = (Decides-eqb (address % n) 0).0 is

pub whole_lines : (ram : ℕ) → is_multiple ram 64 ≡ true → 64 * (ram / 64) ≡ ram
whole_lines ram is = let none = aligned ram 64 is in omega (arith, none)

-- a line of this number is in RAM
pub line_inside : (ram whole line : ℕ) → whole ≡ ram → line < ram / 64 → in_ram whole (ram_base + 64 * line) 64 ≡ true
line_inside ram whole line size below =
    let under : ram_base + 64 * line + 64 ≤ ram_base + whole = omega (arith, size, below) in
    grind (arith, nat_tests, under)

-- the line that begins at this address is in the bank that its number names
pub line_here : (setup : Setup) (u : Machine) (address i : ℕ) (banks : List Bank) (b : Bank) → AreBanks setup u banks
    → get_or banks (bank_of (length banks) address) b ≡ b → is_multiple address 64 ≡ true → in_ram setup.ram address 64 ≡ true → i < 64
    → HoldsRam setup u (length banks) (bank_of (length banks) address) b × IsIn b (address + i)
line_here setup u address i banks b are item begins inside below =
    let bank = bank_of (length banks) address in
    let within : bank < length banks = mod_below (address / 64) (length banks) (some_banks (length banks) are.counted) in
    let Held : Bank → Type 0 = λ x. HoldsRam setup u (length banks) bank x in
    let held = subst Held item (are.each bank b within) in
    let at = aligned address 64 begins in
    let above : ram_base ≤ address = grind (arith, nat_tests, inside) in
    let under : address + 64 ≤ ram_base + setup.ram = grind (arith, nat_tests, inside) in
    let size : b.ram ≡ setup.ram = held.is_bank.ram_is in (
      held,
      record {
        ram = grind (arith, nat_tests, above, under, size, below);
        bank = ap (λ n. bank_of n (address + i)) held.is_bank.banks_are ∙ bank_next (length banks) address i (omega (arith, at, below)) ∙ sym held.is_bank.bank_is;
      },
    )

pub line_is : (setup : Setup) (u : Machine) (address : ℕ) (b : Bank) (bytes : List ℕ) → length bytes ≡ 64 → ((i : ℕ) → i < 64 → slice_index bytes i ≡ byte_held b (address + i))
    → ((i : ℕ) → i < 64 → byte_held b (address + i) ≡ byte setup.image u.ram (address + i)) → bytes ≡ bytes_from setup u address 64
unfolding bytes_from
line_is setup u address b bytes size held each =
    fill_by_all (λ i. byte setup.image u.ram (address + i)) bytes 64 0 size (λ i below. held i below ∙ each i below)
