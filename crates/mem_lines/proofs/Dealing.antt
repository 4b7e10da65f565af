-- Where a bank holds the bytes of its addresses.
use Rattle.std.proofs.Common.{◌≡◌, ℕ, zero, suc, ◌⊎◌, List, length, slice_index, Option, ◌+◌, ◌-◌, ◌*◌, ◌/◌, ◌%◌, ◌<◌, ◌≤◌, true, false, refl, ap, sym, subst, ◌∙◌, arith, inl, inr, mul_assoc, mul_right_comm, div-add-mod'}
use Rattle.std.proofs.Math.Nat.{add-mul-mod_self_right}
use Rattle.std.proofs.lemmas.Bool.{cases_eq}
use Rattle.std.proofs.lemmas.Nat.{same_from_place, div_below, le-div}
use Rattle.std.proofs.lemmas.Bool.Decides.{eqb_tells, nat_tests, Decides-eqb}
use Rattle.flex_base.specs.Limits.{mebibyte}
use Rattle.flex_base.specs.Place.{ram_base}
use Rattle.flex_base.specs.Word.{is_multiple}
use Rattle.flex_base.specs.Forms.{IsWidth}
use Rattle.flex_base.specs.FlatMemory.{value_at, covers, put}
use Rattle.mem_lines.specs.Bank.{Bank, is_bank_count, bank_of, offset, byte_held, IsIn, IsWhole}
use Rattle.mem_lines.specs.Steps.{IsSpan}
use Rattle.mem_lines.proofs.Covering.{cases_covers, covers_at}

-- what is so of 64 divided by the number of banks
pub share : (banks : ℕ) → is_bank_count banks ≡ true → 64 / banks * banks ≡ 64
share banks count =
    let whole : 64 % banks ≡ 0 = (Decides-eqb (64 % banks) 0).0 count in
    let all = div-add-mod' 64 banks in
    omega (arith, all, whole)

pub some_banks : (banks : ℕ) → is_bank_count banks ≡ true → 0 < banks
some_banks banks count = elim (cases_eq banks 0) [
  | inl none ↦ absurd (omega (arith, share banks count, ap (λ n. 64 / n * n) none))
  | inr some ↦ omega arith
]

-- within a line the next address has the next spot
pub offset_next : (banks a j : ℕ) → ram_base ≤ a → a % 64 + j < 64 → offset banks (a + j) ≡ offset banks a + j
unfolding offset
offset_next banks a j above short =
    let line : (a + j - ram_base) / 64 ≡ (a - ram_base) / 64 = omega arith in
    let rest : (a + j - ram_base) % 64 ≡ (a - ram_base) % 64 + j = omega arith in
    rw (line, rest) (omega arith)

pub bank_next : (banks a j : ℕ) → a % 64 + j < 64 → bank_of banks (a + j) ≡ bank_of banks a
bank_next banks a j short =
    let line : (a + j) / 64 ≡ a / 64 = omega arith in
    ap (λ l. l % banks) line

-- the lines before RAM are a whole number of rounds of the banks
line_bank : (banks a : ℕ) → is_bank_count banks ≡ true → ram_base ≤ a → bank_of banks a ≡ (a - ram_base) / 64 % banks
line_bank banks a count above =
    let line : a / 64 ≡ (a - ram_base) / 64 + 524288 * 64 = omega arith in
    let rounds : 524288 * 64 ≡ 524288 * (64 / banks) * banks = ap (λ n. 524288 * n) (sym (share banks count)) ∙ sym (mul_assoc 524288 (64 / banks) banks) in
    ap (λ l. l % banks) (line ∙ ap (λ n. (a - ram_base) / 64 + n) rounds) ∙ add-mul-mod_self_right ((a - ram_base) / 64) (524288 * (64 / banks)) banks

-- two addresses of one bank have one spot only if they are one
pub offset_apart : (banks a b : ℕ) → is_bank_count banks ≡ true → ram_base ≤ a → ram_base ≤ b → bank_of banks a ≡ bank_of banks b → offset banks a ≡ offset banks b → a ≡ b
unfolding offset
offset_apart banks a b count above_a above_b bank same =
    let la = (a - ram_base) / 64 in
    let lb = (b - ram_base) / 64 in
    let ra : (a - ram_base) % 64 < 64 = omega arith in
    let rb : (b - ram_base) % 64 < 64 = omega arith in
    let parts = same_from_place (la / banks) ((a - ram_base) % 64) (lb / banks) ((b - ram_base) % 64) 64 ra rb same in
    let round : la / banks ≡ lb / banks = parts.0 in
    let rest : (a - ram_base) % 64 ≡ (b - ram_base) % 64 = parts.1 in
    let within : la % banks ≡ lb % banks = sym (line_bank banks a count above_a) ∙ bank ∙ line_bank banks b count above_b in
    let line : la ≡ lb = sym (div-add-mod' la banks) ∙ ap (λ n. n * banks + la % banks) round ∙ ap (λ n. lb / banks * banks + n) within ∙ div-add-mod' lb banks in
    omega arith

-- each spot of RAM is one of its bank
pub spot_within : (banks ram a : ℕ) → is_bank_count banks ≡ true → is_multiple ram mebibyte ≡ true → ram_base ≤ a → a < ram_base + ram → offset banks a < ram / banks
unfolding offset
spot_within banks ram a count mebibytes above below =
    let whole : ram % 1048576 ≡ 0 = (Decides-eqb (ram % 1048576) 0).0 mebibytes in
    let m = ram / 1048576 in
    let lines = m * 256 * (64 / banks) in
    let dealt : lines * banks ≡ m * 256 * 64 = mul_assoc (m * 256) (64 / banks) banks ∙ ap (λ n. m * 256 * n) (share banks count) in
    let l = (a - ram_base) / 64 in
    let before : l < lines * banks = omega (arith, dealt) in
    let round : l / banks < lines = div_below l banks lines (some_banks banks count) before in
    let size : lines * 64 * banks ≤ ram = omega (arith, mul_right_comm lines 64 banks, dealt) in
    let most : lines * 64 ≤ ram / banks = le-div (lines * 64) ram banks (some_banks banks count) size in
    omega arith

-- the spot of each address of the bank is among its bytes
pub byte_within : (ram banks bank a : ℕ) (bytes : List ℕ) (places : List (Option ℕ)) → IsWhole ram banks bytes → IsIn (record { ram = ram; banks = banks; bank = bank; bytes = bytes; places = places }) a
    → (0 < banks) × (ram_base ≤ a) × (offset banks a < length bytes)
byte_within ram banks bank a bytes places whole inside =
    let above : ram_base ≤ a = grind (arith, nat_tests, inside.ram) in
    let below : a < ram_base + ram = grind (arith, nat_tests, inside.ram) in
    let within = spot_within banks ram a whole.banks_are whole.mebibytes above below in
    (some_banks banks whole.banks_are, above, subst (λ n. offset banks a < n) (sym whole.part) within)

-- what is so of each width
by_width : (P : ℕ → Type 0) → P 1 → P 2 → P 4 → P 8 → (width : ℕ) → IsWidth width → P width
by_width P one two four eight width is = elim (eqb_tells width 1) [
  | inl w ↦ subst P (sym w.1) one
  | inr no1 ↦ elim (eqb_tells width 2) [
    | inl w ↦ subst P (sym w.1) two
    | inr no2 ↦ elim (eqb_tells width 4) [
      | inl w ↦ subst P (sym w.1) four
      | inr no4 ↦ elim (eqb_tells width 8) [
        | inl w ↦ subst P (sym w.1) eight
        | inr no8 ↦ absurd (grind (arith, no1.0, no2.0, no4.0, no8.0, is))
      ]
    ]
  ]
]

remainder : (a width : ℕ) → is_multiple a width ≡ true → a % width ≡ 0
remainder a width aligned = (Decides-eqb (a % width) 0).0 aligned

-- a load's or a store's bytes lie in one line
in_line : (a width : ℕ) → IsWidth width → is_multiple a width ≡ true → (a % 64 + width ≤ 64) × (width ≤ 8) × (0 < width)
in_line a = by_width (λ w. is_multiple a w ≡ true → (a % 64 + w ≤ 64) × (w ≤ 8) × (0 < w))
    (λ aligned. (omega arith, omega arith, omega arith))
    (λ aligned. let e = remainder a 2 aligned in (omega (arith, e), omega arith, omega arith))
    (λ aligned. let e = remainder a 4 aligned in (omega (arith, e), omega arith, omega arith))
    (λ aligned. let e = remainder a 8 aligned in (omega (arith, e), omega arith, omega arith))

-- what a load or a store of so many bytes has to know
pub record Span (b : Bank) (address width : ℕ) : Type 0 where
  pub few : width ≤ 8
  pub some : 0 < width
  pub above : ram_base ≤ address
  pub below : address + width ≤ ram_base + b.ram
  pub line : address % 64 + width ≤ 64

pub span_of : (b : Bank) (address width : ℕ) → IsSpan b address width → Span b address width
span_of b address width span =
    let line = in_line address width span.width_is span.in_ram.aligned in
    record {
      few = line.1;
      some = line.2;
      above = grind (arith, nat_tests, span.in_ram.in_ram);
      below = grind (arith, nat_tests, span.in_ram.in_ram);
      line = line.0;
    }

-- each address of the span is in the bank
pub span_in : (b : Bank) (address width j : ℕ) → IsSpan b address width → j < width → IsIn b (address + j)
span_in b address width j span below =
    let s = span_of b address width span in
    record {
      ram = grind (arith, nat_tests, s.above, s.below, below);
      bank = bank_next b.banks address j (omega arith) ∙ span.bank_is;
    }

pub span_byte_held : (b : Bank) (address width j : ℕ) → IsSpan b address width → j < width → byte_held b (address + j) ≡ slice_index b.bytes (offset b.banks address + j)
span_byte_held b address width j span below =
    let s = span_of b address width span in
    ap (λ i. slice_index b.bytes i) (offset_next b.banks address j s.above (omega arith))

-- all spots of a span are among the bank's bytes
pub span_within : (b : Bank) (address width : ℕ) → IsWhole b.ram b.banks b.bytes → IsSpan b address width → (0 < b.banks) × (ram_base ≤ address) × (offset b.banks address + width ≤ length b.bytes) × (width ≤ 8)
span_within b address width whole span =
    let s = span_of b address width span in
    let last = byte_within b.ram b.banks b.bank (address + (width - 1)) b.bytes b.places whole (span_in b address width (width - 1) span (omega arith)) in
    let next = offset_next b.banks address (width - 1) s.above (omega arith) in
    (last.0, s.above, omega arith, s.few)

-- a value is of the bytes that it is read from
pub value_same : (f g : ℕ → ℕ) (a b n : ℕ) → ((j : ℕ) → j < n → f (a + j) ≡ g (b + j)) → value_at f a n ≡ value_at g b n
value_same f g a b zero same = refl
value_same f g a b (suc n) same =
    let first : f a ≡ g b = ap f (omega arith) ∙ same 0 (omega arith) ∙ ap g (omega arith) in
    let next : (j : ℕ) → j < n → f (a + 1 + j) ≡ g (b + 1 + j) = λ j below. ap f (omega arith) ∙ same (j + 1) (omega arith) ∙ ap g (omega arith) in
    let rest = value_same f g (a + 1) (b + 1) n next in
    cc

pub span_value : (b : Bank) (address width : ℕ) → IsSpan b address width → value_at (λ i. slice_index b.bytes i) (offset b.banks address) width ≡ value_at (byte_held b) address width
span_value b address width span = value_same (λ i. slice_index b.bytes i) (byte_held b) (offset b.banks address) address width (λ j below. sym (span_byte_held b address width j span below))

-- a store covers the spots of its addresses and no others
put_same : (i a at address width old value : ℕ) → ((covers at width i ≡ true) × (covers address width a ≡ true) × (i - at ≡ a - address)) ⊎ ((covers at width i ≡ false) × (covers address width a ≡ false))
    → put i old at width value ≡ put a old address width value
put_same i a at address width old value (inl both) = rw (both.0, both.1, both.2) refl
put_same i a at address width old value (inr none) = rw (none.0, none.1) refl

pub span_put : (b : Bank) (address width value a : ℕ) → is_bank_count b.banks ≡ true → IsSpan b address width → IsIn b a
    → put (offset b.banks a) (byte_held b a) (offset b.banks address) width value ≡ put a (byte_held b a) address width value
span_put b address width value a count span inside =
    let s = span_of b address width span in
    let above : ram_base ≤ a = grind (arith, nat_tests, inside.ram) in
    let i = offset b.banks a in
    let at = offset b.banks address in
    put_same i a at address width (byte_held b a) value (elim (cases_covers address width a) [
      | inl here ↦
          let next : offset b.banks (address + (a - address)) ≡ at + (a - address) = offset_next b.banks address (a - address) s.above (omega (arith, here.1)) in
          let place : i ≡ at + (a - address) = ap (offset b.banks) (omega (arith, here.1)) ∙ next in
          inl (covers_at at width i (omega arith) (omega (arith, here.1)), here.0, omega arith)
      | inr away ↦ inr (
        elim (cases_covers at width i) [
          | inl there ↦
              let next = offset_next b.banks address (i - at) s.above (omega (arith, there.1)) in
              let bank : bank_of b.banks (address + (i - at)) ≡ bank_of b.banks a = bank_next b.banks address (i - at) (omega (arith, there.1)) ∙ span.bank_is ∙ sym inside.bank in
              let spots : offset b.banks (address + (i - at)) ≡ offset b.banks a = next ∙ omega (arith, there.1) in
              let one = offset_apart b.banks (address + (i - at)) a count (omega arith) above bank spots in
              absurd (away.1 (omega (arith, there.1), omega (arith, there.1)))
          | inr other ↦ other.0
        ],
        away.0,
      )
    ])

-- what a store leaves of the fields, seen as the bank
pub written : (ram banks bank : ℕ) (old new : List ℕ) (places : List (Option ℕ)) (b : Bank) (at address width value : ℕ) → record { ram = ram; banks = banks; bank = bank; bytes = old; places = places } ≡ b
    → IsWhole ram banks old → IsSpan b address width → at ≡ offset b.banks address → ((i : ℕ) → slice_index new i ≡ put i (slice_index old i) at width value)
    → (a : ℕ) → IsIn b a → slice_index new (offset banks a) ≡ put a (byte_held b a) address width value
written ram banks bank old new places b at address width value seen whole span start each a inside =
    let banks_are : banks ≡ b.banks = ap (λ (v : Bank). v.banks) seen in
    let bytes_are : old ≡ b.bytes = ap (λ (v : Bank). v.bytes) seen in
    let count : is_bank_count b.banks ≡ true = subst (λ n. is_bank_count n ≡ true) banks_are whole.banks_are in
    let i = offset b.banks a in
    ap (λ n. slice_index new (offset n a)) banks_are ∙ each i ∙ ap (λ xs. put i (slice_index xs i) at width value) bytes_are ∙ ap (λ n. put i (byte_held b a) n width value) start
    ∙ span_put b address width value a count span inside
