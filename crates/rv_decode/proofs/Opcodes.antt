-- The rows of each opcode: a word of this opcode means the first row that fits its other pieces.
-- With `rows` unfolded, the rows of other opcodes compute away.
use Rattle.std.proofs.Common.{◌≡◌, ◌<◌, ◌^◌, ◌-◌, ℕ, bit_and, Bool, true, false, not, cond, ◌&&◌, ◌||◌, eqb, List, [], ◌∷◌, arith, subst}
use Rattle.std.proofs.lemmas.Bool.Decides.{nat_tests}
use Rattle.std.proofs.lemmas.Nat.{and_mask, pow_below}
use Rattle.std.specs.List.{list_all, list_any}
use Rattle.flex_base.specs.Word.{field}
use Rattle.flex_base.specs.Decoding.{Row, decoded, fits_row, rows, lui, auipc, jal}
use Rattle.flex_base.specs.declared.operation.Op.TheVariants as op
use Rattle.rv_decode.proofs.Pieces.{spelled, InRange, fits_above, fits_piece, field_first, meaning, fits_by_pieces, decoded_by, decoded_none}

-- the pieces above the opcode: rd, funct3, rs1, rs2, funct7
abbrev pub cut_at : ℕ → ℕ → List (ℕ × ℕ)
cut_at minor word = (5, field 7 5 word) ∷ (3, minor) ∷ (5, field 15 5 word) ∷ (5, field 20 5 word) ∷ (7, field 25 7 word) ∷ []

abbrev pub cut : ℕ → List (ℕ × ℕ)
cut word = cut_at (field 12 3 word) word

by_opcode : (word opcode : ℕ) → word < 2 ^ 32 → opcode < 128 → field 0 7 word ≡ opcode → decoded word ≡ meaning word (fits_above opcode (cut word)) rows
by_opcode word opcode small less is =
    let within : InRange ((7, opcode) ∷ cut word) = (omega arith, (omega arith, (omega arith, (omega arith, (omega arith, (omega arith, tt)))))) in
    let whole : spelled ((7, opcode) ∷ cut word) ≡ word = omega arith in
    decoded_by word (fits_above opcode (cut word)) (fits_by_pieces word opcode (cut word) within whole)

pub loads : (word : ℕ) → word < 2 ^ 32 → field 0 7 word ≡ 0x03 → decoded word ≡ meaning word (fits_above 0x03 (cut word)) rows
loads word small is = by_opcode word 0x03 small (omega arith) is

pub fences : (word : ℕ) → word < 2 ^ 32 → field 0 7 word ≡ 0x0f → decoded word ≡ meaning word (fits_above 0x0f (cut word)) rows
fences word small is = by_opcode word 0x0f small (omega arith) is

pub word_immediates : (word : ℕ) → word < 2 ^ 32 → field 0 7 word ≡ 0x1b → decoded word ≡ meaning word (fits_above 0x1b (cut word)) rows
word_immediates word small is = by_opcode word 0x1b small (omega arith) is

pub stores : (word : ℕ) → word < 2 ^ 32 → field 0 7 word ≡ 0x23 → decoded word ≡ meaning word (fits_above 0x23 (cut word)) rows
stores word small is = by_opcode word 0x23 small (omega arith) is

pub registers : (word : ℕ) → word < 2 ^ 32 → field 0 7 word ≡ 0x33 → decoded word ≡ meaning word (fits_above 0x33 (cut word)) rows
registers word small is = by_opcode word 0x33 small (omega arith) is

pub word_registers : (word : ℕ) → word < 2 ^ 32 → field 0 7 word ≡ 0x3b → decoded word ≡ meaning word (fits_above 0x3b (cut word)) rows
word_registers word small is = by_opcode word 0x3b small (omega arith) is

pub branches : (word : ℕ) → word < 2 ^ 32 → field 0 7 word ≡ 0x63 → decoded word ≡ meaning word (fits_above 0x63 (cut word)) rows
branches word small is = by_opcode word 0x63 small (omega arith) is

pub jalrs : (word : ℕ) → word < 2 ^ 32 → field 0 7 word ≡ 0x67 → decoded word ≡ meaning word (fits_above 0x67 (cut word)) rows
jalrs word small is = by_opcode word 0x67 small (omega arith) is

-- the pieces with a shift amount of 6 bits
abbrev pub cut_shift : ℕ → List (ℕ × ℕ)
cut_shift word = (5, field 7 5 word) ∷ (3, field 12 3 word) ∷ (5, field 15 5 word) ∷ (6, field 20 6 word) ∷ (6, field 26 6 word) ∷ []

by_shift : (word opcode : ℕ) → word < 2 ^ 32 → opcode < 128 → field 0 7 word ≡ opcode → decoded word ≡ meaning word (fits_above opcode (cut_shift word)) rows
by_shift word opcode small less is =
    let within : InRange ((7, opcode) ∷ cut_shift word) = (omega arith, (omega arith, (omega arith, (omega arith, (omega arith, (omega arith, tt)))))) in
    let whole : spelled ((7, opcode) ∷ cut_shift word) ≡ word = omega arith in
    decoded_by word (fits_above opcode (cut_shift word)) (fits_by_pieces word opcode (cut_shift word) within whole)

pub immediates : (word : ℕ) → word < 2 ^ 32 → field 0 7 word ≡ 0x13 → decoded word ≡ meaning word (fits_above 0x13 (cut_shift word)) rows
immediates word small is = by_shift word 0x13 small (omega arith) is

-- the pieces of an atomic: aq and rl stand between rs2 and funct5
abbrev pub cut_atomic : ℕ → List (ℕ × ℕ)
cut_atomic word = (5, field 7 5 word) ∷ (3, field 12 3 word) ∷ (5, field 15 5 word) ∷ (5, field 20 5 word) ∷ (2, field 25 2 word) ∷ (5, field 27 5 word) ∷ []

by_atomic : (word opcode : ℕ) → word < 2 ^ 32 → opcode < 128 → field 0 7 word ≡ opcode → decoded word ≡ meaning word (fits_above opcode (cut_atomic word)) rows
by_atomic word opcode small less is =
    let within : InRange ((7, opcode) ∷ cut_atomic word) = (omega arith, (omega arith, (omega arith, (omega arith, (omega arith, (omega arith, (omega arith, tt))))))) in
    let whole : spelled ((7, opcode) ∷ cut_atomic word) ≡ word = omega arith in
    decoded_by word (fits_above opcode (cut_atomic word)) (fits_by_pieces word opcode (cut_atomic word) within whole)

pub atomics : (word : ℕ) → word < 2 ^ 32 → field 0 7 word ≡ 0x2f → decoded word ≡ meaning word (fits_above 0x2f (cut_atomic word)) rows
atomics word small is = by_atomic word 0x2f small (omega arith) is

pub upper : (word : ℕ) → word < 2 ^ 32 → field 0 7 word ≡ 0x37 → decoded word ≡ lui word
unfolding rows
upper word small is = by_opcode word 0x37 small (omega arith) is

pub upper_pc : (word : ℕ) → word < 2 ^ 32 → field 0 7 word ≡ 0x17 → decoded word ≡ auipc word
unfolding rows
upper_pc word small is = by_opcode word 0x17 small (omega arith) is

pub jumps : (word : ℕ) → word < 2 ^ 32 → field 0 7 word ≡ 0x6f → decoded word ≡ jal word
unfolding rows
jumps word small is = by_opcode word 0x6f small (omega arith) is

-- the rows without fields are told by the whole word
abbrev pub fits_system : ℕ → ℕ → Row → Bool
fits_system word minor r = cond (eqb r.mask 0xffffffff) (fits_piece 3 minor (field 12 3 r.mask) (field 12 3 r.bits) && eqb word r.bits) (fits_above 0x73 (cut_at minor word) r)

system_row : (word : ℕ) → word < 2 ^ 32 → (r : Row) → fits_row word r ≡ fits_above 0x73 (cut word) r → fits_row word r ≡ fits_system word (field 12 3 word) r
system_row word small r above =
    let kept : bit_and word 0xffffffff ≡ word = omega (arith, and_mask word 32) in
    let first = field_first 12 3 word r in
    grind (arith, nat_tests, above, first, kept)

pub systems : (word : ℕ) → word < 2 ^ 32 → field 0 7 word ≡ 0x73 → decoded word ≡ meaning word (fits_system word (field 12 3 word)) rows
systems word small is =
    let within : InRange ((7, 0x73) ∷ cut word) = (omega arith, (omega arith, (omega arith, (omega arith, (omega arith, (omega arith, tt)))))) in
    let whole : spelled ((7, 0x73) ∷ cut word) ≡ word = omega arith in
    decoded_by word (fits_system word (field 12 3 word)) (λ r. system_row word small r (fits_by_pieces word 0x73 (cut word) within whole r))

pub privileged : (word : ℕ) → word < 2 ^ 32 → field 0 7 word ≡ 0x73 → field 12 3 word ≡ 0 → decoded word ≡ meaning word (fits_system word 0) rows
privileged word small is zero = subst (λ (n : ℕ). decoded word ≡ meaning word (fits_system word n) rows) zero (systems word small is)

-- A word means `Illegal` where one of its fields has a value that no row of its opcode has.

abbrev pub one_of : List ℕ → ℕ → Bool
one_of values n = list_any (eqb n) values

-- this row keeps the whole field, and has one of these values there
abbrev pub has_one_of : ℕ → ℕ → List ℕ → Row → Bool
has_one_of at bits values r = eqb (field at bits r.mask) (2 ^ bits - 1) && one_of values (field at bits r.bits)

unknown_row : (word at bits : ℕ) (values : List ℕ) (r : Row) → 0 < bits → one_of values (field at bits word) ≡ false → has_one_of at bits values r ≡ true → fits_row word r ≡ false
unknown_row word at bits values r some none has =
    let first = field_first at bits word r in
    let full : 0 < 2 ^ bits - 1 = omega (arith, pow_below 0 bits some) in
    grind (arith, nat_tests, first, full)

other_row : (word at bits : ℕ) (values : List ℕ) (others : Row → Bool) (r : Row) → 0 < bits → (others r ≡ true → fits_row word r ≡ false) → one_of values (field at bits word) ≡ false → (others r || has_one_of at bits values r) ≡ true → fits_row word r ≡ false
other_row word at bits values others r some apart none passes = grind (arith, unknown_row word at bits values r some none)

pub unknown : (word at bits : ℕ) (values : List ℕ) (others : Row → Bool) → 0 < bits → ((r : Row) → others r ≡ true → fits_row word r ≡ false) → list_all (λ r. others r || has_one_of at bits values r) rows ≡ true → one_of values (field at bits word) ≡ false → decoded word ≡ op.Illegal word
unknown word at bits values others some apart all none =
    decoded_none word (λ r. others r || has_one_of at bits values r) (λ r passes. other_row word at bits values others r some (apart r) none passes) all

not_fits : (whole part : Bool) → whole ≡ (part && whole) → not part ≡ true → whole ≡ false
not_fits whole part first other = grind arith

-- the same among the rows of one opcode
pub outside : (word opcode at bits : ℕ) (values : List ℕ) → field 0 7 word ≡ opcode → 0 < bits → list_all (λ r. not (fits_piece 7 opcode (field 0 7 r.mask) (field 0 7 r.bits)) || has_one_of at bits values r) rows ≡ true → one_of values (field at bits word) ≡ false → decoded word ≡ op.Illegal word
outside word opcode at bits values is some all none =
    unknown word at bits values (λ r. not (fits_piece 7 opcode (field 0 7 r.mask) (field 0 7 r.bits))) some (λ r other.
    let first : fits_row word r ≡ (fits_piece 7 opcode (field 0 7 r.mask) (field 0 7 r.bits) && fits_row word r) = subst (λ (n : ℕ). fits_row word r ≡ (fits_piece 7 n (field 0 7 r.mask) (field 0 7 r.bits) && fits_row word r)) is (field_first 0 7 word r) in
    not_fits (fits_row word r) (fits_piece 7 opcode (field 0 7 r.mask) (field 0 7 r.bits)) first other) all none

pub ruleset opcodes = (upper, upper_pc, jumps)
