-- A word cut into pieces: whether it fits a row is told piece by piece.
use Rattle.std.proofs.Common.{◌≡◌, ◌<◌, ℕ, ◌+◌, ◌*◌, ◌/◌, ◌%◌, ◌^◌, ◌-◌, Bool, true, false, cond, ◌&&◌, eqb, List, [], ◌∷◌, None, Some, bit_and, refl, ap, arith, ◌∙◌}
use Rattle.std.proofs.lemmas.Nat.{and_mask, and_block, and_le_r, same_from_place, pow_pos, and_mod, and_shr, shr_split, mod_below}
use Rattle.std.proofs.lemmas.Bool.Decides.{nat_tests}
use Rattle.std.proofs.Math.Bool.{and_comm}
use Rattle.std.proofs.Math.Nat.{mod-eq_of_lt}
use Rattle.std.proofs.Math.Path.{sym}
use Rattle.std.specs.Int.Bits.{and_lt}
use Rattle.std.specs.List.{find, list_all}
use Rattle.flex_base.specs.Word.{field}
use Rattle.flex_base.specs.Decoding.{Row, rows, decoded, fits_row, made_by}
use Rattle.flex_base.specs.declared.operation.Op.{Op}
use Rattle.flex_base.specs.declared.operation.Op.TheVariants as op

-- pieces from the lowest up: how many bits, and their value
abbrev pub spelled : List (ℕ × ℕ) → ℕ
spelled [] = 0
spelled (p ∷ ps) = spelled ps * 2 ^ p.0 + p.1

abbrev pub InRange : List (ℕ × ℕ) → Type 0
InRange [] = Unit {0}
InRange (p ∷ ps) = (p.1 < 2 ^ p.0) × InRange ps

-- one piece under its part of the mask
abbrev pub fits_piece : ℕ → ℕ → ℕ → ℕ → Bool
fits_piece bits value mask match = cond (eqb mask 0) (eqb 0 match) (cond (eqb mask (2 ^ bits - 1)) (eqb value match) (eqb (bit_and value mask) match))

abbrev pub fits_pieces : List (ℕ × ℕ) → ℕ → ℕ → Bool
fits_pieces [] mask match = eqb 0 match
fits_pieces (p ∷ ps) mask match = fits_pieces ps (mask / 2 ^ p.0) (match / 2 ^ p.0) && fits_piece p.0 p.1 (mask % 2 ^ p.0) (match % 2 ^ p.0)

piece : (bits value mask match : ℕ) → value < 2 ^ bits → fits_piece bits value mask match ≡ eqb (bit_and value mask) match
piece bits value mask match small =
    grind (arith, nat_tests, and_le_r value 0, and_mask value bits, mod-eq_of_lt small)

-- two numbers with a low part each are equal where both parts are
eqb_parts : (k a r c d : ℕ) → r < 2 ^ k → d < 2 ^ k → eqb (a * 2 ^ k + r) (c * 2 ^ k + d) ≡ eqb a c && eqb r d
eqb_parts k a r c d small less = grind (arith, nat_tests, same_from_place a r c d (2 ^ k) small less)

pub pieces : (ps : List (ℕ × ℕ)) (mask match : ℕ) → InRange ps → fits_pieces ps mask match ≡ eqb (bit_and (spelled ps) mask) match
pieces [] mask match within = refl
pieces (p ∷ ps) mask match within =
    let head = piece p.0 p.1 (mask % 2 ^ p.0) (match % 2 ^ p.0) within.0 in
    let tail = pieces ps (mask / 2 ^ p.0) (match / 2 ^ p.0) within.1 in
    let block = and_block p.0 (spelled ps) (mask / 2 ^ p.0) p.1 (mask % 2 ^ p.0) within.0 (mod_below mask (2 ^ p.0) (pow_pos p.0)) in
    let less : bit_and p.1 (mask % 2 ^ p.0) < 2 ^ p.0 = and_lt p.0 p.1 (mask % 2 ^ p.0) within.0 (mod_below mask (2 ^ p.0) (pow_pos p.0)) in
    let parts = eqb_parts p.0 (bit_and (spelled ps) (mask / 2 ^ p.0)) (bit_and p.1 (mask % 2 ^ p.0)) (match / 2 ^ p.0) (match % 2 ^ p.0) less (mod_below match (2 ^ p.0) (pow_pos p.0)) in
    let whole_mask = shr_split mask p.0 in
    let whole_match = shr_split match p.0 in
    cc

abbrev pub masked_piece : ℕ → ℕ → ℕ → ℕ
masked_piece bits value mask = cond (eqb mask 0) 0 (cond (eqb mask (2 ^ bits - 1)) value (bit_and value mask))

-- what a mask leaves of the pieces
abbrev pub masked : List (ℕ × ℕ) → ℕ → ℕ
masked [] mask = 0
masked (p ∷ ps) mask = masked ps (mask / 2 ^ p.0) * 2 ^ p.0 + masked_piece p.0 p.1 (mask % 2 ^ p.0)

masked_piece-and : (bits value mask : ℕ) → value < 2 ^ bits → masked_piece bits value mask ≡ bit_and value mask
masked_piece-and bits value mask small =
    grind (arith, nat_tests, and_le_r value 0, and_mask value bits, mod-eq_of_lt small)

pub masked-and : (ps : List (ℕ × ℕ)) (mask : ℕ) → InRange ps → masked ps mask ≡ bit_and (spelled ps) mask
masked-and [] mask within = refl
masked-and (p ∷ ps) mask within =
    let head = masked_piece-and p.0 p.1 (mask % 2 ^ p.0) within.0 in
    let tail = masked-and ps (mask / 2 ^ p.0) within.1 in
    let block = and_block p.0 (spelled ps) (mask / 2 ^ p.0) p.1 (mask % 2 ^ p.0) within.0 (mod_below mask (2 ^ p.0) (pow_pos p.0)) in
    let whole_mask = shr_split mask p.0 in
    cc

-- the operation of the first row that passes
abbrev pub meaning : ℕ → (Row → Bool) → List Row → Op
meaning word passes [] = op.Illegal word
meaning word passes (r ∷ rs) = cond (passes r) (r.make word) (meaning word passes rs)

pub made_by-find : (word : ℕ) (p q : Row → Bool) → ((r : Row) → p r ≡ q r) → (rs : List Row) → made_by word (find p rs) ≡ meaning word q rs
made_by-find word p q same [] = refl
made_by-find word p q same (r ∷ rs) =
    rw same (elim (q r) as (λ b. made_by word (cond b (Some r) (find p rs)) ≡ cond b (r.make word) (meaning word q rs)) [ true ↦ refl | false ↦ made_by-find word p q same rs ])

-- a word by its opcode and the pieces above it: rows of other opcodes compute away
abbrev pub fits_above : ℕ → List (ℕ × ℕ) → Row → Bool
fits_above opcode ps r = fits_piece 7 opcode (r.mask % 2 ^ 7) (r.bits % 2 ^ 7) && fits_pieces ps (r.mask / 2 ^ 7) (r.bits / 2 ^ 7)

pub fits_by_pieces : (word opcode : ℕ) (ps : List (ℕ × ℕ)) → InRange ((7, opcode) ∷ ps) → spelled ((7, opcode) ∷ ps) ≡ word → (r : Row) → fits_row word r ≡ fits_above opcode ps r
fits_by_pieces word opcode ps within is r =
    let parts : fits_row word r ≡ fits_pieces ((7, opcode) ∷ ps) r.mask r.bits = rw (← is) (sym (pieces ((7, opcode) ∷ ps) r.mask r.bits within)) in
    parts ∙ and_comm (fits_pieces ps (r.mask / 2 ^ 7) (r.bits / 2 ^ 7)) (fits_piece 7 opcode (r.mask % 2 ^ 7) (r.bits % 2 ^ 7))

pub decoded_by : (word : ℕ) (q : Row → Bool) → ((r : Row) → fits_row word r ≡ q r) → decoded word ≡ meaning word q rows
unfolding decoded
decoded_by word q same = made_by-find word (fits_row word) q same rows

-- one field of a word, of the mask and of the row's bits
abbrev pub fits_field : ℕ → ℕ → ℕ → Row → Bool
fits_field at bits word r = fits_piece bits (field at bits word) (field at bits r.mask) (field at bits r.bits)

-- the field of what a mask leaves
field-and : (at bits a b : ℕ) → field at bits (bit_and a b) ≡ bit_and (field at bits a) (field at bits b)
field-and at bits a b = rw (and_shr, and_mod) refl

-- a word fits a row only where each field does
pub field_first : (at bits word : ℕ) (r : Row) → fits_row word r ≡ (fits_field at bits word r && fits_row word r)
field_first at bits word r =
    let one = piece bits (field at bits word) (field at bits r.mask) (field at bits r.bits) (mod_below (word / 2 ^ at) (2 ^ bits) (pow_pos bits)) in
    let kept = field-and at bits word r.mask in
    grind (arith, nat_tests, one, kept)

both : (a b : Bool) → (a && b) ≡ true → (a ≡ true) × (b ≡ true)
both a b is = grind arith

find_none : (p test : Row → Bool) → ((r : Row) → test r ≡ true → p r ≡ false) → (rs : List Row) → list_all test rs ≡ true → find p rs ≡ None
find_none p test fails [] all = refl
find_none p test fails (r ∷ rs) all =
    let parts = both (test r) (list_all test rs) all in
    rw (fails r parts.0) (find_none p test fails rs parts.1)

pub decoded_none : (word : ℕ) (test : Row → Bool) → ((r : Row) → test r ≡ true → fits_row word r ≡ false) → list_all test rows ≡ true → decoded word ≡ op.Illegal word
unfolding decoded
decoded_none word test fails all = ap (made_by word) (find_none (fits_row word) test fails rows all)
