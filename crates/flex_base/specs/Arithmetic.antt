-- What the instructions compute on words, as plain sums, products and quotients of whole numbers.
--
-- A word of so many bits is a number below 2 to that power: `bits w32` is 32 and `hbits w32` is 31. `cast_signed w n` is
-- the value of a word in two's complement, and `cast_unsigned w z` the word of such a value. On those values `int_lt` is
-- the order, `int_shr` divides by a power of two and rounds down, `int_div` rounds towards zero, and `int_rem` has the
-- sign of the dividend.
use Rattle.std.specs.Prelude.{ℕ, ◌+◌, ◌-◌, ◌*◌, ◌%◌, ◌/◌, ◌^◌, ℤ, pos, ◌*ℤ◌, int_lt, int_div, int_rem, Bool, ◌&&◌, ◌==◌, nat_lt, if◌then◌else◌, bit_and, bit_or, bit_xor}
use Rattle.std.specs.Int.{Width, w32, w64, cast_signed, cast_unsigned, int_shr, from_bool}
use mir.Val.{bits, hbits}
use Rattle.flex_base.specs.Word.{wrap, low, sign_extend}
use Rattle.flex_base.specs.declared.operation.AluOp.{AluOp}
use Rattle.flex_base.specs.declared.operation.AluOp.TheVariants as alu
use Rattle.flex_base.specs.declared.operation.MulOp.{MulOp}
use Rattle.flex_base.specs.declared.operation.MulOp.TheVariants as mul
use Rattle.flex_base.specs.declared.operation.AmoOp.{AmoOp}
use Rattle.flex_base.specs.declared.operation.AmoOp.TheVariants as amo

-- a word's two's complement value is less than another's
abbrev pub signed_lt : Width → ℕ → ℕ → Bool
signed_lt w a b = int_lt (cast_signed w a) (cast_signed w b)

-- a difference as a word holds it
abbrev pub difference : Width → ℕ → ℕ → ℕ
difference w a b = low (bits w) (a + (2 ^ bits w - b))

-- a right shift that copies the sign bit
abbrev pub shift_signed : Width → ℕ → ℕ → ℕ
shift_signed w a amount = cast_unsigned w (int_shr (cast_signed w a) amount)

-- Integer instructions (Volume I, "Integer Computational Instructions" of RV32I and RV64I). Overflow is ignored, a shift
-- amount is the low 6 bits of the second operand, and a comparison gives 1 or 0. The word forms work on the low 32 bits,
-- shift by the low 5, and sign-extend their 32-bit result.
abbrev pub alu_of : AluOp → ℕ → ℕ → ℕ
alu_of alu.Add a b = wrap (a + b)
alu_of alu.Sub a b = difference w64 a b
alu_of alu.Sll a b = wrap (a * 2 ^ low 6 b)
alu_of alu.Slt a b = from_bool (signed_lt w64 a b)
alu_of alu.Sltu a b = from_bool (nat_lt a b)
alu_of alu.Xor a b = bit_xor a b
alu_of alu.Srl a b = a / 2 ^ low 6 b
alu_of alu.Sra a b = shift_signed w64 a (low 6 b)
alu_of alu.Or a b = bit_or a b
alu_of alu.And a b = bit_and a b
alu_of alu.Addw a b = sign_extend 32 (low 32 (low 32 a + low 32 b))
alu_of alu.Subw a b = sign_extend 32 (difference w32 (low 32 a) (low 32 b))
alu_of alu.Sllw a b = sign_extend 32 (low 32 (low 32 a * 2 ^ low 5 b))
alu_of alu.Srlw a b = sign_extend 32 (low 32 a / 2 ^ low 5 b)
alu_of alu.Sraw a b = sign_extend 32 (shift_signed w32 (low 32 a) (low 5 b))

-- bits 127 to 64 of a product
abbrev pub high_half : ℤ → ℕ
high_half product = cast_unsigned w64 (int_shr product 64)

-- Division (Volume I, "Division Operations", with its table "Semantics for division by zero and division overflow").
-- Nothing traps: by zero the quotient has all bits set and the remainder is the dividend.
abbrev pub unsigned_quotient : Width → ℕ → ℕ → ℕ
unsigned_quotient w a b = if b == 0 then 2 ^ bits w - 1 else a / b

abbrev pub unsigned_remainder : ℕ → ℕ → ℕ
unsigned_remainder a b = if b == 0 then a else a % b

-- only the least value over -1 has a quotient that no word holds
abbrev pub overflows : Width → ℕ → ℕ → Bool
overflows w a b = (a == 2 ^ hbits w) && (b == 2 ^ bits w - 1)

abbrev pub signed_quotient : Width → ℕ → ℕ → ℕ
signed_quotient w a b =
    if b == 0 then 2 ^ bits w - 1 else
    (if overflows w a b then a else
    cast_unsigned w (int_div (cast_signed w a) (cast_signed w b)))

abbrev pub signed_remainder : Width → ℕ → ℕ → ℕ
signed_remainder w a b =
    if b == 0 then a else
    (if overflows w a b then 0 else
    cast_unsigned w (int_rem (cast_signed w a) (cast_signed w b)))

-- Multiplication and division (Volume I, "M"). MUL gives the low half of the product; the others give the high half where
-- both operands are signed (MULH), the first alone is (MULHSU), or neither is (MULHU).
abbrev pub muldiv_of : MulOp → ℕ → ℕ → ℕ
muldiv_of mul.Mul a b = wrap (a * b)
muldiv_of mul.Mulh a b = high_half (cast_signed w64 a *ℤ cast_signed w64 b)
muldiv_of mul.Mulhsu a b = high_half (cast_signed w64 a *ℤ pos b)
muldiv_of mul.Mulhu a b = high_half (pos a *ℤ pos b)
muldiv_of mul.Div a b = signed_quotient w64 a b
muldiv_of mul.Divu a b = unsigned_quotient w64 a b
muldiv_of mul.Rem a b = signed_remainder w64 a b
muldiv_of mul.Remu a b = unsigned_remainder a b
muldiv_of mul.Mulw a b = sign_extend 32 (low 32 (low 32 a * low 32 b))
muldiv_of mul.Divw a b = sign_extend 32 (signed_quotient w32 (low 32 a) (low 32 b))
muldiv_of mul.Divuw a b = sign_extend 32 (unsigned_quotient w32 (low 32 a) (low 32 b))
muldiv_of mul.Remw a b = sign_extend 32 (signed_remainder w32 (low 32 a) (low 32 b))
muldiv_of mul.Remuw a b = sign_extend 32 (unsigned_remainder (low 32 a) (low 32 b))

-- What an atomic memory operation leaves of a word of memory and the source's word (Volume I, "Atomic Memory Operations").
abbrev pub amo_of_words : AmoOp → Width → ℕ → ℕ → ℕ
amo_of_words amo.Swap w old source = source
amo_of_words amo.Add w old source = low (bits w) (old + source)
amo_of_words amo.Xor w old source = bit_xor old source
amo_of_words amo.And w old source = bit_and old source
amo_of_words amo.Or w old source = bit_or old source
amo_of_words amo.Min w old source = if signed_lt w source old then source else old
amo_of_words amo.Max w old source = if signed_lt w old source then source else old
amo_of_words amo.Minu w old source = if nat_lt source old then source else old
amo_of_words amo.Maxu w old source = if nat_lt old source then source else old

-- so many bytes, 4 or 8
abbrev pub width_of : ℕ → Width
width_of bytes = if bytes == 4 then w32 else w64

-- the new value of memory, of so many bytes; only the bytes of the width count
abbrev pub amo_of : AmoOp → ℕ → ℕ → ℕ → ℕ
amo_of op old source width = amo_of_words op (width_of width) (low (8 * width) old) (low (8 * width) source)
