-- Words of 64 bits, and the fields of a word.
use Rattle.std.specs.Prelude.{ℕ, ◌+◌, ◌-◌, ◌/◌, ◌%◌, ◌^◌, Bool, ◌==◌, nat_lt, if◌then◌else◌}

-- a sum or a difference as a register holds it (Volume I, "Integer Computational Instructions": overflow is ignored)
abbrev pub wrap : ℕ → ℕ
wrap n = n % 2 ^ 64

-- the lowest bits of a word
abbrev pub low : ℕ → ℕ → ℕ
low bits n = n % 2 ^ bits

-- a number of so many bits, as 64 bits of the same two's complement value
abbrev pub sign_extend : ℕ → ℕ → ℕ
sign_extend bits n = if nat_lt n (2 ^ (bits - 1)) then n else n + (2 ^ 64 - 2 ^ bits)

-- the field of so many bits that begins at bit `at`
abbrev pub field : ℕ → ℕ → ℕ → ℕ
field at bits word = (word / 2 ^ at) % 2 ^ bits

-- whether this bit of a word is 1
abbrev pub is_set : ℕ → ℕ → Bool
is_set at word = field at 1 word == 1

abbrev pub is_multiple : ℕ → ℕ → Bool
is_multiple n of = n % of == 0
