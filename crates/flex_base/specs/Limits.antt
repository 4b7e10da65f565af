-- The limits of a run.
use Rattle.std.specs.Prelude.{ℕ, ◌*◌, ◌^◌, Bool, ◌&&◌, nat_le}
use Rattle.flex_base.specs.Word.{is_multiple}
use Rattle.flex_base.specs.declared.settings.Settings.{Settings}

-- the number lies between the two, both allowed
abbrev pub is_within : ℕ → ℕ → ℕ → Bool
is_within least most n = nat_le least n && nat_le n most

abbrev pub mebibyte : ℕ
mebibyte = 1048576

-- 1 to 32 harts, 1 to 256 MiB of RAM, and a budget of 1 to 2^32 ends
abbrev pub is_lawful : Settings → Bool
is_lawful settings = is_within 1 32 settings.harts && is_within mebibyte (256 * mebibyte) settings.ram && is_multiple settings.ram mebibyte && is_within 1 (2 ^ 32) settings.budget
