-- Fields of mstatus under writes of a field.
use Rattle.std.proofs.Common.{ℕ, ◌/◌, ◌^◌, ◌<◌, ◌≡◌, refl, arith}
use Rattle.std.proofs.lemmas.Nat.{mod_below}
use Rattle.flex_base.specs.Csrs.{SIE, MIE, SPIE, MPIE, SPP, MPP, MPRV}
use Rattle.flex_base.specs.Traps.{with_field, with_bit, with_mprv_in_m}
use Rattle.flex_base.specs.Word.{field}
use Rattle.flex_base.specs.declared.hart.Mode.{Mode}
use Rattle.flex_base.specs.declared.hart.Mode.TheVariants as mode

pub bit_small : (at w : ℕ) → field at 1 w < 2
bit_small at w = mod_below (w / 2 ^ at) 2 (omega arith)

pub mpp-with_mpp : (w v : ℕ) → v < 4 → field MPP 2 (with_field MPP 2 v w) ≡ v
mpp-with_mpp w v small = omega (arith, small)

pub mie-with_mpp : (w v : ℕ) → v < 4 → field MIE 1 (with_field MPP 2 v w) ≡ field MIE 1 w
mie-with_mpp w v small = omega (arith, small)

pub mie-with_mprv : (w : ℕ) (to : Mode) → field MIE 1 (with_mprv_in_m to w) ≡ field MIE 1 w
mie-with_mprv w mode.M = refl
mie-with_mprv w mode.S = omega arith
mie-with_mprv w mode.U = omega arith

pub mpp-with_mpie : (w v : ℕ) → v < 2 → field MPP 2 (with_bit MPIE v w) ≡ field MPP 2 w
mpp-with_mpie w v small = omega (arith, small)

pub mpp-with_mie : (w v : ℕ) → v < 2 → field MPP 2 (with_bit MIE v w) ≡ field MPP 2 w
mpp-with_mie w v small = omega (arith, small)

pub mpie-with_mpie : (w v : ℕ) → v < 2 → field MPIE 1 (with_bit MPIE v w) ≡ v
mpie-with_mpie w v small = omega (arith, small)

pub mie-with_mie : (w v : ℕ) → v < 2 → field MIE 1 (with_bit MIE v w) ≡ v
mie-with_mie w v small = omega (arith, small)

pub mie-with_mpie : (w v : ℕ) → v < 2 → field MIE 1 (with_bit MPIE v w) ≡ field MIE 1 w
mie-with_mpie w v small = omega (arith, small)

pub spp-with_spie : (w v : ℕ) → v < 2 → field SPP 1 (with_bit SPIE v w) ≡ field SPP 1 w
spp-with_spie w v small = omega (arith, small)

pub spp-with_sie : (w v : ℕ) → v < 2 → field SPP 1 (with_bit SIE v w) ≡ field SPP 1 w
spp-with_sie w v small = omega (arith, small)

pub spp-with_spp : (w v : ℕ) → v < 2 → field SPP 1 (with_bit SPP v w) ≡ v
spp-with_spp w v small = omega (arith, small)

pub spie-with_spie : (w v : ℕ) → v < 2 → field SPIE 1 (with_bit SPIE v w) ≡ v
spie-with_spie w v small = omega (arith, small)

pub sie-with_sie : (w v : ℕ) → v < 2 → field SIE 1 (with_bit SIE v w) ≡ v
sie-with_sie w v small = omega (arith, small)

pub sie-with_spie : (w v : ℕ) → v < 2 → field SIE 1 (with_bit SPIE v w) ≡ field SIE 1 w
sie-with_spie w v small = omega (arith, small)

pub sie-with_spp : (w v : ℕ) → v < 2 → field SIE 1 (with_bit SPP v w) ≡ field SIE 1 w
sie-with_spp w v small = omega (arith, small)

pub sie-with_mprv : (w : ℕ) → field SIE 1 (with_bit MPRV 0 w) ≡ field SIE 1 w
sie-with_mprv w = omega arith

pub mpp-with_sie : (w v : ℕ) → v < 2 → field MPP 2 (with_bit SIE v w) ≡ field MPP 2 w
mpp-with_sie w v small = omega (arith, small)

pub mpp-with_spie : (w v : ℕ) → v < 2 → field MPP 2 (with_bit SPIE v w) ≡ field MPP 2 w
mpp-with_spie w v small = omega (arith, small)

pub mpp-with_spp : (w v : ℕ) → v < 2 → field MPP 2 (with_bit SPP v w) ≡ field MPP 2 w
mpp-with_spp w v small = omega (arith, small)

pub mpp-with_mprv : (w v : ℕ) → v < 2 → field MPP 2 (with_bit MPRV v w) ≡ field MPP 2 w
mpp-with_mprv w v small = omega (arith, small)
