-- Replies have the form of their accesses.
use Rattle.std.proofs.Common.{◌≡◌, ℕ, ◌*◌, ◌^◌, ◌<◌, ◌≤◌, ◌==◌, false, inl, inr, refl, subst, sym, arith}
use Rattle.std.proofs.lemmas.Nat.{pow_pos}
use Rattle.flex_base.specs.Place.{UART, place_of}
use Rattle.flex_base.specs.declared.settings.Place.TheVariants as place
use Rattle.flex_base.specs.Forms.{HasForm, IsPlaced, TellsValue}
use Rattle.flex_base.specs.FlatMemory.{reply_with}
use Rattle.flex_base.specs.declared.access.Access.{Access}
use Rattle.flex_base.specs.declared.access.Access.TheVariants as acc
use Rattle.flex_base.proofs.DevicePlaces.{device_width}

narrow_by : (width value : ℕ) → width ≡ 4 → ((width == 8) ≡ false → value < 2 ^ 32) → value < 2 ^ (8 * width)
narrow_by width value e narrow =
    let At : ℕ → Type 0 = λ w. ((w == 8) ≡ false → value < 2 ^ 32) → value < 2 ^ (8 * w) in
    let here : At 4 = λ fits. fits refl in
    subst At (sym e) here narrow

fits_width : (harts ram address width value : ℕ) → place_of harts ram address width ≡ place.Device → value < 2 ^ 64
    → ((width == 8) ≡ false → value < 2 ^ 32) → (UART ≤ address → value < 2 ^ 8) → value < 2 ^ (8 * width)
fits_width harts ram address width value here word narrow byte =
    let At : ℕ → Type 0 = λ w. value < 2 ^ (8 * w) in
    elim (device_width harts ram address width here) [
      | inl eight ↦ subst At (sym eight) word
      | inr fewer ↦ elim fewer [
        | inl four ↦ narrow_by width value four narrow
        | inr one ↦ subst At (sym one.0) (byte one.1)
      ]
    ]

pub read_form : (harts ram address width value : ℕ) → IsPlaced harts ram (acc.DevRead address width) → value < 2 ^ 64
    → ((width == 8) ≡ false → value < 2 ^ 32) → (UART ≤ address → value < 2 ^ 8) → HasForm (acc.DevRead address width) (reply_with value)
read_form harts ram address width value placed word narrow byte =
    record { value = fits_width harts ram address width value placed word narrow byte; lines = refl; stop = refl }

told_0 : (bits : ℕ) → TellsValue bits (reply_with 0)
told_0 bits = record { value = pow_pos bits; lines = refl; stop = refl }

-- the reply 0 has any
pub zero_form : (access : Access) → HasForm access (reply_with 0)
zero_form (acc.Fetch address) = told_0 32
zero_form (acc.Pte address) = told_0 64
zero_form (acc.Read address width) = told_0 (8 * width)
zero_form (acc.Write address width value) = told_0 0
zero_form (acc.Lr address width) = told_0 (8 * width)
zero_form (acc.Sc address width value) = told_0 1
zero_form (acc.Amo op address width value) = told_0 (8 * width)
zero_form (acc.DevRead address width) = told_0 (8 * width)
zero_form (acc.DevWrite address width value) = told_0 0
zero_form (acc.Pulse tick) = record { value = omega arith; lines = omega arith }
zero_form (acc.Wait mie) = record { value = omega arith; lines = omega arith }
zero_form acc.Retire = told_0 0
zero_form acc.Time = told_0 64
