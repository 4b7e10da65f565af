-- How many bytes a device register has.
use Rattle.std.proofs.Common.{◌≡◌, ℕ, ◌+◌, ◌-◌, ◌*◌, ◌≤◌, ◌⊎◌, ◌==◌, nat_le, nat_lt, Bool, true, false, ◌&&◌, if◌then◌else◌, inl, inr, refl, arith}
use Rattle.std.specs.List.{list_any}
use Rattle.std.proofs.lemmas.Bool.{or_cases}
use Rattle.std.proofs.lemmas.Bool.Decides.{nat_tests}
use Rattle.flex_base.specs.Word.{is_multiple}
use Rattle.flex_base.specs.Place.{in_ram, place_of, Registers, registers, is_among, device_registers, FINISHER, MSIP, MTIMECMP, MTIME, UART}
use Rattle.flex_base.specs.declared.settings.Place.TheVariants as place

device_by : (device inside : Bool) → (if inside then place.Ram else (if device then place.Device else place.Nowhere)) ≡ place.Device → device ≡ true
device_by device true e = absurd cc
device_by true false e = cc
device_by false false e = absurd cc

-- 8 bytes, or 4, or 1 of the UART's
abbrev pub IsDeviceWidth : ℕ → ℕ → Type 0
IsDeviceWidth address width = (width ≡ 8) ⊎ ((width ≡ 4) ⊎ ((width ≡ 1) × (UART ≤ address)))

first_two : (a b c d : Bool) → (a && b && c && d) ≡ true → (a ≡ true) × (b ≡ true)
first_two true true c d e = (refl, refl)
first_two true false c d e = absurd cc
first_two false b c d e = absurd cc

among_tells : (address width : ℕ) (r : Registers) → is_among address width r ≡ true → (width ≡ r.width) × (r.base ≤ address)
among_tells address width r among =
    let both = first_two (width == r.width) (nat_le r.base address) (nat_lt address (r.base + r.width * r.count)) (is_multiple (address - r.base) r.width) among in
    (grind (arith, nat_tests, both.0), grind (arith, nat_tests, both.1))

among_registers : (harts address width : ℕ) → list_any (is_among address width) (device_registers harts) ≡ true → IsDeviceWidth address width
among_registers harts address width some = elim (or_cases (is_among address width (registers FINISHER 4 1)) _ some) [
  | inl here ↦ inr (inl (among_tells address width (registers FINISHER 4 1) here).0)
  | inr more ↦ elim (or_cases (is_among address width (registers MSIP 4 harts)) _ more) [
    | inl here ↦ inr (inl (among_tells address width (registers MSIP 4 harts) here).0)
    | inr more ↦ elim (or_cases (is_among address width (registers MTIMECMP 8 harts)) _ more) [
      | inl here ↦ inl (among_tells address width (registers MTIMECMP 8 harts) here).0
      | inr more ↦ elim (or_cases (is_among address width (registers MTIMECMP 4 (2 * harts))) _ more) [
        | inl here ↦ inr (inl (among_tells address width (registers MTIMECMP 4 (2 * harts)) here).0)
        | inr more ↦ elim (or_cases (is_among address width (registers MTIME 8 1)) _ more) [
          | inl here ↦ inl (among_tells address width (registers MTIME 8 1) here).0
          | inr more ↦ elim (or_cases (is_among address width (registers MTIME 4 2)) _ more) [
            | inl here ↦ inr (inl (among_tells address width (registers MTIME 4 2) here).0)
            | inr more ↦ elim (or_cases (is_among address width (registers UART 1 8)) _ more) [
              | inl here ↦ inr (inr (among_tells address width (registers UART 1 8) here))
              | inr none ↦ absurd cc
            ]
          ]
        ]
      ]
    ]
  ]
]

pub device_width : (harts ram address width : ℕ) → place_of harts ram address width ≡ place.Device → IsDeviceWidth address width
device_width harts ram address width e = among_registers harts address width (device_by (list_any (is_among address width) (device_registers harts)) (in_ram ram address width) e)
