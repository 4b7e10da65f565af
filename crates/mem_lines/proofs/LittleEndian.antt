-- A store of many bytes is one of the lowest and one of those above.
use Rattle.std.proofs.Common.{◌≡◌, ℕ, ◌+◌, ◌-◌, ◌/◌, ◌%◌, ◌^◌, true, false, refl, ap, sym, ◌∙◌, arith, inl, inr}
use Rattle.std.proofs.Math.Nat.{div-div-eq-div-mul}
use Rattle.std.proofs.lemmas.Nat.{pow-add}
use Rattle.std.proofs.lemmas.Bool.Decides.{leb_tells}
use Rattle.flex_base.specs.FlatMemory.{covers, put, byte_at}
use Rattle.mem_lines.proofs.Covering.{cases_covers, covers_at, covers_no}

-- byte k of what is above the lowest m bytes
byte_at-above : (value m k : ℕ) → byte_at (value / 256 ^ m) k ≡ byte_at value (m + k)
byte_at-above value m k = ap (λ n. n % 256) (div-div-eq-div-mul value (256 ^ m) (256 ^ k) ∙ ap (λ n. value / n) (sym (pow-add 256 m k)))

-- the lowest bytes, and then those above
pub put_put : (i old at m n value : ℕ) → put i (put i old at m value) (at + m) n (value / 256 ^ m) ≡ put i old at (m + n) value
put_put i old at m n value = elim (cases_covers (at + m) n i) [
  | inl above ↦
      let here : covers at (m + n) i ≡ true = covers_at at (m + n) i (omega (arith, above.1)) (omega (arith, above.1)) in
      rw (above.0, here) (byte_at-above value m (i - (at + m)) ∙ ap (byte_at value) (omega (arith, above.1)))
  | inr beyond ↦ elim (cases_covers at m i) [
    | inl low ↦
        let here : covers at (m + n) i ≡ true = covers_at at (m + n) i low.1.0 (omega (arith, low.1)) in
        rw (beyond.0, low.0, here) refl
    | inr none ↦
        let away : covers at (m + n) i ≡ false = covers_no at (m + n) i (λ both. elim (leb_tells (at + m) i) [
          | inl above ↦ beyond.1 (above.1, omega (arith, both.1))
          | inr below ↦ none.1 (both.0, below.1)
        ]) in
        rw (beyond.0, none.0, away) refl
  ]
]
