-- A hart begins in a fit state.
use Rattle.std.proofs.Common.{ℕ, ◌≡◌, ◌<◌, true, [], ◌∷◌, refl, sym, subst, ◌∙◌, arith, slice_index, replicate}
use Rattle.std.proofs.lemmas.List.{get_or_append_left, get_or-replicate}
use Rattle.flex_base.specs.Word.{is_multiple}
use Rattle.flex_base.specs.Csrs.{AreFit, IsWithin, store_bits, start_csrs}
use Rattle.flex_base.specs.State.{IsFit, start}

zeros : (hart k : ℕ) → k < 20 → slice_index (start_csrs hart) k ≡ 0
zeros hart k less = get_or_append_left (replicate 20 0) (hart ∷ []) 0 k less ∙ get_or-replicate 20 k 0 0 less

pub start_fit : (hart harts : ℕ) → hart < harts → AreFit harts (start_csrs hart)
start_fit hart harts less = record {
  places = refl;
  within = λ k below.
      let Within : ℕ → Type 0 = λ x. IsWithin (slice_index store_bits k) x in
      subst Within (sym (zeros hart k below)) refl;
  mpp = λ e. absurd (omega (arith, e));
  satp_mode = refl;
  hart = less;
}

pub begins_fit : (harts ram budget hart entry : ℕ) → hart < harts → is_multiple entry 4 ≡ true → IsFit harts ram budget (start hart entry)
begins_fit harts ram budget hart entry less aligned =
    record { aligned = aligned; within = omega arith; reserved = tt; csrs = start_fit hart harts less; leaves = tt }
