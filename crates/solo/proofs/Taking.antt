-- Contexts taken apart, the last one first.
use Rattle.std.proofs.Common.{◌≡◌, ℕ, ◌+◌, ◌<◌, List, [], ◌∷◌, ◌++◌, map, length, get_or, inl, inr, ap, sym, subst, ◌∙◌, arith, append_assoc}
use Rattle.std.specs.Prelude.{reverse}
use Rattle.std.proofs.lemmas.Bool.{cases_eq}
use Rattle.std.proofs.lemmas.List.{map_push, reverse-append, reverse-reverse, append-nil, length-append, get_or_append_left, get_or_push}

module _ {A B : Type 0} (f : A → B) where
  -- one more is taken
  pub taken_more : (old before : List A) (x : A) → old ≡ before ++ x ∷ [] → (done more whole : List B) (y : B) → more ≡ done ++ y ∷ [] → y ≡ f x
      → done ++ reverse (map f old) ≡ whole → more ++ reverse (map f before) ≡ whole
  taken_more old before x last done more whole y pushed is all =
      let rest = reverse (map f before) in
      let first : reverse (map f old) ≡ f x ∷ rest = ap (λ xs. reverse (map f xs)) last ∙ ap reverse (map_push f before x) ∙ reverse-append (map f before) (f x ∷ []) in
      ap (λ ys. ys ++ rest) pushed
      ∙ ap (λ z. (done ++ z ∷ []) ++ rest) is
      ∙ append_assoc done (f x ∷ []) rest
      ∙ ap (λ ys. done ++ ys) (sym first)
      ∙ all

  -- all are taken; turned round they stand as they stood
  pub taken_all : (rest all : List A) (done turned : List B) → rest ≡ [] → turned ≡ reverse done → done ++ reverse (map f rest) ≡ reverse (map f all)
      → turned ≡ map f all
  taken_all rest all done turned none round whole =
      round ∙ ap reverse (sym (append-nil done) ∙ ap (λ xs. done ++ reverse (map f xs)) (sym none) ∙ whole) ∙ reverse-reverse (map f all)

-- each of these has it
abbrev pub AllHave : {A : Type 0} → (A → Type 0) → List A → Type 0
AllHave {A} P xs = (k : ℕ) (other : A) → k < length xs → P (get_or xs k other)

pub have_none : {A : Type 0} (P : A → Type 0) (xs : List A) → xs ≡ [] → AllHave P xs
have_none P xs none k other below = absurd (let count : length xs ≡ 0 = ap length none in omega (arith, below, count))

pub have_push : {A : Type 0} (P : A → Type 0) (old before : List A) (x : A) → old ≡ before ++ x ∷ [] → P x → AllHave P before → AllHave P old
have_push P old before x last has all k other below =
    let count : length old ≡ length before + 1 = ap length last ∙ length-append before (x ∷ []) in
    subst P (ap (λ xs. get_or xs k other) (sym last)) (elim (cases_eq (length before) k) [
      | inl same ↦ subst P (sym (get_or_push before x other k same)) has
      | inr other_place ↦
          let within : k < length before = omega (arith, below, count, other_place) in
          subst P (sym (get_or_append_left before (x ∷ []) other k within)) (all k other within)
    ])
