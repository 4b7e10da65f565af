-- Harts are taken in and out, and what is in the latches stays in flight.
use Rattle.std.proofs.Common.{◌≡◌, ◌≢◌, ◌⊎◌, ℕ, zero, suc, ◌+◌, ◌-◌, ◌<◌, ◌≤◌, nat_eq, nat_lt, Bool, true, false, if◌then◌else◌, List, [], ◌∷◌, ◌++◌, length, take, drop, slice_index_or, slice_set, Option, None, Some, IfSome, refl, sym, ap, subst, ◌∙◌, arith, inl, inr}
use Rattle.std.specs.List.{All, SameBelow, ShiftedDown}
use Rattle.std.proofs.lemmas.Bool.{cases_eq, cases_lt, or_parts, eqb-false, ltb-true, ltb-false}
use Rattle.std.proofs.lemmas.List.{get_or-set_same, get_or-set_other, length-set, length-map, length-append, get_or_append_left, drop_all, append-nil}
use Rattle.std.proofs.Math.Seq.{get_or-append_seam}
use Rattle.std.proofs.Math.ListN.{get_or-map}
use Rattle.context.specs.Contexts.{Context}
use Rattle.pipeline.specs.declared.flight.Flight.{Flight}
use Rattle.pipeline.specs.Pipes.{IsAt, IsDue, IsInFlight, AreInFlight, HasLaid, MayStart, is_of, is_among, without_place, without_in}

-- what Some is of
pub same_some : (f g : Flight) → Some f ≡ Some g → f ≡ g
same_some f g is =
    let Same : Option Flight → Type 0 = λ o. IfSome o (λ x. f ≡ x) in
    subst Same is refl

some_isnt_none : (g : Flight) → None ≡ Some g → ⊥
some_isnt_none g is =
    let Is : Option Flight → Type 0 = λ o. IfSome o (λ x. ⊥) in
    subst Is is tt

-- a hart more is held
pub flying_more : (held : List Context) (more : Context) (latches : List (Option Flight)) → AreInFlight held latches → AreInFlight (held ++ more ∷ []) latches
flying_more held more latches flying = record {
  six = flying.six;
  each = λ k g there.
      let is = flying.each k g there in
      let (hart, within, read, due) = is.hart in
      record {
        later = is.later;
        most = is.most;
        hart = (hart, omega (arith, within, length-append held (more ∷ [])), get_or_append_left held (more ∷ []) hart g.place within ∙ read, due);
      };
  once = flying.once;
}

-- what is read after one was laid
set_cases : (latches : List (Option Flight)) (latch : ℕ) (x : Flight) (k : ℕ) (g : Flight) → latch < length latches → IsAt (slice_set latches latch (Some x)) k g
    → ((k ≡ latch) × (x ≡ g)) ⊎ IsAt latches k g
set_cases latches latch x k g within there = elim (cases_eq k latch) [
  | inl same ↦
      let New : ℕ → Type 0 = λ n. slice_index_or (slice_set latches latch (Some x)) n None ≡ Some g in
      inl (same, same_some x g (sym (get_or-set_same latches latch (Some x) None within) ∙ subst New same there))
  | inr other ↦ inr (sym (get_or-set_other latches latch k (Some x) None other) ∙ there)
]

-- the instruction of a hart that has none in flight is laid
pub flying_laid : (held : List Context) (latches : List (Option Flight)) (latch : ℕ) (x : Flight) → latch < 6 → AreInFlight held latches → IsInFlight held latch x
    → ((k : ℕ) (g : Flight) → IsAt latches k g → g.place ≢ x.place) → AreInFlight held (slice_set latches latch (Some x))
flying_laid held latches latch x below flying is apart =
    let within : latch < length latches = omega (arith, below, flying.six) in
    record {
      six = length-set latches latch (Some x) ∙ flying.six;
      each = λ k g there. elim (set_cases latches latch x k g within there) [
        | inl here ↦
            let In : Flight → Type 0 = λ f. IsInFlight held k f in
            let At : ℕ → Type 0 = λ n. IsInFlight held n x in
            subst In here.1 (subst At (sym here.0) is)
        | inr before ↦ flying.each k g before
      ];
      once = λ one other f g there here same.
          elim (set_cases latches latch x one f within there) [
            | inl first ↦ elim (set_cases latches latch x other g within here) [
              | inl second ↦ first.0 ∙ sym second.0
              | inr before ↦
                  let Place : Flight → ℕ = λ h. h.place in
                  absurd (apart other g before (sym same ∙ sym (ap Place first.1)))
            ]
            | inr before ↦ elim (set_cases latches latch x other g within here) [
              | inl second ↦
                  let Place : Flight → ℕ = λ h. h.place in
                  absurd (apart one f before (same ∙ sym (ap Place second.1)))
              | inr its ↦ flying.once one other f g before its same
            ]
          ];
    }

-- the hart that was pushed is laid, or it isn't
pub flying_admitted : (held : List Context) (c : Context) (old new : List (Option Flight)) (laid : Bool) → AreInFlight held old → HasLaid (length held) c old new laid
    → AreInFlight (held ++ c ∷ []) new
flying_admitted held c old new true flying lays =
    let In : List (Option Flight) → Type 0 = λ l. AreInFlight (held ++ c ∷ []) l in
    let is : IsInFlight (held ++ c ∷ []) (lays.due - 1) (record { place = length held; due = lays.due }) = record {
      later = omega (arith, lays.some);
      most = lays.most;
      hart = (c, omega (arith, length-append held (c ∷ [])), get_or-append_seam held c [] c, lays.is_due);
    } in
    subst In (sym lays.laid) (flying_laid (held ++ c ∷ []) old (lays.due - 1) (record { place = length held; due = lays.due }) (omega (arith, lays.some, lays.most)) (flying_more held c old flying) is
    (λ k g there same. omega (arith, same, (flying.each k g there).hart.1)))
flying_admitted held c old new false flying lays =
    let In : List (Option Flight) → Type 0 = λ l. AreInFlight (held ++ c ∷ []) l in
    subst In (sym lays.same) (flying_more held c old flying)

-- what is in no latch
pub not_among : (latches : List (Option Flight)) (place k : ℕ) (g : Flight) → is_among latches place ≡ false → IsAt latches k g → g.place ≢ place
not_among [] place k g free there = absurd (some_isnt_none g there)
not_among (f ∷ rest) place zero g free there =
    let Of : Option Flight → Type 0 = λ o. is_of o place ≡ false in
    eqb-false g.place place (subst Of there (or_parts (is_of f place) (is_among rest place) free).0)
not_among (f ∷ rest) place (suc k) g free there = not_among rest place k g (or_parts (is_of f place) (is_among rest place) free).1 there

-- select lays one
pub flying_selected : (held : List Context) (latches : List (Option Flight)) (f : Flight) → AreInFlight held latches → MayStart held latches f
    → AreInFlight held (slice_set latches 0 (Some f))
flying_selected held latches f flying may =
    let (some, most, free, hart) = may in
    flying_laid held latches 0 f (search arith) flying (record { later = some; most = most; hart = hart }) (λ k g there. not_among latches f.place k g free there)

-- a hart is taken out: what is in a latch then was there before, and its hart stood there or one place above

was_by : (equal below : Bool) (f g : Flight) → (if equal then None else if below then Some f else Some (record f { place = f.place - 1 })) ≡ Some g
    → (equal ≡ false) × (((below ≡ true) × (f ≡ g)) ⊎ ((below ≡ false) × (record f { place = f.place - 1 } ≡ g)))
was_by true below f g is = absurd (some_isnt_none g is)
was_by false true f g is = (refl, inl (refl, same_some f g is))
was_by false false f g is = (refl, inr (refl, same_some (record f { place = f.place - 1 }) g is))

-- where it was
record WasIn (place : ℕ) (o : Option Flight) (g : Flight) : Type 0 where
  was : Flight
  is : o ≡ Some was
  due : was.due ≡ g.due
  at : ((was.place < place) × (g.place ≡ was.place)) ⊎ ((place < was.place) × (g.place + 1 ≡ was.place))

was_in : (place : ℕ) (o : Option Flight) (g : Flight) → without_place place o ≡ Some g → WasIn place o g
was_in place None g is = absurd (some_isnt_none g is)
was_in place (Some f) g is =
    let (other, which) = was_by (nat_eq f.place place) (nat_lt f.place place) f g is in
    let Place : Flight → ℕ = λ h. h.place in
    let Due : Flight → ℕ = λ h. h.due in
    let apart = eqb-false f.place place other in
    elim which [
      | inl before ↦ record { was = f; is = refl; due = ap Due before.1; at = inl (ltb-true f.place place before.0, sym (ap Place before.1)) }
      | inr after ↦
          let least : place ≤ f.place = ltb-false f.place place after.0 in
          let above : place < f.place = omega (arith, least, apart) in
          let same : f.place - 1 ≡ g.place = ap Place after.1 in
          record { was = f; is = refl; due = ap Due after.1; at = inr (above, omega (arith, same, above)) }
    ]

was_at : (latches : List (Option Flight)) (place k : ℕ) (g : Flight) → IsAt (without_in place latches) k g → WasIn place (slice_index_or latches k None) g
was_at latches place k g there = was_in place (slice_index_or latches k None) g (sym (get_or-map (without_place place) latches k None) ∙ there)

-- nor do two have one hart
same_before : (place : ℕ) (o p : Option Flight) (g h : Flight) (one : WasIn place o g) (two : WasIn place p h) → g.place ≡ h.place → one.was.place ≡ two.was.place
same_before place o p g h one two same = elim one.at [
  | inl low ↦ elim two.at [ inl its ↦ sym low.1 ∙ same ∙ its.1 | inr its ↦ absurd (omega (arith, low.0, low.1, its.0, its.1, same)) ]
  | inr high ↦ elim two.at [ inl its ↦ absurd (omega (arith, high.0, high.1, its.0, its.1, same)) | inr its ↦ omega (arith, high.1, its.1, same) ]
]

module _ (held new : List Context) (place : ℕ) (below : SameBelow held new place) (shifted : ShiftedDown held new place) (fewer : length new + 1 ≡ length held) where
  pub flying_taken : (latches : List (Option Flight)) → place < length held → AreInFlight held latches → AreInFlight new (without_in place latches)
  flying_taken latches inside flying = record {
    six = length-map latches (without_place place) ∙ flying.six;
    each = λ k g there.
        let was = was_at latches place k g there in
        let is = flying.each k was.was was.is in
        let (hart, within, read, due) = is.hart in
        let Due : ℕ → Type 0 = λ n. IsDue hart n in
        let its : IsDue hart g.due = subst Due was.due due in
        record {
          later = omega (arith, is.later, was.due);
          most = omega (arith, is.most, was.due);
          hart = elim was.at [
            | inl low ↦
                let Read : ℕ → Type 0 = λ n. slice_index_or held n hart ≡ hart in
                (hart, omega (arith, low.0, low.1, inside, fewer), below g.place hart (omega (arith, low.0, low.1)) ∙ subst Read (sym low.1) read, its)
            | inr high ↦
                let Read : ℕ → Type 0 = λ n. slice_index_or held n hart ≡ hart in
                (hart, omega (arith, high.0, high.1, within, fewer), shifted g.place hart (omega (arith, high.0, high.1)) ∙ subst Read (sym high.1) read, its)
          ];
        };
    once = λ one other f g there here same.
        let first = was_at latches place one f there in
        let second = was_at latches place other g here in
        flying.once one other first.was second.was first.is second.is (same_before place _ _ f g first second same);
  }

  -- what holds of all harts holds of those that are left
  pub all_taken : (P : Context → Type 0) → All P held → All P new
  all_taken P all k d inside = elim (cases_lt k place) [
    | inl low ↦ subst P (sym (below k d low)) (all k d (omega (arith, inside, fewer)))
    | inr high ↦ subst P (sym (shifted k d high)) (all (k + 1) d (omega (arith, inside, fewer)))
  ]

-- the hart that is taken out stands between those before it and those after it
pub parted : {X : Type 0} → (xs : List X) (n : ℕ) (x : X) → n < length xs → slice_index_or xs n x ≡ x → xs ≡ take n xs ++ x ∷ drop (suc n) xs
parted [] n x inside read = absurd (omega (arith, inside))
parted (y ∷ rest) zero x inside read =
    let With : _ → List _ = λ z. z ∷ rest in
    ap With read
parted {X} (y ∷ rest) (suc n) x inside read =
    let Then : List X → List X = λ l. y ∷ l in
    ap Then (parted rest n x (omega (arith, inside)) read)

-- the last one is taken out
pub last_out : {X : Type 0} → (held new : List X) (n : ℕ) (x : X) → n + 1 ≡ length held → slice_index_or held n x ≡ x → new ≡ take n held ++ drop (suc n) held
    → held ≡ new ++ x ∷ []
last_out {X} held new n x count read is =
    let none : drop (suc n) held ≡ [] = drop_all (suc n) held (omega (arith, count)) in
    let After : List X → List X = λ l. take n held ++ x ∷ l in
    let Before : List X → List X = λ l. l ++ x ∷ [] in
    let Rest : List X → List X = λ l. take n held ++ l in
    let left : new ≡ take n held = is ∙ ap Rest none ∙ append-nil (take n held) in
    parted held n x (omega (arith, count)) read ∙ ap After none ∙ ap Before (sym left)
