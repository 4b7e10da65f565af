-- A bank's log with one event more.
use Rattle.std.proofs.Common.{◌≡◌, ℕ, List, [], ◌∷◌, ◌++◌, refl, ap, sym, subst, ◌∙◌, append-nil, append_assoc}
use Rattle.flex_base.specs.Setup.{Setup}
use Rattle.flex_base.specs.FlatMemory.{Done}
use Rattle.flex_base.specs.Banks.{access_in, accesses_of, IsAt, BankedFrom, IsBanked}
use Rattle.flex_base.specs.declared.event.Event.{Event}

pub accesses_of-append : (events more : List Event) → accesses_of (events ++ more) ≡ accesses_of events ++ accesses_of more
accesses_of-append [] more = refl
accesses_of-append (x ∷ events) more =
    let first = access_in x.hart.0 x.what in
    ap (λ made. first ++ made) (accesses_of-append events more) ∙ sym (append_assoc first (accesses_of events) (accesses_of more))

pub accesses_of-push : (events : List Event) (e : Event) → accesses_of (events ++ e ∷ []) ≡ accesses_of events ++ access_in e.hart.0 e.what
accesses_of-push events e =
    accesses_of-append events (e ∷ []) ∙ ap (λ made. accesses_of events ++ made) (append-nil (access_in e.hart.0 e.what))

module _ (setup : Setup) (banks bank : ℕ) where
  banked_from_push : (made : List Done) (events : List Event) (e : Event) → BankedFrom setup banks bank made events
      → IsAt setup banks bank (made ++ accesses_of events) e.hart.0 e.what → BankedFrom setup banks bank made (events ++ e ∷ [])
  banked_from_push made [] e banked at =
      (subst (λ (m : List Done). IsAt setup banks bank m e.hart.0 e.what) (append-nil made) at, tt)
  banked_from_push made (x ∷ events) e banked at =
      let first = access_in x.hart.0 x.what in
      let all = sym (append_assoc made first (accesses_of events)) in (
        banked.0,
        banked_from_push (made ++ first) events e banked.1 (subst (λ (m : List Done). IsAt setup banks bank m e.hart.0 e.what) all at),
      )

  pub banked_push : (events : List Event) (e : Event) → IsBanked setup banks bank events
      → IsAt setup banks bank (accesses_of events) e.hart.0 e.what → IsBanked setup banks bank (events ++ e ∷ [])
  banked_push events e banked at = banked_from_push [] events e banked at
