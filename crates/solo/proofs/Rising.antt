-- Events whose numbers rise. Where there are n of them, each with a number below n, they have the numbers 0, 1, 2 and so on.
use Rattle.std.proofs.Common.{◌≡◌, ℕ, ◌+◌, ◌<◌, ◌≤◌, suc, List, [], ◌∷◌, ◌++◌, length, refl, ap, sym, subst, ◌∙◌, arith}
use Rattle.flex_base.specs.Journal.{event}
use Rattle.flex_base.specs.declared.event.Event.{Event}
use Rattle.solo.specs.Rising.{Rises, numbered_from, AreOfHarts}

pub rises_few : (low high : ℕ) (events : List Event) → Rises low high events → low + length events ≤ high
rises_few low high [] rises = omega (arith, rises)
rises_few low high (e ∷ events) rises = omega (arith, rises.0, rises_few (suc e.number) high events rises.1)

pub rises_numbered : (low : ℕ) (events : List Event) → Rises low (low + length events) events → numbered_from low events ≡ events
rises_numbered low [] rises = refl
rises_numbered low (e ∷ events) rises =
    let few = rises_few (suc e.number) (low + suc (length events)) events rises.1 in
    let first : e.number ≡ low = omega (arith, rises.0, few) in
    let next : low + suc (length events) ≡ suc low + length events = omega arith in
    let number : suc e.number ≡ suc low = omega (arith, first) in
    let Rest : ℕ × ℕ → Type 0 = λ n. Rises n.0 n.1 events in
    let rest = subst Rest (λ i. (number i, next i)) rises.1 in
    ap (λ n. event n e.hart.0 e.engine e.what ∷ numbered_from (suc low) events) (sym first)
    ∙ ap (λ (es : List Event). e ∷ es) (rises_numbered (suc low) events rest)

-- one event more
pub rises_push : (low high number : ℕ) (events : List Event) (e : Event) → Rises low high events → high ≤ e.number → e.number ≡ number → Rises low (number + 1) (events ++ e ∷ [])
rises_push low high number [] e rises above is = (omega (arith, rises, above), omega (arith, is))
rises_push low high number (x ∷ events) e rises above is = (rises.0, rises_push (suc x.number) high number events e rises.1 above is)

pub length_numbered : (n : ℕ) (events : List Event) → length (numbered_from n events) ≡ length events
length_numbered n [] = refl
length_numbered n (e ∷ events) = ap suc (length_numbered (suc n) events)

numbered_push : (n : ℕ) (events : List Event) (e : Event)
    → numbered_from n (events ++ e ∷ []) ≡ numbered_from n events ++ event (n + length events) e.hart.0 e.engine e.what ∷ []
numbered_push n [] e =
    let same : n ≡ n + 0 = omega arith in
    ap (λ (k : ℕ). event k e.hart.0 e.engine e.what ∷ []) same
numbered_push n (x ∷ events) e =
    let same : suc n + length events ≡ n + suc (length events) = omega arith in
    ap (λ (es : List Event). event n x.hart.0 x.engine x.what ∷ es)
    (numbered_push (suc n) events e ∙ ap (λ (k : ℕ). numbered_from (suc n) events ++ event k e.hart.0 e.engine e.what ∷ []) same)

-- from 0 on, the event gets the next number
pub numbered_more : (events : List Event) (e : Event)
    → numbered_from 0 (events ++ e ∷ []) ≡ numbered_from 0 events ++ event (length (numbered_from 0 events)) e.hart.0 e.engine e.what ∷ []
numbered_more events e =
    let same : 0 + length events ≡ length (numbered_from 0 events) = omega (arith, length_numbered 0 events) in
    numbered_push 0 events e ∙ ap (λ (k : ℕ). numbered_from 0 events ++ event k e.hart.0 e.engine e.what ∷ []) same

pub harts_push : (harts : ℕ) (events : List Event) (e : Event) → AreOfHarts harts events → e.hart.0 < harts → AreOfHarts harts (events ++ e ∷ [])
harts_push harts [] e are below = (below, tt)
harts_push harts (x ∷ events) e are below = (are.0, harts_push harts events e are.1 below)
