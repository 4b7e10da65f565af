-- Merged events, number by number.
use Rattle.std.proofs.Common.{◌≡◌, ℕ, ◌+◌, Bool, true, false, cond, List, [], ◌∷◌, ◌++◌, refl, ap, sym, ◌∙◌, append-nil}
use Rattle.std.specs.List.{filter, flat_map, range_with_len}
use Rattle.std.proofs.lemmas.Grind.{flat_map-append}
use Rattle.std.proofs.lemmas.List.Elements.{filter-append}
use Rattle.flex_base.specs.declared.event.Event.{Event}
use Rattle.flex_base.specs.Merging.{has_number, merge}
use Rattle.flex_base.proofs.Orders.{range_with_len_push}

pub merge-none : (events : List Event) → merge 0 events ≡ []
unfolding merge
merge-none events = refl

-- one number more
pub merge-push : (n : ℕ) (events : List Event) → merge (n + 1) events ≡ merge n events ++ filter (has_number n) events
unfolding merge
merge-push n events =
    let f : ℕ → List Event = λ k. filter (has_number k) events in
    ap (flat_map f) (range_with_len_push n) ∙ flat_map-append f (range_with_len 0 n) (n ∷ []) ∙ ap (λ (es : List Event). flat_map f (range_with_len 0 n) ++ es) (append-nil (f n))

-- two tests in either order
swaps : (p q : Event → Bool) (events : List Event) → filter p (filter q events) ≡ filter q (filter p events)
swaps p q [] = refl
swaps p q (e ∷ events) = by (swaps p q events) (p e) (q e) refl refl
  where
    ps : List Event
    ps = filter p events

    qs : List Event
    qs = filter q events

    by : filter p qs ≡ filter q ps → (a b : Bool) → p e ≡ a → q e ≡ b → filter p (cond (q e) (e ∷ qs) qs) ≡ filter q (cond (p e) (e ∷ ps) ps)
    by rest true true is_p is_q = ap (λ b. filter p (cond b (e ∷ qs) qs)) is_q ∙ ap (λ b. cond b (e ∷ filter p qs) (filter p qs)) is_p
        ∙ ap (λ (es : List Event). e ∷ es) rest
        ∙ sym (ap (λ b. filter q (cond b (e ∷ ps) ps)) is_p ∙ ap (λ b. cond b (e ∷ filter q ps) (filter q ps)) is_q)
    by rest true false is_p is_q = ap (λ b. filter p (cond b (e ∷ qs) qs)) is_q ∙ rest
        ∙ sym (ap (λ b. filter q (cond b (e ∷ ps) ps)) is_p ∙ ap (λ b. cond b (e ∷ filter q ps) (filter q ps)) is_q)
    by rest false true is_p is_q = ap (λ b. filter p (cond b (e ∷ qs) qs)) is_q ∙ ap (λ b. cond b (e ∷ filter p qs) (filter p qs)) is_p
        ∙ rest ∙ sym (ap (λ b. filter q (cond b (e ∷ ps) ps)) is_p)
    by rest false false is_p is_q = ap (λ b. filter p (cond b (e ∷ qs) qs)) is_q ∙ rest ∙ sym (ap (λ b. filter q (cond b (e ∷ ps) ps)) is_p)

parts_of : (p : Event → Bool) (events : List Event) (numbers : List ℕ)
    → filter p (flat_map (λ k. filter (has_number k) events) numbers) ≡ flat_map (λ k. filter (has_number k) (filter p events)) numbers
parts_of p events [] = refl
parts_of p events (k ∷ numbers) =
    filter-append p (filter (has_number k) events) (flat_map (λ j. filter (has_number j) events) numbers)
    ∙ ap (λ (es : List Event). es ++ filter p (flat_map (λ j. filter (has_number j) events) numbers)) (swaps p (has_number k) events)
    ∙ ap (λ (es : List Event). filter (has_number k) (filter p events) ++ es) (parts_of p events numbers)

-- a part of the merged events, as those of one hart, is that part merged
pub filter-merge : (p : Event → Bool) (n : ℕ) (events : List Event) → filter p (merge n events) ≡ merge n (filter p events)
unfolding merge
filter-merge p n events = parts_of p events (range_with_len 0 n)
