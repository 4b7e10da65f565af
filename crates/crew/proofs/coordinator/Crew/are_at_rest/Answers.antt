-- One place more is at rest.
use Rattle.std.proofs.Common.{rules, ◌≡◌, true, ℕ, List, ap, subst, ◌∙◌, below_more, slice_index_or, Option}
use Rattle.std.proofs.lemmas.List.{get_or_read}
use Rattle.context.specs.Contexts.{Context}
use Rattle.crew.specs.Crews.{Crew}
use Rattle.crew.specs.Played.{IsAtRestAt}
use Rattle.crew.proofs.coordinator.Crew.are_at_rest.Goals as goal

pub loop-place-preserved : goal.loop-place-preserved
loop-place-preserved c = λ k other below.
    let items = c.deref-place-items.result.now in
    let i = c.loop-place.place-index in
    let Rests : ℕ → Type 0 = λ n. (d : Option Context) → IsAtRestAt c.args.devices.now (slice_index_or c.args.self.now.resting n d) in
    let same : items ≡ c.args.self.now.resting = c.deref-place-items.ensures.value ∙ ap (λ (x : Crew). x.resting) c.self.view_is in
    let rests : c.is_at_rest_at.result ≡ true = search rules in
    let here : Rests i = λ d.
    let is = get_or_read items i c.place-item.result c.loop-place-test.true c.place-item.is d ∙ ap (λ (l : List (Option Context)). slice_index_or l i d) same in
    subst (IsAtRestAt c.args.devices.now) is (c.is_at_rest_at.ensures rests) in
    below_more Rests i (λ n lt d. c.loop-place.invariant n d lt) here k below other
