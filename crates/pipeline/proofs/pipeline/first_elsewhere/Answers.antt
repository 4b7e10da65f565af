-- Hart after hart, none before wants another engine.
use Rattle.std.proofs.Common.{◌≡◌, ℕ, slice_index_or, sym, subst, ◌∙◌, arith, inl, inr}
use Rattle.std.proofs.lemmas.Bool.{cases_eq}
use Rattle.std.proofs.lemmas.List.{get_or_default}
use Rattle.context.specs.Contexts.{Context, IsElsewhere}
use Rattle.pipeline.proofs.pipeline.first_elsewhere.Goals as goal

pub returns-in-Some-clause-found : goal.returns-in-Some-clause-found
returns-in-Some-clause-found c = (c.index-held-place.result, c.loop-place-test.true, sym c.index-held-place.is, (c.in-Some.field-0, c.in-Some.ensures.other))

pub loop-place-preserved : goal.loop-place-preserved
loop-place-preserved c = λ k d below to there. elim (cases_eq k c.loop-place.place) [
  | inl same ↦
      let Of : ℕ → Type 0 = λ n. IsElsewhere to (slice_index_or c.args.held.now n d) in
      let Is : Context → Type 0 = λ x. IsElsewhere to x in
      let read : slice_index_or c.args.held.now c.loop-place.place d ≡ c.index-held-place.result =
      get_or_default c.args.held.now c.loop-place.place d c.index-held-place.result c.loop-place-test.true ∙ sym c.index-held-place.is in
      c.in-None.ensures.other to (subst Is read (subst Of same there))
  | inr other ↦ c.loop-place.invariant k d (omega (arith, below, other)) to there
]

pub returns-clause-none : goal.returns-clause-none
returns-clause-none c = λ k d below to there. c.loop-place.invariant k d (omega (arith, below, c.loop-place-test.false)) to there
