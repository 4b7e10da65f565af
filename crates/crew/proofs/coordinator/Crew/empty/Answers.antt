-- What the worker gives back is laid at its place.
use Rattle.std.proofs.Common.{length, List, ap, ◌∙◌, slice_index_or}
use Rattle.crew.specs.Crews.{Berth}
use Rattle.crew.proofs.coordinator.Crew.empty.Goals as goal

pub rest-requires : goal.rest-requires
rest-requires c =
    let some = c.requires.crew in
    record { crew = (some.0, c.in-Some.ensures.crew some.0 (c.loop-context.invariant.0 some.0 some.1)) }

pub loop-context-preserved : goal.loop-context-preserved
loop-context-preserved c =
    let so_far = c.loop-context.invariant in
    let same = c.rest.ensures.workers in
    let took = c.take_back.ensures.workers in (
      (λ run whole. c.rest.ensures.crew run (c.in-Some.ensures.crew run (so_far.0 run whole))),
      c.rest.ensures.plan ∙ (c.take_back.ensures.plan ∙ so_far.1),
      ap (λ (ws : List Berth). length ws) same ∙ (took.counted ∙ so_far.2),
      (λ k other apart. ap (λ (ws : List Berth). slice_index_or ws k other) same ∙ (took.others k other apart ∙ so_far.3 k other apart)),
    )

pub returns-clause-crew : goal.returns-clause-crew
returns-clause-crew c = λ run whole. c.in_default.ensures.crew run (c.loop-context.invariant.0 run whole)
