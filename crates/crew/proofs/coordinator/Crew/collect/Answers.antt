-- One worker more holds no hart.
use Rattle.std.proofs.Common.{arith, ◌≡◌, ℕ, [], ap, ◌∙◌, below_more, slice_index_or}
use Rattle.crew.specs.Crews.{Berth}
use Rattle.crew.proofs.coordinator.Crew.collect.Goals as goal

pub loop-number-preserved : goal.loop-number-preserved
loop-number-preserved c =
    let so_far = c.loop-number.invariant in
    let empties = c.empty.ensures.empties in
    let number = c.loop-number.number in
    let IsEmpty : ℕ → Type 0 = λ k. (other : Berth) → (slice_index_or c.empty.new.self.workers k other).contexts ≡ [] in (
      (λ run whole. c.empty.ensures.crew run (so_far.0 run whole)),
      c.empty.ensures.plan ∙ so_far.1,
      empties.counted ∙ so_far.2,
      (λ k other below. below_more IsEmpty number
          (λ n lt d. ap (λ (w : Berth). w.contexts) (empties.others n d (λ same. absurd (omega (arith, lt, same)))) ∙ so_far.3 n d lt)
          empties.none k below other),
    )
