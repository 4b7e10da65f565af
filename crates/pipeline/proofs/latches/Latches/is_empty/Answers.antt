-- The first latch that isn't empty has an instruction.
use Rattle.std.proofs.Common.{◌≡◌, ℕ, ◌<◌, nat_eq, false, List, Option, None, length, slice_index_or, refl, sym, ap, ◌∙◌, arith}
use Rattle.pipeline.specs.declared.flight.Flight.{Flight}
use Rattle.pipeline.specs.Pipes.{flights_in, IsAt}
use Rattle.pipeline.proofs.Flying.{read_at, reads_flight}
use Rattle.pipeline.proofs.latches.Latches.is_empty.Goals as goal
use Rattle.pipeline.proofs.latches.Latches.is_empty.Goals.{then-is_empty, else-is_empty, then-is_empty-2, else-is_empty-2, then-is_empty-3, else-is_empty-3, then-is_empty-4, else-is_empty-4}

at_slot : (slots : List ℕ) (latches : List (Option Flight)) → flights_in slots ≡ latches → length slots ≡ 6 → (latch : ℕ) → latch < 6
    → nat_eq (slice_index_or slots latch 0) 255 ≡ false → (at : ℕ) × (f : Flight) × IsAt latches at f
at_slot slots latches view six latch few some =
    let (f, is) = reads_flight (slice_index_or slots latch 0) some in
    let Read : List (Option Flight) → Option Flight = λ l. slice_index_or l latch None in
    (latch, f, ap Read (sym view) ∙ read_at slots latch latch refl (omega (arith, few, six)) ∙ is)

pub returns-then-is_empty-5-clause-some : goal.returns-then-is_empty-5-clause-some
returns-then-is_empty-5-clause-some c = λ no.
    at_slot _ _ c.self.view_is c.self.invariant 5 (omega arith) (sym c.is_empty-then-is_empty-5.ensures ∙ no)

pub returns-else-is_empty-5-clause-some : goal.returns-else-is_empty-5-clause-some
returns-else-is_empty-5-clause-some c = λ no. elim c.if-is_empty-4.branch [
  | then-is_empty-4 w ↦ at_slot _ _ c.self.view_is c.self.invariant 4 (omega arith) (sym w.is_empty-then-is_empty-4.ensures ∙ sym w.value-is ∙ no)
  | else-is_empty-4 v ↦
      elim c.if-is_empty-3.branch [
        | then-is_empty-3 w ↦ at_slot _ _ c.self.view_is c.self.invariant 3 (omega arith) (sym w.is_empty-then-is_empty-3.ensures ∙ sym w.value-is ∙ v.if-is_empty-4.false)
        | else-is_empty-3 v ↦
            elim c.if-is_empty-2.branch [
              | then-is_empty-2 w ↦ at_slot _ _ c.self.view_is c.self.invariant 2 (omega arith) (sym w.is_empty-then-is_empty-2.ensures ∙ sym w.value-is ∙ v.if-is_empty-3.false)
              | else-is_empty-2 v ↦
                  elim c.if-is_empty.branch [
                    | then-is_empty w ↦ at_slot _ _ c.self.view_is c.self.invariant 1 (omega arith) (sym w.is_empty-then-is_empty.ensures ∙ sym w.value-is ∙ v.if-is_empty-2.false)
                    | else-is_empty w ↦ at_slot _ _ c.self.view_is c.self.invariant 0 (omega arith) (sym c.is_empty.ensures ∙ w.if-is_empty.false)
                  ]
            ]
      ]
]
