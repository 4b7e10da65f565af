-- One more name, whose hart is in the latches, or nothing is.
use Rattle.std.proofs.Common.{◌≡◌, ℕ, List, Option, take, get_or, refl, subst, sym, ◌∙◌, arith}
use Rattle.std.proofs.lemmas.List.{take_more, take_all}
use Rattle.flex_base.specs.Unsplit.{reach_from}
use Rattle.pipeline.specs.declared.flight.Flight.{Flight}
use Rattle.solo.specs.Standing.{IsAt}
use Rattle.solo.specs.Engines.{IsFlying}
use Rattle.solo.proofs.Flying.{new_flying}
use Rattle.solo.proofs.Rounds.{at_none, at_more}
use Rattle.solo.proofs.machine.SoloMachine.play.Goals as goal
use Rattle.solo.proofs.machine.SoloMachine.play.Goals.{then-h-last, else-h-last}

pub loop-h-init : goal.loop-h-init
loop-h-init c = (refl, λ setup u at. at_none setup u c.args.self.now at, new_flying c.args.self.now 0 _ c.new-latches.ensures)

pub next-requires : goal.next-requires
next-requires c =
    let first = c.requires.at in
    record {
      at = (first.0, _, c.loop-h.invariant.1 first.0 first.1 first.2);
      flying = elim c.if-h-last.branch [
        | then-h-last w ↦ new_flying c.loop-h.self _ _ (w.latches-is ∙ w.new-latches-then-h-last.ensures)
        | else-h-last w ↦
            let Are : ℕ × (List (Option Flight)) → Type 0 = λ x. IsFlying c.loop-h.self x.0 x.1 in
            subst Are (λ i. (sym w.if-h-last.false i, sym w.latches-is i)) c.loop-h.invariant.2
      ];
    }

pub loop-h-preserved : goal.loop-h-preserved
loop-h-preserved c = (
  c.next.ensures.plan ∙ c.loop-h.invariant.0,
  λ setup u at.
      let order = c.args.order.now in
      let i = c.loop-h.h-index in
      let names = take i order in
      let At : List ℕ → Type 0 = λ ns. IsAt setup (reach_from setup u ns) c.next.new.self in
      subst At (sym (take_more order i 0 c.loop-h-test.true))
      (at_more setup u names (get_or order i 0) c.next.new.self (c.next.ensures.at setup (reach_from setup u names) (c.loop-h.invariant.1 setup u at))),
  let name : get_or c.args.order.now c.loop-h.h-index 0 ≡ c.if-h-last.last = elim c.if-h-last.branch [
    | then-h-last w ↦ sym w.last-is
    | else-h-last w ↦ w.if-h-last.false ∙ sym w.last-is
  ] in
      let Are : ℕ → Type 0 = λ h. IsFlying c.next.new.self h c.next.new.latches in
      subst Are name c.next.ensures.flying,
)

pub returns-clause-at : goal.returns-clause-at
returns-clause-at c = λ setup u at.
    let order = c.args.order.now in
    let i = c.loop-h.h-index in
    let all : take i order ≡ order = take_all i order (omega (arith, c.loop-h-test.false)) in
    let At : List ℕ → Type 0 = λ ns. IsAt setup (reach_from setup u ns) c.loop-h.self in
    subst At all (c.loop-h.invariant.1 setup u at)
