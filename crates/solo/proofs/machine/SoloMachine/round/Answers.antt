-- One more hart has its turn.
use Rattle.std.proofs.Common.{◌≡◌, ◌+◌, ◌-◌, ◌<◌, [], ◌∷◌, ◌++◌, refl, sym, ap, ◌∙◌, arith, append_assoc, append-nil}
use Rattle.std.specs.List.{range_with_len}
use Rattle.flex_base.specs.Unsplit.{hart_numbers}
use Rattle.flex_base.proofs.Orders.{range_with_len_push}
use Rattle.solo.specs.Solo.{Solo}
use Rattle.solo.proofs.Standing.{harts_are}
use Rattle.solo.proofs.Rounds.{playing_turn, playing_over, playing_as, numbers_more, numbers_all}
use Rattle.solo.proofs.machine.SoloMachine.round.Goals as goal
use Rattle.solo.proofs.machine.SoloMachine.round.Goals.{then-not-has_ended, else-not-has_ended}

pub loop-h-init : goal.loop-h-init
loop-h-init c = (
  refl,
  λ setup u done rest at_first.
      let all : setup.harts ≡ setup.harts - 0 = omega arith in (
        omega arith,
        playing_as setup u done (done ++ []) (hart_numbers setup ++ rest) (range_with_len 0 (setup.harts - 0) ++ rest) c.args.self.now
            (sym (append-nil done)) (ap (λ n. range_with_len 0 n ++ rest) all) at_first,
      ),
)

pub has_ended-requires : goal.has_ended-requires
has_ended-requires c =
    let first = c.requires in
    (first.0, _, (c.loop-h.invariant.1 first.0 first.1 first.2 first.3 first.4).1.at)

pub turn-requires-clause-hart : goal.turn-requires-clause-hart
turn-requires-clause-hart c =
    let first = c.requires in
    let was = (c.loop-h.invariant.1 first.0 first.1 first.2 first.3 first.4).1 in
    omega (arith, c.loop-h-test.true, c.count-h-end.ensures, harts_are first.0 _ _ c.args.self.now first.4.at, harts_are first.0 _ _ c.loop-h.self was.at)

pub turn-requires-clause-at : goal.turn-requires-clause-at
turn-requires-clause-at c =
    let first = c.requires in
    (first.0, _, (c.loop-h.invariant.1 first.0 first.1 first.2 first.3 first.4).1.at)

pub loop-h-preserved : goal.loop-h-preserved
loop-h-preserved c = elim c.if-not-has_ended.branch [
  | then-not-has_ended w ↦ (
    ap (λ (s : Solo). s.plan) w.self-is ∙ w.turn.ensures.plan ∙ c.loop-h.invariant.0,
    λ setup u done rest at_first.
        let h = c.loop-h.h in
        let so_far = done ++ range_with_len 0 h in
        let was = (c.loop-h.invariant.1 setup u done rest at_first).1 in
        let below : h < setup.harts = omega (arith, c.loop-h-test.true, c.count-h-end.ensures, harts_are setup _ _ c.args.self.now at_first.at) in
        let later = range_with_len (h + 1) (setup.harts - (h + 1)) ++ rest in
        let playing = playing_as setup u so_far so_far (range_with_len h (setup.harts - h) ++ rest) (h ∷ later) c.loop-h.self refl (ap (λ ns. ns ++ rest) (numbers_more h setup.harts below)) was in
        let one_more = append_assoc done (range_with_len 0 h) (h ∷ []) ∙ ap (λ ns. done ++ ns) (sym (range_with_len_push h)) in
        let tells = c.has_ended.ensures setup _ playing.at in (
          omega (arith, below),
          rw (w.self-is) (playing_as setup u (so_far ++ h ∷ []) (done ++ range_with_len 0 (h + 1)) later later _ one_more refl
              (playing_turn setup u so_far later h c.loop-h.self _ playing (sym tells ∙ w.if-not-has_ended.true) (w.turn.ensures.at setup _ playing.at))),
        ),
  )
  | else-not-has_ended w ↦ (
    ap (λ (s : Solo). s.plan) w.self-is ∙ c.loop-h.invariant.0,
    λ setup u done rest at_first.
        let h = c.loop-h.h in
        let so_far = done ++ range_with_len 0 h in
        let was = (c.loop-h.invariant.1 setup u done rest at_first).1 in
        let below : h < setup.harts = omega (arith, c.loop-h-test.true, c.count-h-end.ensures, harts_are setup _ _ c.args.self.now at_first.at) in
        let later = range_with_len (h + 1) (setup.harts - (h + 1)) ++ rest in
        let playing = playing_as setup u so_far so_far (range_with_len h (setup.harts - h) ++ rest) (h ∷ later) c.loop-h.self refl (ap (λ ns. ns ++ rest) (numbers_more h setup.harts below)) was in
        let one_more = append_assoc done (range_with_len 0 h) (h ∷ []) ∙ ap (λ ns. done ++ ns) (sym (range_with_len_push h)) in
        let tells = c.has_ended.ensures setup _ playing.at in (
          omega (arith, below),
          rw (w.self-is) (playing_as setup u (so_far ++ h ∷ []) (done ++ range_with_len 0 (h + 1)) later later _ one_more refl
              (playing_over setup u so_far later h c.loop-h.self playing (sym tells ∙ w.if-not-has_ended.false))),
        ),
  )
]

pub returns-clause-at : goal.returns-clause-at
returns-clause-at c = λ setup u done rest at_first.
    let h = c.loop-h.h in
    let was = c.loop-h.invariant.1 setup u done rest at_first in
    let all : h ≡ setup.harts = omega (arith, c.loop-h-test.false, was.0, c.count-h-end.ensures, harts_are setup _ _ c.args.self.now at_first.at) in
    playing_as setup u (done ++ range_with_len 0 h) (done ++ hart_numbers setup) (range_with_len h (setup.harts - h) ++ rest) rest c.loop-h.self
    (ap (λ n. done ++ range_with_len 0 n) all) (ap (λ ns. ns ++ rest) (numbers_all h setup.harts (omega (arith, all)))) was.1

pub returns-clause-plan : goal.returns-clause-plan
returns-clause-plan c = c.loop-h.invariant.0
