use Rattle.std.proofs.Common.{◌≡◌, ℕ, List, [], ◌∷◌, ◌++◌, length, ap, sym, subst, ◌∙◌, arith, append_assoc}
use Rattle.std.specs.List.{flat_map, range_with_len}
use Rattle.std.proofs.lemmas.List.{append-nil}
use Rattle.sha2.specs.Sha256.{sha256}
use Rattle.hart_story.specs.StandsFor.{StandsFor}
use Rattle.hart_story.specs.declared.hart.Hart.{Hart}
use Rattle.tracer.specs.Tail.{hart_lines, tail_lines}
use Rattle.tracer.specs.declared.tail_text.TailLine.{TailLine}
use Rattle.tracer.specs.declared.tail_text.TailLine.TheVariants as tail
use Rattle.tracer.proofs.Tails.{range_more, lines_push}
use Rattle.tracer.proofs.tail.Tail.fill.Goals as goal

pub loop-h-init : goal.loop-h-init
loop-h-init c = record {
  lines = λ state stand. sym (append-nil c.begin.new.self);
  room = omega arith;
}

pub push_hart-requires : goal.push_hart-requires
push_hart-requires c = omega (arith, c.loop-h.invariant.room, c.begin.ensures.room, c.requires, c.loop-h-test.true)

pub loop-h-preserved : goal.loop-h-preserved
loop-h-preserved c = record {
  lines = λ state stand.
      let h = c.loop-h.h in
      let text : ℕ → List TailLine = λ n. hart_lines n (state n) in
      let Of : Hart → Type 0 = λ x. StandsFor x (state h) in
      c.push_hart.ensures.lines (state h) (subst Of (sym c.index-harts-h.is) (stand h c.index-harts-h.result (omega arith)))
      ∙ ap (λ (ys : List TailLine). ys ++ text h) (c.loop-h.invariant.lines state stand)
      ∙ sym (lines_push text c.begin.new.self (range_with_len 0 h) h)
      ∙ ap (λ (ns : List ℕ). c.begin.new.self ++ flat_map text ns) (sym (range_more h));
  room = omega (arith, c.push_hart.ensures.room, c.loop-h.invariant.room);
}

pub push-requires : goal.push-requires
push-requires c = omega (arith, c.loop-h.invariant.room, c.begin.ensures.room, c.requires)

pub push-requires-2 : goal.push-requires-2
push-requires-2 c = omega (arith, c.push.ensures.room, c.loop-h.invariant.room, c.begin.ensures.room, c.requires)

pub returns : goal.returns
unfolding tail_lines
returns c = λ state ram stand is.
    let harts = length c.args.harts.now in
    let text : ℕ → List TailLine = λ n. hart_lines n (state n) in
    let all : c.loop-h.h ≡ harts = omega arith in
    let last : TailLine → List TailLine → List TailLine = λ t ys. ys ++ t ∷ [] in
    let digest = tail.Ram c.args.digest in
    c.push-2.ensures.line
    ∙ ap (last tail.Done) (c.push.ensures.line ∙ ap (last digest) (c.loop-h.invariant.lines state stand))
    ∙ append_assoc (c.begin.new.self ++ flat_map text (range_with_len 0 c.loop-h.h)) (digest ∷ []) (tail.Done ∷ [])
    ∙ ap (λ (d : List ℕ). c.begin.new.self ++ flat_map text (range_with_len 0 c.loop-h.h) ++ tail.Ram d ∷ tail.Done ∷ []) is
    ∙ ap (λ (n : ℕ). c.begin.new.self ++ flat_map text (range_with_len 0 n) ++ tail.Ram (sha256 ram) ∷ tail.Done ∷ []) all
    ∙ ap (λ (ys : List TailLine). ys ++ flat_map text (range_with_len 0 harts) ++ tail.Ram (sha256 ram) ∷ tail.Done ∷ []) c.begin.ensures.lines
