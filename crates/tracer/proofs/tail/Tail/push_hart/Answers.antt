use Rattle.std.proofs.Common.{◌≡◌, ℕ, ◌-◌, List, [], ◌∷◌, ◌++◌, Option, take, length, refl, ap, sym, ◌∙◌, arith, append_assoc}
use Rattle.std.specs.List.{filter_map, range_with_len, cons_option}
use Rattle.std.proofs.lemmas.List.{append-nil, take_more, take_all}
use Rattle.tracer.specs.Tail.{register_numbers, shown_csrs, state_line, register_line, csr_line, hart_lines}
use Rattle.tracer.specs.declared.tail_text.TailLine.{TailLine}
use Rattle.tracer.proofs.Tails.{number_push, option_push}
use Rattle.tracer.proofs.tail.Tail.push_hart.Goals as goal

pub loop-number-init : goal.loop-number-init
loop-number-init c = record {
  lines = λ a stands. c.push.ensures.line ∙ ap (λ (t : TailLine). c.args.self.now ++ t ∷ []) (c.state_line.ensures a stands) ∙ sym (append-nil (c.args.self.now ++ state_line c.args.id.0 a ∷ []));
  room = c.push.ensures.room;
}

pub loop-number-preserved : goal.loop-number-preserved
loop-number-preserved c = record {
  lines = λ a stands.
      let f = register_line c.args.id.0 a in
      let before = c.args.self.now ++ state_line c.args.id.0 a ∷ [] in
      let n = c.loop-number.number in
      c.push_some.ensures.lines
      ∙ ap (λ (ys : List TailLine). ys ++ cons_option c.register_line.result []) (c.loop-number.invariant.lines a stands)
      ∙ ap (λ (o : Option TailLine). before ++ filter_map f (range_with_len 1 (n - 1)) ++ cons_option o []) (c.register_line.ensures a stands)
      ∙ sym (option_push f before (range_with_len 1 (n - 1)) n)
      ∙ ap (λ (ns : List ℕ). before ++ filter_map f ns) (sym (number_push n c.loop-number.auto.number));
  room = omega (arith, c.push_some.ensures.room, c.loop-number.invariant.room);
}

pub loop-number-2-init : goal.loop-number-2-init
unfolding register_numbers
loop-number-2-init c =
    let all : c.loop-number.number - 1 ≡ 31 = omega arith in
    record {
      lines = λ a stands.
          let before = c.args.self.now ++ state_line c.args.id.0 a ∷ [] in
          c.loop-number.invariant.lines a stands
          ∙ ap (λ (n : ℕ). before ++ filter_map (register_line c.args.id.0 a) (range_with_len 1 n)) all
          ∙ sym (append-nil (before ++ filter_map (register_line c.args.id.0 a) register_numbers));
      room = omega (arith, c.loop-number.invariant.room);
    }

pub loop-number-2-preserved : goal.loop-number-2-preserved
unfolding shown_csrs
loop-number-2-preserved c = record {
  lines = λ a stands.
      let f = csr_line c.args.id.0 a in
      let before = c.args.self.now ++ state_line c.args.id.0 a ∷ [] ++ filter_map (register_line c.args.id.0 a) register_numbers in
      let i = c.loop-number-2.number-index in
      c.push_some-in-loop-number-2.ensures.lines
      ∙ ap (λ (ys : List TailLine). ys ++ cons_option c.csr_line.result []) (c.loop-number-2.invariant.lines a stands)
      ∙ ap (λ (o : Option TailLine). before ++ filter_map f (take i shown_csrs) ++ cons_option o []) (c.csr_line.ensures a stands)
      ∙ sym (option_push f before (take i shown_csrs) _)
      ∙ ap (λ (ns : List ℕ). before ++ filter_map f ns) (sym (take_more shown_csrs i 0 c.loop-number-2-test.true));
  room = omega (arith, c.push_some-in-loop-number-2.ensures.room, c.loop-number-2.invariant.room);
}

length-shown : length shown_csrs ≡ 20
unfolding shown_csrs
length-shown = refl

pub returns-clause-lines : goal.returns-clause-lines
unfolding hart_lines
returns-clause-lines c = λ a stands.
    let old = c.args.self.now in
    let first = state_line c.args.id.0 a ∷ [] in
    let registers = filter_map (register_line c.args.id.0 a) register_numbers in
    let csrs = filter_map (csr_line c.args.id.0 a) shown_csrs in
    c.loop-number-2.invariant.lines a stands
    ∙ ap (λ (ns : List ℕ). old ++ first ++ registers ++ filter_map (csr_line c.args.id.0 a) ns) (take_all c.loop-number-2.number-index shown_csrs (omega (arith, length-shown)))
    ∙ ap (λ (ys : List TailLine). ys ++ csrs) (append_assoc old first registers)
    ∙ append_assoc old (first ++ registers) csrs
