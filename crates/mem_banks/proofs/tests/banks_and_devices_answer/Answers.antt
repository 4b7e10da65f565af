use Rattle.std.proofs.Common.{rules, arith, ◌≡◌, ℕ, ◌+◌, ◌==◌, List, [], ◌∷◌, ap, sym, ◌∙◌, subst}
use Rattle.std.specs.List.{All}
use Rattle.std.proofs.lemmas.List.Elements.{All-cons}
use Rattle.access_record.specs.Rule.{one_if, count_of, occurrences}
use Rattle.access_record.specs.Passes.{PassOfHart}
use Rattle.access_record.specs.Buses.{Run}
use Rattle.mem_banks.specs.End.{IsMemoryOf}
use Rattle.mem_banks.proofs.tests.banks_and_devices_answer.Goals as goal

pub settle-closed-requires : goal.settle-closed-requires
settle-closed-requires g c =
    let run = c.in-Ok.bus.run in
    let founder = c.enrol-founder-2.result.0 in
    let first = c.play-first-3.result.0.pass in
    let second = c.play-second-2.result.0.pass in
    let at_last : c.play-second-2.new.bus.run ≡ run = search rules in
    let before : c.play-first-3.new.bus.run ≡ run = search rules in
    let items : c.put-2.new.passes.items ≡ first ∷ second ∷ [] = search rules in
    let Is : PassOfHart → Type 0 = λ p. p.id ≡ run.book.id in
    let first_id : Is first = c.play-first-3.ensures.tried.book ∙ ap (λ (r : Run). r.book.id) before in
    let second_id : Is second = c.play-second-2.ensures.tried.book ∙ ap (λ (r : Run). r.book.id) at_last in
    let none : All Is [] = λ k d below. absurd (omega (arith, below)) in
    let first_hart : first.hart.0 ≡ 0 = search rules in
    let second_hart : second.hart.0 ≡ 1 = search rules in
    let enrolled : founder.harts ≡ 0 ∷ 1 ∷ [] = search rules in
    record {
      of_run = (
        run,
        record {
          of_run = subst (λ (r : Run). IsMemoryOf r c.dissolve-end.result) at_last c.dissolve-end.ensures.memory;
          founder_is = record { id = search rules; banks = search rules };
          ids = subst (λ (ps : List PassOfHart). All Is ps) (sym items) (All-cons Is first (second ∷ []) first_id (All-cons Is second [] second_id none));
          harts = λ hart.
              let same : occurrences hart founder.harts ≡ count_of (λ (p : PassOfHart). p.hart.0) hart c.put-2.new.passes.items =
              ap (occurrences hart) enrolled
              ∙ sym (ap (count_of (λ (p : PassOfHart). p.hart.0) hart) items ∙ ap (λ (x : ℕ × ℕ). one_if (x.0 == hart) + (one_if (x.1 == hart) + 0)) (λ i. (first_hart i, second_hart i))) in
              omega (arith, same);
        },
      );
    }
