use Rattle.std.proofs.Common.{rules, ◌≡◌, ◌+◌, ◌++◌, sym, ◌∙◌, subst, ap, List}
use Rattle.std.specs.Prelude.{vec_len}
use Rattle.std.specs.List.{All}
use Rattle.std.proofs.lemmas.List.Elements.{All-push}
use Rattle.access_record.specs.Passes.{PassOfHart}
use Rattle.mem_banks.specs.Plain.{numbers_below}
use Rattle.mem_banks.specs.Tried.{harts_of}
use Rattle.mem_banks.proofs.Trying.{one_taken}
use Rattle.mem_banks.proofs.tests.threads.take_workers.Goals as goal

pub loop-worker-preserved : goal.loop-worker-preserved
loop-worker-preserved g c =
    let old = c.loop-worker.passes.items in
    let p = c.take_worker.result in
    let left = vec_len c.pop.new.self in
    let Is : PassOfHart → Type 0 = λ p. p.id ≡ g.N.RunName.run.book.id in
    let more : left + 1 ≡ vec_len c.loop-worker.workers = search rules in
    let hart : p.hart.0 ≡ left = search rules in (
      subst (All Is) (sym c.push_reserved.ensures.items) (All-push Is old p c.loop-worker.invariant.0 c.take_worker.ensures.record),
      ap (λ (ps : List PassOfHart). harts_of ps ++ numbers_below left) c.push_reserved.ensures.items
          ∙ one_taken old p left (vec_len c.loop-worker.workers) more hart ∙ c.loop-worker.invariant.1,
      search rules,
      search rules,
    )
