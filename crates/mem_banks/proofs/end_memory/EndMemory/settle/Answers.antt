use Rattle.std.proofs.Common.{rules, ◌≡◌, Some, map, ap, sym, ◌∙◌}
use Rattle.access_record.specs.Passes.{PassOfBank}
use Rattle.mem_banks.specs.End.{bank_passes, passes_in}
use Rattle.mem_banks.specs.Memories.{unsettled_of}
use Rattle.mem_banks.proofs.Ending.{each_bank}
use Rattle.mem_banks.proofs.end_memory.EndMemory.settle.Goals as goal

pub close-requires-clause-banks : goal.close-requires-clause-banks
close-requires-clause-banks c =
    let run = c.requires.of_run.0 in
    let may = c.requires.of_run.1 in
    let held : c.self.inside.unsettled ≡ Some c.in-Some.unsettled = search rules in
    let same : bank_passes c.args.self.now ≡ c.in-Some.unsettled.passes.items =
    ap bank_passes (sym c.self.view_is) ∙ ap (λ u. passes_in (unsettled_of u)) held in
    each_bank c.args.founder run.book.limits.banks c.in-Some.unsettled.passes.items may.founder_is.banks
    (ap (map (λ (p : PassOfBank). p.bank)) (sym same) ∙ may.of_run.numbers)
