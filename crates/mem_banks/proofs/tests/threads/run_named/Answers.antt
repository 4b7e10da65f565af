use Rattle.std.proofs.Common.{rules, sym, ◌∙◌}
use Rattle.mem_banks.proofs.Trying.{each_has}
use Rattle.mem_banks.proofs.tests.threads.run_named.Goals as goal

pub settle-closed-requires : goal.settle-closed-requires
settle-closed-requires g c =
    let run = g.N.RunName.run in
    let founder = c.add_workers-founder.result in
    let passes = c.take_workers-passes.result.items in
    record {
      of_run = (
        run,
        record {
          of_run = c.phases-memory.ensures.memory;
          founder_is = record { id = search rules; banks = search rules };
          ids = c.take_workers-passes.ensures.record;
          harts = each_has founder.harts passes (c.take_workers-passes.ensures.harts ∙ sym c.add_workers-founder.ensures.harts);
        },
      );
    }
