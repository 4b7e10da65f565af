use Rattle.std.proofs.Common.{rules, ap, ◌∙◌}
use Rattle.access_record.specs.Rule.{occurrences}
use Rattle.mem_banks.proofs.Plains.{none_above}
use Rattle.mem_banks.proofs.tests.threads.add_workers.Goals as goal

pub add_worker-founder-requires-clause-hart : goal.add_worker-founder-requires-clause-hart
add_worker-founder-requires-clause-hart g c =
    let hart = c.loop-hart.hart in (
      search rules,
      ap (occurrences hart) c.loop-hart.invariant.3 ∙ none_above hart hart (search rules),
    )
