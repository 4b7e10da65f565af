-- The contexts at their start, over the new bus.
use Rattle.std.proofs.Common.{subst, sym}
use Rattle.flex_base.specs.Unsplit.{begin}
use Rattle.mem_banks.specs.Plain.{Plain}
use Rattle.solo.specs.Solo.{setup_of, solo_of}
use Rattle.solo.specs.Standing.{IsAt}
use Rattle.solo.proofs.Beginning.{bank_count_allowed, begins}
use Rattle.solo.proofs.machine.SoloMachine.prepare.Goals as goal

pub new-requires-clause-banks : goal.new-requires-clause-banks
new-requires-clause-banks c = bank_count_allowed c.banks.result c.banks.ensures.allowed

pub returns-clause-at : goal.returns-clause-at
returns-clause-at c =
    let setup = setup_of c.args.image.now c.args.settings c.args.input.items in
    let bus = c.in-Ok-new.bus in
    let At : Plain → Type 0 = λ b. IsAt setup (begin setup) (solo_of c.begin_harts-founder.result.1.items b c.begin_harts-founder.result.0 c.args.plan c.args.settings) in
    subst At (sym c.begin_harts-founder.ensures.same)
    (begins c.args.image.now c.args.plan c.args.settings c.args.input.items c.banks.result bus c.in-Ok-new.ensures.run (bank_count_allowed c.banks.result c.banks.ensures.allowed)
    c.in-Ok-new.ensures.limits c.in-Ok-new.ensures.history c.in-Ok-new.founder c.begin_harts-founder.result.0 c.begin_harts-founder.result.1.items
    c.in-Ok-new.ensures.founder c.begin_harts-founder.ensures.begun c.requires.lawful c.requires.few)
