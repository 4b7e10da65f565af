use Rattle.std.proofs.Common.{rules, ◌≡◌, false, ap, sym, subst}
use Rattle.access_record.specs.Passes.{PassOfHart, new_pass}
use Rattle.access_record.specs.Buses.{Run}
use Rattle.mem_banks.specs.Plain.{Plain}
use Rattle.mem_banks.specs.Tried.{IsTried}
use Rattle.mem_banks.proofs.Trying.{tried_new}
use Rattle.mem_banks.proofs.tests.enrol.Goals as goal

pub returns-clause-tried : goal.returns-clause-tried
returns-clause-tried c =
    let run = c.args.bus.now.run in
    let pass_is : c.enrol-founder.result.1 ≡ new_pass run.book.id c.args.hart = search rules in
    subst (λ (r : Run). IsTried r c.enrol-founder.result.1 false c.args.left c.args.bytes) (ap (λ (v : Plain). v.run) (sym c.enrol-founder.ensures.same))
    (subst (λ (p : PassOfHart). IsTried run p false c.args.left c.args.bytes) (sym pass_is) (tried_new run c.args.hart c.args.left c.args.bytes c.requires.hart c.requires.room c.requires.budget))
