use Rattle.std.proofs.Common.{ap, ◌∙◌}
use Rattle.std.proofs.Math.Path.{sym}
use Rattle.csr_traps.specs.Ready.{set_for_m, set_for_s, first_in}
use Rattle.csr_traps.proofs.Taking.{takeable_none, takeable_m, takeable_s}
use Rattle.csr_traps.proofs.csrs.Csrs.takeable.Goals as goal

pub returns-then-ready-eq0-clause-first : goal.returns-then-ready-eq0-clause-first
returns-then-ready-eq0-clause-first c = sym (takeable_none c.args.self.now c.args.lines c.args.mode (sym c.ready_set-ready.ensures ∙ c.if-ready-eq0.true))

pub returns-in-Some-clause-first : goal.returns-in-Some-clause-first
returns-in-Some-clause-first c =
    sym (takeable_m c.args.self.now c.args.lines c.args.mode c.in-Some.cause c.set_for_m.ensures.word
    (ap (λ r. first_in (set_for_m c.args.self.now c.args.mode r)) (sym c.ready_set-ready.ensures)
    ∙ ap first_in (sym c.set_for_m.ensures.taken) ∙ sym c.first_of.ensures.first ∙ c.in-Some.is))

pub returns-in-None-clause-first : goal.returns-in-None-clause-first
returns-in-None-clause-first c =
    c.first_of-in-None.ensures.first ∙ ap first_in c.set_for_s.ensures
    ∙ ap (λ r. first_in (set_for_s c.args.self.now c.args.mode r)) c.ready_set-ready.ensures
    ∙ sym (takeable_s c.args.self.now c.args.lines c.args.mode c.set_for_m.ensures.word
    (ap (λ r. first_in (set_for_m c.args.self.now c.args.mode r)) (sym c.ready_set-ready.ensures)
    ∙ ap first_in (sym c.set_for_m.ensures.taken) ∙ sym c.first_of.ensures.first ∙ c.in-None.is))
