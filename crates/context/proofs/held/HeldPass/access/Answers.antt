-- The pass that is taken out is the one that contracts see.
use Rattle.std.proofs.Common.{◌≡◌, sym, ap, subst, ◌∙◌}
use Rattle.access_record.specs.Passes.{PassOfHart}
use Rattle.access_record.specs.Buses.{Wants}
use Rattle.context.specs.Held.{pass_in}
use Rattle.context.proofs.held.HeldPass.access.Goals as goal

pub access-pass-requires-clause-wanted : goal.access-pass-requires-clause-wanted
access-pass-requires-clause-wanted g c =
    let is : c.args.self.now ≡ c.in-Some.pass = sym c.self.view_is ∙ ap pass_in (sym c.take.ensures.value ∙ c.in-Some.is) in
    let At : PassOfHart → Type 0 = λ p. Wants (g.B.Bus.run c.args.bus.now) p c.args.acc in
    subst At is c.requires.wanted
