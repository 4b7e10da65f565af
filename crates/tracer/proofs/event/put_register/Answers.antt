use Rattle.std.proofs.Common.{◌∙◌, arith}
use Rattle.tracer.proofs.Digits.{register_one, register_two}
use Rattle.tracer.proofs.event.put_register.Goals as goal

pub returns-then-number-lt10-clause-text : goal.returns-then-number-lt10-clause-text
returns-then-number-lt10-clause-text g c =
    c.put.ensures.text ∙ register_one (g.P.Put.text c.args.into.now) c.args.number c.if-number-lt10.true

pub returns-then-number-lt100-clause-text : goal.returns-then-number-lt100-clause-text
returns-then-number-lt100-clause-text g c =
    c.put-then-number-lt100.ensures.text ∙ register_two (g.P.Put.text c.args.into.now) c.args.number (omega (arith, c.if-number-lt10.false)) c.if-number-lt100.true
