use Rattle.std.proofs.Common.{◌∙◌}
use Rattle.tracer.proofs.Digits.{holder_text}
use Rattle.tracer.proofs.event.put_holder.Goals as goal

pub returns-then-hart-lt10-clause-text : goal.returns-then-hart-lt10-clause-text
returns-then-hart-lt10-clause-text g c =
    c.put.ensures.text ∙ holder_text (g.P.Put.text c.args.into.now) c.args.hart.0 c.letter_of.result c.args.engine c.if-hart-lt10.true c.letter_of.ensures
