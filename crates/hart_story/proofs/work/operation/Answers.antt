-- The decoder gives no other operands.
use Rattle.std.proofs.Common.{sym, subst}
use Rattle.hart_story.specs.Operands.{HasOperands}
use Rattle.hart_story.proofs.Operands.{decoded_operands}
use Rattle.hart_story.proofs.work.operation.Goals as goal

pub returns-clause-operands : goal.returns-clause-operands
returns-clause-operands c = subst HasOperands (sym c.decode.ensures.meaning) (decoded_operands c.args.word)
