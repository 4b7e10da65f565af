use Rattle.std.proofs.Common.{sym, arith}
use Rattle.journal.proofs.Rests.{are_rests-more, are_rests-none}
use Rattle.journal.proofs.merged.whole.Goals as goal

pub loop-hart-init : goal.loop-hart-init
loop-hart-init c = are_rests-none c.args.logs.now

pub loop-hart-preserved : goal.loop-hart-preserved
loop-hart-preserved c =
    are_rests-more _ _ _ _ c.index-logs-hart.result (omega (arith, c.loop-hart-test.true, c.requires.few)) c.loop-hart-test.true (sym c.index-logs-hart.is)
    c.rest.ensures c.loop-hart.invariant
