use Rattle.journal.proofs.Rests.{is_by_number-whole, merged-whole}
use Rattle.journal.proofs.merged.by_number.Goals as goal

pub invariant_of-result : goal.invariant_of-result
invariant_of-result c = is_by_number-whole c.requires.logs.0 c.args.logs.now c.requires.logs.1 _ c.whole.ensures

pub returns : goal.returns
returns c = λ journal are. merged-whole journal c.args.logs.now are _ c.whole.ensures
