use Rattle.std.proofs.Common.{◌∙◌}
use Rattle.hart_state.proofs.Places.{leaf_at-is}
use Rattle.hart_state.proofs.kept.Kept.at.Goals as goal

pub returns : goal.returns
returns c = λ leaves is. c.leaf_of.ensures ∙ leaf_at-is c.args.self.now leaves c.args.place c.requires is
