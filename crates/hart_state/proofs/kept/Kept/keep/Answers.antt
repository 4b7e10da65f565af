use Rattle.std.proofs.Common.{refl, rules}
use Rattle.hart_state.proofs.Places.{IsLatest-push}
use Rattle.hart_state.proofs.kept.Kept.keep.Goals as goal

pub returns : goal.returns
returns c = λ leaves.
    IsLatest-push c.args.self.now _ c.args.leaf c.word_of.result leaves (search rules) (search rules) c.requires
    c.word_of.ensures.frame c.word_of.ensures.flags refl refl
