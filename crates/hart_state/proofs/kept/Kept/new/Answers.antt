use Rattle.std.proofs.Common.{refl}
use Rattle.hart_state.proofs.Places.{IsLatest-nil}
use Rattle.hart_state.proofs.kept.Kept.new.Goals as goal

pub returns : goal.returns
returns c = IsLatest-nil _ refl
