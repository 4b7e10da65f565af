use Rattle.std.proofs.lemmas.Nat.{and_mask, one_shl}
use Rattle.std.proofs.Common.{◌<◌, arith}
use Rattle.hart_story.proofs.width.lowest.Goals as goal

pub returns : goal.returns
returns c =
    let few : c.args.bits < 64 = omega arith in
    rw one_shl (and_mask c.args.value c.args.bits)
