use Rattle.std.proofs.Common.{◌<◌, ◌/◌, ◌^◌, arith}
use Rattle.std.proofs.lemmas.Nat.{and_mask, one_shl}
use Rattle.sv39.proofs.word.field.Goals as goal

pub returns : goal.returns
returns c =
    let few : c.args.bits < 64 = omega arith in
    rw one_shl (and_mask (c.args.word / 2 ^ c.args.at) c.args.bits)
