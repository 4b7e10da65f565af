use Rattle.std.proofs.Common.{◌<◌, ◌≤◌, ◌+◌, ◌/◌, ◌%◌, ◌^◌, arith}
use Rattle.std.proofs.lemmas.Nat.{and_mask, mod_below, one_shl, pow_pos, shl_whole}
use Rattle.rv_decode.proofs.formats.placed.Goals as goal

pub returns : goal.returns
returns c =
    let few : c.args.bits < 64 = omega arith in
    let within : c.args.bits + c.args.at ≤ 32 = omega arith in
    let small : c.args.value / 2 ^ c.args.from % 2 ^ c.args.bits < 2 ^ c.args.bits = mod_below (c.args.value / 2 ^ c.args.from) (2 ^ c.args.bits) (pow_pos c.args.bits) in
    rw (one_shl c.args.bits 64 few, and_mask (c.args.value / 2 ^ c.args.from) c.args.bits) (shl_whole (c.args.value / 2 ^ c.args.from % 2 ^ c.args.bits) c.args.bits c.args.at 32 small within)
