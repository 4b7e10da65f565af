use Rattle.std.proofs.Common.{arith, rules}
use Rattle.std.proofs.lemmas.Bool.Decides.{nat_tests}
use Rattle.image_loader.proofs.loader.load_raw.Goals as goal

pub lay-requires-clause-inside : goal.lay-requires-clause-inside
lay-requires-clause-inside c = (c.args.ram, search rules, grind (arith, nat_tests, c.if-size-ram.false))
