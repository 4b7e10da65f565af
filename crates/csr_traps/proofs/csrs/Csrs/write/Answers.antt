use Rattle.std.proofs.Common.{rules}
use Rattle.flex_base.specs.Csrs.{csr_write}
use Rattle.csr_traps.proofs.Writing.{write_fit}
use Rattle.csr_traps.proofs.csrs.Csrs.write.Goals as goal

pub returns-then-store-clause-fit : goal.returns-then-store-clause-fit
unfolding csr_write
returns-then-store-clause-fit c harts fit = write_fit harts c.args.self.now c.args.number c.args.mode c.args.value _ (search rules) fit
