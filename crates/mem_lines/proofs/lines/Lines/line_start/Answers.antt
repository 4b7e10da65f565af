use Rattle.std.proofs.Common.{subst, ◌+◌, ◌≤◌, length, sym}
use Rattle.mem_lines.specs.Bank.{Bank, IsIn}
use Rattle.mem_lines.proofs.Whole.{line_within}
use Rattle.mem_lines.proofs.lines.Lines.line_start.Goals as goal

pub returns-clause-within : goal.returns-clause-within
returns-clause-within c =
    let f = c.self.inside in
    let inside = subst (λ (v : Bank). IsIn v c.args.address) (sym c.self.view_is) c.requires.inside in
    let within = line_within f.ram f.banks f.bank c.args.address f.bytes.items f.reservations c.self.invariant.whole inside c.requires.begins in
    subst (λ (v : Bank). c.offset.result + 64 ≤ length v.bytes) c.self.view_is (subst (λ n. n + 64 ≤ length f.bytes.items) (sym c.offset.ensures) within.2)
