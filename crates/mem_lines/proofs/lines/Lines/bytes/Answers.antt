use Rattle.std.proofs.Common.{subst, ◌∙◌, ap}
use Rattle.mem_lines.specs.Bank.{Bank, IsKept}
use Rattle.mem_lines.proofs.Whole.{bytes_are_ram}
use Rattle.mem_lines.proofs.lines.Lines.bytes.Goals as goal

pub returns-clause-whole : goal.returns-clause-whole
returns-clause-whole c = λ setup made replay alone.
    let b = c.args.self.now in
    let kept = subst (λ (v : Bank). IsKept v.ram v.banks v.bank v.bytes) c.self.view_is c.self.invariant in
    c.as_slice.ensures.value ∙ ap (λ (v : Bank). v.bytes) c.self.view_is ∙ bytes_are_ram setup made b kept replay alone
