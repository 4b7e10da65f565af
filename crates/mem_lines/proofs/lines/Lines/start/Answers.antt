use Rattle.std.proofs.Common.{ap, subst, ◌+◌, ◌≤◌, length, sym, ◌∙◌}
use Rattle.mem_lines.specs.Bank.{Bank, IsWhole, offset}
use Rattle.mem_lines.proofs.Dealing.{span_within}
use Rattle.mem_lines.proofs.lines.Lines.start.Goals as goal

pub returns-clause-within : goal.returns-clause-within
returns-clause-within c =
    let b = c.args.self.now in
    let whole : IsWhole b.ram b.banks b.bytes = subst (λ (v : Bank). IsWhole v.ram v.banks v.bytes) c.self.view_is c.self.invariant.whole in
    let at = c.offset.ensures ∙ ap (λ (v : Bank). offset v.banks c.args.address) c.self.view_is in
    subst (λ n. n + c.args.width ≤ length b.bytes) (sym at) (span_within b c.args.address c.args.width whole c.requires.span).2
