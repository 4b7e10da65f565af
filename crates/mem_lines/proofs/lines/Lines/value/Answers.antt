use Rattle.std.proofs.Common.{ap, ◌∙◌, slice_index, ◌≡◌, ℕ, List}
use Rattle.flex_base.specs.FlatMemory.{value_at}
use Rattle.mem_lines.specs.Bank.{Bank}
use Rattle.mem_lines.proofs.Dealing.{span_value}
use Rattle.mem_lines.proofs.lines.Lines.value.Goals as goal

pub returns-clause-value : goal.returns-clause-value
returns-clause-value c =
    let b = c.args.self.now in
    let bytes : c.deref.result.now ≡ b.bytes = c.deref.ensures.value ∙ ap (λ (v : Bank). v.bytes) c.self.view_is in
    c.load.ensures.value
    ∙ ap (λ (xs : List ℕ). value_at (λ i. slice_index xs i) c.start-start.result c.args.width) bytes
    ∙ ap (λ n. value_at (λ i. slice_index b.bytes i) n c.args.width) c.start-start.ensures.start
    ∙ span_value b c.args.address c.args.width c.requires.span
