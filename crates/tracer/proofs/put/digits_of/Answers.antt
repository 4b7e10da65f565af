-- The halves of the eight bytes, as the vectors give them.
use Rattle.std.proofs.Common.{◌≡◌, ℕ, ◌+◌, ap, ◌∙◌, arith}
use Rattle.tracer.specs.EventText.{hex}
use Rattle.tracer.proofs.HexDigits.{halves-bytes}
use Rattle.tracer.proofs.put.digits_of.Goals as goal

pub returns : goal.returns
returns c =
    let same : c.args.n + 0 ≡ c.args.n = omega arith in
    halves-bytes 8 (c.args.n + 0) ∙ ap (λ (n : ℕ). hex n) same
