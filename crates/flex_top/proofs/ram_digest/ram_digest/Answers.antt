-- Line by line, all bytes of RAM.
use Rattle.std.proofs.Common.{◌≡◌, ℕ, ◌+◌, ◌*◌, ◌/◌, ◌++◌, List, ap, sym, subst, ◌∙◌, arith}
use Rattle.sha2.specs.Hashers.{Holds256}
use Rattle.sha2.specs.Sha256.{sha256}
use Rattle.flex_base.specs.Place.{ram_base}
use Rattle.flex_top.specs.Ram.{bytes_from}
use Rattle.flex_top.proofs.Ram.{bytes_none, bytes_join, bytes_all, whole_lines, line_inside}
use Rattle.flex_top.proofs.ram_digest.ram_digest.Goals as goal

pub loop-line-init : goal.loop-line-init
loop-line-init c = λ setup u size are.
    let Holds : List ℕ → Type 0 = λ m. Holds256 c.new-hasher.result m in
    subst Holds (sym (bytes_none setup u ram_base)) c.new-hasher.ensures

pub loop-line-preserved : goal.loop-line-preserved
loop-line-preserved c = λ setup u size are.
    let line = c.loop-line.line in
    let Holds : List ℕ → Type 0 = λ m. Holds256 c.update.new.self m in
    let more : 64 * line + 64 ≡ 64 * (line + 1) = omega arith in
    let so_far = bytes_from setup u ram_base (64 * line) in
    subst Holds (ap (λ xs. so_far ++ xs) (c.line_at.ensures setup u are (line_inside c.args.ram setup.ram line size c.loop-line-test.true)) ∙ sym (bytes_join setup u ram_base (64 * line) 64) ∙ ap (bytes_from setup u ram_base) more)
    (c.update.ensures so_far (c.loop-line.invariant setup u size are))

pub returns : goal.returns
returns c = λ setup u size are.
    let line = c.loop-line.line in
    let all : 64 * line ≡ c.args.ram = ap (λ n. 64 * n) (let last : line ≡ c.args.ram / 64 = omega (arith, c.loop-line-test.false) in last) ∙ whole_lines c.args.ram c.requires.lines in
    c.finalize.ensures (bytes_from setup u ram_base (64 * line)) (c.loop-line.invariant setup u size are)
    ∙ ap sha256 (ap (bytes_from setup u ram_base) all ∙ bytes_all setup u c.args.ram size)
