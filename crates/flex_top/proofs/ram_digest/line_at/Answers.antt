-- The line is where its number says, and each of its bytes is the machine's.
use Rattle.std.proofs.Common.{◌+◌, sym}
use Rattle.mem_lines.specs.Bank.{Bank}
use Rattle.flex_top.proofs.Ram.{line_here, line_is}
use Rattle.flex_top.proofs.ram_digest.line_at.Goals as goal

pub returns : goal.returns
returns c = λ setup u are inside.
    let b : Bank = c.index-banks-bank.result in
    line_is setup u c.args.address b c.line.result.now c.line.ensures.size c.line.ensures.bytes (λ i below.
    let here = line_here setup u c.args.address i c.args.banks.now b are (sym c.index-banks-bank.is) c.requires.begins inside below in
    here.0.each (c.args.address + i) here.1)
