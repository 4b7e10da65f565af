use Rattle.std.proofs.Common.{ap, subst, ◌≡◌, ℕ, List, length, sym, arith}
use Rattle.mem_lines.specs.Bank.{Bank, IsIn}
use Rattle.mem_lines.proofs.Dealing.{byte_within}
use Rattle.mem_lines.proofs.lines.Lines.byte.Goals as goal

pub bounds-bytes-offset : goal.bounds-bytes-offset
bounds-bytes-offset c =
    let f = c.self.inside in
    let inside = subst (λ (v : Bank). IsIn v c.args.address) (sym c.self.view_is) c.requires.inside in
    let within = byte_within f.ram f.banks f.bank c.args.address f.bytes.items f.reservations c.self.invariant.whole inside in
    let bytes : length c.deref-bytes.result.now ≡ length f.bytes.items = ap (λ (xs : List ℕ). length xs) c.deref-bytes.ensures.value in
    omega (arith, within.2, c.offset.ensures, bytes)
