use Rattle.std.proofs.Common.{◌≡◌, ℕ, ◌+◌, ◌-◌, ◌<◌, List, slice_index, drop, ap, subst, sym, ◌∙◌, arith}
use Rattle.std.proofs.lemmas.List.{get_or-drop, get_or-take}
use Rattle.mem_lines.specs.Bank.{Bank, IsIn}
use Rattle.mem_lines.proofs.Whole.{line_within, line_byte}
use Rattle.mem_lines.proofs.lines.Lines.line.Goals as goal

pub returns-clause-bytes : goal.returns-clause-bytes
returns-clause-bytes c = λ i below.
    let f = c.self.inside in
    let b = c.args.self.now in
    let start = c.line_start-start.result in
    let bytes = c.deref.result.now in
    let inside = subst (λ (v : Bank). IsIn v c.args.address) (sym c.self.view_is) c.requires.inside in
    let within = line_within f.ram f.banks f.bank c.args.address f.bytes.items f.reservations c.self.invariant.whole inside c.requires.begins in
    let few : i < start + 64 - start = omega (arith, below) in
    let held : bytes ≡ b.bytes = c.deref.ensures.value ∙ ap (λ (v : Bank). v.bytes) c.self.view_is in
    get_or-take (start + 64 - start) (drop start bytes) i 0 few
    ∙ get_or-drop start bytes i 0
    ∙ ap (λ (xs : List ℕ). slice_index xs (start + i)) held
    ∙ ap (λ n. slice_index b.bytes (n + i)) c.line_start-start.ensures.start
    ∙ line_byte b c.args.address i within.1 c.requires.begins below
