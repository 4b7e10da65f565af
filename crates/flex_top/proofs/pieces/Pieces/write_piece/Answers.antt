use Rattle.std.proofs.Common.{◌≡◌, ℕ, ◌-◌, ◌≤◌, List, [], ◌++◌, take, drop, length, sym, ap, ◌∙◌, arith, length-take-le}
use Rattle.flex_top.proofs.Growth.{grows_appended, part_of}
use Rattle.flex_top.proofs.Pages.{piece_and_past, moved}
use Rattle.flex_top.proofs.pieces.Pieces.write_piece.Goals as goal

pub slice_bounds-add-end : goal.slice_bounds-add-end
slice_bounds-add-end g c = sym (length-take-le 65536 c.deref.result.now (omega (arith, c.deref.ensures.len, c.self.invariant.0)))

pub returns-in-Err-clause-err : goal.returns-in-Err-clause-err
returns-in-Err-clause-err g c =
    let end = c.self.inside.end in
    let all = c.deref.result.now in
    let held = c.args.self.now in
    let is : take end all ≡ held = ap (λ (t : List ℕ). take end t) c.deref.ensures.value ∙ c.self.view_is in
    let size : length held ≡ end = sym (ap (λ (t : List ℕ). length t) is) ∙ length-take-le end all (omega (arith, c.deref.ensures.len, c.self.invariant.0, c.self.invariant.1)) in
    part_of _ _ _ (take 65536 all) (drop 65536 held) held [] (piece_and_past 65536 end all held (omega (arith, size, c.requires)) is) c.in-Err.ensures.err

pub returns-clause-ok : goal.returns-clause-ok
returns-clause-ok g c =
    let end = c.self.inside.end in
    let all = c.deref.result.now in
    let held = c.args.self.now in
    let items = c.self.inside.held.items in
    let is : take end all ≡ held = ap (λ (t : List ℕ). take end t) c.deref.ensures.value ∙ c.self.view_is in
    let fits : end ≤ length items = omega (arith, c.self.invariant.0, c.self.invariant.1) in
    let size : length held ≡ end = sym (ap (λ (t : List ℕ). length t) c.self.view_is) ∙ length-take-le end items fits in
    let within : 65536 ≤ end = omega (arith, size, c.requires) in
    let left = ap (λ (t : List ℕ). take (end - 65536) t) c.copy_within.ensures.items ∙ moved 65536 end items held within fits c.self.view_is in
    record {
      added = take 65536 all;
      grows = grows_appended (g.O.Outer.outside c.args.outer.now) (g.O.Outer.outside c.add.new.self) c.args.name.now (take 65536 all) c.in-Ok.ensures.ok;
      whole = ap (λ (t : List ℕ). take 65536 all ++ t) left ∙ piece_and_past 65536 end all held within is;
    }
