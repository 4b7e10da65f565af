use Rattle.std.proofs.Common.{ℕ, List, ◌+◌, ◌-◌, ◌<◌, ◌≤◌, length, arith, sym, ap, ◌∙◌, get_or}
use Rattle.std.specs.List.{between}
use Rattle.std.proofs.lemmas.List.Edits.{length-between}
use Rattle.mem_lines.specs.Bank.{offset, with_part}
use Rattle.mem_lines.proofs.Dealing.{spot_within, offset_next}
use Rattle.mem_lines.proofs.Laying.{part_in, with_part_more, laid_none}
use Rattle.mem_lines.proofs.image_bytes.write_part.Goals as goal
use Rattle.mem_lines.proofs.image_bytes.write_part.Goals.{then-here-banks, else-here-banks}

pub write_at-requires : goal.write_at-requires
write_at-requires c =
    let ram = c.requires.fits.0 in
    let whole = c.requires.fits.1 in
    let part = c.args.part.now in
    let done_of = c.loop-done.done in
    let count = c.within_line-count.result in
    let here = c.args.address + done_of in
    let few : done_of + count ≤ length part = omega (arith, c.within_line-count.ensures.few, c.loop-done-test.true) in
    let some : 0 < count = c.within_line-count.ensures.some (omega (arith, c.loop-done-test.true)) in
    let inside = part_in ram c.args.address part (done_of + (count - 1)) c.requires.fits.2 (omega (arith, few, some)) in
    let within = spot_within c.args.banks ram (here + (count - 1)) whole.banks_are whole.mebibytes (omega (arith, inside.0)) (omega (arith, inside.1)) in
    let next = offset_next c.args.banks here (count - 1) (omega (arith, inside.0)) (omega (arith, c.within_line-count.ensures.line, some)) in
    let size = length-between part done_of (done_of + count) few in
    omega (arith, within, next, whole.part, c.offset.ensures, size, some, c.loop-done.auto.bytes)

pub loop-done-preserved : goal.loop-done-preserved
loop-done-preserved c =
    let part = c.args.part.now in
    let done_of = c.loop-done.done in
    let count = c.within_line-count.result in
    let line = c.within_line-count.ensures.line in
    let few : done_of + count ≤ length part = omega (arith, c.within_line-count.ensures.few, c.loop-done-test.true) in
    record {
      within = few;
      written = λ a above bank. let old = get_or c.args.bytes.now (offset c.args.banks a) 0 in elim c.if-here-banks.branch [
        | then-here-banks w ↦
            let whole = c.requires.fits.1 in
            let inside = part_in c.requires.fits.0 c.args.address part done_of c.requires.fits.2 c.loop-done-test.true in
            let each = λ (k : ℕ). ap (λ (xs : List ℕ). get_or xs k 0) w.bytes-is ∙ w.write_at.ensures k ∙ ap (λ n. with_part k (get_or c.loop-done.bytes k 0) (n, between done_of (done_of + count) part)) w.offset.ensures in
            with_part_more c.loop-done.bytes c.if-here-banks.bytes part c.args.banks c.args.address done_of count a old whole.banks_are inside.0 above (bank ∙ sym w.if-here-banks.true) line few each (c.loop-done.invariant.written a above bank)
        | else-here-banks w ↦
            ap (λ (xs : List ℕ). get_or xs (offset c.args.banks a) 0) w.bytes-is ∙ laid_none c.loop-done.bytes part c.args.banks c.args.address done_of count a old line (λ same. w.if-here-banks.false (sym same ∙ bank)) (c.loop-done.invariant.written a above bank)
      ];
    }
