use Rattle.std.proofs.Common.{ap, sym, ◌∙◌}
use Rattle.image_loader.specs.Faults.{segment_tests}
use Rattle.image_loader.specs.Loading.{segment, segments}
use Rattle.image_loader.specs.Laying.{laid_byte}
use Rattle.image_loader.proofs.Tables.{flat_map_more, no_fault_at}
use Rattle.image_loader.proofs.LaidBytes.{laid_byte-append}
use Rattle.image_loader.proofs.loader.laid_segments.Goals as goal

pub lay_segment-requires-clause-checked : goal.lay_segment-requires-clause-checked
lay_segment-requires-clause-checked c =
    let ram = c.requires.checked.0 in
    (ram, c.requires.checked.1, no_fault_at (segment_tests c.args.file.now ram) c.loop-n.n c.args.header.now.e_phnum c.loop-n-test.true c.requires.checked.2)

pub loop-n-preserved : goal.loop-n-preserved
loop-n-preserved c =
    let file = c.args.file.now in
    let n = c.loop-n.n in
    record {
      bytes = λ a. c.in_ok-lay_segment.ensures.bytes a ∙ laid_byte-append c.loop-n.parts (segments file n) (segment file n) a (c.loop-n.invariant.bytes a) ∙ ap (λ parts. laid_byte parts a) (sym (flat_map_more (segment file) n));
      fit = λ ram none. c.in_ok-lay_segment.ensures.fit ram (no_fault_at (segment_tests file ram) n c.args.header.now.e_phnum c.loop-n-test.true none) (c.loop-n.invariant.fit ram none);
    }
