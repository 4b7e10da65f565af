use Rattle.std.proofs.Common.{sym}
use Rattle.std.proofs.lemmas.Result.{err_from_is_err_and}
use Rattle.image_loader.specs.Faults.{segment_tests}
use Rattle.image_loader.proofs.Tables.{fault_at, no_fault_more}
use Rattle.image_loader.proofs.checks.check_segments.Goals as goal

pub returns-in_err-check_segment : goal.returns-in_err-check_segment
returns-in_err-check_segment c =
    let found = fault_at (segment_tests c.args.file.now c.args.ram) c.loop-n.n c.args.header.now.e_phnum _ c.loop-n-test.true c.loop-n.invariant (sym c.in_err-check_segment.ensures) in
    let p = err_from_is_err_and c.from_residual.result c.from_residual.ensures.1 in
    rw (p.1, p.2) (sym found)

pub loop-n-preserved : goal.loop-n-preserved
loop-n-preserved c = no_fault_more (segment_tests c.args.file.now c.args.ram) c.loop-n.n c.loop-n.invariant (sym c.in_ok-check_segment.ensures)
