use Rattle.std.proofs.Common.{◌≡◌, length, sym, ap, ◌∙◌, arith}
use Rattle.journal.specs.Log.{Log}
use Rattle.journal.proofs.Packed.{length-events_of}
use Rattle.journal.proofs.hart_log.HartLog.len.Goals as goal

pub returns : goal.returns
returns c =
    let i = c.self.inside in
    let size : length c.args.self.now.events ≡ length i.kept.items = sym (ap (λ (l : Log). length l.events) c.self.view_is) ∙ length-events_of i.kept.items i.beside.value.items in
    omega (arith, size, c.len.ensures)
