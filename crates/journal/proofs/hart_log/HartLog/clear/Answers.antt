use Rattle.std.proofs.Common.{◌≡◌, ◌+◌, ◌-◌, [], length, sym, ap, ◌∙◌, arith}
use Rattle.std.specs.Prelude.{vec_capacity}
use Rattle.journal.specs.Log.{Log}
use Rattle.journal.proofs.Packed.{length-events_of}
use Rattle.journal.proofs.hart_log.HartLog.clear.Goals as goal

pub returns : goal.returns
returns c =
    let i = c.self.inside in
    let size : length c.args.self.now.events ≡ length i.kept.items = sym (ap (λ (l : Log). length l.events) c.self.view_is) ∙ length-events_of i.kept.items i.beside.value.items in
    let left : vec_capacity i.kept - length i.kept.items ≡ c.args.self.now.room = ap (λ (l : Log). l.room) c.self.view_is in
    let whole : vec_capacity i.kept - 0 ≡ c.args.self.now.room + length c.args.self.now.events = omega (arith, size, left, c.self.invariant.within) in
    rw (c.clear.ensures.items, c.clear.ensures.capacity) (ap (λ n. let log : Log = record { events = []; room = n } in log) whole)
