use Rattle.std.proofs.Common.{rules, ◌≡◌, Some, length}
use Rattle.access_record.specs.Buses.{ram_banks}
use Rattle.mem_banks.specs.Locked.{AreLockedDevices}
use Rattle.mem_banks.proofs.Locking.{in_order-push, memory_again}
use Rattle.mem_banks.proofs.banks.Banks.dissolve.Goals as goal

pub loop-cell-preserved : goal.loop-cell-preserved
loop-cell-preserved g c =
    let run = g.N.RunName.run in
    let place : c.into_parts-bank.result.0.bank ≡ length c.loop-cell.lines.items = search rules in
    let same : length c.loop-cell.passes.items ≡ length c.loop-cell.lines.items = search rules in (
      in_order-push run c.loop-cell.lines.items c.loop-cell.passes.items c.loop-cell.invariant.0 c.into_parts-bank.result.0 c.into_parts-bank.result.1
          c.push_reserved.new.self.items c.push_reserved-in-Some.new.self.items same c.into_parts-bank.ensures.kept place
          c.push_reserved.ensures.items c.push_reserved-in-Some.ensures.items,
      search rules,
      search rules,
      search rules,
      search rules,
      search rules,
    )

pub returns : goal.returns
returns g c =
    let run = g.N.RunName.run in
    let lines = c.loop-cell.lines.items in
    let passes = c.loop-cell.passes.items in
    let d = c.into_parts-devices.result.0 in
    let p = c.into_parts-devices.result.1 in
    let counted : length lines ≡ ram_banks run = search rules in
    let same : length passes ≡ length lines = search rules in
    let held : AreLockedDevices run d (Some p) = c.into_parts-devices.ensures.kept in
    record {
      memory = memory_again run lines passes c.loop-cell.invariant.0 d p c.args.self.run counted same held.kept
          c.args.self.book c.push_reserved-2.new.self.items c.reverse-2.new.self.items c.args.self.named c.push_reserved-2.ensures.items c.reverse-2.ensures.items;
    }
