use Rattle.std.proofs.Common.{map, ap, sym, ◌∙◌}
use Rattle.flex_base.specs.Devices.{wakes_hart}
use Rattle.devices.proofs.Waiting.{wakes_none}
use Rattle.devices.proofs.harts.Harts.wake.Goals as goal

pub returns-else-self : goal.returns-else-self
returns-else-self c =
    let was = c.self.view_is in
    sym was
    ∙ sym (wakes_none c.args.mtime c.self.inside.each.items (c.self.invariant c.if-self.false))
    ∙ ap (map (wakes_hart c.args.mtime)) was
