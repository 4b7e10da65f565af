-- The devices are the replay of what was done at them.
use Rattle.std.proofs.Common.{◌≡◌, None, length, sym, ap, ◌∙◌, subst}
use Rattle.std.specs.Prelude.{slice_index_or}
use Rattle.std.proofs.Math.ListN.{get_or-map}
use Rattle.flex_base.specs.Devices.{device_stop}
use Rattle.access_record.specs.Buses.{ram_banks}
use Rattle.access_record.specs.Histories.{done_at}
use Rattle.mem_banks.specs.Slots.{done_in}
use Rattle.mem_banks.specs.Origins.{run_from}
use Rattle.mem_banks.specs.Plain.{Plain}
use Rattle.mem_banks.proofs.plain_bus.PlainBus.stop.Goals as goal

pub returns : goal.returns
returns c =
    let p = c.self.invariant.0 in
    let run = run_from c.self.inside.book c.self.inside.origin in
    let slots = c.self.inside.slots.items in
    let made = done_in (slice_index_or slots (length c.self.inside.lines.items) None) in
    let same = ap (λ n. done_in (slice_index_or slots n None)) p.counted ∙ sym (get_or-map done_in slots (ram_banks run) None) in
    let Is : Plain → Type 0 = λ v. c.stop.result ≡ device_stop v.run.setup.harts (done_at v.history (ram_banks v.run)) in
    subst Is c.self.view_is (c.stop.ensures.stop run.setup.harts run.setup.input made (p.devices None).devices.replay ∙ ap (device_stop run.setup.harts) same)
