use Rattle.std.proofs.Common.{rules, ◌≡◌, ◌<◌, length, map, set, sym, ◌∙◌, subst}
use Rattle.flex_base.specs.declared.event.What.TheVariants as what
use Rattle.access_record.specs.Buses.{place_in}
use Rattle.access_record.specs.Histories.{history_after}
use Rattle.mem_banks.specs.Slots.{done_in}
use Rattle.mem_banks.specs.Origins.{run_from}
use Rattle.mem_banks.specs.Plain.{Plain, next_number}
use Rattle.mem_banks.proofs.Plains.{place_of_device}
use Rattle.mem_banks.proofs.Seen.{last_within}
use Rattle.mem_banks.proofs.Histories.{banks-more}
use Rattle.mem_banks.proofs.plain_bus.PlainBus.make_at_devices.Goals as goal

pub returns-clause-banks : goal.returns-clause-banks
returns-clause-banks c =
    let p = c.self.invariant.0 in
    let run = run_from c.self.inside.book c.self.inside.origin in
    let lines = c.self.inside.lines.items in
    let slots = c.self.inside.slots.items in
    let least = next_number c.self.inside.latest.value in
    let k = c.len.result in
    let slot = c.index_mut-slot.result.now in
    let new = c.access_devices.new.slot in
    let hart = c.args.pass.hart.0 in
    let reply = c.access_devices.result.2 in
    let number = c.access_devices.result.1 in
    let last : k ≡ length lines = search rules in
    let here : place_in run c.args.acc ≡ k = place_of_device run c.args.acc c.requires.device ∙ sym p.counted ∙ sym last in
    let has_place = subst (λ n. n < length slots) (sym last) (last_within run lines c.self.inside.devices slots p) in
    let Is : Plain → Type 0 = λ v. map done_in (set slots k new) ≡ (history_after v.run v.history hart (what.Acc c.args.acc reply) number).banks in
    subst Is c.self.view_is
    (banks-more slots k slot c.index_mut-slot.ensures.value has_place run least hart c.args.acc reply here new number c.access_devices.ensures.done)
