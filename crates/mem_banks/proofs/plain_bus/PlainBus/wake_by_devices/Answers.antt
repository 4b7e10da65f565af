use Rattle.std.proofs.Common.{rules, ◌≡◌, ◌<◌, false, length, map, set, ap, sym, ◌∙◌, subst}
use Rattle.std.specs.Prelude.{IfSome}
use Rattle.std.proofs.lemmas.Option.{IfSome_then}
use Rattle.flex_base.specs.declared.access.Access.TheVariants as acc
use Rattle.flex_base.specs.declared.event.What.TheVariants as what
use Rattle.access_record.specs.Buses.{ram_banks}
use Rattle.access_record.specs.Histories.{history_after}
use Rattle.mem_banks.specs.Slots.{done_in}
use Rattle.mem_banks.specs.Origins.{run_from}
use Rattle.mem_banks.specs.Plain.{Plain, next_number}
use Rattle.mem_banks.proofs.Seen.{last_within}
use Rattle.mem_banks.proofs.Histories.{banks-more, banks-shared, if_none}
use Rattle.mem_banks.proofs.plain_bus.PlainBus.wake_by_devices.Goals as goal

pub returns-clause-banks : goal.returns-clause-banks
returns-clause-banks c =
    let p = c.self.invariant.0 in
    let run = run_from c.self.inside.book c.self.inside.origin in
    let lines = c.self.inside.lines.items in
    let slots = c.self.inside.slots.items in
    let least = next_number c.self.inside.latest.value in
    let k = c.len.result in
    let slot = c.index_mut-slot.result.now in
    let new = c.wake_at.new.slot in
    let hart = c.args.pass.hart.0 in
    let last : k ≡ length lines = search rules in
    let here : ram_banks run ≡ k = sym p.counted ∙ sym last in
    let has_place = subst (λ n. n < length slots) (sym last) (last_within run lines c.self.inside.devices slots p) in
    let Is : Plain → Type 0 = λ v. IfSome c.wake_at.result.1 (λ r. map done_in (set slots k new)
    ≡ (history_after v.run v.history hart (what.Acc (acc.Pulse false) r.1) r.0).banks) in
    subst Is c.self.view_is (IfSome_then c.wake_at.result.1 c.wake_at.ensures.done
    (λ r more. banks-more slots k slot c.index_mut-slot.ensures.value has_place run least hart (acc.Pulse false) r.1 here new r.0 more))

pub returns-clause-stays : goal.returns-clause-stays
returns-clause-stays c =
    if_none c.wake_at.result.1 c.wake_at.ensures.stays
    (λ same. banks-shared c.self.inside.slots.items c.len.result c.index_mut-slot.result.now c.index_mut-slot.ensures.value c.wake_at.new.slot same
    ∙ ap (λ (v : Plain). v.history.banks) c.self.view_is)
