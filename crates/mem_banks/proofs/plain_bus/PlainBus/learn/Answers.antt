use Rattle.std.proofs.Common.{rules, arith, ◌≡◌, ◌≤◌, List, ap, ◌∙◌}
use Rattle.flex_base.specs.FlatMemory.{Done}
use Rattle.mem_banks.specs.Slots.{done_in, seen_in}
use Rattle.mem_banks.specs.Origins.{run_from}
use Rattle.mem_banks.specs.Plain.{Plain, next_number}
use Rattle.mem_banks.proofs.Seen.{held_at, plain-shared, seen-set}
use Rattle.mem_banks.proofs.Histories.{banks-shared}
use Rattle.mem_banks.proofs.plain_bus.PlainBus.learn.Goals as goal

pub share_at-requires-clause-held : goal.share_at-requires-clause-held
share_at-requires-clause-held c =
    let run = run_from c.self.inside.book c.self.inside.origin in
    let has = c.self.invariant.1 in
    held_at run c.self.inside.lines.items c.self.inside.devices c.self.inside.slots.items c.self.invariant.0 c.self.inside.newest c.index_mut.result.now has.bank c.index_mut.ensures.value

pub invariant_of-self : goal.invariant_of-self
invariant_of-self c =
    let run = run_from c.self.inside.book c.self.inside.origin in
    let has = c.self.invariant.1 in
    let lines = c.self.inside.lines.items in
    let slots = c.self.inside.slots.items in
    let k = c.self.inside.newest in
    let old = c.index_mut.result.now in
    let more : seen_in old ≤ seen_in c.share_at.new.slot = search rules in
    let had : next_number c.self.inside.latest.value ≤ seen_in old = search rules in (
      plain-shared run lines c.self.inside.devices slots c.self.invariant.0 k _ old c.share_at.new.slot has.bank c.index_mut.ensures.value c.share_at.ensures.slot,
      seen-set run lines c.self.inside.devices slots c.self.invariant.0 k (next_number c.self.inside.latest.value) c.share_at.new.slot has.bank (omega (arith, more, had)),
      search rules,
      search rules,
    )

pub returns-clause-history : goal.returns-clause-history
returns-clause-history c =
    let same : done_in c.share_at.new.slot ≡ done_in c.index_mut.result.now = ap done_in c.share_at.ensures.slot in
    ap (λ (banks : List (List Done)). record { least = next_number c.self.inside.latest.value; banks = banks })
    (banks-shared c.self.inside.slots.items c.self.inside.newest c.index_mut.result.now c.index_mut.ensures.value c.share_at.new.slot same)
    ∙ ap (λ (v : Plain). v.history) c.self.view_is
