use Rattle.std.proofs.Common.{rules, ◌≡◌, ℕ, ◌<◌, Some, length, ap, subst}
use Rattle.flex_base.specs.Banks.{accesses_of}
use Rattle.access_record.specs.Passes.{bank_logs_of}
use Rattle.access_record.specs.Buses.{Run, events_of}
use Rattle.access_record.specs.Histories.{done_at}
use Rattle.mem_banks.specs.Origins.{run_from}
use Rattle.mem_banks.specs.Plain.{Plain}
use Rattle.mem_banks.specs.End.{Memory, IsMemoryOf, passes_down}
use Rattle.mem_banks.proofs.Ending.{are_held, plain-passes, memory-plain, done-down}
use Rattle.mem_banks.proofs.plain_bus.PlainBus.dissolve.Goals as goal

pub take_passes-passes-requires-clause-held : goal.take_passes-passes-requires-clause-held
take_passes-passes-requires-clause-held c =
    let run = run_from c.self.inside.book c.self.inside.origin in
    let slots = c.self.inside.slots.items in
    are_held run.book slots (plain-passes run c.self.inside.lines.items c.self.inside.devices slots c.self.invariant.0)

pub returns-clause-memory : goal.returns-clause-memory
returns-clause-memory c =
    let run = run_from c.self.inside.book c.self.inside.origin in
    let slots = c.self.inside.slots.items in
    let lines = c.self.inside.lines.items in
    let devices = c.self.inside.devices in
    let same : run ≡ c.args.self.run = ap (λ (v : Plain). v.run) c.self.view_is in
    let passes : c.take_passes-passes.result.items ≡ passes_down slots (length slots) = search rules in
    let memory : Memory = record { lines = lines; devices = devices; unsettled = Some (record { book = run.book; passes = c.take_passes-passes.result.items }) } in
    let is = ap (λ ps. record { lines = lines; devices = devices; unsettled = Some (record { book = run.book; passes = ps }) }) passes in
    subst (λ (r : Run). IsMemoryOf r memory) same (memory-plain run lines devices slots memory c.self.invariant.0 is)

pub returns-clause-history : goal.returns-clause-history
returns-clause-history c =
    let run = run_from c.self.inside.book c.self.inside.origin in
    let slots = c.self.inside.slots.items in
    let held = c.take_passes-passes.result.items in
    let passes : held ≡ passes_down slots (length slots) = search rules in
    let Is : Plain → Type 0 = λ v. (bank : ℕ) → bank < v.run.book.limits.banks → accesses_of (events_of (bank_logs_of held bank)) ≡ done_at v.history bank in
    subst Is c.self.view_is (done-down run c.self.inside.lines.items c.self.inside.devices slots held c.self.invariant.0 passes)
