use Rattle.std.proofs.Common.{rules, arith, ◌≡◌, ◌+◌, ◌<◌, ◌≤◌, Some, length, set, ap, sym, ◌∙◌, subst}
use Rattle.flex_base.specs.Banks.{IsAnswered}
use Rattle.flex_base.specs.declared.event.What.TheVariants as what
use Rattle.access_record.specs.Buses.{Run, ram_banks, place_in}
use Rattle.access_record.specs.Histories.{History, Grows}
use Rattle.mem_banks.specs.Slots.{done_in}
use Rattle.mem_banks.specs.Kept.{IsBankAt}
use Rattle.mem_banks.specs.Origins.{run_from}
use Rattle.mem_banks.specs.Plain.{Plain, next_number}
use Rattle.mem_banks.proofs.Plains.{plain-bank, makes_at}
use Rattle.mem_banks.proofs.Seen.{within, seen-set}
use Rattle.mem_banks.proofs.Histories.{history_of, answered-slot, banks-more, grows}
use Rattle.mem_banks.proofs.plain_bus.PlainBus.make_at.Goals as goal

pub invariant_of-self : goal.invariant_of-self
invariant_of-self c =
    let p = c.self.invariant.0 in
    let run = run_from c.self.inside.book c.self.inside.origin in
    let same : run ≡ c.args.self.now.run = ap (λ (v : Plain). v.run) c.self.view_is in
    let lines = c.self.inside.lines.items in
    let slots = c.self.inside.slots.items in
    let k = c.args.bank in
    let b = c.index_mut-lines.result.now in
    let slot = c.index_mut-slot.result.now in
    let below : k < length lines = search rules in
    let asked = makes_at run c.args.self.now.run lines c.self.inside.devices slots k b slot c.args.pass c.args.acc p same below
    c.index_mut-lines.ensures.value c.index_mut-slot.ensures.value c.requires.may c.requires.ram c.requires.here in
    let bank_is : b.bank ≡ k = sym asked.here ∙ ap (λ (r : Run). place_in r c.args.acc) same ∙ c.requires.here in
    let told : next_number c.of.result.value ≡ c.access_bank-pass.result.1 + 1 = search rules in (
      plain-bank run lines c.self.inside.devices slots k c.access_bank-pass.new.lines c.access_bank-pass.new.slot p below
          (subst (λ n. IsBankAt run n c.access_bank-pass.new.lines c.access_bank-pass.new.slot) bank_is (c.access_bank-pass.ensures.kept run asked)),
      seen-set run lines c.self.inside.devices slots p k (next_number c.of.result.value) c.access_bank-pass.new.slot
          (subst (λ (r : Run). k < ram_banks r) (sym same) c.requires.below) (omega (arith, told, c.access_bank-pass.ensures.after)),
      search rules,
      search rules,
    )

pub returns-clause-history : goal.returns-clause-history
returns-clause-history c =
    let p = c.self.invariant.0 in
    let run = run_from c.self.inside.book c.self.inside.origin in
    let same : run ≡ c.args.self.now.run = ap (λ (v : Plain). v.run) c.self.view_is in
    let lines = c.self.inside.lines.items in
    let slots = c.self.inside.slots.items in
    let least = next_number c.self.inside.latest.value in
    let k = c.args.bank in
    let b = c.index_mut-lines.result.now in
    let slot = c.index_mut-slot.result.now in
    let new = c.access_bank-pass.new.slot in
    let hart = c.args.pass.hart.0 in
    let reply = c.access_bank-pass.result.2 in
    let number = c.access_bank-pass.result.1 in
    let below : k < length lines = search rules in
    let asked = makes_at run c.args.self.now.run lines c.self.inside.devices slots k b slot c.args.pass c.args.acc p same below
    c.index_mut-lines.ensures.value c.index_mut-slot.ensures.value c.requires.may c.requires.ram c.requires.here in
    let here : place_in run c.args.acc ≡ k = ap (λ (r : Run). place_in r c.args.acc) same ∙ c.requires.here in
    let bank_is : b.bank ≡ k = sym asked.here ∙ here in
    let has_place = within run lines c.self.inside.devices slots p k (subst (λ (r : Run). k < ram_banks r) (sym same) c.requires.below) in
    let told : next_number c.of.result.value ≡ number + 1 = search rules in
    let rises : least ≤ number = search rules in
    let answered = subst (λ n. IsAnswered run.setup (ram_banks run) n (done_in slot) hart c.args.acc reply) bank_is (c.access_bank-pass.ensures.answered run asked) in
    let now : History = history_of (next_number c.of.result.value) (set slots k new) in
    let Is : Plain → Type 0 = λ v. Grows v.run v.history hart (what.Acc c.args.acc reply) number (Some now) in
    subst Is c.self.view_is (grows run (history_of least slots) now now hart c.args.acc reply number rises
    (answered-slot slots k slot c.index_mut-slot.ensures.value has_place run least hart c.args.acc reply here answered)
    (banks-more slots k slot c.index_mut-slot.ensures.value has_place run least hart c.args.acc reply here new number c.access_bank-pass.ensures.done)
    (ap (λ n. record now { least = n }) told))
