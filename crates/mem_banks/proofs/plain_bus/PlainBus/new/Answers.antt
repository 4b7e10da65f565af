use Rattle.std.proofs.Common.{rules, ◌≡◌, ◌+◌, refl, [], map, sym, ap, ◌∙◌, subst, List, ℕ}
use Rattle.flex_base.specs.FlatMemory.{Done}
use Rattle.devices.specs.View.{IsReplay}
use Rattle.mem_banks.specs.Slots.{done_in}
use Rattle.mem_banks.specs.Origins.{run_from}
use Rattle.mem_banks.specs.Plain.{next_number, new_slots, IsOfImage}
use Rattle.mem_banks.proofs.Plains.{plain-begins}
use Rattle.mem_banks.proofs.Histories.{banks-new}
use Rattle.mem_banks.proofs.plain_bus.PlainBus.new.Goals as goal

pub invariant_of-bus : goal.invariant_of-bus
invariant_of-bus c =
    let book = c.in-Ok-new.book in
    let run = run_from book (record { image = c.of.result; settings = c.args.settings.now; input = c.of-2.result }) in
    let of_image : IsOfImage c.args.image.now c.args.settings.now run.setup = record { image_is = c.of.ensures; ram = refl } in
    let count : book.limits.banks ≡ c.args.banks + 1 = search rules in
    let input_is : run.setup.input ≡ c.args.input.items = search rules in
    let replay : IsReplay run.setup.harts run.setup.input [] c.in_ok-devices.devices =
    subst (λ (input : List ℕ). IsReplay run.setup.harts input [] c.in_ok-devices.devices) (sym input_is) c.in_ok-devices.ensures.replay in
    let slots : c.enrol_banks-founder.result.1.items ≡ new_slots book (c.args.banks + 1) = search rules in (
      plain-begins run c.args.settings.now c.args.image.now c.args.banks c.in_ok-lines.lines.items c.in_ok-devices.devices c.enrol_banks-founder.result.1.items
          of_image refl refl count c.requires.lawful c.requires.banks c.requires.few (search rules) c.in_ok-lines.ensures.each
          replay c.in_ok-devices.ensures.room c.in_ok-devices.ensures.keeps slots,
      record { bank = search rules; seen = λ slot. search rules },
      search rules,
      search rules,
    )

pub returns-clause-history : goal.returns-clause-history
returns-clause-history c =
    let book = c.in-Ok-new.book in
    let none : next_number c.of-3.result.value ≡ 0 = search rules in
    let slots : c.enrol_banks-founder.result.1.items ≡ new_slots book (c.args.banks + 1) = search rules in
    let banks = ap (map done_in) slots ∙ banks-new book (c.args.banks + 1) in
    ap (λ (x : ℕ × List (List Done)). record { least = x.0; banks = x.1 }) (λ i. (none i, banks i))
