use Rattle.std.proofs.Common.{rules, ◌≡◌, ◌++◌, ◌∷◌, [], Some, ap, sym, ◌∙◌}
use Rattle.access_record.specs.Rule.{occurrences}
use Rattle.access_record.specs.Passes.{Enrolment}
use Rattle.mem_banks.specs.Slots.{pass_of}
use Rattle.mem_banks.specs.Plain.{new_slots}
use Rattle.mem_banks.proofs.Plains.{none_above, numbers_more, new_slots-more}
use Rattle.mem_banks.proofs.plain_bus.enrol_banks.Goals as goal

pub enrol_bank-next-requires-clause-not_yet : goal.enrol_bank-next-requires-clause-not_yet
enrol_bank-next-requires-clause-not_yet c =
    ap (occurrences c.loop-bank.bank) c.loop-bank.invariant.2 ∙ none_above c.loop-bank.bank c.loop-bank.bank (search rules)

pub loop-bank-preserved : goal.loop-bank-preserved
loop-bank-preserved c =
    let bank = c.loop-bank.bank in
    let book = c.args.book.now in
    let pass_is : c.enrol_bank-next.result.1 ≡ pass_of book bank [] 0 = search rules in (
      search rules,
      search rules,
      ap (λ (r : Enrolment). r.banks) c.enrol_bank-next.ensures.founder ∙ ap (λ banks. bank ∷ banks) c.loop-bank.invariant.2 ∙ sym (numbers_more bank),
      c.push_reserved.ensures.items ∙ ap (λ slots. slots ++ Some c.enrol_bank-next.result.1 ∷ []) c.loop-bank.invariant.3
          ∙ ap (λ p. new_slots book bank ++ Some p ∷ []) pass_is ∙ sym (new_slots-more book bank),
      search rules,
      search rules,
    )
