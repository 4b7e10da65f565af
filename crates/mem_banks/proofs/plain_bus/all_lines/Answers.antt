use Rattle.std.proofs.Common.{rules, ◌≡◌, length, subst}
use Rattle.mem_lines.specs.Bank.{IsBank}
use Rattle.mem_banks.proofs.Plains.{made_push}
use Rattle.mem_banks.proofs.plain_bus.all_lines.Goals as goal

pub loop-bank-preserved : goal.loop-bank-preserved
loop-bank-preserved c =
    let old = c.loop-bank.lines.items in
    let made = c.in_ok-new.field-0 in
    let number : c.loop-bank.bank ≡ length old = search rules in
    let bank : IsBank c.args.settings.now.ram c.args.banks (length old) made =
    subst (λ n. IsBank c.args.settings.now.ram c.args.banks n made) number c.in_ok-new.ensures.bank in (
      search rules,
      made_push c.args.image.now c.args.settings.now c.args.banks old c.push.new.self.items made c.loop-bank.invariant.1 bank
          (λ setup is. c.in_ok-new.ensures.replay setup is.image_is is.ram) c.in_ok-push.ensures.items,
    )
