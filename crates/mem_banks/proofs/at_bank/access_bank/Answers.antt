use Rattle.std.proofs.Common.{rules, ◌≡◌, ℕ, ◌+◌, Some, ◌++◌, ◌∷◌, [], List, ap, sym, ◌∙◌, subst}
use Rattle.flex_base.specs.FlatMemory.{flat}
use Rattle.flex_base.specs.Unsplit.{with_access}
use Rattle.flex_base.specs.Banks.{accesses_of}
use Rattle.flex_base.specs.declared.hart.HartId.{HartId}
use Rattle.mem_lines.specs.Bank.{IsReplay}
use Rattle.access_record.specs.declared.entry.LogEntry.{LogEntry}
use Rattle.access_record.specs.Buses.{events_of}
use Rattle.mem_banks.specs.Slots.{pass_of, bank_in, log_in, done_in, seen_in}
use Rattle.mem_banks.specs.Kept.{IsBankOf}
use Rattle.mem_banks.proofs.Bytes.{entry_of}
use Rattle.mem_banks.proofs.Keeping.{more_accesses, lines_answered, lines_push}
use Rattle.mem_banks.proofs.at_bank.access_bank.Goals as goal

pub returns-clause-answered : goal.returns-clause-answered
returns-clause-answered c = λ run asked.
    let made = done_in c.args.slot.now in
    let reply = c.act-reply.result in
    let hart_is : c.hart.result ≡ c.args.pass.hart = search rules in
    lines_answered run c.args.lines.now.bank made c.args.pass.hart.0 c.args.acc reply asked.ram asked.here
    (subst (λ (h : HartId). reply ≡ flat run.setup.image made h.0 c.args.acc) hart_is (c.act-reply.ensures.flat run.setup made asked.kept.lines.replay))

pub returns-clause-done : goal.returns-clause-done
returns-clause-done c =
    let slot = c.args.slot.now in
    let e = entry_of c.args.pass.hart c.args.engine c.args.acc c.act-reply.result (bank_in slot) c.note_at-pass.result.1 in
    let now_is : c.note_at-pass.new.slot ≡ Some (pass_of c.args.book.now (bank_in slot) (log_in slot ++ e ∷ []) (c.note_at-pass.result.1 + 1)) = search rules in
    ap done_in now_is ∙ more_accesses (log_in slot) c.args.pass.hart c.args.engine c.args.acc c.act-reply.result (bank_in slot) c.note_at-pass.result.1

pub returns-clause-kept : goal.returns-clause-kept
returns-clause-kept c = λ run asked.
    let old = c.args.lines.now in
    let was = log_in c.args.slot.now in
    let made = accesses_of (events_of was) in
    let reply = c.act-reply.result in
    let hart_is : c.hart.result ≡ c.args.pass.hart = search rules in
    let replay = asked.kept.lines.replay in
    let e = entry_of c.args.pass.hart c.args.engine c.args.acc reply old.bank c.note_at-pass.result.1 in
    let now_is : c.note_at-pass.new.slot ≡ Some (pass_of run.book old.bank (was ++ e ∷ []) (c.note_at-pass.result.1 + 1)) = search rules in
    let log_is = ap log_in now_is in
    let seen_is = ap seen_in now_is in
    record {
      pass = now_is ∙ ap (λ (x : List LogEntry × ℕ). Some (pass_of run.book old.bank x.0 x.1)) (λ i. (sym log_is i, sym seen_is i));
      lines = subst (λ l. IsBankOf run old.bank c.act-reply.new.self l) (sym log_is)
          (lines_push run old.bank old c.act-reply.new.self was c.args.pass.hart c.args.engine c.args.acc reply c.note_at-pass.result.1
          asked.kept.lines
          (lines_answered run old.bank made c.args.pass.hart.0 c.args.acc reply asked.ram asked.here
          (subst (λ (h : HartId). reply ≡ flat run.setup.image made h.0 c.args.acc) hart_is (c.act-reply.ensures.flat run.setup made replay)))
          (subst (λ (h : HartId). IsReplay run.setup (with_access made h.0 c.args.acc reply) c.act-reply.new.self) hart_is (c.act-reply.ensures.replay run.setup made replay))
          c.act-reply.ensures.same);
    }
