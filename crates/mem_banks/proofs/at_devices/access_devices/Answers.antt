use Rattle.std.proofs.Common.{rules, ◌≡◌, ℕ, ◌+◌, Some, ◌++◌, ◌∷◌, [], List, ap, sym, ◌∙◌, subst}
use Rattle.flex_base.specs.Unsplit.{with_access}
use Rattle.flex_base.specs.Devices.{reply_after}
use Rattle.flex_base.specs.Banks.{accesses_of}
use Rattle.flex_base.specs.declared.hart.HartId.{HartId}
use Rattle.devices.specs.View.{IsReplay}
use Rattle.access_record.specs.declared.entry.LogEntry.{LogEntry}
use Rattle.access_record.specs.Buses.{events_of, ram_banks}
use Rattle.access_record.specs.Logs.{on_bank, of_hart}
use Rattle.mem_banks.specs.Slots.{pass_of, bank_in, log_in, done_in, seen_in}
use Rattle.mem_banks.specs.Kept.{AreDevicesOf}
use Rattle.mem_banks.proofs.Bytes.{entry_of}
use Rattle.mem_banks.proofs.Waiting.{proper_by}
use Rattle.mem_banks.proofs.Keeping.{more_accesses, devices_answered, devices_push, room_at, own_bytes, waits_at}
use Rattle.mem_banks.proofs.at_devices.access_devices.Goals as goal

pub act-reply-requires : goal.act-reply-requires
act-reply-requires c =
    let run = c.requires.run.0 in
    let asked = c.requires.run.1 in
    let was = log_in c.args.slot.now in
    let agree : on_bank (ram_banks run) c.args.pass.log ≡ of_hart c.args.pass.hart.0 was = search rules in
    record { room = room_at run c.args.devices.now c.args.pass.log was c.args.pass.hart.0 c.args.acc asked.kept.devices asked.may.ready.hart agree asked.may.console }

pub returns-clause-form : goal.returns-clause-form
returns-clause-form c =
    let run = c.requires.run.0 in
    c.act-reply.ensures.form run.setup.harts run.setup.ram c.requires.run.1.may.placed

pub returns-clause-answered : goal.returns-clause-answered
returns-clause-answered c = λ run asked.
    let made = done_in c.args.slot.now in
    let kept = asked.kept.devices in
    let pass = c.args.pass in
    let reply = c.act-reply.result in
    let hart_is : c.hart.result ≡ pass.hart = search rules in
    let agree : on_bank (ram_banks run) pass.log ≡ of_hart pass.hart.0 (log_in c.args.slot.now) = search rules in
    let waits = waits_at run c.args.devices.now pass (log_in c.args.slot.now) kept asked.may.ready.places agree ∙ asked.may.awake in
    devices_answered run made pass.hart.0 c.args.acc reply asked.device
    (subst (λ (h : HartId). reply ≡ reply_after run.setup.harts run.setup.input made h.0 c.args.acc) hart_is (c.act-reply.ensures.reply run.setup.harts run.setup.input made kept.replay))
    (proper_by run.setup.harts made pass.hart.0 c.args.acc waits)

pub returns-clause-done : goal.returns-clause-done
returns-clause-done c =
    let slot = c.args.slot.now in
    let e = entry_of c.args.pass.hart c.args.engine c.args.acc c.act-reply.result (bank_in slot) c.note_at-pass.result.1 in
    let now_is : c.note_at-pass.new.slot ≡ Some (pass_of c.args.book.now (bank_in slot) (log_in slot ++ e ∷ []) (c.note_at-pass.result.1 + 1)) = search rules in
    ap done_in now_is ∙ more_accesses (log_in slot) c.args.pass.hart c.args.engine c.args.acc c.act-reply.result (bank_in slot) c.note_at-pass.result.1

pub returns-clause-kept : goal.returns-clause-kept
returns-clause-kept c = λ run asked.
    let dev = ram_banks run in
    let was = log_in c.args.slot.now in
    let made = accesses_of (events_of was) in
    let kept = asked.kept.devices in
    let pass = c.args.pass in
    let reply = c.act-reply.result in
    let hart_is : c.hart.result ≡ pass.hart = search rules in
    let e = entry_of pass.hart c.args.engine c.args.acc reply dev c.note_at-pass.result.1 in
    let now_is : c.note_at-pass.new.slot ≡ Some (pass_of run.book dev (was ++ e ∷ []) (c.note_at-pass.result.1 + 1)) = search rules in
    let log_is = ap log_in now_is in
    let seen_is = ap seen_in now_is in
    let agree : on_bank dev pass.log ≡ of_hart pass.hart.0 was = search rules in
    let waits = waits_at run c.args.devices.now pass was kept asked.may.ready.places agree ∙ asked.may.awake in
    record {
      pass = now_is ∙ ap (λ (x : List LogEntry × ℕ). Some (pass_of run.book dev x.0 x.1)) (λ i. (sym log_is i, sym seen_is i));
      devices = subst (λ l. AreDevicesOf run c.act-reply.new.self l) (sym log_is)
          (devices_push run c.args.devices.now c.act-reply.new.self was pass.hart c.args.engine c.args.acc reply c.note_at-pass.result.1
          kept asked.may.ready.hart asked.device
          (subst (λ (h : HartId). reply ≡ reply_after run.setup.harts run.setup.input made h.0 c.args.acc) hart_is (c.act-reply.ensures.reply run.setup.harts run.setup.input made kept.replay))
          (proper_by run.setup.harts made pass.hart.0 c.args.acc waits)
          (subst (λ (h : HartId). IsReplay run.setup.harts run.setup.input (with_access made h.0 c.args.acc reply) c.act-reply.new.self) hart_is (c.act-reply.ensures.replay run.setup.harts run.setup.input made kept.replay))
          (λ sends. own_bytes dev pass.hart.0 run.setup.budget pass.log was agree (asked.may.console sends))
          c.act-reply.ensures.same);
    }
