use Rattle.std.proofs.Common.{rules, ◌≡◌, ℕ, ◌+◌, true, false, Some, ◌++◌, ◌∷◌, [], List, refl, ap, sym, ◌∙◌, subst}
use Rattle.flex_base.specs.Unsplit.{with_access}
use Rattle.flex_base.specs.Devices.{reply_after, devices, woken, input_left, hart_at, is_unwoken}
use Rattle.flex_base.specs.Banks.{accesses_of}
use Rattle.flex_base.specs.declared.access.Access.{Access}
use Rattle.flex_base.specs.declared.access.Access.TheVariants as acc
use Rattle.flex_base.specs.declared.hart.HartId.{HartId}
use Rattle.flex_base.proofs.WaitingHarts.{waits-unwoken, woken-unwoken, woken-pulse}
use Rattle.devices.specs.View.{IsReplay}
use Rattle.access_record.specs.declared.entry.LogEntry.{LogEntry}
use Rattle.access_record.specs.Logs.{on_bank, of_hart}
use Rattle.access_record.specs.Buses.{events_of, ram_banks}
use Rattle.mem_banks.specs.Slots.{pass_of, bank_in, log_in, done_in, seen_in}
use Rattle.mem_banks.specs.Kept.{AreDevicesOf}
use Rattle.mem_banks.proofs.Bytes.{entry_of}
use Rattle.mem_banks.proofs.Keeping.{more_accesses, devices_answered, devices_push, waits_at}
use Rattle.mem_banks.proofs.at_devices.wake_at.Goals as goal

pub returns-then-not-woken-clause-in_slot : goal.returns-then-not-woken-clause-in_slot
returns-then-not-woken-clause-in_slot c = λ run asked.
    let pass = c.args.pass in
    let made = done_in c.args.slot.now in
    let kept = asked.kept.devices in
    let hart_is : c.hart.result ≡ pass.hart = search rules in
    let agree : on_bank (ram_banks run) pass.log ≡ of_hart pass.hart.0 (log_in c.args.slot.now) = search rules in
    let waiting = waits_at run c.args.devices.now pass (log_in c.args.slot.now) kept asked.ready.places agree ∙ asked.waits in
    let told : woken run.setup.harts made pass.hart.0 ≡ false =
    ap (λ (h : HartId). woken run.setup.harts made h.0) (sym hart_is) ∙ sym (c.woken.ensures.woken run.setup.harts run.setup.input made kept.replay) ∙ search rules in
    waits-unwoken (devices run.setup.harts made) pass.hart.0 waiting told

pub returns-then-not-woken-clause-unwoken : goal.returns-then-not-woken-clause-unwoken
returns-then-not-woken-clause-unwoken c = λ run asked.
    let pass = c.args.pass in
    let was = log_in c.args.slot.now in
    let made = accesses_of (events_of was) in
    let kept = asked.kept.devices in
    let hart_is : c.hart.result ≡ pass.hart = search rules in
    let agree : on_bank (ram_banks run) pass.log ≡ of_hart pass.hart.0 was = search rules in
    let waiting = waits_at run c.args.devices.now pass was kept asked.ready.places agree ∙ asked.waits in
    let told : woken run.setup.harts made pass.hart.0 ≡ false =
    ap (λ (h : HartId). woken run.setup.harts made h.0) (sym hart_is) ∙ sym (c.woken.ensures.woken run.setup.harts run.setup.input made kept.replay) ∙ search rules in
    let looked : c.look_at-pass.result.looked ≡ was = search rules in
    let same : c.look_at-pass.result.hart ≡ pass.hart = search rules in
    ap (λ (p : List LogEntry × HartId). is_unwoken (hart_at (devices run.setup.harts (accesses_of (events_of p.0))) p.1.0).standing) (λ i. (looked i, same i))
    ∙ waits-unwoken (devices run.setup.harts made) pass.hart.0 waiting told

pub returns-clause-form : goal.returns-clause-form
returns-clause-form c = let run = c.requires.run.0 in c.act-reply.ensures.form run.setup.harts run.setup.ram tt

pub returns-clause-value : goal.returns-clause-value
returns-clause-value c =
    let run = c.requires.run.0 in
    let asked = c.requires.run.1 in
    let made = accesses_of (events_of (log_in c.args.slot.now)) in
    let replay = asked.kept.devices.replay in
    let told : woken run.setup.harts made c.hart.result.0 ≡ true = sym (c.woken.ensures.woken run.setup.harts run.setup.input made replay) ∙ search rules in
    let same : c.hart-2.result ≡ c.hart.result = search rules in
    ap (λ r. r.value) (c.act-reply.ensures.reply run.setup.harts run.setup.input made replay ∙ ap (λ (h : HartId). reply_after run.setup.harts run.setup.input made h.0 (acc.Pulse false)) same)
    ∙ woken-pulse (devices run.setup.harts made) (input_left run.setup.input made) c.hart.result.0 told

pub returns-clause-answered : goal.returns-clause-answered
returns-clause-answered c = λ run asked.
    let pulse : Access = acc.Pulse false in
    let made = done_in c.args.slot.now in
    let replay = asked.kept.devices.replay in
    let pass = c.args.pass in
    let reply = c.act-reply.result in
    let hart_is : c.hart-2.result ≡ pass.hart = search rules in
    let first_is : c.hart.result ≡ pass.hart = search rules in
    let told : woken run.setup.harts made pass.hart.0 ≡ true =
    ap (λ (h : HartId). woken run.setup.harts made h.0) (sym first_is) ∙ sym (c.woken.ensures.woken run.setup.harts run.setup.input made replay) ∙ search rules in
    devices_answered run made pass.hart.0 pulse reply refl
    (subst (λ (h : HartId). reply ≡ reply_after run.setup.harts run.setup.input made h.0 pulse) hart_is (c.act-reply.ensures.reply run.setup.harts run.setup.input made replay))
    (woken-unwoken (devices run.setup.harts made) pass.hart.0 told)

pub returns-clause-done : goal.returns-clause-done
returns-clause-done c =
    let slot = c.args.slot.now in
    let pulse : Access = acc.Pulse false in
    let e = entry_of c.args.pass.hart c.args.engine pulse c.act-reply.result (bank_in slot) c.note_at-pass.result.1 in
    let now_is : c.note_at-pass.new.slot ≡ Some (pass_of c.args.book.now (bank_in slot) (log_in slot ++ e ∷ []) (c.note_at-pass.result.1 + 1)) = search rules in
    ap done_in now_is ∙ more_accesses (log_in slot) c.args.pass.hart c.args.engine pulse c.act-reply.result (bank_in slot) c.note_at-pass.result.1

pub returns-clause-kept : goal.returns-clause-kept
returns-clause-kept c = λ run asked.
    let dev = ram_banks run in
    let pulse : Access = acc.Pulse false in
    let was = log_in c.args.slot.now in
    let made = accesses_of (events_of was) in
    let kept = asked.kept.devices in
    let pass = c.args.pass in
    let reply = c.act-reply.result in
    let hart_is : c.hart-2.result ≡ pass.hart = search rules in
    let first_is : c.hart.result ≡ pass.hart = search rules in
    let told : woken run.setup.harts made pass.hart.0 ≡ true =
    ap (λ (h : HartId). woken run.setup.harts made h.0) (sym first_is) ∙ sym (c.woken.ensures.woken run.setup.harts run.setup.input made kept.replay) ∙ search rules in
    let e = entry_of pass.hart c.args.engine pulse reply dev c.note_at-pass.result.1 in
    let now_is : c.note_at-pass.new.slot ≡ Some (pass_of run.book dev (was ++ e ∷ []) (c.note_at-pass.result.1 + 1)) = search rules in
    let log_is = ap log_in now_is in
    let seen_is = ap seen_in now_is in
    record {
      pass = now_is ∙ ap (λ (x : List LogEntry × ℕ). Some (pass_of run.book dev x.0 x.1)) (λ i. (sym log_is i, sym seen_is i));
      devices = subst (λ l. AreDevicesOf run c.act-reply.new.self l) (sym log_is)
          (devices_push run c.args.devices.now c.act-reply.new.self was pass.hart c.args.engine pulse reply c.note_at-pass.result.1
          kept asked.ready.hart refl
          (subst (λ (h : HartId). reply ≡ reply_after run.setup.harts run.setup.input made h.0 pulse) hart_is (c.act-reply.ensures.reply run.setup.harts run.setup.input made kept.replay))
          (woken-unwoken (devices run.setup.harts made) pass.hart.0 told)
          (subst (λ (h : HartId). IsReplay run.setup.harts run.setup.input (with_access made h.0 pulse reply) c.act-reply.new.self) hart_is (c.act-reply.ensures.replay run.setup.harts run.setup.input made kept.replay))
          (λ (sends : false ≡ true). absurd (cc sends))
          c.act-reply.ensures.same);
    }
