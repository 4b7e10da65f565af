use Rattle.std.proofs.Common.{◌≡◌, ℕ, ◌∙◌, subst, rules}
use Rattle.atomic_table.specs.Table.{Me}
use Rattle.access_record.specs.declared.view.View.{View}
use Rattle.access_record.specs.Logs.{IsRecord}
use Rattle.access_record.specs.Passes.{RecordIdentity, Enrolment, logs_of, bank_logs_of, AreRecord}
use Rattle.access_record.specs.Gathered.{all_in_view}
use Rattle.access_record.proofs.Closing.{has_all_logs, record_of_passes}
use Rattle.access_record.proofs.Taking.{all_taken}
use Rattle.access_record.proofs.record.AccessRecord.gather.Goals as goal

pub learn_rule-requires-clause-all : goal.learn_rule-requires-clause-all
learn_rule-requires-clause-all c =
    let r : Enrolment = c.args.founder in
    let two : Me ℕ View = c.take_bank_passes.new.seat.me in
    let taken = all_taken r _ _ _ _ two c.args.passes.items c.args.bank_passes.items c.founder.invariant c.founder.view_is c.take_passes.ensures.logs c.take_bank_passes.ensures.logs c.requires.record c.requires.pass_records c.requires.bank_pass_records in
    has_all_logs r.id two.0 _ taken.1 taken.0 c.requires.harts c.requires.banks

pub returns-clause-same : goal.returns-clause-same
returns-clause-same c =
    let r : Enrolment = c.args.founder in
    let two : Me ℕ View = c.take_bank_passes.new.seat.me in
    let taken = all_taken r _ _ _ _ two c.args.passes.items c.args.bank_passes.items c.founder.invariant c.founder.view_is c.take_passes.ensures.logs c.take_bank_passes.ensures.logs c.requires.record c.requires.pass_records c.requires.bank_pass_records in
    let table : c.learn_rule.new.seat.table_id ≡ r.id = search rules in
    (λ i. all_in_view (table i) (c.learn_rule.ensures.same i).0) ∙ taken.1

pub returns-clause-known : goal.returns-clause-known
unfolding AreRecord
returns-clause-known c =
    let r : Enrolment = c.args.founder in
    let ps = c.args.passes.items in
    let ds = c.args.bank_passes.items in
    let two : Me ℕ View = c.take_bank_passes.new.seat.me in
    let taken = all_taken r _ _ _ _ two ps ds c.founder.invariant c.founder.view_is c.take_passes.ensures.logs c.take_bank_passes.ensures.logs c.requires.record c.requires.pass_records c.requires.bank_pass_records in
    let n = c.learn_rule.result in
    (n, subst (λ (b : RecordIdentity). IsRecord b.limits n (logs_of ps) (bank_logs_of ds)) c.self.view_is (record_of_passes _ n r.id two.0 _ taken.1 c.learn_rule.ensures.known.logs))
