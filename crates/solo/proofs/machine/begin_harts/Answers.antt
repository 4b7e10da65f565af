-- One hart more is enrolled, and its context is made with the last of the logs.
use Rattle.std.proofs.Common.{rules, ◌≡◌, ◌-◌, ◌+◌, ℕ, List, length, ap, sym, subst, ◌∙◌, arith}
use Rattle.std.specs.Prelude.{vec_len}
use Rattle.std.proofs.lemmas.List.{length-replicate}
use Rattle.access_record.specs.Rule.{occurrences}
use Rattle.access_record.specs.Passes.{new_pass}
use Rattle.journal.specs.Log.{Log}
use Rattle.context.specs.Contexts.{Context}
use Rattle.mem_banks.proofs.Plains.{none_above}
use Rattle.solo.specs.Begun.{AreBegun}
use Rattle.solo.specs.Room.{are_empty}
use Rattle.solo.proofs.Beginning.{is_begun, begun_more, logs_left}
use Rattle.solo.proofs.machine.begin_harts.Goals as goal

pub enrol-next-requires-clause-not_yet : goal.enrol-next-requires-clause-not_yet
enrol-next-requires-clause-not_yet c =
    ap (occurrences c.loop-h.h) c.loop-h.invariant.0.enrolled ∙ none_above c.loop-h.h c.loop-h.h (omega arith)

pub loop-h-preserved : goal.loop-h-preserved
loop-h-preserved c =
    let run = c.args.bus.now.run in
    let settings = c.args.settings.now in
    let plan = c.args.plan in
    let h = c.loop-h.h in
    let (begun, same, within, logs, logs_room, room, kept) = c.loop-h.invariant in
    let pass_is = c.enrol-next.ensures.pass ∙ ap (λ id. new_pass id (record { 0 = h })) (begun.id ∙ c.requires.founder.0) in
    let one = is_begun run plan settings h c.args.entry c.start-hart.result c.enrol-next.result.1 c.in-Some.log c.new.result c.start-hart.ensures pass_is
    c.requires.entry c.requires.run c.new.ensures.context c.new.ensures.entry (λ id of. c.new.ensures.on run id of c.requires.limits.1) in
    let Begun : List Context → Type 0 = λ made. AreBegun run plan settings (h + 1) c.args.founder c.enrol-next.result.0 made in
    let counted : vec_len c.loop-h.logs ≡ settings.harts - h = c.loop-h.logs.ok.0 ∙ ap (λ (ls : List Log). length ls) logs ∙ length-replicate (settings.harts - h) _ in
    let left : vec_len c.loop-h.logs - 1 ≡ settings.harts - (h + 1) = omega (arith, counted) in (
      subst Begun (sym c.push_reserved.ensures.items)
          (begun_more run plan settings h c.args.founder c.loop-h.founder c.enrol-next.result.0 c.loop-h.contexts.items c.new.result begun c.enrol-next.ensures.founder one),
      c.enrol-next.ensures.same ∙ same,
      omega (arith, c.loop-h-test.true),
      c.pop.ensures.rest ∙ logs_left settings (settings.harts - h) (vec_len c.loop-h.logs - 1) c.loop-h.logs.items logs (omega (arith, counted)) ∙ ap (are_empty settings) left,
      c.pop.ensures.capacity ∙ logs_room,
      search rules,
      search rules,
    )

pub returns-clause-begun : goal.returns-clause-begun
returns-clause-begun c =
    let all : c.loop-h.h ≡ c.args.settings.now.harts = omega (arith, c.loop-h-test.false, c.loop-h.invariant.2) in
    let Begun : ℕ → Type 0 = λ n. AreBegun c.args.bus.now.run c.args.plan c.args.settings.now n c.args.founder c.loop-h.founder c.loop-h.contexts.items in
    subst Begun all c.loop-h.invariant.0
