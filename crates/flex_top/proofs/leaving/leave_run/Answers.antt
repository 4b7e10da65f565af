-- The console's bytes, the events and the lines after them are those of the state in which the run has ended.
use Rattle.std.proofs.Common.{◌≡◌, List, ap, sym, subst, ◌∙◌}
use Rattle.std.specs.Prelude.{OnOk, OnErr}
use Rattle.flex_base.specs.Setup.{Setup}
use Rattle.flex_base.specs.Unsplit.{Machine}
use Rattle.flex_base.specs.declared.event.Event.{Event}
use Rattle.flex_base.specs.declared.settings.Settings.{Settings}
use Rattle.devices.specs.View.{IsReplay}
use Rattle.mem_banks.specs.End.{Memory}
use Rattle.mem_banks.specs.declared.ended.Ended.{Ended}
use Rattle.solo.specs.End.{IsEndOf}
use Rattle.tracer.specs.Trace.{settings_of, whole_text}
use Rattle.flex_top.specs.Answer.{Outcome, outcome_with}
use Rattle.flex_top.specs.Does.{Leaves, LeavesPart}
use Rattle.flex_top.specs.Ended.{outcome_at}
use Rattle.flex_top.proofs.Ended.{logs_left, banks_left, tail_left, outcome_left}
use Rattle.flex_top.proofs.leaving.leave_run.Given.{Over}
use Rattle.flex_top.proofs.leaving.leave_run.Goals as goal

pub by_number-requires : goal.by_number-requires
by_number-requires g c =
    let (journal, setup, u, of, end) = c.requires.ended in
    record { logs = (_, logs_left journal setup u c.args.ended.now end c.deref-3.result.now (c.deref-3.ensures.value ∙ ap (λ (e : Ended). e.logs.items) c.ended.view_is)) }

left_is : (g : Over) (c : goal.After-leave g) (journal : List Event) (setup : Setup) (u : Machine) → settings_of setup ≡ c.args.command.now.settings → IsEndOf setup journal u c.args.ended.now
    → outcome_with c.console.result.now c.args.command.now.trace.now (whole_text c.args.command.now.settings c.by_number.result c.lines.result.now) ≡ outcome_at journal setup u c.args.command.now.trace.now
left_is g c journal setup u of end =
    let ended = c.args.ended.now in
    let is = c.ended.view_is in
    let logs = logs_left journal setup u ended end c.deref-3.result.now (c.deref-3.ensures.value ∙ ap (λ (e : Ended). e.logs.items) is) in
    let banks = banks_left journal setup u ended end c.deref.result.now (c.deref.ensures.value ∙ ap (λ (e : Ended). e.memory.lines) is) in
    let digested = c.ram_digest-digest.ensures setup u (ap (λ (s : Settings). s.ram) of) banks in
    let tail = tail_left journal setup u ended end _ c.deref-2.result.now c.ram_digest-digest.result c.fill.new.self (ap (λ (e : Ended). e.stop) is) (c.deref-2.ensures.value ∙ ap (λ (e : Ended). e.harts.items) is) digested c.fill.ensures in
    let Replay : Memory → Type 0 = λ m. IsReplay setup.harts setup.input u.devices m.devices in
    let replay = subst Replay (sym (ap (λ (e : Ended). e.memory) is)) end.memory.devices in
    let console = c.console.ensures.sent setup.harts setup.input u.devices replay (ap (λ (e : Ended). e.memory.devices.console.keeps) is ∙ end.memory.keeps) in
    outcome_left journal setup u c.args.command.now.settings c.args.command.now.trace.now c.console.result.now c.by_number.result c.lines.result.now of console (c.by_number.ensures _ logs) (c.lines.ensures ∙ tail)

pub returns-clause-ok : goal.returns-clause-ok
returns-clause-ok g c = λ journal setup u of end.
    let All : Outcome → Type 0 = λ o. OnOk c.leave.result (Leaves o (g.O.Outer.outside c.args.outer.now) (g.O.Outer.outside c.leave.new.outer)) in
    subst All (left_is g c journal setup u of end) c.leave.ensures.ok

pub returns-clause-err : goal.returns-clause-err
returns-clause-err g c = λ journal setup u of end.
    let Part : Outcome → Type 0 = λ o. OnErr c.leave.result (LeavesPart o (g.O.Outer.outside c.args.outer.now) (g.O.Outer.outside c.leave.new.outer)) in
    subst Part (left_is g c journal setup u of end) c.leave.ensures.err
