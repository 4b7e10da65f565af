use Rattle.std.proofs.Common.{◌≡◌, Some, sym, subst, true, ◌∙◌}
use Rattle.flex_base.specs.Devices.{DeviceState}
use Rattle.flex_base.specs.DeviceLaws.{is_settled, KeepsStop, IsLive, IsIdle, MovesTime}
use Rattle.flex_base.specs.declared.event.Stop.TheVariants as stop
use Rattle.flex_base.proofs.Alarms.{is_next_alarm}
use Rattle.flex_base.proofs.DeviceLaws.{keeps_stop, live_step}
use Rattle.flex_base.proofs.Idle.{idle_step}
use Rattle.flex_base.proofs.Timing.{mtime_moves, ticks_more}
use Rattle.flex_base.proofs.Waking.{settled_step}
use Rattle.devices.proofs.Replays.{reply_after_is, replay_push}
use Rattle.devices.proofs.devices.Devices.act.Goals as goal

pub returns-clause-reply : goal.returns-clause-reply
returns-clause-reply c = λ harts input made replay.
    c.make.ensures.reply ∙ reply_after_is harts input made c.args.self.now c.args.hart.0 c.args.acc.now replay

pub returns-clause-replay : goal.returns-clause-replay
returns-clause-replay c = λ harts input made replay.
    replay_push harts input made c.args.self.now c.make.new.self c.args.hart.0 c.args.acc.now c.make.result
    c.make.ensures.state c.make.ensures.left c.make.ensures.kept c.make.ensures.same.keeps replay

pub returns-clause-settled : goal.returns-clause-settled
returns-clause-settled c =
    let At : DeviceState → Type 0 = λ s. is_settled s ≡ true in
    subst At (sym c.make.ensures.state) (settled_step c.args.self.now.state c.args.hart.0 c.args.acc.now)

pub returns-clause-first : goal.returns-clause-first
returns-clause-first c =
    let At : DeviceState → Type 0 = λ s. KeepsStop c.args.self.now.state.stop s.stop in
    subst At (sym c.make.ensures.state) (keeps_stop c.args.self.now.state c.args.hart.0 c.args.acc.now)

pub returns-clause-live : goal.returns-clause-live
returns-clause-live c = λ below live.
    let At : DeviceState → Type 0 = λ s. IsLive s in
    subst At (sym c.make.ensures.state) (live_step c.args.self.now.state c.args.hart.0 c.args.acc.now below live)

pub returns-clause-idle : goal.returns-clause-idle
returns-clause-idle c = λ none.
    let At : DeviceState → Type 0 = λ s. s.stop ≡ Some stop.Idle → IsIdle s in
    subst At (sym c.make.ensures.state) (idle_step c.args.self.now.state c.args.hart.0 c.args.acc.now none)

pub returns-clause-time : goal.returns-clause-time
returns-clause-time c =
    let At : DeviceState → Type 0 = λ s. MovesTime c.args.acc.now c.args.self.now.state.mtime s.mtime in
    subst At (sym c.make.ensures.state) (mtime_moves c.args.self.now.state c.args.hart.0 c.args.acc.now)

pub returns-clause-alarm : goal.returns-clause-alarm
returns-clause-alarm c = is_next_alarm

pub returns-clause-ticks : goal.returns-clause-ticks
returns-clause-ticks c = ticks_more
