use Rattle.std.proofs.Common.{◌≡◌, ap, subst}
use Rattle.flex_base.specs.declared.settings.Settings.{Settings}
use Rattle.access_record.specs.Buses.{Run}
use Rattle.solo.specs.Begun.{AreBegun}
use Rattle.crew.specs.Crews.{AreVacant}
use Rattle.crew.proofs.Begun.{may_play}
use Rattle.crew.proofs.machine.begin.Goals as goal

pub invariant_of-result : goal.invariant_of-result
invariant_of-result g c =
    let run = g.N.RunName.run in
    let settings = c.args.settings.now in
    let room = c.args.room in
    let harts : run.setup.harts ≡ settings.harts = ap (λ (s : Settings). s.harts) c.requires.settings in
    let Begun : Run → Type 0 = λ r. AreBegun r room.plan settings settings.harts c.args.founder c.begin_harts-founder.result.0 c.begin_harts-founder.result.1.items in
    may_play run room.plan settings c.args.founder c.begin_harts-founder.result.0 c.begin_harts-founder.result.1.items c.lay_all-resting.result.0.items
    room.workers.items room.harts c.requires.runnable harts c.requires.founder (subst Begun c.requires.name c.begin_harts-founder.ensures.begun)
    c.lay_all-resting.ensures.resting (subst (λ n. AreVacant room.plan n room.workers.items) c.requires.harts room.vacant) c.requires.harts
