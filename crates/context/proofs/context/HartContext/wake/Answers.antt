-- A parked hart makes its pulse, or has looked.
use Rattle.std.proofs.Common.{false, refl, sym, subst}
use Rattle.flex_base.specs.declared.access.Access.TheVariants as acc
use Rattle.context.specs.declared.wants.Wants.TheVariants as wants
use Rattle.context.specs.Contexts.{Context, IsWanting, IsOn}
use Rattle.context.proofs.Keeping.{in_run, has_room, is_given, gained, parked_asks, is_waiting_in, makes_pulse, is_woken, looks_keep, on_run}
use Rattle.context.proofs.context.HartContext.wake.Goals as goal

pub wake-requires-clause-given : goal.wake-requires-clause-given
wake-requires-clause-given g c =
    let On : Context → Type 0 = λ k. IsOn (g.B.Bus.run c.args.bus.now) k in
    is_given _ _ c.self.invariant (subst On (sym c.self.view_is) c.requires.on)

pub wake-requires-clause-waits : goal.wake-requires-clause-waits
wake-requires-clause-waits g c =
    let On : Context → Type 0 = λ k. IsOn (g.B.Bus.run c.args.bus.now) k in
    let Parked : Context → Type 0 = λ k. IsWanting k wants.Parked in
    is_waiting_in _ _ c.self.invariant (subst On (sym c.self.view_is) c.requires.on).setup (subst Parked (sym c.self.view_is) c.requires.parked)

pub wake-requires-clause-engine : goal.wake-requires-clause-engine
wake-requires-clause-engine g c =
    let On : Context → Type 0 = λ k. IsOn (g.B.Bus.run c.args.bus.now) k in
    let Parked : Context → Type 0 = λ k. IsWanting k wants.Parked in
    (c.self.invariant.told (is_waiting_in _ _ c.self.invariant (subst On (sym c.self.view_is) c.requires.on).setup
    (subst Parked (sym c.self.view_is) c.requires.parked))).0

pub invariant_of-self-in-None : goal.invariant_of-self-in-None
invariant_of-self-in-None g c = looks_keep _ _ c.self.invariant c.in-None.ensures.looked

pub give-requires : goal.give-requires
give-requires g c =
    let On : Context → Type 0 = λ k. IsOn (g.B.Bus.run c.args.bus.now) k in
    let Parked : Context → Type 0 = λ k. IsWanting k wants.Parked in
    let of = (subst On (sym c.self.view_is) c.requires.on).setup in
    let parked = subst Parked (sym c.self.view_is) c.requires.parked in (
      _,
      _,
      acc.Pulse false,
      in_run _ _ _ c.self.invariant c.layout_of-layout.ensures of,
      parked_asks _ _ c.self.invariant of parked,
      c.in-Some.ensures.form,
    )

pub push_access-requires : goal.push_access-requires
push_access-requires g c =
    let On : Context → Type 0 = λ k. IsOn (g.B.Bus.run c.args.bus.now) k in
    has_room _ _ c.self.invariant (subst On (sym c.self.view_is) c.requires.on).setup

pub invariant_of-self : goal.invariant_of-self
invariant_of-self g c =
    let On : Context → Type 0 = λ k. IsOn (g.B.Bus.run c.args.bus.now) k in
    let Parked : Context → Type 0 = λ k. IsWanting k wants.Parked in
    let of = (subst On (sym c.self.view_is) c.requires.on).setup in
    let parked = subst Parked (sym c.self.view_is) c.requires.parked in
    let gains = gained _ _ _ _ _ _ _ c.in-Some.ensures.woken c.hart.ensures c.push_access.ensures in
    makes_pulse _ _ _ _ c.in-Some.reply _ _ _ _ c.self.invariant of parked c.in-Some.ensures.form c.in-Some.ensures.value gains
    c.layout_of-layout.ensures c.give.ensures.reached

pub returns-in-Some-clause-one : goal.returns-in-Some-clause-one
returns-in-Some-clause-one g c =
    let On : Context → Type 0 = λ k. IsOn (g.B.Bus.run c.args.bus.now) k in
    let Parked : Context → Type 0 = λ k. IsWanting k wants.Parked in
    let of = (subst On (sym c.self.view_is) c.requires.on).setup in
    let waited = is_waiting_in _ _ c.self.invariant of (subst Parked (sym c.self.view_is) c.requires.parked) in
    let gains = gained _ _ _ _ _ _ _ c.in-Some.ensures.woken c.hart.ensures c.push_access.ensures in
    is_woken _ _ _ _ _ c.give.new.progress _ _ c.in-Some.reply _ _ c.self.view_is c.self.invariant waited c.in-Some.ensures.form c.in-Some.ensures.value gains c.in-Some.ensures.history

pub returns-in-Some-clause-on : goal.returns-in-Some-clause-on
returns-in-Some-clause-on g c =
    let On : Context → Type 0 = λ k. IsOn (g.B.Bus.run c.args.bus.now) k in
    let gains = gained _ _ _ _ _ _ _ c.in-Some.ensures.woken c.hart.ensures c.push_access.ensures in
    on_run _ _ c.give.new.progress _ _ _ _ _ _ _ c.self.invariant gains _ (subst On (sym c.self.view_is) c.requires.on) refl
