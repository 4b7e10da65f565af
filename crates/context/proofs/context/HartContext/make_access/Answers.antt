-- The access is the hart's next event, and the reply leads on.
use Rattle.std.proofs.Common.{refl, sym, subst}
use Rattle.flex_base.proofs.ParkedStories.{asks-waiting}
use Rattle.flex_base.proofs.SentLogs.{asks-bytes}
use Rattle.hart_story.proofs.Needing.{wants_asked}
use Rattle.context.specs.Contexts.{Context, IsAsking, IsOn}
use Rattle.context.proofs.Keeping.{in_run, has_room, is_given, gained, makes_access, steps_access, steps_from, on_run}
use Rattle.context.proofs.context.HartContext.make_access.Goals as goal

pub access-number-requires-clause-given : goal.access-number-requires-clause-given
access-number-requires-clause-given g c =
    let On : Context → Type 0 = λ k. IsOn (g.B.Bus.run c.args.bus.now) k in
    is_given _ _ c.self.invariant (subst On (sym c.self.view_is) c.requires.on)

pub access-number-requires-clause-wanted : goal.access-number-requires-clause-wanted
access-number-requires-clause-wanted g c =
    let On : Context → Type 0 = λ k. IsOn (g.B.Bus.run c.args.bus.now) k in
    let Asking : Context → Type 0 = λ k. IsAsking k c.args.access in
    (subst Asking (sym c.self.view_is) c.requires.asks).asks _ (subst On (sym c.self.view_is) c.requires.on).setup

pub access-number-requires-clause-placed : goal.access-number-requires-clause-placed
access-number-requires-clause-placed g c = c.requires.asks.placed _ c.requires.on.setup

pub access-number-requires-clause-awake : goal.access-number-requires-clause-awake
access-number-requires-clause-awake g c =
    let On : Context → Type 0 = λ k. IsOn (g.B.Bus.run c.args.bus.now) k in
    let Asking : Context → Type 0 = λ k. IsAsking k c.args.access in
    let of = (subst On (sym c.self.view_is) c.requires.on).setup in
    asks-waiting _ _ _ _ (c.self.invariant.stands _ of).follows ((subst Asking (sym c.self.view_is) c.requires.asks).asks _ of)

pub access-number-requires-clause-console : goal.access-number-requires-clause-console
access-number-requires-clause-console g c =
    let On : Context → Type 0 = λ k. IsOn (g.B.Bus.run c.args.bus.now) k in
    let Asking : Context → Type 0 = λ k. IsAsking k c.args.access in
    let of = (subst On (sym c.self.view_is) c.requires.on).setup in
    asks-bytes _ _ _ _ (c.self.invariant.stands _ of).follows ((subst Asking (sym c.self.view_is) c.requires.asks).asks _ of)

pub give-requires : goal.give-requires
give-requires g c =
    let On : Context → Type 0 = λ k. IsOn (g.B.Bus.run c.args.bus.now) k in
    let Asking : Context → Type 0 = λ k. IsAsking k c.args.access in
    let of = (subst On (sym c.self.view_is) c.requires.on).setup in
    let asks = (subst Asking (sym c.self.view_is) c.requires.asks).asks _ of in (
      _,
      _,
      c.args.access,
      in_run _ _ _ c.self.invariant c.layout_of-layout.ensures of,
      wants_asked _ _ asks,
      c.access-number.ensures.form,
    )

pub push_access-requires : goal.push_access-requires
push_access-requires g c =
    let On : Context → Type 0 = λ k. IsOn (g.B.Bus.run c.args.bus.now) k in
    has_room _ _ c.self.invariant (subst On (sym c.self.view_is) c.requires.on).setup

pub invariant_of-self : goal.invariant_of-self
invariant_of-self g c =
    let On : Context → Type 0 = λ k. IsOn (g.B.Bus.run c.args.bus.now) k in
    let Asking : Context → Type 0 = λ k. IsAsking k c.args.access in
    let of = (subst On (sym c.self.view_is) c.requires.on).setup in
    let asking = subst Asking (sym c.self.view_is) c.requires.asks in
    let gains = gained _ _ _ _ _ _ _ c.access-number.ensures.noted c.hart.ensures c.push_access.ensures in
    makes_access _ _ _ _ c.args.access c.access-number.result.1 _ _ _ _ c.self.invariant of asking c.access-number.ensures.form gains
    c.layout_of-layout.ensures c.give.ensures.reached

pub returns-clause-one : goal.returns-clause-one
returns-clause-one g c =
    let On : Context → Type 0 = λ k. IsOn (g.B.Bus.run c.args.bus.now) k in
    let Asking : Context → Type 0 = λ k. IsAsking k c.args.access in
    let of = (subst On (sym c.self.view_is) c.requires.on).setup in
    let asking = subst Asking (sym c.self.view_is) c.requires.asks in
    let gains = gained _ _ _ _ _ _ _ c.access-number.ensures.noted c.hart.ensures c.push_access.ensures in
    steps_from _ _ _ _ _ _ c.self.view_is
    (steps_access _ _ _ _ c.give.new.progress _ _ c.args.access c.access-number.result.1 _ _ c.self.invariant of asking c.access-number.ensures.form gains c.access-number.ensures.history)

pub returns-clause-on : goal.returns-clause-on
returns-clause-on g c =
    let On : Context → Type 0 = λ k. IsOn (g.B.Bus.run c.args.bus.now) k in
    let gains = gained _ _ _ _ _ _ _ c.access-number.ensures.noted c.hart.ensures c.push_access.ensures in
    on_run _ _ c.give.new.progress _ _ _ _ _ _ _ c.self.invariant gains _ (subst On (sym c.self.view_is) c.requires.on) refl
