-- A handover goes to the engine of what the hart wants, and none stands before it.
use Rattle.std.proofs.Common.{◌≢◌, sym, subst}
use Rattle.context.specs.Contexts.{Context, IsWantedIn, IsOn}
use Rattle.context.proofs.Keeping.{has_room, is_given, gained, makes_handover, moves_to, on_run}
use Rattle.context.proofs.context.HartContext.move_to.Goals as goal

pub note-number-requires-clause-given : goal.note-number-requires-clause-given
note-number-requires-clause-given g c =
    let On : Context → Type 0 = λ k. IsOn (g.B.Bus.run c.args.bus.now) k in
    is_given _ _ c.self.invariant (subst On (sym c.self.view_is) c.requires.on)

pub push-requires : goal.push-requires
push-requires g c =
    let On : Context → Type 0 = λ k. IsOn (g.B.Bus.run c.args.bus.now) k in
    has_room _ _ c.self.invariant (subst On (sym c.self.view_is) c.requires.on).setup

pub invariant_of-self : goal.invariant_of-self
invariant_of-self g c =
    let On : Context → Type 0 = λ k. IsOn (g.B.Bus.run c.args.bus.now) k in
    let Wanted : Context → Type 0 = λ k. IsWantedIn k c.args.to in
    let Other : Context → Type 0 = λ k. c.args.to ≢ k.engine in
    let of = (subst On (sym c.self.view_is) c.requires.on).setup in
    let gains = gained _ _ _ _ _ _ _ c.note-number.ensures.noted c.hart.ensures c.push.ensures in
    makes_handover _ _ _ c.args.to _ _ _ c.self.invariant of (subst Wanted (sym c.self.view_is) c.requires.wanted)
    (subst Other (sym c.self.view_is) c.requires.other) gains

pub returns-clause-one : goal.returns-clause-one
returns-clause-one g c =
    let gains = gained _ _ _ _ _ _ _ c.note-number.ensures.noted c.hart.ensures c.push.ensures in
    moves_to _ _ _ _ _ _ _ c.args.to _ _ c.self.view_is c.self.invariant gains c.note-number.ensures.history

pub returns-clause-on : goal.returns-clause-on
returns-clause-on g c =
    let On : Context → Type 0 = λ k. IsOn (g.B.Bus.run c.args.bus.now) k in
    let gains = gained _ _ _ _ _ _ _ c.note-number.ensures.noted c.hart.ensures c.push.ensures in
    on_run _ _ _ _ _ c.args.to _ _ _ _ c.self.invariant gains _ (subst On (sym c.self.view_is) c.requires.on) tt
