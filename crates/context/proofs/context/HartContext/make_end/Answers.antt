-- The end is the one to which the hart's instruction comes, and the next one begins.
use Rattle.std.proofs.Common.{◌<◌, sym, subst, arith}
use Rattle.context.specs.Contexts.{Context, IsEnding, IsOn}
use Rattle.context.proofs.Keeping.{in_run, has_room, is_given, gained, ending_in, leads_to, makes_end, steps_end, steps_from, on_run}
use Rattle.context.proofs.context.HartContext.make_end.Goals as goal

pub finish_in_place-part-requires : goal.finish_in_place-part-requires
finish_in_place-part-requires g c =
    let On : Context → Type 0 = λ k. IsOn (g.B.Bus.run c.args.bus.now) k in
    let Ending : Context → Type 0 = λ k. IsEnding k in
    let of = (subst On (sym c.self.view_is) c.requires.on).setup in
    let end = ending_in _ _ (subst Ending (sym c.self.view_is) c.requires.ends) of in
    (_, _, end.part, end.after, in_run _ _ _ c.self.invariant c.layout_of-layout.ensures of, end.ends)

pub note-number-requires-clause-given : goal.note-number-requires-clause-given
note-number-requires-clause-given g c =
    let On : Context → Type 0 = λ k. IsOn (g.B.Bus.run c.args.bus.now) k in
    is_given _ _ c.self.invariant (subst On (sym c.self.view_is) c.requires.on)

pub push_end-requires : goal.push_end-requires
push_end-requires g c =
    let On : Context → Type 0 = λ k. IsOn (g.B.Bus.run c.args.bus.now) k in
    has_room _ _ c.self.invariant (subst On (sym c.self.view_is) c.requires.on).setup

pub invariant_of-self : goal.invariant_of-self
invariant_of-self g c =
    let On : Context → Type 0 = λ k. IsOn (g.B.Bus.run c.args.bus.now) k in
    let Ending : Context → Type 0 = λ k. IsEnding k in
    let Some : Context → Type 0 = λ k. 0 < k.left in
    let of = (subst On (sym c.self.view_is) c.requires.on).setup in
    let ending = subst Ending (sym c.self.view_is) c.requires.ends in
    let some = subst Some (sym c.self.view_is) c.requires.left in
    let gains = gained _ _ _ _ _ _ _ c.note-number.ensures.noted c.hart.ensures c.push_end.ensures in
    makes_end _ _ _ _ _ _ c.finish_in_place-part.result _ _ _ _ c.self.invariant of ending gains c.layout_of-layout.ensures
    c.finish_in_place-part.ensures.ends c.finish_in_place-part.ensures.count
    (leads_to _ _ _ _ _ c.finish_in_place-part.ensures.begun c.lead_in.ensures.same) (omega (arith, some))

pub returns-clause-one : goal.returns-clause-one
returns-clause-one g c =
    let On : Context → Type 0 = λ k. IsOn (g.B.Bus.run c.args.bus.now) k in
    let Ending : Context → Type 0 = λ k. IsEnding k in
    let Some : Context → Type 0 = λ k. 0 < k.left in
    let of = (subst On (sym c.self.view_is) c.requires.on).setup in
    let ending = subst Ending (sym c.self.view_is) c.requires.ends in
    let some = subst Some (sym c.self.view_is) c.requires.left in
    let gains = gained _ _ _ _ _ _ _ c.note-number.ensures.noted c.hart.ensures c.push_end.ensures in
    steps_from _ _ _ _ _ _ c.self.view_is
    (steps_end _ _ _ _ _ c.lead_in.new.progress _ _ _ c.finish_in_place-part.result _ _ _ c.self.invariant of ending gains
    c.note-number.ensures.history c.layout_of-layout.ensures c.finish_in_place-part.ensures.ends (omega (arith, some)))

pub returns-clause-on : goal.returns-clause-on
returns-clause-on g c =
    let On : Context → Type 0 = λ k. IsOn (g.B.Bus.run c.args.bus.now) k in
    let gains = gained _ _ _ _ _ _ _ c.note-number.ensures.noted c.hart.ensures c.push_end.ensures in
    on_run _ _ c.lead_in.new.progress _ _ _ _ _ _ _ c.self.invariant gains _ (subst On (sym c.self.view_is) c.requires.on) tt
