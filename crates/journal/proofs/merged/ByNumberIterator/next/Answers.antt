use Rattle.std.proofs.Common.{◌≡◌, ℕ, ◌+◌, ◌<◌, ◌%◌, ◌^◌, true, List, [], ◌∷◌, map, set, get_or, length, ◌∙◌, sym, ap, subst, arith, rules}
use Rattle.std.specs.Prelude.{Some}
use Rattle.std.proofs.lemmas.List.{get_or-map, length-map, map-set}
use Rattle.flex_base.specs.declared.event.Event.{Event}
use Rattle.journal.specs.Rests.{IsByNumber, begins_with, events_left, merged}
use Rattle.journal.proofs.Rests.{none_left, taken, yields_next}
use Rattle.journal.proofs.merged.ByNumberIterator.next.Goals as goal

pub returns-in_default : goal.returns-in_default
returns-in_default c =
    let i = c.self.invariant in
    let none : c.args.self.now ≡ [] = sym c.self.view_is ∙ none_left _ _ _ _ i (c.place_of.ensures.none c.in_default.is) in
    record { steps = (none, none); goes = search rules }

-- the event is the first that is left, and the rest is kept
next : (c : goal.After-take_first) → (x : Event) × (c.take_first.result ≡ Some x)
    × (merged (map events_left c.self.inside.rests) ≡ x ∷ merged (map events_left (set c.self.inside.rests c.in-Some.at c.take_first.new.self)))
    × IsByNumber (map events_left (set c.self.inside.rests c.in-Some.at c.take_first.new.self)) c.self.inside.count c.in-Some.at ((c.self.inside.number + 1) % 2 ^ 64)
next c =
    let i = c.self.invariant in
    let rests = map events_left c.self.inside.rests in
    let at : ℕ = c.in-Some.at in
    let within : at < length c.self.inside.rests = omega (arith, i.size, length-map c.self.inside.rests events_left, c.in-Some.ensures.within) in
    let its = get_or-map events_left c.self.inside.rests at _ [] within in
    let begins : begins_with c.self.inside.number (get_or rests at []) ≡ true = c.in-Some.ensures.found in
    let (x, is, first) = yields_next c.self.inside.number _ _ c.take_first.result c.take_first.ensures (sym (ap (begins_with c.self.inside.number) its) ∙ begins) in
    let (all, keeps) = taken rests _ _ _ i at x (events_left c.take_first.new.self) c.in-Some.ensures.within begins (its ∙ first) in
    let new : set rests at (events_left c.take_first.new.self) ≡ map events_left (set c.self.inside.rests at c.take_first.new.self) =
    sym (map-set events_left c.self.inside.rests at c.take_first.new.self) in (
      x,
      is,
      all ∙ ap (λ (rs : List (List Event)). x ∷ merged rs) new,
      subst (λ (rs : List (List Event)). IsByNumber rs c.self.inside.count at ((c.self.inside.number + 1) % 2 ^ 64)) new keeps,
    )

pub invariant_of-self : goal.invariant_of-self
invariant_of-self c = let (x, is, all, keeps) = next c in keeps

pub returns-clause-steps : goal.returns-clause-steps
returns-clause-steps c = let (x, is, all, keeps) = next c in rw is (sym c.self.view_is ∙ all)

pub returns-clause-goes : goal.returns-clause-goes
returns-clause-goes c = let steps = returns-clause-steps c in search rules
