-- A journal of one event of the second hart has an empty log and one with the event.
use Rattle.std.proofs.Common.{◌≡◌, ℕ, ◌<◌, ◌++◌, zero, suc, List, [], ◌∷◌, get_or, refl, ap, subst, sym, ◌∙◌, arith}
use Rattle.std.proofs.lemmas.List.Elements.{All-nil, All-cons}
use Rattle.flex_base.specs.Journal.{event, numbers_of}
use Rattle.flex_base.specs.declared.engine.Engine.TheVariants as engine
use Rattle.flex_base.specs.declared.event.Event.{Event}
use Rattle.flex_base.specs.declared.event.What.TheVariants as what
use Rattle.journal.specs.Log.{Log}
use Rattle.journal.specs.Merged.{AreLogsOf, of_hart}
use Rattle.flex_top.proofs.trace_file.tests.write_small.Goals as goal

abbrev handover : Event
handover = event 0 1 engine.Pipe (what.Handover engine.Kernel)

at_two : (first second : Log) → first.events ≡ [] → second.events ≡ handover ∷ [] → (h : ℕ) (other : Log) → h < 2
    → (get_or (first ∷ second ∷ []) h other).events ≡ of_hart h (handover ∷ [])
unfolding of_hart
at_two first second none one zero other below = none
at_two first second none one (suc zero) other below = one
at_two first second none one (suc (suc h)) other below = absurd (omega (arith, below))

two : (first second : Log) → first.events ≡ [] → second.events ≡ handover ∷ [] → AreLogsOf (handover ∷ []) (first ∷ second ∷ [])
unfolding numbers_of
two first second none one = record {
  few = omega arith;
  numbers = refl;
  harts = All-cons (λ (e : Event). e.hart.0 < 2) handover [] (omega arith) (All-nil (λ (e : Event). e.hart.0 < 2));
  each = at_two first second none one;
}

pub by_number-requires : goal.by_number-requires
by_number-requires c =
    let Of : List Log → Type 0 = λ logs. AreLogsOf (handover ∷ []) logs in
    let none = ap (λ (l : Log). l.events) c.in_ok-new.ensures in
    let before = ap (λ (l : Log). l.events) c.in_ok-log.ensures in
    let one = ap (λ (l : Log). l.events) c.push.ensures ∙ ap (λ (es : List Event). es ++ handover ∷ []) before in
    record { logs = (handover ∷ [], subst Of (sym c.as_slice.ensures) (two c.in_ok-new.field-0 c.push.new.self none one)) }
