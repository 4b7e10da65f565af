-- A journal without events has one log.
use Rattle.std.proofs.Common.{◌≡◌, ℕ, ◌<◌, zero, suc, List, [], ◌∷◌, get_or, refl, ap, subst, sym, arith}
use Rattle.std.proofs.lemmas.List.Elements.{All-nil}
use Rattle.flex_base.specs.Journal.{numbers_of}
use Rattle.flex_base.specs.declared.event.Event.{Event}
use Rattle.journal.specs.Log.{Log}
use Rattle.journal.specs.Merged.{AreLogsOf, of_hart}
use Rattle.flex_top.proofs.pieces.tests.write_lines.Goals as goal

at_empty : (log : Log) → log.events ≡ [] → (h : ℕ) (other : Log) → h < 1 → (get_or (log ∷ []) h other).events ≡ of_hart h []
unfolding of_hart
at_empty log empty zero other below = empty
at_empty log empty (suc h) other below = absurd (omega (arith, below))

none : (log : Log) → log.events ≡ [] → AreLogsOf [] (log ∷ [])
unfolding numbers_of
none log empty = record { few = omega arith; numbers = refl; harts = All-nil (λ (e : Event). e.hart.0 < 1); each = at_empty log empty }

pub by_number-events-requires : goal.by_number-events-requires
by_number-events-requires c =
    let Of : List Log → Type 0 = λ logs. AreLogsOf [] logs in
    record { logs = ([], subst Of (sym c.as_slice.ensures) (none c.in_ok-new.field-0 (ap (λ (l : Log). l.events) c.in_ok-new.ensures))) }
