-- What a bus made of a pass goes on as the hart's story does.
use Rattle.std.proofs.Common.{◌≡◌, ℕ, List, [], ◌∷◌, ◌++◌, sym, ap, subst, ◌∙◌, Option}
use Rattle.std.proofs.lemmas.List.{map-append}
use Rattle.flex_base.specs.Following.{MayDo, Follows, instruction_of, instruction_then, first_instruction, waits_after, is_waiting}
use Rattle.flex_base.specs.declared.event.Event.{Event}
use Rattle.flex_base.specs.declared.hart.HartId.{HartId}
use Rattle.flex_base.proofs.Following.{follows_push, leads_to-push, is_waiting-push}
use Rattle.access_record.specs.declared.entry.Entry.{Entry}
use Rattle.access_record.specs.declared.entry.LogEntry.{LogEntry}
use Rattle.access_record.specs.Logs.{log_entry}
use Rattle.access_record.specs.Passes.{PassOfHart}
use Rattle.access_record.specs.Buses.{Run, events_of, NamesPlace, NamePlaces, instruction_in, waits, Extends}

pub events_of-push : (log : List LogEntry) (e : LogEntry) → events_of (log ++ e ∷ []) ≡ events_of log ++ e.event ∷ []
events_of-push log e = map-append (λ (x : LogEntry). x.event) log (e ∷ [])

pub places_push : (run : Run) (log : List LogEntry) (e : LogEntry) → NamePlaces run log → NamesPlace run e.bank e.event.what → NamePlaces run (log ++ e ∷ [])
places_push run [] e named one = (one, tt)
places_push run (x ∷ log) e named one = (named.0, places_push run log e named.1 one)

module _ (run : Run) (old new : PassOfHart) (entry : Entry) (bank : Option ℕ) (number : ℕ) (x : Extends old new entry bank number) where
  more : events_of new.log ≡ events_of old.log ++ (log_entry entry old.hart bank number).event ∷ []
  more = ap events_of x.log ∙ events_of-push old.log (log_entry entry old.hart bank number)

  -- the log follows, where the entry is what the hart may do
  pub extends-follows : Follows run.setup old.hart.0 (events_of old.log) → MayDo run.setup (instruction_in run old) entry.what
      → Follows run.setup new.hart.0 (events_of new.log)
  extends-follows follows may =
      let e = (log_entry entry old.hart bank number).event in
      let to = follows_push run.setup (first_instruction run.setup old.hart.0) (events_of old.log) e follows may in
      subst (λ (p : HartId × List Event). Follows run.setup p.0.0 p.1) (λ i. (sym x.hart i, sym more i)) to

  -- and the hart is where the entry leads
  pub extends-leads : instruction_in run new ≡ instruction_then run.setup (instruction_in run old) entry.what
  extends-leads =
      let e = (log_entry entry old.hart bank number).event in
      ap (λ (p : HartId × List Event). instruction_of run.setup p.0.0 p.1) (λ i. (x.hart i, more i))
      ∙ leads_to-push run.setup (first_instruction run.setup old.hart.0) (events_of old.log) e

  pub extends-waits : waits new ≡ waits_after (waits old) entry.what
  extends-waits = ap is_waiting more ∙ is_waiting-push (events_of old.log) (log_entry entry old.hart bank number).event

  pub extends-places : NamePlaces run old.log → NamesPlace run bank entry.what → NamePlaces run new.log
  extends-places named one = subst (NamePlaces run) (sym x.log) (places_push run old.log (log_entry entry old.hart bank number) named one)
