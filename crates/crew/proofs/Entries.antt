-- What each merged entry keeps: its hart is one of the run, and an access names its bank and stands where it may.
use Rattle.std.proofs.Common.{◌≡◌, ℕ, ◌<◌, List, [], ◌∷◌, Option, None, Some, inl, inr, refl, subst, arith}
use Rattle.std.proofs.lemmas.Bool.Decides.{leb_tells}
use Rattle.flex_base.specs.Setup.{Setup}
use Rattle.flex_base.specs.declared.event.What.{What}
use Rattle.flex_base.specs.declared.event.What.TheVariants as what
use Rattle.access_record.specs.declared.entry.LogEntry.{LogEntry}
use Rattle.access_record.specs.Logs.{is_access, has_bank, AreOfHart}
use Rattle.access_record.specs.Buses.{Run, events_of, NamesPlace, NamePlaces}
use Rattle.transplant_plan.specs.Split.{Plan}
use Rattle.context.specs.Contexts.{IsPlacedIn}
use Rattle.solo.specs.Rising.{AreOfHarts}
use Rattle.crew.specs.LogsOfRun.{ArePlacedIn, AreLogsOfRun}
use Rattle.crew.proofs.Ascending.{In}
use Rattle.crew.proofs.Going.{IsHere, IsEntry}
use Rattle.crew.proofs.PlacedLogs.{log_placed}

-- An entry of a log that keeps each of these.

bank_of_it : (hart : ℕ) (e : LogEntry) (log : List LogEntry) → AreOfHart hart log → In e log → is_access e.event.what ≡ has_bank e.bank
bank_of_it hart e [] are i = absurd i
bank_of_it hart e (x ∷ log) are (inl is) = subst (λ (y : LogEntry). is_access y.event.what ≡ has_bank y.bank) is are.0.1
bank_of_it hart e (x ∷ log) are (inr i) = bank_of_it hart e log are.1 i

names_it : (run : Run) (e : LogEntry) (log : List LogEntry) → NamePlaces run log → In e log → NamesPlace run e.bank e.event.what
names_it run e [] name i = absurd i
names_it run e (x ∷ log) name (inl is) = subst (λ (y : LogEntry). NamesPlace run y.bank y.event.what) is name.0
names_it run e (x ∷ log) name (inr i) = names_it run e log name.1 i

placed_it : (setup : Setup) (e : LogEntry) (log : List LogEntry) → ArePlacedIn setup log → In e log → IsPlacedIn setup e.event.what
placed_it setup e [] placed i = absurd i
placed_it setup e (x ∷ log) placed (inl is) = subst (λ (y : LogEntry). IsPlacedIn setup y.event.what) is placed.0
placed_it setup e (x ∷ log) placed (inr i) = placed_it setup e log placed.1 i

here_by : (run : Run) (w : What) (at : Option ℕ) → is_access w ≡ has_bank at → NamesPlace run at w → IsPlacedIn run.setup w → IsHere run at w
here_by run (what.Acc access reply) at is named placed = (named, placed)
here_by run (what.End part) None is named placed = refl
here_by run (what.End part) (Some bank) is named placed = absurd cc
here_by run (what.Handover to) None is named placed = refl
here_by run (what.Handover to) (Some bank) is named placed = absurd cc

module _ (run : Run) (plan : Plan) (n : ℕ) (harts banks : ℕ → List LogEntry) (are : AreLogsOfRun run plan n harts banks) where
  -- who has an entry is a hart of the run
  below_in : (hart : ℕ) (e : LogEntry) → In e (harts hart) → hart < run.setup.harts
  below_in hart e i = elim (leb_tells run.book.limits.harts hart) [
    | inl far ↦ absurd (subst (λ (l : List LogEntry). In e l) (are.rule.no_hart hart far.1) i)
    | inr near ↦ omega (arith, near.1, are.counted)
  ]

  pub is_entry : (e : LogEntry) → In e (harts e.event.hart.0) → IsEntry run e
  is_entry e i =
      let h = e.event.hart.0 in
      let below = below_in h e i in record {
        below = below;
        here = here_by run e.event.what e.bank (bank_of_it h e (harts h) (are.rule.own h) i) (names_it run e (harts h) (are.name h below) i)
            (placed_it run.setup e (harts h) (log_placed run.setup h (harts h) are.entry (are.follow h below)) i);
      }

-- the events of such entries are of harts of the run
pub of_harts : (run : Run) (es : List LogEntry) → ((e : LogEntry) → In e es → IsEntry run e) → AreOfHarts run.setup.harts (events_of es)
of_harts run [] are = tt
of_harts run (e ∷ es) are = ((are e (inl refl)).below, of_harts run es (λ x i. are x (inr i)))
