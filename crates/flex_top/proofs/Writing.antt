-- The text that is written is the trace of the run that was played, and what is known of each run.
use Rattle.std.proofs.Common.{◌≡◌, ℕ, ◌<◌, List, Some, ap, sym, ◌∙◌}
use Rattle.flex_base.specs.Setup.{Setup}
use Rattle.flex_base.specs.Devices.{sent_bytes}
use Rattle.transplant_plan.specs.Shown.{shown}
use Rattle.transplant_plan.specs.declared.plan.Plan as declared
use Rattle.flex_base.specs.Unsplit.{Machine, unsplit, reach, has_ended}
use Rattle.flex_base.specs.declared.event.Event.{Event}
use Rattle.flex_base.specs.Rounds.{names_played}
use Rattle.transplant_plan.specs.Split.{Plan, split}
use Rattle.flex_base.specs.Journal.{IsLegal, order_of, console, sent, strip}
use Rattle.flex_base.proofs.Console.{sent_devices}
use Rattle.transplant_plan.proofs.Splits.{reach-order_of, split_legal, strip-split-unsplit}
use Rattle.transplant_plan.proofs.Obeying.{split_obeys}
use Rattle.flex_base.proofs.EndOfRun.{run_goes_on}
use Rattle.transplant_plan.proofs.Splits.{console_devices}
use Rattle.flex_top.specs.Words.{Reading}
use Rattle.flex_top.specs.Answer.{journal_of, trace_of, IsWhole, outcome_with, outcome_of_run, IsLeft, SplitsAlike}
use Rattle.flex_top.specs.Ended.{outcome_at}
use Rattle.tracer.specs.Trace.{settings_of, tail_of, whole_text, trace_text}

-- the trace of a run is the header, a line of each event of its journal, and the tail of the state to which it leads
trace_text_is : (plan : Plan) (setup : Setup) (order : List ℕ)
    → trace_of plan setup order ≡ whole_text (settings_of setup) (journal_of plan setup order) (tail_of setup (reach setup (names_played setup order)))
unfolding trace_of trace_text journal_of
trace_text_is plan setup order =
    ap (λ m. whole_text (settings_of setup) (journal_of plan setup order) (tail_of setup m)) (reach-order_of setup plan (names_played setup order))

-- its console bytes are those that the devices have sent
pub console_is : (plan : Plan) (setup : Setup) (order : List ℕ) → console (journal_of plan setup order) ≡ sent_bytes (reach setup (names_played setup order)).devices
unfolding journal_of
console_is plan setup order = console_devices setup plan (names_played setup order)

-- a journal of a state: what was done, split by the plan
abbrev pub split_of : declared.Plan → Setup → Machine → List Event
split_of plan setup u = split (shown plan).engines setup.harts u.events

-- what is left by a run that was played is its outcome
pub outcome_is : (plan : declared.Plan) (r : Reading) (setup : Setup)
    → outcome_at (split_of plan setup (reach setup (names_played setup r.order))) setup (reach setup (names_played setup r.order)) r.trace ≡ outcome_of_run r (shown plan).engines setup
unfolding journal_of
outcome_is plan r setup =
    let engines = (shown plan).engines in
    let u = reach setup (names_played setup r.order) in
    ap (λ (said : List ℕ). outcome_with said r.trace (whole_text (settings_of setup) (split engines setup.harts u.events) (tail_of setup u))) (sym (console_is engines setup r.order))
    ∙ ap (outcome_with (console (journal_of engines setup r.order)) r.trace) (sym (trace_text_is engines setup r.order))

-- what is left where a legal journal leads is its console bytes and its trace
pub outcome_legal : (setup : Setup) (journal : List Event) (name : List ℕ) → IsLegal setup journal
    → outcome_at journal setup (reach setup (order_of journal)) name ≡ outcome_with (console journal) name (trace_text setup journal)
unfolding trace_text
outcome_legal setup journal name legal =
    let bytes = ap sent legal.events ∙ sent_devices setup (order_of journal) in
    ap (λ (said : List ℕ). outcome_with said name (trace_text setup journal)) (sym bytes)

-- each run with a hart is whole
pub run_whole : (plan : Plan) (setup : Setup) (order : List ℕ) → 0 < setup.harts → IsWhole plan setup order
unfolding journal_of
run_whole plan setup order some = record {
  legal = split_legal setup plan (names_played setup order);
  obeys = split_obeys setup plan (names_played setup order);
  ended = ap (has_ended setup) (reach-order_of setup plan (names_played setup order)) ∙ (run_goes_on setup order some).ends;
}

-- Two plans.

-- without handovers, engines and numbers a journal is what the unsplit machine does
stripped : (plan : Plan) (setup : Setup) (order : List ℕ) → strip (journal_of plan setup order) ≡ unsplit setup (names_played setup order)
unfolding journal_of
stripped plan setup order = strip-split-unsplit setup plan (names_played setup order)

-- what is left by the run of a plan
left_is : (r : Reading) (setup : Setup) (plan : Plan)
    → IsLeft r setup (outcome_of_run r plan setup) (sent_bytes (reach setup (names_played setup r.order)).devices) (journal_of plan setup r.order) (tail_of setup (reach setup (names_played setup r.order)))
left_is r setup plan = record {
  said_is = console_is plan setup r.order;
  file_is = ap (λ (text : List ℕ). Some (r.trace, text)) (trace_text_is plan setup r.order);
}

pub splits_alike : (r : Reading) (setup : Setup) (one other : Plan) → SplitsAlike r setup one other
splits_alike r setup one other = record {
  said = sent_bytes (reach setup (names_played setup r.order)).devices;
  tail = tail_of setup (reach setup (names_played setup r.order));
  left = left_is r setup one;
  other_left = left_is r setup other;
  events = stripped one setup r.order ∙ sym (stripped other setup r.order);
}
