-- Merged logs are a run.
use Rattle.std.proofs.Common.{◌≡◌, ℕ, List, length, refl, sym, ap, ◌∙◌, subst}
use Rattle.std.specs.List.{range_with_len}
use Rattle.std.proofs.lemmas.List.{length-map}
use Rattle.flex_base.specs.Unsplit.{Machine, begin, reach, reach_from}
use Rattle.flex_base.specs.Journal.{IsLegal, numbers_of, order_of, strip}
use Rattle.flex_base.specs.Merging.{merge}
use Rattle.flex_base.specs.declared.event.Event.{Event}
use Rattle.access_record.specs.declared.entry.LogEntry.{LogEntry}
use Rattle.access_record.specs.Logs.{of_hart, on_bank}
use Rattle.access_record.specs.Buses.{Run, events_of}
use Rattle.transplant_plan.specs.Split.{Plan}
use Rattle.journal.specs.Merged as journals
use Rattle.solo.proofs.HartParts.{all_of_harts}
use Rattle.crew.specs.Merging.{entries_of, merged}
use Rattle.crew.specs.LogsOfRun.{AreLogsOfRun, IsStateOf, IsRunOf, journal_of}
use Rattle.crew.proofs.Ascending.{In}
use Rattle.crew.proofs.Numbered.{IsMergeOf, is_merge, numbers_counted, merge_events}
use Rattle.crew.proofs.Parts.{part_of_hart, part_of_bank}
use Rattle.crew.proofs.Steps.{harts_of}
use Rattle.crew.proofs.Going.{IsEntry, AreLeft, Lead, after, all_lead}
use Rattle.crew.proofs.Entries.{is_entry, of_harts}
use Rattle.crew.proofs.ObeyingMerged.{part_events, parts_obey}
use Rattle.crew.proofs.EndState.{all_left, is_state}

order_is : (events : List Event) → order_of events ≡ harts_of (strip events)
unfolding order_of
order_is events = refl

module _ (run : Run) (plan : Plan) (n : ℕ) (harts banks : ℕ → List LogEntry) (are : AreLogsOfRun run plan n harts banks) where
  abbrev es : List LogEntry
  es = merged n (entries_of run.book.limits.harts harts)

  are_merged : IsMergeOf n harts es
  are_merged = is_merge run.book.limits n harts banks are.rule

  entries : (e : LogEntry) → In e es → IsEntry run e
  entries e i = is_entry run plan n harts banks are e (are_merged.each e i)

  hart_parts : (hart : ℕ) → of_hart hart es ≡ harts hart
  hart_parts hart = part_of_hart run.book.limits n harts banks hart are.rule

  bank_parts : (bank : ℕ) → on_bank bank es ≡ banks bank
  bank_parts bank = part_of_bank run.book.limits n harts banks bank are.rule

  left : AreLeft run (begin run.setup) es
  left = all_left run plan n harts banks are es entries hart_parts bank_parts

  lead : Lead run (begin run.setup) (after run (begin run.setup) es) es
  lead = all_lead run are.some es (begin run.setup) left

  journal_is : journal_of run n harts ≡ events_of es
  unfolding journal_of
  journal_is = ap (λ (k : ℕ). merge n (events_of (entries_of k harts))) (sym are.counted) ∙ merge_events n (entries_of run.book.limits.harts harts)

  numbers : numbers_of (events_of es) ≡ range_with_len 0 (length (events_of es))
  numbers = numbers_counted 0 es are_merged.numbers

  reached : reach run.setup (order_of (events_of es)) ≡ after run (begin run.setup) es
  reached = ap (reach_from run.setup (begin run.setup)) (order_is (events_of es))

  legal : IsLegal run.setup (events_of es)
  legal = record {
    numbers = numbers;
    events = sym (ap (λ (m : Machine). m.events) reached ∙ lead.events);
  }

  parts : (hart : ℕ) → journals.of_hart hart (events_of es) ≡ events_of (harts hart)
  parts hart = part_events hart es ∙ ap events_of (hart_parts hart)

  state : IsStateOf run harts banks (reach run.setup (order_of (events_of es)))
  state =
      let Of : Machine → Type 0 = λ m. IsStateOf run harts banks m in
      subst Of (sym reached) (is_state run plan n harts banks are es entries hart_parts bank_parts (after run (begin run.setup) es) lead)

  is_run : IsRunOf run plan n harts banks (events_of es)
  is_run = record {
    legal = legal;
    obeys = parts_obey run plan n harts banks are (events_of es) parts;
    counted = length-map es (λ (e : LogEntry). e.event) ∙ are_merged.all;
    of_run = all_of_harts run.setup.harts (events_of es) (of_harts run es entries);
    parts = parts;
    part_counted = λ hart. ap length (parts hart) ∙ length-map (harts hart) (λ (e : LogEntry). e.event);
    state = state;
  }

pub logs_run : (run : Run) (plan : Plan) (n : ℕ) (harts banks : ℕ → List LogEntry) → AreLogsOfRun run plan n harts banks
    → IsRunOf run plan n harts banks (journal_of run n harts)
logs_run run plan n harts banks are =
    let Is : List Event → Type 0 = λ journal. IsRunOf run plan n harts banks journal in
    subst Is (sym (journal_is run plan n harts banks are)) (is_run run plan n harts banks are)
