-- A hart's part of the journal is its log, so the journal obeys the plan that each log obeys.
use Rattle.std.proofs.Common.{◌≡◌, ℕ, ◌==◌, Bool, true, false, cond, List, [], ◌∷◌, inl, inr, refl, sym, ap, ◌∙◌, subst, arith}
use Rattle.std.specs.List.{filter}
use Rattle.std.proofs.lemmas.Bool.Decides.{leb_tells}
use Rattle.flex_base.specs.declared.class.Class.TheVariants as class
use Rattle.flex_base.specs.declared.engine.Engine.{Engine}
use Rattle.flex_base.specs.declared.event.Event.{Event}
use Rattle.flex_base.specs.declared.event.What.{What}
use Rattle.access_record.specs.declared.entry.LogEntry.{LogEntry}
use Rattle.access_record.specs.Logs as logs
use Rattle.access_record.specs.Buses.{Run, events_of}
use Rattle.transplant_plan.specs.Split.{Plan, moves_of, ByPlan, Nothing, Obeys}
use Rattle.context.specs.Obeying.{moves}
use Rattle.journal.specs.Merged.{of_hart}
use Rattle.crew.specs.LogsOfRun.{AreLogsOfRun}

part_filter : (hart : ℕ) (es : List LogEntry) → filter (λ (e : Event). e.hart.0 == hart) (events_of es) ≡ events_of (filter (logs.names_hart hart) es)
part_filter hart [] = refl
part_filter hart (e ∷ es) = by (e.event.hart.0 == hart) (part_filter hart es)
  where
    rest : List Event
    rest = filter (λ (x : Event). x.hart.0 == hart) (events_of es)

    by : (b : Bool) → filter (λ (x : Event). x.hart.0 == hart) (events_of es) ≡ events_of (filter (logs.names_hart hart) es)
        → cond b (e.event ∷ filter (λ (x : Event). x.hart.0 == hart) (events_of es)) (filter (λ (x : Event). x.hart.0 == hart) (events_of es))
        ≡ events_of (cond b (e ∷ filter (logs.names_hart hart) es) (filter (logs.names_hart hart) es))
    by true same = ap (λ (xs : List Event). e.event ∷ xs) same
    by false same = same

-- the part of events that are a list's
pub part_events : (hart : ℕ) (es : List LogEntry) → of_hart hart (events_of es) ≡ events_of (logs.of_hart hart es)
unfolding of_hart logs.of_hart
part_events hart es = part_filter hart es

moves_part : (hart : ℕ) (journal : List Event) → moves_of hart journal ≡ moves (of_hart hart journal)
unfolding moves_of of_hart
moves_part hart journal = refl

module _ (run : Run) (plan : Plan) (n : ℕ) (harts banks : ℕ → List LogEntry) (are : AreLogsOfRun run plan n harts banks) where
  abbrev DoesByPlan : ℕ → List (Engine × What) → Type 0
  DoesByPlan hart made = (last : Engine) × ByPlan (plan hart) (plan hart class.Fetch) made last

  -- a hart that isn't of the run does nothing
  log_by_plan : (hart : ℕ) → DoesByPlan hart (moves (events_of (harts hart)))
  log_by_plan hart = elim (leb_tells run.book.limits.harts hart) [
    | inl far ↦
        let Does : List LogEntry → Type 0 = λ l. DoesByPlan hart (moves (events_of l)) in
        subst Does (sym (are.rule.no_hart hart far.1)) (plan hart class.Fetch, Nothing (plan hart class.Fetch))
    | inr near ↦ are.by_plan hart (omega (arith, near.1, are.counted))
  ]

  pub parts_obey : (journal : List Event) → ((hart : ℕ) → of_hart hart journal ≡ events_of (harts hart)) → Obeys plan journal
  parts_obey journal parts = λ hart.
      let Does : List (Engine × What) → Type 0 = λ made. DoesByPlan hart made in
      subst Does (sym (moves_part hart journal ∙ ap moves (parts hart))) (log_by_plan hart)
