-- What is left of a run that has ended.
use Rattle.std.proofs.Common.{◌≡◌, ℕ, List, Option, Some, length, ap, sym, subst, ◌∙◌, arith}
use Rattle.sha2.specs.Sha256.{sha256}
use Rattle.flex_base.specs.Loaded.{Loaded}
use Rattle.flex_base.specs.Journal.{order_of}
use Rattle.flex_base.specs.Rounds.{rounds, names_played}
use Rattle.flex_base.specs.Setup.{Setup}
use Rattle.flex_base.specs.State.{State}
use Rattle.flex_base.specs.Devices.{device_stop, sent_bytes}
use Rattle.flex_base.specs.Unsplit.{Machine, instruction_at, begin, reach, reach_from, has_ended}
use Rattle.flex_base.specs.declared.event.Event.{Event}
use Rattle.flex_base.specs.declared.event.Stop.{Stop}
use Rattle.flex_base.specs.declared.settings.Settings.{Settings}
use Rattle.flex_base.proofs.Machines.{reach-append}
use Rattle.hart_story.specs.declared.hart.Hart.{Hart}
use Rattle.image_loader.specs.Loading.{IsSameStart}
use Rattle.journal.specs.Log.{Log}
use Rattle.journal.specs.Merged.{AreLogsOf}
use Rattle.mem_lines.specs.Bank.{Bank}
use Rattle.mem_banks.specs.declared.ended.Ended.{Ended}
use Rattle.transplant_plan.specs.Shown.{shown}
use Rattle.transplant_plan.specs.declared.plan.Plan.{Plan}
use Rattle.solo.specs.End.{IsEndOf}
use Rattle.crew.specs.Played.{HasPlayed}
use Rattle.tracer.specs.Tail.{AllStand, tail_lines}
use Rattle.tracer.specs.Trace.{settings_of, ram_bytes, tail_of, whole_text}
use Rattle.tracer.specs.declared.tail_text.TailLine.{TailLine}
use Rattle.flex_top.specs.Answer.{setup_of, outcome_with, outcome_of_run, IsRunOutcome}
use Rattle.flex_top.specs.Ended.{outcome_at}
use Rattle.flex_top.specs.Ram.{AreBanks}
use Rattle.flex_top.specs.Words.{Reading}
use Rattle.flex_top.proofs.SameStart.{ended_same, reach_same, legal_same, played_same, outcome_same}
use Rattle.flex_top.proofs.Writing.{split_of, outcome_is, outcome_legal}

module _ (journal : List Event) (setup : Setup) (u : Machine) (ended : Ended) (end : IsEndOf setup journal u ended) where
  -- the logs are those of the journal
  pub logs_left : (logs : List Log) → logs ≡ ended.logs.items → AreLogsOf journal logs
  logs_left logs same =
      let Of : List Log → Type 0 = λ ls. AreLogsOf journal ls in
      subst Of (sym same) end.logs.parts

  -- the banks hold RAM
  pub banks_left : (banks : List Bank) → banks ≡ ended.memory.lines → AreBanks setup u banks
  banks_left banks same =
      let Are : List Bank → Type 0 = λ bs. AreBanks setup u bs in
      subst Are (sym same) (record { counted = end.memory.counted; each = end.memory.lines })

  -- the lines after the events are those of the state
  pub tail_left : (stop : Stop) (harts : List Hart) (digest : List ℕ) (tail : List TailLine) → stop ≡ ended.stop → harts ≡ ended.harts.items → digest ≡ sha256 (ram_bytes setup u)
      → ((state : ℕ → State) (ram : List ℕ) → AllStand harts state → digest ≡ sha256 ram → tail ≡ tail_lines (Some stop) (length harts) state ram)
      → tail ≡ tail_of setup u
  tail_left stop harts digest tail same_stop same digested fills =
      let state : ℕ → State = λ h. (instruction_at u h).state in
      let bytes = ram_bytes setup u in
      let Stand : List Hart → Type 0 = λ hs. AllStand hs state in
      let stand = subst Stand (sym same) (λ h other below. end.harts h other (omega (arith, below, end.counted))) in
      let count : length harts ≡ setup.harts = ap (λ (hs : List Hart). length hs) same ∙ end.counted in
      fills state bytes stand digested
      ∙ ap (λ (s : Option Stop). tail_lines s (length harts) state bytes) (ap (λ (x : Stop). Some x) same_stop ∙ sym end.stop_is)
      ∙ ap (λ n. tail_lines (device_stop setup.harts u.devices) n state bytes) count

-- what is said and written is the outcome of the state
pub outcome_left : (journal : List Event) (setup : Setup) (u : Machine) (settings : Settings) (name console : List ℕ) (events : List Event) (tail : List TailLine)
    → settings_of setup ≡ settings → console ≡ sent_bytes u.devices → events ≡ journal → tail ≡ tail_of setup u
    → outcome_with console name (whole_text settings events tail) ≡ outcome_at journal setup u name
outcome_left journal setup u settings name console events tail of sent is tail_is =
    let text = whole_text settings events tail in
    ap (λ (said : List ℕ). outcome_with said name text) sent
    ∙ ap (λ (s : Settings). outcome_with (sent_bytes u.devices) name (whole_text s events tail)) (sym of)
    ∙ ap (λ (es : List Event). outcome_with (sent_bytes u.devices) name (whole_text (settings_of setup) es tail)) is
    ∙ ap (λ (t : List TailLine). outcome_with (sent_bytes u.devices) name (whole_text (settings_of setup) journal t)) tail_is

-- where an order and the rounds after it lead
abbrev pub played : Setup → List ℕ → Machine
played setup order = reach_from setup (reach setup order) (rounds setup (reach setup order))

-- that is the outcome of the run of each image with the same start
pub outcome_played : (given plan : Plan) (r : Reading) (start image : Loaded) (input : List ℕ) (settings : Settings) (order : List ℕ) → given ≡ plan → IsSameStart start image → order ≡ r.order
    → outcome_at (split_of given (setup_of image input settings) (played (setup_of image input settings) order)) (setup_of image input settings) (played (setup_of image input settings) order) r.trace
    ≡ outcome_of_run r (shown plan).engines (setup_of start input settings)
outcome_played given plan r start image input settings order planned same names =
    let setup = setup_of image input settings in
    ap (λ (p : Plan). outcome_at (split_of p setup (played setup order)) setup (played setup order) r.trace) planned
    ∙ ap (λ (u : Machine). outcome_at (split_of plan setup u) setup u r.trace) (sym (reach-append setup (begin setup) order (rounds setup (reach setup order))))
    ∙ ap (λ (ns : List ℕ). outcome_at (split_of plan setup (reach setup (names_played setup ns))) setup (reach setup (names_played setup ns)) r.trace) names
    ∙ sym (outcome_same start image input settings same (split_of plan setup) _ _ r.trace (played_same start image input settings same r.order))
    ∙ outcome_is plan r (setup_of start input settings)

-- what is left of a run on threads is an outcome of each image with the same start
pub run_outcome : (plan : Plan) (r : Reading) (start image : Loaded) (input : List ℕ) (settings : Settings) (ended : Ended) → IsSameStart start image
    → (ran : HasPlayed (setup_of image input settings) plan ended)
    → IsRunOutcome r (shown plan).engines (setup_of start input settings) (outcome_at ran.journal (setup_of image input settings) (reach (setup_of image input settings) (order_of ran.journal)) r.trace)
run_outcome plan r start image input settings ended same ran =
    let here = setup_of start input settings in
    let order = order_of ran.journal in
    let reached = reach_same start image input settings same order in
    let legal = legal_same start image input settings same ran.journal ran.legal in
    record {
      journal = ran.journal;
      legal = legal;
      obeys = ran.obeys;
      ended = ended_same start image input settings same (reach here order) ∙ ap (has_ended (setup_of image input settings)) reached ∙ ran.has_ended;
      outcome = sym (outcome_same start image input settings same (λ (u : Machine). ran.journal) _ _ r.trace reached) ∙ outcome_legal here ran.journal r.trace legal;
    }
