-- What is left of a run on threads is an end of the unsplit machine.
use Rattle.std.proofs.Common.{◌≡◌, ℕ, ◌<◌, true, false, List, length, map, get_or, refl, ap, sym, subst, ◌∙◌, arith}
use Rattle.std.specs.Prelude.{Option, None, Some, is_some}
use Rattle.std.specs.List.{All}
use Rattle.std.proofs.lemmas.List.{get_or-map, length-map}
use Rattle.flex_base.specs.FlatMemory.{Done, byte}
use Rattle.flex_base.specs.Banks.{bank_of, accesses_of}
use Rattle.flex_base.specs.Devices.{device_stop}
use Rattle.flex_base.specs.Unsplit.{Machine, Instruction, instruction_at, reach, has_ended}
use Rattle.flex_base.specs.Journal.{order_of}
use Rattle.flex_base.specs.declared.event.Event.{Event}
use Rattle.flex_base.specs.declared.event.Stop.{Stop}
use Rattle.flex_base.proofs.Turns.{stop_ended}
use Rattle.hart_story.specs.StandsFor.{StandsFor}
use Rattle.hart_story.specs.declared.hart.Hart.{Hart}
use Rattle.journal.specs.Log.{Log}
use Rattle.journal.specs.Merged.{of_hart}
use Rattle.access_record.specs.Passes.{PassOfHart, AreRecord, logs_of}
use Rattle.access_record.specs.Buses.{Run, ram_banks, events_of}
use Rattle.mem_lines.specs.Bank.{Bank, is_bank_count, IsBank}
use Rattle.devices.specs.View as devices
use Rattle.devices.specs.View.{DevicesView}
use Rattle.transplant_plan.specs.declared.plan.Plan.{Plan}
use Rattle.mem_banks.specs.End.{Memory, IsMemoryOf, bank_passes, logs_in}
use Rattle.mem_banks.specs.declared.ended.Ended.{Ended}
use Rattle.context.specs.Contexts.{Context, IsContext}
use Rattle.solo.specs.Solo.{engines_of}
use Rattle.solo.specs.End.{AreHartLogs, HoldsRam, IsMemoryAt}
use Rattle.solo.proofs.Settling.{passes_of}
use Rattle.solo.proofs.Taking.{AllHave}
use Rattle.crew.specs.Played.{HasPlayed}
use Rattle.crew.specs.LogsOfRun.{IsRunOf, journal_of}
use Rattle.crew.proofs.Gathered.{AreBack}
use Rattle.crew.proofs.Closing as closing
use Rattle.crew.proofs.AtRest as rest
use Rattle.crew.proofs.WholeRun.{logs_run}

-- Memory.

module _ (run : Run) (memory : Memory) (of : IsMemoryOf run memory) (u : Machine)
    (bytes : (a : ℕ) → byte run.setup.image u.ram a ≡ byte run.setup.image (accesses_of (events_of (logs_in memory (bank_of (ram_banks run) a)))) a) where
  lines_left : (bank : ℕ) (b : Bank) → bank < length memory.lines → HoldsRam run.setup u (length memory.lines) bank (get_or memory.lines bank b)
  lines_left bank b below =
      let held = get_or memory.lines bank b in
      let is = of.banks bank b below in
      let Is : ℕ → Type 0 = λ count. IsBank run.setup.ram count bank held in
      record {
        is_bank = subst Is (sym of.counted) is.is_bank;
        each = λ address inside.
            let here : bank_of (ram_banks run) address ≡ bank = ap (λ count. bank_of count address) (sym is.is_bank.banks_are) ∙ inside.bank ∙ is.is_bank.bank_is in
            is.replay.each address inside
            ∙ ap (λ k. byte run.setup.image (accesses_of (events_of (logs_in memory k))) address) (sym here)
            ∙ sym (bytes address);
      }

  -- memory that is settled is the machine's
  memory_left : is_bank_count (ram_banks run) ≡ true → devices.IsReplay run.setup.harts run.setup.input u.devices memory.devices
      → (left : Memory) → left.lines ≡ memory.lines → left.devices ≡ memory.devices → left.unsettled ≡ None → IsMemoryAt run.setup u left
  memory_left counted replay left same_lines same_devices settled =
      let Lines : List Bank → Type 0 = λ bs. (bank : ℕ) (b : Bank) → bank < length bs → HoldsRam run.setup u (length bs) bank (get_or bs bank b) in
      let Replay : DevicesView → Type 0 = λ x. devices.IsReplay run.setup.harts run.setup.input u.devices x in
      let Counted : ℕ → Type 0 = λ n. is_bank_count n ≡ true in
      record {
        counted = subst Counted (sym (ap (λ (bs : List Bank). length bs) same_lines ∙ of.counted)) counted;
        lines = subst Lines (sym same_lines) lines_left;
        devices = subst Replay (sym same_devices) replay;
        keeps = ap (λ (d : DevicesView). d.console.keeps) same_devices ∙ of.devices.keeps;
        settled = settled;
      }

module _ (run : Run) (plan : Plan) (memory : Memory) (contexts : List Context) (back : AreBack run plan memory contexts) (are : AllHave IsContext contexts)
    (n : ℕ) (passes : List PassOfHart) (taken : passes ≡ passes_of contexts) (closed : AreRecord run.book.limits n passes (bank_passes memory)) where
  -- the harts' events by number
  abbrev pub journal : List Event
  journal = journal_of run n (logs_of (passes_of contexts))

  -- where they lead
  abbrev pub left_at : Machine
  left_at = reach run.setup (order_of journal)

  abbrev any : Context
  any = closing.any run plan memory contexts back

  within : (h : ℕ) → h < run.setup.harts → h < length contexts
  within h below = closing.within run plan memory contexts back h below

  is_run : IsRunOf run (engines_of plan) n (logs_of (passes_of contexts)) (logs_in memory) journal
  is_run = logs_run run (engines_of plan) n (logs_of (passes_of contexts)) (logs_in memory)
      (closing.logs_left run plan memory contexts back are n passes taken closed)

  pub ended : has_ended run.setup left_at ≡ true
  ended = rest.ended_left run plan memory contexts back left_at is_run.state (order_of journal) refl

  replay : devices.IsReplay run.setup.harts run.setup.input left_at.devices memory.devices
  replay = rest.devices_left run plan memory contexts back left_at is_run.state

  -- the devices tell why the machine stops
  pub stop_is : (d : DevicesView) (told : Option Stop) → d ≡ memory.devices
      → ((harts : ℕ) (input : List ℕ) (made : List Done) → devices.IsReplay harts input made d → told ≡ device_stop harts made)
      → told ≡ device_stop run.setup.harts left_at.devices
  stop_is d told same tells =
      let Replay : DevicesView → Type 0 = λ x. devices.IsReplay run.setup.harts run.setup.input left_at.devices x in
      tells run.setup.harts run.setup.input left_at.devices (subst Replay (sym same) replay)

  -- so they tell some stop
  pub stops : (d : DevicesView) (told : Option Stop) → d ≡ memory.devices
      → ((harts : ℕ) (input : List ℕ) (made : List Done) → devices.IsReplay harts input made d → told ≡ device_stop harts made)
      → told ≡ None → ⊥
  stops d told same tells none =
      let both : false ≡ true = sym (ap is_some none) ∙ ap is_some (stop_is d told same tells) ∙ stop_ended run.setup left_at ended in
      cc both

  -- the harts are where the machine's are
  harts_left : (h : ℕ) (other : Hart) → h < run.setup.harts → StandsFor (get_or (map (λ (c : Context). c.hart) contexts) h other) (instruction_at left_at h).state
  harts_left h other below =
      let is = get_or-map (λ (c : Context). c.hart) contexts h any other (within h below) in
      let same = rest.instruction_left run plan memory contexts back left_at is_run.state h below in
      let Stands : Hart × Instruction → Type 0 = λ x. StandsFor x.0 x.1.state in
      subst Stands (λ i. (sym is i, sym same i)) (closing.stands run plan memory contexts back are h below).at.stands

  -- the logs of the contexts are those of the journal
  logs_left : AreHartLogs run.setup.harts journal (map (λ (c : Context). c.log) contexts)
  logs_left =
      let logs = map (λ (c : Context). c.log) contexts in
      let count : length logs ≡ run.setup.harts = length-map contexts (λ (c : Context). c.log) ∙ back.counted in
      let each : (h : ℕ) (other : Log) → h < run.setup.harts → (get_or logs h other).events ≡ of_hart h journal = λ h other below.
      ap (λ (l : Log). l.events) (get_or-map (λ (c : Context). c.log) contexts h any other (within h below))
      ∙ (are h any (within h below)).whole
      ∙ ap events_of (sym (closing.log_is run plan memory contexts back h below))
      ∙ sym (is_run.parts h) in
      let Below : ℕ → Type 0 = λ k. All (λ (e : Event). e.hart.0 < k) journal in
      record {
        counted = count;
        parts = record {
          few = omega (arith, count, back.few);
          numbers = is_run.legal.numbers;
          harts = subst Below (sym count) is_run.of_run;
          each = λ h other below. each h other (omega (arith, below, count));
        };
      }

  -- All together.
  pub played : (left : Ended) → left.harts.items ≡ map (λ (c : Context). c.hart) contexts → left.logs.items ≡ map (λ (c : Context). c.log) contexts
      → device_stop run.setup.harts left_at.devices ≡ Some left.stop
      → left.memory.lines ≡ memory.lines → left.memory.devices ≡ memory.devices → left.memory.unsettled ≡ None → HasPlayed run.setup plan left
  played left harts logs stop same_lines same_devices settled =
      let Harts : List Hart → Type 0 = λ hs. (h : ℕ) (other : Hart) → h < run.setup.harts → StandsFor (get_or hs h other) (instruction_at left_at h).state in
      let Logs : List Log → Type 0 = λ ls. AreHartLogs run.setup.harts journal ls in
      record {
        journal = journal;
        legal = is_run.legal;
        obeys = is_run.obeys;
        has_ended = ended;
        left = record {
          made = is_run.legal.events;
          stop_is = stop;
          counted = ap (λ (hs : List Hart). length hs) harts ∙ length-map contexts (λ (c : Context). c.hart) ∙ back.counted;
          harts = subst Harts (sym harts) harts_left;
          logs = subst Logs (sym logs) logs_left;
          memory = memory_left run memory back.of_run left_at is_run.state.bytes back.runnable.counted replay left.memory same_lines same_devices settled;
        };
      }
