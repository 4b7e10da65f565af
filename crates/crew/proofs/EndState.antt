-- The logs begin in the machine's first state, and the state to which they lead is where each of them leads.
use Rattle.std.proofs.Common.{◌≡◌, ℕ, ◌/◌, ◌<◌, ◌==◌, true, false, List, [], ◌++◌, if◌then◌else◌, inl, inr, refl, sym, ap, ◌∙◌, subst, arith}
use Rattle.std.proofs.Math.Nat.{mod-lt}
use Rattle.std.proofs.lemmas.Bool.Decides.{leb_tells}
use Rattle.std.proofs.lemmas.List.FromFn.{length-map-range_with_len}
use Rattle.flex_base.specs.Setup.{Setup}
use Rattle.flex_base.specs.State.{start}
use Rattle.flex_base.specs.FlatMemory.{Done, byte}
use Rattle.flex_base.specs.Banks.{bank_of, accesses_of, BankedFrom}
use Rattle.flex_base.specs.Following.{FollowsFrom, leads_to}
use Rattle.flex_base.specs.Unsplit.{Machine, Instruction, instruction_from, instruction_at, begin}
use Rattle.flex_base.proofs.Machines.{reach-none, instruction_at-begin}
use Rattle.access_record.specs.declared.entry.LogEntry.{LogEntry}
use Rattle.access_record.specs.Logs.{of_hart, on_bank}
use Rattle.access_record.specs.Buses.{Run, ram_banks, events_of}
use Rattle.transplant_plan.specs.Split.{Plan}
use Rattle.solo.specs.Standing.{of_bank}
use Rattle.solo.proofs.Flat.{byte_of_part}
use Rattle.crew.specs.LogsOfRun.{AreLogsOfRun, IsStateOf}
use Rattle.crew.proofs.Ascending.{In}
use Rattle.crew.proofs.Steps.{done_in, done_devices, done_ram}
use Rattle.crew.proofs.Going.{IsEntry, AreLeft, Lead}

-- nothing is done at first
done_none : (banks bank : ℕ) (setup : Setup) → done_in banks bank (begin setup) ≡ []
unfolding of_bank
done_none banks bank setup = elim (bank == banks) as (λ b. (if b then [] else of_bank banks bank []) ≡ []) [ true ↦ refl | false ↦ refl ]

module _ (run : Run) (plan : Plan) (n : ℕ) (harts banks : ℕ → List LogEntry) (are : AreLogsOfRun run plan n harts banks) (es : List LogEntry)
    (entries : (e : LogEntry) → In e es → IsEntry run e) (hart_parts : (hart : ℕ) → of_hart hart es ≡ harts hart)
    (bank_parts : (bank : ℕ) → on_bank bank es ≡ banks bank) where
  abbrev first : Machine
  first = begin run.setup

  follow : (hart : ℕ) → hart < run.setup.harts → FollowsFrom run.setup (instruction_at first hart) (events_of (of_hart hart es))
  follow hart below =
      let At : Instruction → Type 0 = λ i. FollowsFrom run.setup i (events_of (of_hart hart es)) in
      let Part : List LogEntry → Type 0 = λ l. FollowsFrom run.setup (instruction_from (start hart run.setup.image.entry)) (events_of l) in
      subst At (sym (instruction_at-begin run.setup hart below)) (subst Part (sym (hart_parts hart)) (are.follow hart below))

  -- a bank that isn't of the record has an empty log
  log_banked : (bank : ℕ) → BankedFrom run.setup (ram_banks run) bank [] (events_of (banks bank))
  log_banked bank = elim (leb_tells run.book.limits.banks bank) [
    | inl far ↦
        let Part : List LogEntry → Type 0 = λ l. BankedFrom run.setup (ram_banks run) bank [] (events_of l) in
        subst Part (sym (are.rule.no_bank bank far.1)) tt
    | inr near ↦ are.banked bank (omega (arith, near.1))
  ]

  banked : (bank : ℕ) → BankedFrom run.setup (ram_banks run) bank (done_in (ram_banks run) bank first) (events_of (on_bank bank es))
  banked bank =
      let From : List Done → Type 0 = λ made. BankedFrom run.setup (ram_banks run) bank made (events_of (on_bank bank es)) in
      let Part : List LogEntry → Type 0 = λ l. BankedFrom run.setup (ram_banks run) bank [] (events_of l) in
      subst From (sym (done_none (ram_banks run) bank run.setup)) (subst Part (sym (bank_parts bank)) (log_banked bank))

  pub all_left : AreLeft run first es
  all_left = record {
    reached = record { order = []; is = sym (reach-none run.setup first) };
    counted = length-map-range_with_len (λ k. instruction_from (start k run.setup.image.entry)) 0 run.setup.harts;
    placed = tt;
    entries = entries;
    follow = follow;
    banked = banked;
  }

  module _ (u : Machine) (lead : Lead run first u es) where
    instructions : (hart : ℕ) → hart < run.setup.harts
        → instruction_at u hart ≡ leads_to run.setup (instruction_from (start hart run.setup.image.entry)) (events_of (harts hart))
    instructions hart below =
        lead.instructions hart below
        ∙ ap (λ (i : Instruction). leads_to run.setup i (events_of (of_hart hart es))) (instruction_at-begin run.setup hart below)
        ∙ ap (λ (l : List LogEntry). leads_to run.setup (instruction_from (start hart run.setup.image.entry)) (events_of l)) (hart_parts hart)

    -- what a bank has done is its log
    done_is : (bank : ℕ) → done_in (ram_banks run) bank u ≡ accesses_of (events_of (banks bank))
    done_is bank =
        lead.banks bank
        ∙ ap (λ (ds : List Done). ds ++ accesses_of (events_of (on_bank bank es))) (done_none (ram_banks run) bank run.setup)
        ∙ ap (λ (l : List LogEntry). accesses_of (events_of l)) (bank_parts bank)

    memory : (bank : ℕ) → bank < ram_banks run → accesses_of (events_of (banks bank)) ≡ of_bank (ram_banks run) bank u.ram
    memory bank below = sym (done_is bank) ∙ done_ram (ram_banks run) bank u (λ same. omega (arith, below, same))

    pub is_state : IsStateOf run harts banks u
    is_state = record {
      instructions = instructions;
      memory = memory;
      bytes = λ a.
          let bank = bank_of (ram_banks run) a in
          byte_of_part run.setup run.setup.image (ram_banks run) u.ram a lead.placed
          ∙ ap (λ (ds : List Done). byte run.setup.image ds a) (sym (memory bank (mod-lt (a / 64) are.some)));
      devices = sym (done_is (ram_banks run)) ∙ done_devices (ram_banks run) u;
    }
