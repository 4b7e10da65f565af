-- What is left with the harts and in the memory at the end are the logs of one run.
use Rattle.std.proofs.Common.{◌≡◌, ℕ, ◌+◌, ◌<◌, zero, suc, true, List, [], length, get_or, ◌⊎◌, inl, inr, ap, sym, subst, ◌∙◌, arith}
use Rattle.std.specs.List.{All}
use Rattle.std.proofs.lemmas.Bool.{cases_eq}
use Rattle.flex_base.specs.Banks.{IsBanked}
use Rattle.flex_base.specs.Following.{Follows}
use Rattle.flex_base.specs.declared.class.Class.{Class}
use Rattle.flex_base.specs.declared.class.Class.TheVariants as class
use Rattle.flex_base.specs.declared.engine.Engine.{Engine}
use Rattle.flex_base.specs.declared.event.What.{What}
use Rattle.access_record.specs.declared.entry.LogEntry.{LogEntry}
use Rattle.access_record.specs.Passes.{PassOfHart, Enrolment, AreRecord, EachHasPass, logs_of}
use Rattle.access_record.specs.Buses.{Run, ram_banks, events_of, NamePlaces}
use Rattle.mem_lines.specs.Bank.{Bank, is_bank_count}
use Rattle.transplant_plan.specs.Planning.{engine_at}
use Rattle.transplant_plan.specs.Split.{ByPlan}
use Rattle.transplant_plan.specs.declared.plan.Plan.{Plan}
use Rattle.mem_banks.specs.End.{Memory, MaySettle, logs_in, bank_passes}
use Rattle.context.specs.declared.wants.Wants.{Wants}
use Rattle.context.specs.declared.wants.Wants.TheVariants as wants
use Rattle.context.specs.Contexts.{Context, IsContext, StandsIn, plan_of, wants_in, events_in}
use Rattle.context.specs.Obeying.{IsFor, moves, ObeysSoFar}
use Rattle.solo.specs.Solo.{settings_of, engines_of}
use Rattle.solo.proofs.Settling.{passes_of, AreNumbered, log_at, each_pass, all_passes}
use Rattle.solo.proofs.Finishing.{record_of, some_context}
use Rattle.solo.proofs.Taking.{AllHave}
use Rattle.solo.proofs.Beginning.{lawful_some}
use Rattle.crew.specs.Played.{HasEnrolled, IsAtRest}
use Rattle.crew.specs.LogsOfRun.{AreLogsOfRun}
use Rattle.crew.proofs.Gathered.{AreBack}
use Rattle.crew.proofs.PlacedLogs.{entry_aligned}

-- who rests wants no event, so no handover was the last that it did
obeyed : (p : Class → Engine) (w : Wants) (at : Engine) (made : List (Engine × What)) → (w ≡ wants.Over) ⊎ (w ≡ wants.Parked) → ObeysSoFar p w at made
    → ByPlan p (p class.Fetch) made at
obeyed p w at made rests (inl obeys) = obeys
obeyed p w at made (inl over) (inr handed) = absurd (subst (λ (v : Wants). IsFor p v at) over handed.wanted)
obeyed p w at made (inr parked) (inr handed) = absurd (subst (λ (v : Wants). IsFor p v at) parked handed.wanted)

-- a bank of no meaning
some_bank : Bank
some_bank = record { ram = 0; banks = 0; bank = 0; bytes = []; places = [] }

some_banks : (banks : ℕ) → is_bank_count banks ≡ true → 0 < banks
some_banks zero is = absurd cc
some_banks (suc banks) is = omega arith

module _ (run : Run) (plan : Plan) (memory : Memory) (contexts : List Context) (back : AreBack run plan memory contexts) where
  pub some_harts : 0 < run.setup.harts
  some_harts = lawful_some (settings_of run.setup) back.runnable.lawful

  -- a context for places that there are not
  pub any : Context
  any = some_context contexts (omega (arith, some_harts, back.counted))

  pub within : (h : ℕ) → h < run.setup.harts → h < length contexts
  within h below = omega (arith, below, back.counted)

  pub below_harts : (h : ℕ) → h < length contexts → h < run.setup.harts
  below_harts h inside = omega (arith, inside, back.counted)

  numbered : AreNumbered 0 contexts
  numbered h other inside =
      let from : h ≡ 0 + h = omega arith in
      back.number h other (below_harts h inside) ∙ from

  -- the log of each hart by its number is that of its context
  pub log_is : (h : ℕ) → h < run.setup.harts → logs_of (passes_of contexts) h ≡ (get_or contexts h any).pass.log
  log_is h below =
      let from : h ≡ 0 + h = omega arith in
      ap (λ k. logs_of (passes_of contexts) k) from ∙ log_at 0 h contexts any numbered (within h below)

  -- the passes of the contexts close the record
  pub may_close : (founder : Enrolment) (passes : List PassOfHart) → HasEnrolled run founder → passes ≡ passes_of contexts → MaySettle run memory founder passes
  may_close founder passes enrolled are =
      let Ids : List PassOfHart → Type 0 = λ ps. All (λ (p : PassOfHart). p.id ≡ run.book.id) ps in
      let Each : List PassOfHart → Type 0 = λ ps. EachHasPass founder.harts ps in
      record {
        of_run = back.of_run;
        founder_is = enrolled.founder_is;
        ids = subst Ids (sym are) (all_passes (λ (p : PassOfHart). p.id ≡ run.book.id) contexts (λ h other inside. (back.each h other (below_harts h inside)).on.book));
        harts = subst Each (sym are) (each_pass run.setup.harts founder.harts contexts enrolled.harts back.counted numbered);
      }

  module _ (are : AllHave IsContext contexts) where
    -- each context stands for its hart in this run
    pub stands : (h : ℕ) → h < run.setup.harts → StandsIn run.setup (get_or contexts h any)
    stands h below = (are h any (within h below)).stands run.setup (back.each h any below).on.setup

    follow : (h : ℕ) → h < run.setup.harts → Follows run.setup h (events_of (logs_of (passes_of contexts) h))
    follow h below =
        let At : ℕ × List LogEntry → Type 0 = λ x. Follows run.setup x.0 (events_of x.1) in
        subst At (λ i. (back.number h any below i, sym (log_is h below) i)) (stands h below).follows

    name : (h : ℕ) → h < run.setup.harts → NamePlaces run (logs_of (passes_of contexts) h)
    name h below = subst (NamePlaces run) (sym (log_is h below)) (back.each h any below).on.places

    -- what it wants
    rests : (h : ℕ) → (below : h < run.setup.harts) → IsAtRest memory.devices (get_or contexts h any)
        → (wants_in run.setup (get_or contexts h any) ≡ wants.Over) ⊎ (wants_in run.setup (get_or contexts h any) ≡ wants.Parked)
    rests h below (inl over) = inl (over run.setup (back.each h any below).on.setup)
    rests h below (inr parked) = inr (parked.0 run.setup (back.each h any below).on.setup)

    by_plan : (h : ℕ) → h < run.setup.harts
        → (last : Engine) × ByPlan (engines_of plan h) (engines_of plan h class.Fetch) (moves (events_of (logs_of (passes_of contexts) h))) last
    by_plan h below =
        let c = get_or contexts h any in
        let obeys = obeyed (plan_of c) (wants_in run.setup c) c.engine (moves (events_in c)) (rests h below (back.rest h any below)) (stands h below).obeys in
        let By : Plan × List LogEntry → Type 0 = λ x. ByPlan (λ k. engine_at x.0.engines k) (engine_at x.0.engines class.Fetch) (moves (events_of x.1)) c.engine in
        (c.engine, subst By (λ i. ((back.each h any below).plan_is i, sym (log_is h below) i)) obeys)

    banked : (bank : ℕ) → bank < run.book.limits.banks → IsBanked run.setup (ram_banks run) bank (events_of (logs_in memory bank))
    banked bank below = elim (cases_eq bank (ram_banks run)) [
      | inl same ↦
          let At : ℕ → Type 0 = λ k. IsBanked run.setup (ram_banks run) k (events_of (logs_in memory k)) in
          subst At (sym same) back.of_run.devices.banked
      | inr other ↦ (back.of_run.banks bank some_bank (omega (arith, below, other, back.runnable.whole, back.of_run.counted))).banked
    ]

    -- so they are the logs of a run
    pub logs_left : (n : ℕ) (passes : List PassOfHart) → passes ≡ passes_of contexts → AreRecord run.book.limits n passes (bank_passes memory)
        → AreLogsOfRun run (engines_of plan) n (logs_of (passes_of contexts)) (logs_in memory)
    logs_left n passes taken closed =
        let Closed : List PassOfHart → Type 0 = λ ps. AreRecord run.book.limits n ps (bank_passes memory) in
        record {
          rule = record_of run.book.limits n (passes_of contexts) (bank_passes memory) (subst Closed taken closed);
          counted = back.runnable.harts;
          some = some_banks (ram_banks run) back.runnable.counted;
          entry = entry_aligned run.setup.ram run.setup.image back.runnable.fits;
          follow = follow;
          name = name;
          banked = banked;
          by_plan = by_plan;
        }
