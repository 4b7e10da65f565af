-- Contexts at their start, over a bus that has done nothing, stand for the beginning of the machine.
use Rattle.std.proofs.Common.{◌≡◌, ℕ, ◌+◌, ◌*◌, ◌<◌, ◌≤◌, Bool, true, ◌||◌, List, [], ◌∷◌, ◌++◌, length, take, replicate, get_or, pos, inl, inr, refl, ap, sym, subst, ◌∙◌, arith}
use Rattle.std.specs.Ordering.{int_eq}
use Rattle.std.proofs.lemmas.Bool.{cases_Bool, cases_eq}
use Rattle.std.proofs.lemmas.Bool.Decides.{nat_tests}
use Rattle.std.proofs.lemmas.List.{get_or_push, get_or_append_left, length_push, length-replicate, get_or-replicate, take-replicate}
use Rattle.std.proofs.lemmas.List.FromFn.{length-map-range_with_len, get_or-map-range_with_len}
use Rattle.flex_base.specs.Setup.{Setup}
use Rattle.flex_base.specs.State.{start}
use Rattle.flex_base.specs.Limits.{is_lawful}
use Rattle.flex_base.specs.Loaded.{Loaded}
use Rattle.flex_base.specs.Following.{leads_to, instruction_of}
use Rattle.flex_base.specs.Unsplit.{instruction_from, begin}
use Rattle.flex_base.specs.declared.class.Class.TheVariants as class
use Rattle.flex_base.specs.declared.settings.Settings.{Settings}
use Rattle.flex_base.proofs.Machines.{reach-none, instruction_at-begin}
use Rattle.hart_story.specs.StandsFor.{StandsFor}
use Rattle.hart_story.specs.declared.hart.Hart.{Hart}
use Rattle.journal.specs.Log.{Log}
use Rattle.access_record.specs.declared.entry.LogEntry.{LogEntry}
use Rattle.access_record.specs.Passes.{PassOfHart, Enrolment, add_hart, new_pass}
use Rattle.access_record.specs.Buses.{Run, ram_banks, events_of}
use Rattle.access_record.specs.Histories.{History}
use Rattle.transplant_plan.specs.Assignment.{bank_counts, is_allowed}
use Rattle.transplant_plan.specs.Planning.{engine_at}
use Rattle.transplant_plan.specs.Split as split
use Rattle.transplant_plan.specs.Split.{Splitting, split_run, first_split}
use Rattle.transplant_plan.specs.declared.plan.Plan.{Plan}
use Rattle.mem_lines.specs.Bank.{is_bank_count}
use Rattle.mem_banks.specs.Origins.{run_of}
use Rattle.mem_banks.specs.Plain.{Plain}
use Rattle.mem_banks.specs.End.{IsFounderOf}
use Rattle.mem_banks.proofs.Plains.{numbers_more}
use Rattle.context.specs.Contexts.{Context, IsOn, IsRunOf, new_context}
use Rattle.solo.specs.Solo.{setup_of, solo_of, engines_of}
use Rattle.solo.specs.Standing.{IsHart, IsAt, Serves, of_bank}
use Rattle.solo.specs.Begun.{IsBegun, AreBegun}
use Rattle.solo.specs.Room.{are_empty}
use Rattle.journal.proofs.Merging.{of_hart-none}

-- The number of banks of a plan.

same_count : (n b : ℕ) → int_eq (pos n) (pos b) ≡ true → n ≡ b
same_count n b same = grind (arith, nat_tests)

count_or : (n b : ℕ) (others : Bool) → is_bank_count n ≡ true → (others ≡ true → is_bank_count b ≡ true) → (int_eq (pos n) (pos b) || others) ≡ true
    → is_bank_count b ≡ true
count_or n b others count rest allowed = elim (cases_Bool (int_eq (pos n) (pos b))) [
  | inl same ↦ ap is_bank_count (sym (same_count n b same)) ∙ count
  | inr other ↦ rest (sym (ap (λ t. t || others) other) ∙ allowed)
]

pub bank_count_allowed : (b : ℕ) → is_allowed bank_counts (pos b) ≡ true → is_bank_count b ≡ true
bank_count_allowed b allowed =
    count_or 1 b _ refl (count_or 2 b _ refl (count_or 4 b _ refl (count_or 8 b _ refl (count_or 16 b _ refl (count_or 32 b _ refl (count_or 64 b _ refl (λ none. absurd cc))))))) allowed

-- Logs.

pub lawful_budget : (settings : Settings) → is_lawful settings ≡ true → settings.budget ≤ 4294967296
lawful_budget settings lawful = grind (arith, nat_tests)

-- some of them are taken
pub logs_left : (settings : Settings) (n m : ℕ) (logs : List Log) → logs ≡ are_empty settings n → m ≤ n → take m logs ≡ are_empty settings m
logs_left settings n m logs are less = ap (take m) are ∙ take-replicate m n _ less

-- Contexts at their start.

module _ (run : Run) (plan : Plan) (settings : Settings) where
  -- the context of a hart that was just enrolled
  pub is_begun : (h entry : ℕ) (hart : Hart) (pass : PassOfHart) (log : Log) (c : Context) → StandsFor hart (start h entry)
      → pass ≡ new_pass run.book.id (record { 0 = h }) → entry ≡ run.setup.image.entry → IsRunOf entry settings run.setup
      → c ≡ new_context hart pass log plan settings → ((image : Loaded) → StandsFor hart (start pass.hart.0 image.entry) → c.entry ≡ image.entry)
      → (pass.id ≡ run.book.id → IsRunOf c.entry settings run.setup → IsOn run c)
      → IsBegun run plan settings h c
  is_begun h entry hart pass log c stands pass_is entry_is of is tells on =
      let number : h ≡ pass.hart.0 = sym (ap (λ (p : PassOfHart). p.hart.0) pass_is) in
      let Numbered : ℕ → Type 0 = λ n. StandsFor hart (start n entry) in
      let Entered : ℕ → Type 0 = λ e. StandsFor hart (start pass.hart.0 e) in
      let there : c.entry ≡ run.setup.image.entry = tells run.setup.image (subst Entered entry_is (subst Numbered number stands)) in
      let Of : ℕ → Type 0 = λ e. IsRunOf e settings run.setup in
      record {
        on = on (ap (λ (p : PassOfHart). p.id) pass_is) (subst Of (entry_is ∙ sym there) of);
        pass = ap (λ (x : Context). x.pass) is ∙ pass_is;
        plan_is = ap (λ (x : Context). x.plan) is;
        settings_are = ap (λ (x : Context). x.settings) is;
        engine = ap (λ (x : Context). x.engine) is;
      }

  -- one context more
  pub begun_more : (h : ℕ) (first before after : Enrolment) (made : List Context) (c : Context) → AreBegun run plan settings h first before made
      → after ≡ add_hart before (record { 0 = h }) → IsBegun run plan settings h c → AreBegun run plan settings (h + 1) first after (made ++ c ∷ [])
  begun_more h first before after made c begun added one = record {
    id = ap (λ (r : Enrolment). r.id) added ∙ begun.id;
    banks = ap (λ (r : Enrolment). r.banks) added ∙ begun.banks;
    enrolled = ap (λ (r : Enrolment). r.harts) added ∙ ap (λ (hs : List ℕ). h ∷ hs) begun.enrolled ∙ sym (numbers_more h);
    counted = length_push made c ∙ ap (λ (n : ℕ). n + 1) begun.counted;
    each = λ k other below.
        let Is : Context → Type 0 = λ x. IsBegun run plan settings k x in
        elim (cases_eq k h) [
          | inl same ↦
              let At : ℕ → Type 0 = λ n. IsBegun run plan settings n c in
              subst Is (sym (get_or_push made c other k (begun.counted ∙ sym same))) (subst At (sym same) one)
          | inr apart ↦
              subst Is (sym (get_or_append_left made (c ∷ []) other k (omega (arith, below, apart, begun.counted)))) (begun.each k other (omega (arith, below, apart)))
        ];
  }

-- The beginning.

pub lawful_some : (settings : Settings) → is_lawful settings ≡ true → 0 < settings.harts
lawful_some settings lawful = grind (arith, nat_tests)

pub lawful_few : (settings : Settings) → is_lawful settings ≡ true → settings.harts ≤ 32
lawful_few settings lawful = grind (arith, nat_tests)

first_instruction_at : (setup : Setup) (h : ℕ) → instruction_of setup h [] ≡ instruction_from (start h setup.image.entry)
unfolding leads_to
first_instruction_at setup h = refl

none_split : (plan : split.Plan) (harts : ℕ) → split_run plan harts [] ≡ first_split plan harts
unfolding split_run
none_split plan harts = refl

none_banked : (banks bank : ℕ) → of_bank banks bank [] ≡ []
unfolding of_bank
none_banked banks bank = refl

module _ (image : Loaded) (plan : Plan) (settings : Settings) (input : List ℕ) (banks : ℕ) (bus : Plain) where
  -- the run that begins
  abbrev setup : Setup
  setup = setup_of image settings input

  module _ (run_is : bus.run ≡ run_of bus.run.book image settings input) (count : is_bank_count banks ≡ true)
      (limits : bus.run.book.limits ≡ record { harts = settings.harts; banks = banks + 1; room = 24 * settings.budget + 24 })
      (nothing : bus.history ≡ record { least = 0; banks = replicate (banks + 1) [] }) where
    banks_are : ram_banks bus.run ≡ banks
    banks_are =
        let all = ap (λ l. l.banks) limits in
        omega (arith, all)

    none_done : (bank : ℕ) → bank ≤ banks → get_or bus.history.banks bank [] ≡ []
    none_done bank within = ap (λ (x : History). get_or x.banks bank []) nothing ∙ get_or-replicate (banks + 1) bank [] [] (omega (arith, within))

    serves : Serves setup (begin setup) bus
    serves = record {
      setup_is = ap (λ (r : Run). r.setup) run_is;
      harts = ap (λ l. l.harts) limits;
      room = ap (λ l. l.room) limits;
      counted = ap is_bank_count banks_are ∙ count;
      whole = ap (λ (n : ℕ). n + 1) banks_are ∙ sym (ap (λ l. l.banks) limits);
      all = ap (λ (x : History). length x.banks) nothing ∙ length-replicate (banks + 1) [] ∙ sym (ap (λ l. l.banks) limits);
      banks = λ bank below. none_done bank (omega (arith, below, banks_are)) ∙ sym (none_banked (ram_banks bus.run) bank);
      devices = none_done (ram_banks bus.run) (omega (arith, banks_are));
      placed = tt;
    }

    module _ (before after : Enrolment) (contexts : List Context) (founder : IsFounderOf bus.run before)
        (begun : AreBegun bus.run plan settings settings.harts before after contexts) where
      abbrev none : Splitting
      none = split_run (engines_of plan) settings.harts []

      none_is : none ≡ first_split (engines_of plan) settings.harts
      none_is = none_split (engines_of plan) settings.harts

      each_begins : (h : ℕ) (other : Context) → h < settings.harts
          → IsHart setup (begin setup) (solo_of contexts bus after plan settings) [] h (split.holder_of (engines_of plan) none h) (get_or contexts h other)
      each_begins h other below =
          let c = get_or contexts h other in
          let one = begun.each h other below in
          let log : c.pass.log ≡ [] = ap (λ (p : PassOfHart). p.log) one.pass in
          let fetch : split.holder_of (engines_of plan) none h ≡ engine_at plan.engines class.Fetch =
          ap (λ (p : Splitting). split.holder_of (engines_of plan) p h) none_is
          ∙ get_or-map-range_with_len (λ k. engines_of plan k class.Fetch) 0 settings.harts h h (engines_of plan h class.Fetch) below (omega arith) in
          record {
            on = one.on;
            number = ap (λ (p : PassOfHart). p.hart.0) one.pass;
            plan_is = one.plan_is;
            settings_are = one.settings_are;
            instruction = instruction_at-begin setup h below ∙ sym (first_instruction_at setup h) ∙ sym (ap (λ (l : List LogEntry). instruction_of setup h (events_of l)) log);
            events = ap (λ (l : List LogEntry). events_of l) log ∙ sym (of_hart-none h);
            engine_is = one.engine ∙ sym fetch;
          }

      pub begins : is_lawful settings ≡ true → settings.harts * settings.budget ≤ 262144 → IsAt setup (begin setup) (solo_of contexts bus after plan settings)
      begins lawful ends = record {
        some = lawful_some settings lawful;
        few = lawful_few settings lawful;
        ends = ends;
        reached = record { order = []; is = sym (reach-none setup (begin setup)) };
        settings_is = refl;
        halves = length-map-range_with_len (λ h. instruction_from (start h image.entry)) 0 settings.harts;
        counted = begun.counted;
        engines = ap (λ (p : Splitting). length p.engines) none_is ∙ length-map-range_with_len (λ h. engines_of plan h class.Fetch) 0 settings.harts;
        made = [];
        are_made = record { rises = omega arith; harts_are = tt; journal_is = sym (ap (λ (p : Splitting). p.events) none_is) };
        each = each_begins;
        memory = serves;
        enrolment = record {
          founder_is = record { id = begun.id ∙ founder.id; banks = begun.banks ∙ founder.banks };
          enrolled = begun.enrolled;
        };
      }
