-- An event of a hart, as its context and the bus tell it.
use Rattle.std.proofs.Common.{◌≡◌, ◌≢◌, ℕ, ◌+◌, ◌<◌, ◌≤◌, ◌==◌, if◌then◌else◌, List, [], ◌∷◌, ◌++◌, length, get_or, set, Option, inl, inr, refl, ap, sym, subst, ◌∙◌, arith, eq-eqb, append-nil, length-set, get_or-set_same, get_or-set_other}
use Rattle.std.proofs.lemmas.Bool.{cases_eq, ne_eqb}
use Rattle.std.proofs.lemmas.List.Elements.{filter-append}
use Rattle.flex_base.specs.Setup.{Setup}
use Rattle.flex_base.specs.Following.{instruction_of, instruction_then, first_instruction}
use Rattle.flex_base.specs.Journal.{event}
use Rattle.flex_base.specs.Unsplit.{Machine, Instruction, instruction_at}
use Rattle.flex_base.specs.declared.class.Class.TheVariants as class
use Rattle.flex_base.specs.declared.engine.Engine.{Engine}
use Rattle.flex_base.specs.declared.event.Event.{Event}
use Rattle.flex_base.specs.declared.event.What.{What}
use Rattle.flex_base.specs.declared.hart.HartId.{HartId}
use Rattle.flex_base.proofs.Following.{leads_to-push}
use Rattle.access_record.specs.Logs.{log_entry}
use Rattle.access_record.specs.Buses.{Run, events_of, Extends}
use Rattle.access_record.specs.Histories.{History}
use Rattle.access_record.proofs.Extending.{events_of-push}
use Rattle.transplant_plan.specs.Split.{Splitting, with_number, holder_of}
use Rattle.mem_banks.specs.Plain.{Plain}
use Rattle.mem_banks.specs.End.{IsFounderOf}
use Rattle.context.specs.Contexts.{Context, IsOn, IsSame, events_in}
use Rattle.solo.specs.Solo.{Solo, engines_of, least_in}
use Rattle.journal.specs.Merged.{of_hart}
use Rattle.solo.specs.Rising.{Rises}
use Rattle.solo.specs.Standing.{IsReached, Serves, IsMade, IsHart, AreEnrolled, Holds}
use Rattle.solo.proofs.Rising.{rises_push, numbered_more, harts_push}
use Rattle.solo.proofs.Standing.{hart_read}
use Rattle.solo.proofs.Serving.{serves_own}

-- The part of one hart.

of_hart-own : (h : ℕ) (events : List Event) (e : Event) → e.hart.0 ≡ h → of_hart h (events ++ e ∷ []) ≡ of_hart h events ++ e ∷ []
unfolding of_hart
of_hart-own h events e same =
    filter-append (λ (x : Event). x.hart.0 == h) events (e ∷ [])
    ∙ ap (λ b. of_hart h events ++ (if b then e ∷ [] else [])) (eq-eqb e.hart.0 h same)

of_hart-other : (h : ℕ) (events : List Event) (e : Event) → e.hart.0 ≢ h → of_hart h (events ++ e ∷ []) ≡ of_hart h events
unfolding of_hart
of_hart-other h events e other =
    filter-append (λ (x : Event). x.hart.0 == h) events (e ∷ [])
    ∙ ap (λ b. of_hart h events ++ (if b then e ∷ [] else [])) (ne_eqb e.hart.0 h other)
    ∙ append-nil (of_hart h events)

-- the split with an event more, after which the hart is in this engine
abbrev pub grown : Splitting → ℕ → Engine → What → Engine → Splitting
grown p h from happened to = record { engines = set p.engines h to; events = with_number p.events h from happened }

abbrev pub with_hart : Solo → ℕ → Context → Plain → Solo
with_hart s h c bus = record s { contexts = set s.contexts h c; bus = bus }

-- what a machine is after an event of a hart
pub record Goes (setup : Setup) (u v : Machine) (h : ℕ) (happened : What) : Type 0 where
  pub reached : IsReached setup v
  pub counted : length v.harts ≡ length u.harts
  pub own : instruction_at v h ≡ instruction_then setup (instruction_at u h) happened
  pub others : (k : ℕ) → k ≢ h → instruction_at v k ≡ instruction_at u k

module _ (setup : Setup) (u v : Machine) (p : Splitting) (s : Solo) (h : ℕ) (c new : Context) (bus : Plain) (happened : What) (bank : Option ℕ)
    (number : ℕ) (to : Engine) (holds : Holds setup u p s) (below : h < setup.harts) (read : c ≡ get_or s.contexts h c)
    (extends : Extends c.pass new.pass (record { engine = c.engine; what = happened }) bank number) (same : IsSame c new) (on : IsOn bus.run new)
    (enters : new.engine ≡ to) (run_same : bus.run ≡ s.bus.run) (rises : least_in s.bus ≤ number) (least : least_in bus ≡ number + 1)
    (goes : Goes setup u v h happened) (memory : Serves setup v bus) where
  abbrev e : Event
  e = event number c.pass.hart.0 c.engine happened

  abbrev there : IsHart setup u s holds.made h (holder_of (engines_of s.plan) p h) c
  there = hart_read setup u p s holds h c below read

  abbrev made : List Event
  made = holds.made ++ e ∷ []

  abbrev next : Solo
  next = with_hart s h new bus

  within : h < length s.contexts
  within = omega (arith, below, holds.counted)

  is_made : IsMade setup.harts (least_in bus) (grown p h c.engine happened to).events made
  is_made =
      let Rise : ℕ → Type 0 = λ n. Rises 0 n made in
      record {
        rises = subst Rise (sym least) (rises_push 0 (least_in s.bus) number holds.made e holds.are_made.rises rises refl);
        harts_are = harts_push setup.harts holds.made e holds.are_made.harts_are (omega (arith, below, there.number));
        journal_is = numbered_more holds.made e
            ∙ ap (λ (es : List Event). es ++ event (length es) c.pass.hart.0 c.engine happened ∷ []) holds.are_made.journal_is
            ∙ ap (λ n. p.events ++ event (length p.events) n c.engine happened ∷ []) there.number;
      }

  events_more : events_in new ≡ events_in c ++ e ∷ []
  events_more = ap events_of extends.log ∙ events_of-push c.pass.log (log_entry (record { engine = c.engine; what = happened }) c.pass.hart bank number)

  new_hart : IsHart setup v next made h to new
  new_hart = record {
    on = on;
    number = ap (λ (x : HartId). x.0) same.hart ∙ there.number;
    plan_is = same.plan ∙ there.plan_is;
    settings_are = same.settings ∙ there.settings_are;
    instruction = goes.own ∙ ap (λ (i : Instruction). instruction_then setup i happened) there.instruction
        ∙ sym (leads_to-push setup (first_instruction setup h) (events_in c) e)
        ∙ ap (instruction_of setup h) (sym events_more);
    events = events_more ∙ ap (λ (es : List Event). es ++ e ∷ []) there.events ∙ sym (of_hart-own h holds.made e there.number);
    engine_is = enters;
  }

  here : (other : Context) → IsHart setup v next made h (holder_of (engines_of s.plan) (grown p h c.engine happened to) h) (get_or next.contexts h other)
  here other =
      let in_engines : h < length p.engines = omega (arith, below, holds.engines) in
      let read_back = get_or-set_same s.contexts h new other within in
      let held = get_or-set_same p.engines h to (engines_of s.plan h class.Fetch) in_engines in
      let Is : Engine × Context → Type 0 = λ x. IsHart setup v next made h x.0 x.1 in
      subst Is (λ i. (sym held i, sym read_back i)) new_hart

  apart : (k : ℕ) (other : Context) → k ≢ h → k < setup.harts
      → IsHart setup v next made k (holder_of (engines_of s.plan) (grown p h c.engine happened to) k) (get_or next.contexts k other)
  apart k other differs below_k =
      let was = holds.each k other below_k in
      let old = get_or s.contexts k other in
      let read_back = get_or-set_other s.contexts h k new other differs in
      let held = get_or-set_other p.engines h k to (engines_of s.plan k class.Fetch) differs in
      let On : Run → Type 0 = λ r. IsOn r old in
      let now : IsHart setup v next made k (holder_of (engines_of s.plan) p k) old = record {
        on = subst On (sym run_same) was.on;
        number = was.number;
        plan_is = was.plan_is;
        settings_are = was.settings_are;
        instruction = goes.others k differs ∙ was.instruction;
        events = was.events ∙ sym (of_hart-other k holds.made e (λ one. differs (sym one ∙ there.number)));
        engine_is = was.engine_is;
      } in
      let Is : Engine × Context → Type 0 = λ x. IsHart setup v next made k x.0 x.1 in
      subst Is (λ i. (sym held i, sym read_back i)) now

  enrolled : AreEnrolled setup bus s.founder
  enrolled =
      let Founds : Run → Type 0 = λ r. IsFounderOf r s.founder in
      record { founder_is = subst Founds (sym run_same) holds.enrolment.founder_is; enrolled = holds.enrolment.enrolled }

  -- the machine with the event holds
  pub holds_more : Holds setup v (grown p h c.engine happened to) next
  holds_more = record {
    some = holds.some;
    few = holds.few;
    ends = holds.ends;
    reached = goes.reached;
    settings_is = holds.settings_is;
    halves = goes.counted ∙ holds.halves;
    counted = length-set s.contexts h new ∙ holds.counted;
    engines = length-set p.engines h to ∙ holds.engines;
    made = made;
    are_made = is_made;
    each = λ k other below_k. elim (cases_eq k h) [
      | inl one ↦
          let Is : ℕ → Type 0 = λ j. IsHart setup v next made j (holder_of (engines_of s.plan) (grown p h c.engine happened to) j) (get_or next.contexts j other) in
          subst Is (sym one) (here other)
      | inr differs ↦ apart k other differs below_k
    ];
    memory = memory;
    enrolment = enrolled;
  }

-- Nothing happened: what a context's events don't tell may differ.

module _ (setup : Setup) (u : Machine) (p : Splitting) (s : Solo) (h : ℕ) (c new : Context) (bus : Plain) (holds : Holds setup u p s) (below : h < setup.harts)
    (read : c ≡ get_or s.contexts h c) (same : IsSame c new) (events : events_in new ≡ events_in c) (stays : new.engine ≡ c.engine) (on : IsOn s.bus.run new)
    (run_same : bus.run ≡ s.bus.run) (history : bus.history ≡ s.bus.history) where
  abbrev same_hart : ℕ → Context → Type 0
  same_hart k x = IsHart setup u (with_hart s h new bus) holds.made k (holder_of (engines_of s.plan) p k) x

  own_same : same_hart h new
  own_same =
      let there = hart_read setup u p s holds h c below read in
      let On : Run → Type 0 = λ r. IsOn r new in
      record {
        on = subst On (sym run_same) on;
        number = ap (λ (x : HartId). x.0) same.hart ∙ there.number;
        plan_is = same.plan ∙ there.plan_is;
        settings_are = same.settings ∙ there.settings_are;
        instruction = there.instruction ∙ ap (instruction_of setup h) (sym events);
        events = events ∙ there.events;
        engine_is = stays ∙ there.engine_is;
      }

  other_same : (k : ℕ) (other : Context) → k < setup.harts → same_hart k (get_or s.contexts k other)
  other_same k other below_k =
      let was = holds.each k other below_k in
      let On : Run → Type 0 = λ r. IsOn r (get_or s.contexts k other) in
      record {
        on = subst On (sym run_same) was.on;
        number = was.number;
        plan_is = was.plan_is;
        settings_are = was.settings_are;
        instruction = was.instruction;
        events = was.events;
        engine_is = was.engine_is;
      }

  each_same : (k : ℕ) (other : Context) → k < setup.harts → same_hart k (get_or (set s.contexts h new) k other)
  each_same k other below_k = elim (cases_eq k h) [
    | inl one ↦
        let within : h < length s.contexts = omega (arith, below, holds.counted) in
        let back = ap (λ j. get_or (set s.contexts h new) j other) one ∙ get_or-set_same s.contexts h new other within in
        let Is : ℕ × Context → Type 0 = λ x. same_hart x.0 x.1 in
        subst Is (λ i. (sym one i, sym back i)) own_same
    | inr differs ↦
        let Is : Context → Type 0 = λ x. same_hart k x in
        subst Is (sym (get_or-set_other s.contexts h k new other differs)) (other_same k other below_k)
  ]

  pub holds_still : Holds setup u p (with_hart s h new bus)
  holds_still =
      let Made : ℕ → Type 0 = λ n. IsMade setup.harts n p.events holds.made in
      let Founds : Run → Type 0 = λ r. IsFounderOf r s.founder in
      record {
        some = holds.some;
        few = holds.few;
        ends = holds.ends;
        reached = holds.reached;
        settings_is = holds.settings_is;
        halves = holds.halves;
        counted = length-set s.contexts h new ∙ holds.counted;
        engines = holds.engines;
        made = holds.made;
        are_made = subst Made (sym (ap (λ (x : History). x.least) history)) holds.are_made;
        each = each_same;
        memory = serves_own setup u u s.bus bus holds.memory run_same (ap (λ (x : History). length x.banks) history) refl refl
            (λ bank. ap (λ (x : History). get_or x.banks bank []) history);
        enrolment = record { founder_is = subst Founds (sym run_same) holds.enrolment.founder_is; enrolled = holds.enrolment.enrolled };
      }
