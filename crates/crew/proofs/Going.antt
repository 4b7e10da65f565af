-- The unsplit machine goes through the merged entries: by recursion on them, from any state that some order leads to.
use Rattle.std.proofs.Common.{◌≡◌, ℕ, ◌<◌, Bool, true, false, cond, if◌then◌else◌, List, [], ◌∷◌, ◌++◌, length, Option, None, Some, inl, inr, refl, sym, ap, ◌∙◌, subst, append-nil, append_assoc, eq-eqb, ne_eqb}
use Rattle.std.specs.List.{filter}
use Rattle.std.proofs.lemmas.Bool.{cases_eq, cases_Bool}
use Rattle.std.proofs.lemmas.List.{map-append}
use Rattle.flex_base.specs.Setup.{Setup}
use Rattle.flex_base.specs.FlatMemory.{Done}
use Rattle.flex_base.specs.Forms.{IsPlaced}
use Rattle.flex_base.specs.Banks.{access_in, accesses_of, IsAnswered, IsAt, BankedFrom}
use Rattle.flex_base.specs.Following.{MayDo, instruction_then, FollowsFrom, leads_to}
use Rattle.flex_base.specs.Unsplit.{Machine, Instruction, Made, instruction_at, step, reach_from}
use Rattle.flex_base.specs.Journal.{strip}
use Rattle.flex_base.specs.declared.event.Event.{Event}
use Rattle.flex_base.specs.declared.event.What.{What}
use Rattle.flex_base.specs.declared.event.What.TheVariants as what
use Rattle.flex_base.proofs.Machines.{reach-none}
use Rattle.access_record.specs.declared.entry.LogEntry.{LogEntry}
use Rattle.access_record.specs.Logs.{is_bank, names_hart, names_bank, of_hart, on_bank}
use Rattle.access_record.specs.Buses.{Run, ram_banks, place_in, events_of}
use Rattle.solo.specs.Standing.{IsReached, ArePlaced}
use Rattle.crew.proofs.Ascending.{In}
use Rattle.crew.proofs.Steps.{done_in, made_by, harts_of, strip_cons, StepOf, step_access, step_end, step_handover}

-- Parts of entries, with one entry before them.

pub hart_cons : (hart : ℕ) (e : LogEntry) (es : List LogEntry) (b : Bool) → names_hart hart e ≡ b → of_hart hart (e ∷ es) ≡ (if b then e ∷ of_hart hart es else of_hart hart es)
unfolding of_hart
hart_cons hart e es b is = ap (λ c. cond c (e ∷ filter (names_hart hart) es) (filter (names_hart hart) es)) is

hart_none : (hart : ℕ) → of_hart hart [] ≡ []
unfolding of_hart
hart_none hart = refl

bank_cons : (bank : ℕ) (e : LogEntry) (es : List LogEntry) (b : Bool) → names_bank bank e ≡ b → on_bank bank (e ∷ es) ≡ (if b then e ∷ on_bank bank es else on_bank bank es)
unfolding on_bank
bank_cons bank e es b is = ap (λ c. cond c (e ∷ filter (names_bank bank) es) (filter (names_bank bank) es)) is

bank_none : (bank : ℕ) → on_bank bank [] ≡ []
unfolding on_bank
bank_none bank = refl

leads-cons : (setup : Setup) (i : Instruction) (e : Event) (events : List Event) → leads_to setup i (e ∷ events) ≡ leads_to setup (instruction_then setup i e.what) events
unfolding leads_to
leads-cons setup i e events = refl

leads-none : (setup : Setup) (i : Instruction) → leads_to setup i [] ≡ i
unfolding leads_to
leads-none setup i = refl

strip-none : strip [] ≡ []
unfolding strip
strip-none = refl

-- What is known at a state.

-- an access names its bank and stands where it may; what is no access names none
abbrev pub IsHere : Run → Option ℕ → What → Type 0
IsHere run at (what.Acc access reply) = (at ≡ Some (place_in run access)) × IsPlaced run.setup.harts run.setup.ram access
IsHere run at other = at ≡ None

pub record IsEntry (run : Run) (e : LogEntry) : Type 0 where
  pub below : e.event.hart.0 < run.setup.harts
  pub here : IsHere run e.bank e.event.what

-- The entries that are left at a state that some order leads to: those of each hart follow from where it is in its
-- instruction, and those of each bank are answered after what the bank has done
pub record AreLeft (run : Run) (u : Machine) (es : List LogEntry) : Type 0 where
  pub reached : IsReached run.setup u
  pub counted : length u.harts ≡ run.setup.harts
  pub placed : ArePlaced run.setup u.ram
  pub entries : (e : LogEntry) → In e es → IsEntry run e
  pub follow : (hart : ℕ) → hart < run.setup.harts → FollowsFrom run.setup (instruction_at u hart) (events_of (of_hart hart es))
  pub banked : (bank : ℕ) → BankedFrom run.setup (ram_banks run) bank (done_in (ram_banks run) bank u) (events_of (on_bank bank es))

-- the state to which these entries lead: the events are theirs, each hart is where its own lead, and each bank has done its own
pub record Lead (run : Run) (u v : Machine) (es : List LogEntry) : Type 0 where
  pub events : v.events ≡ u.events ++ strip (events_of es)
  pub placed : ArePlaced run.setup v.ram
  pub instructions : (hart : ℕ) → hart < run.setup.harts → instruction_at v hart ≡ leads_to run.setup (instruction_at u hart) (events_of (of_hart hart es))
  pub banks : (bank : ℕ) → done_in (ram_banks run) bank v ≡ done_in (ram_banks run) bank u ++ accesses_of (events_of (on_bank bank es))

-- where the machine goes by these entries
abbrev pub after : Run → Machine → List LogEntry → Machine
after run u es = reach_from run.setup u (harts_of (strip (events_of es)))

module _ (run : Run) (some : 0 < ram_banks run) where
  -- One entry.

  -- what its hart does, which may happen to it, and which is answered at the bank that the entry names
  step_by : (u : Machine) (h : ℕ) (w : What) (at : Option ℕ) → IsReached run.setup u → length u.harts ≡ run.setup.harts → ArePlaced run.setup u.ram → h < run.setup.harts
      → MayDo run.setup (instruction_at u h) w → IsHere run at w
      → ((bank : ℕ) → is_bank at bank ≡ true → IsAt run.setup (ram_banks run) bank (done_in (ram_banks run) bank u) h w)
      → (v : Machine) × StepOf run.setup (ram_banks run) u v h w at
  step_by u h (what.Acc access reply) at reached counted placed below may here answered =
      let within : h < length u.harts = subst (λ (n : ℕ). h < n) (sym counted) below in
      let place = place_in run access in
      let names : is_bank at place ≡ true = ap (λ (p : Option ℕ). is_bank p place) here.0 ∙ eq-eqb place place refl in
      let told : IsAnswered run.setup (ram_banks run) place (done_in (ram_banks run) place u) h access reply = answered place names in
      let Made : Option ℕ → Type 0 = λ p. StepOf run.setup (ram_banks run) u (step run.setup u h) h (what.Acc access reply) p in
      (step run.setup u h, subst Made (sym here.0) (step_access run.setup (ram_banks run) some u h reached below within placed access here.1 reply may.0 told.reply_is told.proper))
  step_by u h (what.End part) at reached counted placed below may here answered =
      let within : h < length u.harts = subst (λ (n : ℕ). h < n) (sym counted) below in
      let Made : Option ℕ → Type 0 = λ p. StepOf run.setup (ram_banks run) u (step run.setup u h) h (what.End part) p in
      (step run.setup u h, subst Made (sym here) (step_end run.setup (ram_banks run) some u h reached below within placed part may.0 may.1))
  step_by u h (what.Handover to) at reached counted placed below may here answered =
      let within : h < length u.harts = subst (λ (n : ℕ). h < n) (sym counted) below in
      let Made : Option ℕ → Type 0 = λ p. StepOf run.setup (ram_banks run) u u h (what.Handover to) p in
      (u, subst Made (sym here) (step_handover run.setup (ram_banks run) some u h reached below within placed to))

  module _ (u : Machine) (e : LogEntry) (es : List LogEntry) (left : AreLeft run u (e ∷ es)) where
    abbrev h : ℕ
    h = e.event.hart.0

    abbrev w : What
    w = e.event.what

    abbrev done : ℕ → List Done
    done bank = done_in (ram_banks run) bank u

    entry : IsEntry run e
    entry = left.entries e (inl refl)

    own : names_hart h e ≡ true
    own = eq-eqb h h refl

    -- the entry is the first of its hart's part
    first : MayDo run.setup (instruction_at u h) w × FollowsFrom run.setup (instruction_then run.setup (instruction_at u h) w) (events_of (of_hart h es))
    first =
        let From : List LogEntry → Type 0 = λ l. FollowsFrom run.setup (instruction_at u h) (events_of l) in
        subst From (hart_cons h e es true own) (left.follow h entry.below)

    -- and of the part of the bank that it names
    first_at : (bank : ℕ) → names_bank bank e ≡ true
        → IsAt run.setup (ram_banks run) bank (done bank) h w × BankedFrom run.setup (ram_banks run) bank (done bank ++ access_in h w) (events_of (on_bank bank es))
    first_at bank names =
        let From : List LogEntry → Type 0 = λ l. BankedFrom run.setup (ram_banks run) bank (done bank) (events_of l) in
        subst From (bank_cons bank e es true names) (left.banked bank)

    next : (v : Machine) × StepOf run.setup (ram_banks run) u v h w e.bank
    next = step_by u h w e.bank left.reached left.counted left.placed entry.below first.0 entry.here (λ bank names. (first_at bank names).0)

    module _ (v : Machine) (made : StepOf run.setup (ram_banks run) u v h w e.bank) where
      banks_by : (bank : ℕ) (b : Bool) → names_bank bank e ≡ b → done_in (ram_banks run) bank v ≡ done bank ++ (if b then access_in h w else [])
      banks_by bank b names = made.at_banks bank ∙ ap (λ c. done bank ++ (if c then access_in h w else [])) names

      -- What is left after it.

      follow_on : (hart : ℕ) → hart < run.setup.harts → FollowsFrom run.setup (instruction_at v hart) (events_of (of_hart hart es))
      follow_on hart below = elim (cases_eq h hart) [
        | inl same ↦
            let From : Instruction → Type 0 = λ i. FollowsFrom run.setup i (events_of (of_hart h es)) in
            let Of : ℕ → Type 0 = λ k. FollowsFrom run.setup (instruction_at v k) (events_of (of_hart k es)) in
            subst Of same (subst From (sym made.goes.own) first.1)
        | inr other ↦
            let From : Instruction → Type 0 = λ i. FollowsFrom run.setup i (events_of (of_hart hart es)) in
            let Part : List LogEntry → Type 0 = λ l. FollowsFrom run.setup (instruction_at u hart) (events_of l) in
            subst From (sym (made.goes.others hart (λ same. other (sym same)))) (subst Part (hart_cons hart e es false (ne_eqb h hart other)) (left.follow hart below))
      ]

      banked_on : (bank : ℕ) → BankedFrom run.setup (ram_banks run) bank (done_in (ram_banks run) bank v) (events_of (on_bank bank es))
      banked_on bank =
          let From : List Done → Type 0 = λ made. BankedFrom run.setup (ram_banks run) bank made (events_of (on_bank bank es)) in
          elim (cases_Bool (names_bank bank e)) [
            | inl names ↦ subst From (sym (banks_by bank true names)) (first_at bank names).1
            | inr not_it ↦
                let Part : List LogEntry → Type 0 = λ l. BankedFrom run.setup (ram_banks run) bank (done bank) (events_of l) in
                subst From (sym (banks_by bank false not_it ∙ append-nil (done bank))) (subst Part (bank_cons bank e es false not_it) (left.banked bank))
          ]

      left_on : AreLeft run v es
      left_on = record {
        reached = made.goes.reached;
        counted = made.goes.counted ∙ left.counted;
        placed = made.placed;
        entries = λ x i. left.entries x (inr i);
        follow = follow_on;
        banked = banked_on;
      }

      -- Where it leads, with the rest.

      leads_own : leads_to run.setup (instruction_at v h) (events_of (of_hart h es)) ≡ leads_to run.setup (instruction_at u h) (events_of (of_hart h (e ∷ es)))
      leads_own =
          ap (λ (i : Instruction). leads_to run.setup i (events_of (of_hart h es))) made.goes.own
          ∙ sym (leads-cons run.setup (instruction_at u h) e.event (events_of (of_hart h es)))
          ∙ sym (ap (λ (l : List LogEntry). leads_to run.setup (instruction_at u h) (events_of l)) (hart_cons h e es true own))

      leads_on : (hart : ℕ) → leads_to run.setup (instruction_at v hart) (events_of (of_hart hart es)) ≡ leads_to run.setup (instruction_at u hart) (events_of (of_hart hart (e ∷ es)))
      leads_on hart = elim (cases_eq h hart) [
        | inl same ↦
            let Of : ℕ → Type 0 = λ k. leads_to run.setup (instruction_at v k) (events_of (of_hart k es)) ≡ leads_to run.setup (instruction_at u k) (events_of (of_hart k (e ∷ es))) in
            subst Of same leads_own
        | inr other ↦
            ap (λ (i : Instruction). leads_to run.setup i (events_of (of_hart hart es))) (made.goes.others hart (λ same. other (sym same)))
            ∙ sym (ap (λ (l : List LogEntry). leads_to run.setup (instruction_at u hart) (events_of l)) (hart_cons hart e es false (ne_eqb h hart other)))
      ]

      done_on : (bank : ℕ) → done_in (ram_banks run) bank v ++ accesses_of (events_of (on_bank bank es)) ≡ done bank ++ accesses_of (events_of (on_bank bank (e ∷ es)))
      done_on bank =
          let part = accesses_of (events_of (on_bank bank es)) in
          elim (cases_Bool (names_bank bank e)) [
            | inl names ↦
                ap (λ (ds : List Done). ds ++ part) (banks_by bank true names) ∙ append_assoc (done bank) (access_in h w) part
                ∙ sym (ap (λ (l : List LogEntry). done bank ++ accesses_of (events_of l)) (bank_cons bank e es true names))
            | inr not_it ↦
                ap (λ (ds : List Done). ds ++ part) (banks_by bank false not_it ∙ append-nil (done bank))
                ∙ sym (ap (λ (l : List LogEntry). done bank ++ accesses_of (events_of l)) (bank_cons bank e es false not_it))
          ]

      module _ (z : Machine) (rest : Lead run v z es) where
        all_events : z.events ≡ u.events ++ strip (events_of (e ∷ es))
        all_events =
            rest.events ∙ ap (λ (ms : List Made). ms ++ strip (events_of es)) made.events ∙ append_assoc u.events (made_by h w) (strip (events_of es))
            ∙ ap (λ (ms : List Made). u.events ++ ms) (sym (strip_cons e.event (events_of es)))

        all_instructions : (hart : ℕ) → hart < run.setup.harts → instruction_at z hart ≡ leads_to run.setup (instruction_at u hart) (events_of (of_hart hart (e ∷ es)))
        all_instructions hart below = rest.instructions hart below ∙ leads_on hart

        all_banks : (bank : ℕ) → done_in (ram_banks run) bank z ≡ done bank ++ accesses_of (events_of (on_bank bank (e ∷ es)))
        all_banks bank = rest.banks bank ∙ done_on bank

        lead_on : Lead run u z (e ∷ es)
        lead_on = record { events = all_events; placed = rest.placed; instructions = all_instructions; banks = all_banks }

      after_is : after run u (e ∷ es) ≡ after run v es
      after_is =
          ap (λ (ms : List Made). reach_from run.setup u (harts_of ms)) (strip_cons e.event (events_of es))
          ∙ ap (reach_from run.setup u) (map-append (λ (m : Made). m.hart) (made_by h w) (strip (events_of es)))
          ∙ made.leads (harts_of (strip (events_of es)))

  -- All entries.

  none_lead : (u : Machine) → AreLeft run u [] → Lead run u (after run u []) []
  none_lead u left =
      let To : Machine → Type 0 = λ m. Lead run u m [] in
      let stays : after run u [] ≡ u = ap (λ (ms : List Made). reach_from run.setup u (harts_of ms)) strip-none ∙ reach-none run.setup u in
      subst To (sym stays) (record {
        events = sym (ap (λ (ms : List Made). u.events ++ ms) strip-none ∙ append-nil u.events);
        placed = left.placed;
        instructions = λ hart below.
            sym (ap (λ (l : List LogEntry). leads_to run.setup (instruction_at u hart) (events_of l)) (hart_none hart) ∙ leads-none run.setup (instruction_at u hart));
        banks = λ bank.
            sym (ap (λ (l : List LogEntry). done_in (ram_banks run) bank u ++ accesses_of (events_of l)) (bank_none bank) ∙ append-nil (done_in (ram_banks run) bank u));
      })

  pub all_lead : (es : List LogEntry) (u : Machine) → AreLeft run u es → Lead run u (after run u es) es
  all_lead [] u left = none_lead u left
  all_lead (e ∷ es) u left =
      let one = next u e es left in
      let To : Machine → Type 0 = λ m. Lead run u m (e ∷ es) in
      let rest = all_lead es one.0 (left_on u e es left one.0 one.1) in
      subst To (sym (after_is u e es left one.0 one.1)) (lead_on u e es left one.0 one.1 (after run one.0 es) rest)
