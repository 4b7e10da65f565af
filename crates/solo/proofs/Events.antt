-- An event that a context made over a bus of one thread is the machine's.
use Rattle.std.proofs.Common.{◌≡◌, ◌≢◌, ℕ, ◌+◌, ◌<◌, List, [], ◌∷◌, ◌++◌, length, get_or, set, Some, inl, inr, refl, ap, sym, subst, ◌∙◌, arith, length-set, get_or-set_same, get_or-set_other}
use Rattle.std.proofs.lemmas.Bool.{cases_Bool}
use Rattle.flex_base.specs.Setup.{Setup}
use Rattle.flex_base.specs.FlatMemory.{Done, is_ram_access}
use Rattle.flex_base.specs.Forms.{IsPlaced}
use Rattle.flex_base.specs.Banks.{IsAnswered}
use Rattle.flex_base.specs.StoryTree.{Want, Asks, Ends, IsOver, IsParked}
use Rattle.flex_base.specs.Following.{MayDo}
use Rattle.flex_base.specs.Classes.{class_of_what}
use Rattle.flex_base.specs.Unsplit.{Machine, Instruction, instruction_at, want_of, next_of, makes, step, does}
use Rattle.flex_base.specs.declared.class.Class.{Class}
use Rattle.flex_base.specs.declared.engine.Engine.{Engine}
use Rattle.flex_base.specs.declared.access.Access.{Access}
use Rattle.flex_base.specs.declared.access.Reply.{Reply}
use Rattle.flex_base.specs.declared.event.What.{What}
use Rattle.flex_base.specs.declared.event.What.TheVariants as what
use Rattle.flex_base.proofs.Machines.{step_is, next_asks, next_ends}
use Rattle.access_record.specs.Buses.{Run, ram_banks, place_in}
use Rattle.access_record.specs.Histories.{History, history_after, Grows}
use Rattle.transplant_plan.specs.Planning.{engine_at}
use Rattle.transplant_plan.specs.Split.{Splitting}
use Rattle.transplant_plan.specs.declared.plan.Plan.{Plan}
use Rattle.mem_banks.specs.Plain.{Plain}
use Rattle.context.specs.declared.wants.Wants.{Wants}
use Rattle.context.specs.declared.wants.Wants.TheVariants as wants
use Rattle.context.specs.Contexts as context
use Rattle.context.specs.Contexts.{Context, IsOn, IsSame, IsPlacedIn, Adds, Steps, Moves}
use Rattle.context.specs.Obeying.{wants_of}
use Rattle.solo.specs.Solo.{Solo, engines_of, done_at}
use Rattle.solo.specs.Standing.{Holds, IsAt, split_of}
use Rattle.solo.proofs.Standing.{hart_read, instruction_read, wants_read}
use Rattle.solo.proofs.Flat.{IsReserved}
use Rattle.solo.proofs.Serving.{bank_below, device_last, told, serves_access, serves_own, reserved_asked}
use Rattle.solo.proofs.Stepping.{Goes, grown, with_hart, holds_more}
use Rattle.solo.proofs.Making.{Does, Accesses, Finishes, IsOfClass, does_next, goes_access, goes_end, goes_handover, events_access, events_end, grown_in, grown_after, set_twice, split_more}

-- The history of the bus.

pub some_history : (a b : History) → Some a ≡ Some b → a ≡ b
some_history a b e = cc

least_after : (run : Run) (old : History) (h : ℕ) (happened : What) (number : ℕ) → (history_after run old h happened number).least ≡ number + 1
least_after run old h (what.Acc access reply) number = refl
least_after run old h (what.End part) number = refl
least_after run old h (what.Handover to) number = refl

-- the event is made in the machine too
pub record IsMadeBy (setup : Setup) (u : Machine) (p : Splitting) (s : Solo) (h : ℕ) (c new : Context) (bus : Plain) (happened : What) : Type 0 where
  pub holds : Holds setup (step setup u h) (grown p h c.engine happened c.engine) (with_hart s h new bus)
  pub events : (step setup u h).events ≡ u.events ++ does h happened ∷ []

module _ (setup : Setup) (u : Machine) (p : Splitting) (s : Solo) (h : ℕ) (c new : Context) (bus : Plain) (holds : Holds setup u p s) (below : h < setup.harts)
    (read : c ≡ get_or s.contexts h c) (number_is : c.pass.hart.0 ≡ h) (same : IsSame c new) (on : IsOn s.bus.run new) (run_same : bus.run ≡ s.bus.run) where
  within : h < length u.harts
  within = omega (arith, below, holds.halves)

  on_new : IsOn bus.run new
  on_new =
      let On : Run → Type 0 = λ r. IsOn r new in
      subst On (sym run_same) on

  place_within : (access : Access) → place_in s.bus.run access < length s.bus.history.banks
  place_within access = elim (cases_Bool (is_ram_access access)) [
    | inl ram ↦ omega (arith, bank_below setup u s.bus h access holds.memory ram, holds.memory.all, holds.memory.whole)
    | inr device ↦ omega (arith, device_last setup u s.bus h access holds.memory device, holds.memory.all, holds.memory.whole)
  ]

  pub access_made : (access : Access) (reply : Reply) (adds : Adds s.bus.run (Some s.bus.history) (Some bus.history) (what.Acc access reply) c new) → new.engine ≡ c.engine
      → next_of setup u h ≡ Asks access → IsPlaced setup.harts setup.ram access → IsReserved u.ram h access
      → IsMadeBy setup u p s h c new bus (what.Acc access reply)
  access_made access reply adds stays asks placed reserved =
      let grows = adds.history in
      let after = some_history bus.history (history_after s.bus.run s.bus.history c.pass.hart.0 (what.Acc access reply) adds.number) grows.grown in
      let place = place_in s.bus.run access in
      let banks : bus.history.banks ≡ set s.bus.history.banks place (done_at s.bus place ++ record { hart = h; access = access; reply = reply } ∷ []) =
      ap (λ (x : History). x.banks) after
      ∙ ap (λ n. set s.bus.history.banks place (done_at s.bus place ++ record { hart = n; access = access; reply = reply } ∷ [])) number_is in
      let Answered : Setup × ℕ → Type 0 = λ x. IsAnswered x.0 (ram_banks s.bus.run) place (done_at s.bus place) x.1 access reply in
      let answered = subst Answered (λ i. (holds.memory.setup_is i, number_is i)) grows.answered in
      let is = told setup u s.bus h access holds.memory reply placed reserved answered.reply_is in
      let v_is : step setup u h ≡ makes u h access reply = step_is setup u h (Asks access) below asks ∙ ap (makes u h access) (sym is) in
      let own = ap (λ (xs : List (List Done)). get_or xs place []) banks ∙ get_or-set_same s.bus.history.banks place _ [] (place_within access) in
      let others = λ (bank : ℕ) (apart : bank ≢ place). ap (λ (xs : List (List Done)). get_or xs bank []) banks ∙ get_or-set_other s.bus.history.banks place bank _ [] apart in
      let counts = ap (λ (xs : List (List Done)). length xs) banks ∙ length-set s.bus.history.banks place _ in
      record {
        holds = holds_more setup u (step setup u h) p s h c new bus (what.Acc access reply) adds.bank adds.number c.engine holds below read adds.noted same on_new
            stays run_same grows.rises (ap (λ (x : History). x.least) after)
            (goes_access setup u h holds.reached below within access reply asks is)
            (serves_access setup u s.bus h access holds.memory reply (step setup u h) bus placed run_same counts v_is own others);
        events = events_access setup u h holds.reached below within access reply asks is;
      }

  -- an event that is no access leaves the memory
  pub own_made : (happened : What) (v : Machine) (to : Engine) (adds : Adds s.bus.run (Some s.bus.history) (Some bus.history) happened c new) → new.engine ≡ to
      → (history_after s.bus.run s.bus.history c.pass.hart.0 happened adds.number).banks ≡ s.bus.history.banks → v.ram ≡ u.ram → v.devices ≡ u.devices → Goes setup u v h happened
      → Grows s.bus.run s.bus.history c.pass.hart.0 happened adds.number (Some bus.history)
      → Holds setup v (grown p h c.engine happened to) (with_hart s h new bus)
  own_made happened v to adds enters keeps ram devices goes grows =
      let after = some_history bus.history (history_after s.bus.run s.bus.history c.pass.hart.0 happened adds.number) grows.grown in
      let banks : bus.history.banks ≡ s.bus.history.banks = ap (λ (x : History). x.banks) after ∙ keeps in
      let least = ap (λ (x : History). x.least) after ∙ least_after s.bus.run s.bus.history c.pass.hart.0 happened adds.number in
      holds_more setup u v p s h c new bus happened adds.bank adds.number to holds below read adds.noted same on_new enters run_same grows.rises least goes
      (serves_own setup u v s.bus bus holds.memory run_same (ap (λ (xs : List (List Done)). length xs) banks) ram devices
      (λ bank. ap (λ (xs : List (List Done)). get_or xs bank []) banks))

-- What a context wants, by its class.

-- a context that wants this wants an event of the class
abbrev pub TellsClass : (Class → Wants) → Type 0
TellsClass wanted = (w : Want) (class : Class) → wants_of w ≡ wanted class → IsOfClass w class

pub ask_tells : TellsClass wants.Ask
ask_tells (Asks access) class e = cc
ask_tells (Ends part next) class e = absurd cc
ask_tells IsOver class e = absurd cc
ask_tells IsParked class e = absurd cc

pub finish_tells : TellsClass wants.Finish
finish_tells (Asks access) class e = absurd cc
finish_tells (Ends part next) class e = cc
finish_tells IsOver class e = absurd cc
finish_tells IsParked class e = absurd cc

-- An event that it wanted.

module _ (setup : Setup) (u : Machine) (p : Splitting) (s : Solo) (h : ℕ) (c new : Context) (bus : Plain) (wanted : Class → Wants) (holds : Holds setup u p s)
    (below : h < setup.harts) (read : c ≡ get_or s.contexts h c) (same : IsSame c new) (on : IsOn s.bus.run new) (run_same : bus.run ≡ s.bus.run)
    (tells : TellsClass wanted) (went : context.Goes s.bus.run (Some s.bus.history) (Some bus.history) wanted c new) where
  abbrev steps : Steps s.bus.run (Some s.bus.history) (Some bus.history) c new
  steps = went.steps

  number_is : c.pass.hart.0 ≡ h
  number_is = (hart_read setup u p s holds h c below read).number

  of_class : IsOfClass (want_of setup u h) went.class
  of_class = tells (want_of setup u h) went.class (wants_read setup u p s holds h c below read (wanted went.class) went.wanting)

  may : MayDo setup (instruction_at u h) steps.happened
  may =
      let At : Setup → Type 0 = λ x. MayDo x (context.instruction_at x c) steps.happened in
      let In : Instruction → Type 0 = λ i. MayDo setup i steps.happened in
      subst In (instruction_read setup u p s holds h c below read) (subst At holds.memory.setup_is steps.may)

  it_does : Does (want_of setup u h) went.class steps.happened × (class_of_what steps.happened ≡ went.class)
  it_does = does_next setup (instruction_at u h) went.class steps.happened of_class steps.plain may

  in_harts : h < length u.harts
  in_harts = omega (arith, below, holds.halves)

  -- the plan has the event in the engine that the context is in
  pub planned : c.engine ≡ engines_of s.plan h (class_of_what steps.happened)
  planned =
      sym went.here
      ∙ ap (λ (x : Plan). engine_at x.engines went.class) (hart_read setup u p s holds h c below read).plan_is
      ∙ ap (engines_of s.plan h) (sym it_does.1)

  by_does : Does (want_of setup u h) went.class steps.happened → IsMadeBy setup u p s h c new bus steps.happened
  by_does (Accesses access reply is asks) =
      let Added : What → Type 0 = λ x. Adds s.bus.run (Some s.bus.history) (Some bus.history) x c new in
      let At : Setup → Type 0 = λ x. IsPlacedIn x steps.happened in
      let Placed : What → Type 0 = λ x. IsPlacedIn setup x in
      let Made : What → Type 0 = λ x. IsMadeBy setup u p s h c new bus x in
      let placed = subst Placed is (subst At holds.memory.setup_is steps.placed) in
      subst Made (sym is) (access_made setup u p s h c new bus holds below read number_is same on run_same access reply (subst Added is steps.adds) steps.engine
      (next_asks setup u h access asks) placed (reserved_asked setup u h access holds.reached below asks))
  by_does (Finishes part after is ends) =
      let Added : What → Type 0 = λ x. Adds s.bus.run (Some s.bus.history) (Some bus.history) x c new in
      let Made : What → Type 0 = λ x. IsMadeBy setup u p s h c new bus x in
      let adds = subst Added is steps.adds in
      let stepped = step_is setup u h (Ends part after) below (next_ends setup u h part after ends) in
      subst Made (sym is) (record {
        holds = own_made setup u p s h c new bus holds below read number_is same on run_same (what.End part) (step setup u h) c.engine adds steps.engine refl
            (ap (λ (m : Machine). m.ram) stepped) (ap (λ (m : Machine). m.devices) stepped)
            (goes_end setup u h holds.reached below in_harts part after ends) adds.history;
        events = events_end setup u h holds.reached below in_harts part after ends;
      })

  pub event_made : IsMadeBy setup u p s h c new bus steps.happened
  event_made = by_does it_does.0

-- The state after it.

-- made by a hart that is in the engine of its class
pub stays_at : (setup : Setup) (u : Machine) (s : Solo) (h : ℕ) (c new : Context) (bus : Plain) (wanted : Class → Wants) → IsAt setup u s → h < setup.harts
    → c ≡ get_or s.contexts h c → IsSame c new → IsOn s.bus.run new → bus.run ≡ s.bus.run → TellsClass wanted
    → context.Goes s.bus.run (Some s.bus.history) (Some bus.history) wanted c new → IsAt setup (step setup u h) (with_hart s h new bus)
stays_at setup u s h c new bus wanted at below read same on run_same tells went =
    let p = split_of setup u s in
    let plan = engines_of s.plan in
    let happened = went.steps.happened in
    let made = event_made setup u p s h c new bus wanted at below read same on run_same tells went in
    let held = (hart_read setup u p s at h c below read).engine_is in
    let in_engines : h < length p.engines = omega (arith, below, at.engines) in
    let is = grown_in plan p h c.engine c.engine happened in_engines held (planned setup u p s h c new bus wanted at below read same on run_same tells went) refl in
    let all = split_more plan setup.harts u.events (step setup u h).events (does h happened) (grown p h c.engine happened c.engine) made.events is in
    let Of : Splitting → Type 0 = λ x. Holds setup (step setup u h) x (with_hart s h new bus) in
    subst Of all made.holds

-- made by a hart that was handed over
pub moved_at : (setup : Setup) (u : Machine) (s : Solo) (h : ℕ) (c moved new : Context) (between bus : Plain) (to : Engine) (wanted : Class → Wants)
    → IsAt setup u s → h < setup.harts → c ≡ get_or s.contexts h c → to ≢ c.engine
    → IsSame c moved → IsOn s.bus.run moved → between.run ≡ s.bus.run → Moves s.bus.run (Some s.bus.history) (Some between.history) to c moved
    → IsSame moved new → IsOn between.run new → bus.run ≡ between.run → TellsClass wanted
    → context.Goes between.run (Some between.history) (Some bus.history) wanted moved new → IsAt setup (step setup u h) (with_hart s h new bus)
moved_at setup u s h c moved new between bus to wanted at below read differ same on run_same moves same' on' run_same' tells went =
    let p = split_of setup u s in
    let plan = engines_of s.plan in
    let happened = went.steps.happened in
    let first = with_hart s h moved between in
    let handed_split = grown p h c.engine (what.Handover to) to in
    let there = hart_read setup u p s at h c below read in
    let in_engines : h < length p.engines = omega (arith, below, at.engines) in
    let in_contexts : h < length s.contexts = omega (arith, below, at.counted) in
    let handed : Holds setup u handed_split first =
    own_made setup u p s h c moved between at below read there.number same on run_same (what.Handover to) u to moves.adds moves.engine refl refl refl
    (goes_handover setup u h to at.reached) moves.adds.history in
    let read' : moved ≡ get_or first.contexts h moved = sym (get_or-set_same s.contexts h moved moved in_contexts) in
    let made = event_made setup u handed_split first h moved new bus wanted handed below read' same' on' run_same' tells went in
    let goes = sym moves.engine ∙ planned setup u handed_split first h moved new bus wanted handed below read' same' on' run_same' tells went in
    let is = ap (λ (x : Engine). grown handed_split h x happened x) moves.engine
    ∙ grown_after plan p h c.engine to happened in_engines there.engine_is goes (λ one. differ (sym one)) in
    let all = split_more plan setup.harts u.events (step setup u h).events (does h happened) (grown handed_split h moved.engine happened moved.engine) made.events is in
    let once : with_hart first h new bus ≡ with_hart s h new bus = ap (λ (cs : List Context). record s { contexts = cs; bus = bus }) (set_twice s.contexts h moved new c in_contexts) in
    let Of : Splitting → Type 0 = λ x. Holds setup (step setup u h) x (with_hart first h new bus) in
    let At : Solo → Type 0 = λ x. IsAt setup (step setup u h) x in
    subst At once (subst Of all made.holds)
