-- A context goes on as its log does.
use Rattle.std.proofs.Common.{◌≡◌, ◌≢◌, ℕ, ◌+◌, ◌-◌, ◌*◌, ◌<◌, ◌≤◌, true, false, if◌then◌else◌, List, [], ◌∷◌, ◌++◌, length, Option, Some, refl, sym, ap, subst, ◌∙◌, arith}
use Rattle.std.proofs.lemmas.List.{length-append, length-map}
use Rattle.flex_base.specs.Setup.{Setup}
use Rattle.flex_base.specs.State.{State}
use Rattle.flex_base.specs.StoryTree.{Want, Asks, Ends, IsOver, IsParked}
use Rattle.flex_base.specs.Unsplit.{Instruction, instruction_from, instruction_after}
use Rattle.flex_base.specs.Classes.{class_of_access, class_of_what}
use Rattle.flex_base.specs.FlatMemory.{reply_with}
use Rattle.flex_base.specs.Forms.{HasForm}
use Rattle.flex_base.specs.Following.{wanted, next_access, MayDo, instruction_then, first_instruction, Follows, instruction_of, waits_by, waits_after, is_waiting, engine_after, last_engine}
use Rattle.flex_base.specs.Journal.{event, is_handover}
use Rattle.flex_base.specs.declared.access.Access.{Access}
use Rattle.flex_base.specs.declared.access.Access.TheVariants as acc
use Rattle.flex_base.specs.declared.access.Reply.{Reply}
use Rattle.flex_base.specs.declared.class.Class.{Class}
use Rattle.flex_base.specs.declared.class.Class.TheVariants as class
use Rattle.flex_base.specs.declared.engine.Engine.{Engine}
use Rattle.flex_base.specs.declared.event.EndPart.{EndPart}
use Rattle.flex_base.specs.declared.event.Event.{Event}
use Rattle.flex_base.specs.declared.event.What.{What}
use Rattle.flex_base.specs.declared.event.What.TheVariants as what
use Rattle.flex_base.specs.declared.hart.HartId.{HartId}
use Rattle.flex_base.specs.declared.settings.Layout.{Layout}
use Rattle.flex_base.proofs.Following.{leads_to-push, follows_push, is_waiting-push, last_engine-push}
use Rattle.flex_base.proofs.ParkedStories.{asks-waiting, ends-waiting, parked-waiting}
use Rattle.hart_story.specs.Progress.{IsIn, begun, EndsWith}
use Rattle.hart_story.specs.Progress as story
use Rattle.hart_story.proofs.Needing.{wants_asked, parked_asked, IsAtEnd, needs_ask, needs_finish}
use Rattle.hart_story.proofs.Seeing.{are_none}
use Rattle.hart_story.specs.Need.{need_of, AsksPlaced}
use Rattle.hart_story.specs.declared.progress.Need.{Need}
use Rattle.hart_story.specs.declared.progress.Need.TheVariants as need
use Rattle.flex_base.proofs.Stories.{ends_unspent}
use Rattle.hart_story.specs.declared.hart.Hart.{Hart}
use Rattle.hart_story.specs.declared.progress.Progress.{Progress}
use Rattle.journal.specs.Log.{Log}
use Rattle.access_record.specs.declared.entry.LogEntry.{LogEntry}
use Rattle.access_record.specs.Logs.{log_entry}
use Rattle.access_record.specs.Passes.{PassOfHart}
use Rattle.access_record.specs.Buses.{Run, NamesPlace, IsGiven, events_of, waits, engine_of, Extends, HasLooked}
use Rattle.access_record.specs.Histories.{History, InHistory}
use Rattle.access_record.proofs.Extending.{events_of-push, extends-places}
use Rattle.transplant_plan.specs.Planning.{engine_at}
use Rattle.transplant_plan.specs.declared.plan.Plan.{Plan}
use Rattle.context.specs.declared.wants.Wants.{Wants}
use Rattle.context.specs.declared.wants.Wants.TheVariants as wants
use Rattle.context.specs.Obeying.{wants_of, IsFor, engine_wanted, moves, ObeysSoFar}
use Rattle.context.specs.Fewness.{plain_count, IsFew}
use Rattle.context.specs.Contexts.{Context, context_of, plan_of, layout_of, IsRunOf, events_in, instruction_at, wants_in, IsWanting, IsWantedIn, IsAsking, IsEnding, StandsIn, IsContext, IsOn, IsSame, Steps, Moves, IsWoken, IsElsewhere}
use Rattle.context.proofs.Fewness.{few_access, few_end}
use Rattle.context.proofs.Obeying.{moves-push, plain_count-push, obeys_event, obeys_handover, obeys_length}

-- A context as it is.

-- in a run of its image and settings its hart and its progress stand for its instruction
pub in_run : (c : Context) (layout : Layout) (setup : Setup) → IsContext c → layout ≡ layout_of c.settings → IsRunOf c.entry c.settings setup
    → IsIn setup (instruction_at setup c) c.hart c.progress layout c.settings.budget
in_run c layout setup context same of =
    let In : Layout → Type 0 = λ l. IsIn setup (instruction_at setup c) c.hart c.progress l c.settings.budget in
    subst In (sym same) (context.stands setup of).at

-- its log has room for an event more
pub few_made : (c : Context) (setup : Setup) → IsContext c → IsRunOf c.entry c.settings setup → length (events_in c) + 1 ≤ 24 * c.settings.budget + 24
few_made c setup context of =
    let stands = context.stands setup of in
    let long = obeys_length (plan_of c) (wants_in setup c) c.engine (moves (events_in c)) stands.obeys in
    let same : length (moves (events_in c)) ≡ length (events_in c) = length-map (events_in c) (λ (e : Event). (e.engine, e.what)) in
    omega (arith, long, same, stands.few.bound, of.budget)

pub has_room : (c : Context) (setup : Setup) → IsContext c → IsRunOf c.entry c.settings setup → 1 ≤ c.log.room
has_room c setup context of = omega (arith, few_made c setup context of, context.room, ap length context.whole)

-- the bus takes its pass
pub is_given : (run : Run) (c : Context) → IsContext c → IsOn run c → IsGiven run c.pass
is_given run c context on =
    let same : length (events_in c) ≡ length c.pass.log = length-map c.pass.log (λ (e : LogEntry). e.event) in
    record {
      book = on.book;
      hart = omega (arith, context.below, on.setup.harts);
      room = omega (arith, few_made c run.setup context on.setup, on.limit, same);
      follows = (context.stands run.setup on.setup).follows;
      places = on.places;
    }

-- a place more of it is taken
one_place : (c : Context) (log : Log) (events : List Event) (setup : Setup) → IsContext c → IsRunOf c.entry c.settings setup
    → log ≡ record { events = events; room = c.log.room - 1 } → log.room + 1 ≡ c.log.room
one_place c log events setup context of grown = omega (arith, ap (λ (l : Log). l.room) grown, has_room c setup context of)

-- some run that it may be of
abbrev some_setup : Context → Setup
some_setup c = record { image = record { entry = c.entry; parts = [] }; harts = c.settings.harts; ram = c.settings.ram; budget = c.settings.budget; input = [] }

some_run : (c : Context) → IsRunOf c.entry c.settings (some_setup c)
some_run c = record { entry_is = refl; harts = refl; ram = refl; budget = refl }

-- its round isn't over
pub left_some : (c : Context) → IsContext c → 0 < c.left
left_some c context =
    let at = (context.stands (some_setup c) (some_run c)).at in
    omega (arith, context.round, at.stands.regs.ends, at.fit.within)

-- what is wanted is one thing
pub wants_one : (c : Context) (w other : Wants) → IsWanting c w → IsWanting c other → w ≡ other
wants_one c w other one two = sym (one (some_setup c) (some_run c)) ∙ two (some_setup c) (some_run c)

-- who wants an event doesn't wait
unwaiting : (plan : Class → Engine) (w : Want) (setup : Setup) (c : Context) (engine : Engine) → Follows setup c.pass.hart.0 (events_in c)
    → wanted setup (instruction_at setup c) ≡ w → IsFor plan (wants_of w) engine → waits c.pass ≡ false
unwaiting plan (Asks access) setup c engine follows is for_it = asks-waiting setup c.pass.hart.0 (events_in c) access follows is
unwaiting plan (Ends part next) setup c engine follows is for_it = ends-waiting setup c.pass.hart.0 (events_in c) part next follows is
unwaiting plan IsOver setup c engine follows is for_it = absurd for_it
unwaiting plan IsParked setup c engine follows is for_it = absurd for_it

pub not_waiting : (c : Context) (setup : Setup) (engine : Engine) → IsContext c → IsRunOf c.entry c.settings setup → IsWantedIn c engine → waits c.pass ≡ false
not_waiting c setup engine context of w =
    unwaiting (plan_of c) (wanted setup (instruction_at setup c)) setup c engine (context.stands setup of).follows refl
    (subst (λ (x : Wants). IsFor (plan_of c) x engine) (sym (w.1 setup of)) w.2)

wants_parked : (w : Want) → wants_of w ≡ wants.Parked → w ≡ IsParked
wants_parked IsParked is = refl
wants_parked (Asks access) is = absurd cc
wants_parked (Ends part next) is = absurd cc
wants_parked IsOver is = absurd cc

-- who wants to be woken is parked, and waits
pub is_parked : (c : Context) (setup : Setup) → IsRunOf c.entry c.settings setup → IsWanting c wants.Parked → wanted setup (instruction_at setup c) ≡ IsParked
is_parked c setup of w = wants_parked (wanted setup (instruction_at setup c)) (w setup of)

pub is_waiting_in : (c : Context) (setup : Setup) → IsContext c → IsRunOf c.entry c.settings setup → IsWanting c wants.Parked → waits c.pass ≡ true
is_waiting_in c setup context of w =
    parked-waiting setup c.pass.hart.0 (events_in c) (context.stands setup of).follows (is_parked c setup of w)

pub parked_asks : (c : Context) (setup : Setup) → IsContext c → IsRunOf c.entry c.settings setup → IsWanting c wants.Parked
    → story.IsAsking setup (instruction_at setup c) (acc.Pulse false)
parked_asks c setup context of w = parked_asked _ (is_parked c setup of w)

-- One event more.

abbrev pub next : Context → Hart → Progress → PassOfHart → Log → Engine → ℕ → Context
next c hart progress pass log engine left = context_of hart progress pass log c.plan c.settings c.entry engine left

-- the pass and the log have this event more
pub record Gains (c : Context) (pass : PassOfHart) (log : Log) (happened : What) (bank : Option ℕ) (number : ℕ) : Type 0 where
  pub extends : Extends c.pass pass (record { engine = c.engine; what = happened }) bank number
  pub grown : log ≡ record { events = c.log.events ++ event number pass.hart.0 c.engine happened ∷ []; room = c.log.room - 1 }

-- by what the bus and the log say, where the pass tells the hart's number
pub gained : (c : Context) (pass : PassOfHart) (log : Log) (happened : What) (bank : Option ℕ) (number : ℕ) (id : HartId)
    → Extends c.pass pass (record { engine = c.engine; what = happened }) bank number → id ≡ pass.hart
    → log ≡ record { events = c.log.events ++ event number id.0 c.engine happened ∷ []; room = c.log.room - 1 }
    → Gains c pass log happened bank number
gained c pass log happened bank number id extends its grown =
    let Grown : HartId → Type 0 = λ h. log ≡ record { events = c.log.events ++ event number h.0 c.engine happened ∷ []; room = c.log.room - 1 } in
    record { extends = extends; grown = subst Grown its grown }

module _ (c : Context) (hart : Hart) (progress : Progress) (pass : PassOfHart) (log : Log) (engine : Engine) (left : ℕ)
    (happened : What) (bank : Option ℕ) (number : ℕ) (context : IsContext c) (gains : Gains c pass log happened bank number) where
  abbrev e : Event
  e = event number c.pass.hart.0 c.engine happened

  abbrev d : Context
  d = next c hart progress pass log engine left

  more : events_in d ≡ events_in c ++ e ∷ []
  more = ap events_of gains.extends.log ∙ events_of-push c.pass.log (log_entry (record { engine = c.engine; what = happened }) c.pass.hart bank number)

  whole : log.events ≡ events_in d
  whole =
      let made : log.events ≡ c.log.events ++ event number pass.hart.0 c.engine happened ∷ [] = ap (λ (l : Log). l.events) gains.grown in
      let its : c.log.events ++ event number pass.hart.0 c.engine happened ∷ [] ≡ events_in c ++ e ∷ [] =
      ap (λ (p : List Event × HartId). p.0 ++ event number p.1.0 c.engine happened ∷ []) (λ i. (context.whole i, gains.extends.hart i)) in
      made ∙ its ∙ sym more

  room : 1 ≤ c.log.room → log.room + length log.events ≡ 24 * c.settings.budget + 24
  room some =
      let events : length log.events ≡ length c.log.events + 1 = ap (λ (l : Log). length l.events) gains.grown ∙ length-append c.log.events (event number pass.hart.0 c.engine happened ∷ []) in
      let left_is : log.room ≡ c.log.room - 1 = ap (λ (l : Log). l.room) gains.grown in
      omega (arith, events, left_is, context.room, some)

  waits_is : waits pass ≡ waits_after (waits c.pass) happened
  waits_is = ap is_waiting more ∙ is_waiting-push (events_in c) e

  engine_is : engine_of pass ≡ engine_after (engine_of c.pass) c.engine happened
  engine_is = ap last_engine more ∙ last_engine-push (events_in c) e

  module _ (setup : Setup) (of : IsRunOf c.entry c.settings setup) where
    abbrev i : Instruction
    i = instruction_at setup c

    leads : instruction_at setup d ≡ instruction_then setup i happened
    leads =
        ap (λ (p : HartId × List Event). instruction_of setup p.0.0 p.1) (λ k. (gains.extends.hart k, more k))
        ∙ leads_to-push setup (first_instruction setup c.pass.hart.0) (events_in c) e

    follows : MayDo setup i happened → Follows setup pass.hart.0 (events_in d)
    follows may =
        let to = follows_push setup (first_instruction setup c.pass.hart.0) (events_in c) e (context.stands setup of).follows may in
        subst (λ (p : HartId × List Event). Follows setup p.0.0 p.1) (λ k. (sym gains.extends.hart k, sym more k)) to

    moves_are : moves (events_in d) ≡ moves (events_in c) ++ (c.engine, happened) ∷ []
    moves_are = ap moves more ∙ moves-push (events_in c) e

    -- an event in its engine
    obeys : (w : Wants) → is_handover happened ≡ false → plan_of c (class_of_what happened) ≡ c.engine
        → ObeysSoFar (plan_of c) w c.engine (moves (events_in d))
    obeys w plain in_it =
        subst (λ (ms : List (Engine × What)). ObeysSoFar (plan_of c) w c.engine ms) (sym moves_are)
        (obeys_event (plan_of c) (wants_in setup c) w c.engine (moves (events_in c)) happened plain in_it (context.stands setup of).obeys)

    counted : (more_made : ℕ) (j : Instruction) → instruction_then setup i happened ≡ j → (if is_handover happened then 0 else 1) ≡ more_made
        → IsFew setup j (plain_count (moves (events_in c)) + more_made) → IsFew setup (instruction_at setup d) (plain_count (moves (events_in d)))
    counted more_made j to one few =
        let count : plain_count (moves (events_in c)) + more_made ≡ plain_count (moves (events_in d)) =
        ap (λ (n : ℕ). plain_count (moves (events_in c)) + n) (sym one) ∙ sym (plain_count-push (moves (events_in c)) c.engine happened) ∙ ap plain_count (sym moves_are) in
        subst (λ (p : Instruction × ℕ). IsFew setup p.0 p.1) (λ k. (sym (leads ∙ to) k, count k)) few

    at : (j : Instruction) → instruction_then setup i happened ≡ j → IsIn setup j hart progress (layout_of c.settings) c.settings.budget
        → IsIn setup (instruction_at setup d) hart progress (layout_of c.settings) c.settings.budget
    at j to in_it = subst (λ (k : Instruction). IsIn setup k hart progress (layout_of c.settings) c.settings.budget) (sym (leads ∙ to)) in_it

  -- the context is of the same run of a bus
  pub on_run : (run : Run) → IsOn run c → NamesPlace run bank happened → IsOn run d
  on_run run on named = record {
    book = gains.extends.id ∙ on.book;
    setup = on.setup;
    places = extends-places run c.pass pass (record { engine = c.engine; what = happened }) bank number gains.extends on.places named;
    limit = on.limit;
  }

-- who waits after an access was told so by a wait
told_by : (access : Access) (reply : Reply) → waits_by false access reply ≡ true → class_of_access access ≡ class.Pulse
told_by (acc.Wait mie) reply told = refl
told_by (acc.Pulse tick) reply told = refl
told_by acc.Retire reply told = absurd cc
told_by (acc.Fetch address) reply told = absurd cc
told_by (acc.Pte address) reply told = absurd cc
told_by (acc.Read address width) reply told = absurd cc
told_by (acc.Write address width value) reply told = absurd cc
told_by (acc.Lr address width) reply told = absurd cc
told_by (acc.Sc address width value) reply told = absurd cc
told_by (acc.Amo op address width value) reply told = absurd cc
told_by (acc.DevRead address width) reply told = absurd cc
told_by (acc.DevWrite address width value) reply told = absurd cc
told_by acc.Time reply told = absurd cc

-- who asked an access waits after it where it was one of a pulse's class
pub asked_told : (c : Context) (pass : PassOfHart) (log : Log) (access : Access) (reply : Reply) (bank : Option ℕ) (number : ℕ)
    → IsContext c → Gains c pass log (what.Acc access reply) bank number → waits c.pass ≡ false → waits pass ≡ true → class_of_access access ≡ class.Pulse
asked_told c pass log access reply bank number context gains awake w =
    let is = waits_is c c.hart c.progress pass log c.engine c.left (what.Acc access reply) bank number context gains in
    told_by access reply (ap (λ was. waits_by was access reply) (sym awake) ∙ sym is ∙ w)

-- What keeps a context.

-- after an access that its hart asked, with a reply of its form
module _ (c : Context) (progress : Progress) (pass : PassOfHart) (log : Log) (access : Access) (reply : Reply) (bank : Option ℕ) (number : ℕ)
    (context : IsContext c) (some : 1 ≤ c.log.room) (gains : Gains c pass log (what.Acc access reply) bank number) (form : HasForm access reply)
    (in_it : plan_of c (class_of_access access) ≡ c.engine)
    (given : (setup : Setup) → IsRunOf c.entry c.settings setup
    → IsIn setup (record (instruction_at setup c) { replies = (instruction_at setup c).replies ++ reply ∷ [] }) c.hart progress (layout_of c.settings) c.settings.budget)
    (asks : (setup : Setup) → IsRunOf c.entry c.settings setup → next_access (wanted setup (instruction_at setup c)) ≡ Some access)
    (woken : (setup : Setup) → IsRunOf c.entry c.settings setup → wanted setup (instruction_at setup c) ≡ IsParked → reply.value ≡ 0)
    (told : waits pass ≡ true → class_of_access access ≡ class.Pulse) where
  stands_after : (setup : Setup) → IsRunOf c.entry c.settings setup → StandsIn setup (next c c.hart progress pass log c.engine c.left)
  stands_after setup of =
      let i = instruction_at setup c in
      let j : Instruction = record i { replies = i.replies ++ reply ∷ [] } in
      record {
        follows = follows c c.hart progress pass log c.engine c.left (what.Acc access reply) bank number context gains setup of (asks setup of, form);
        at = at c c.hart progress pass log c.engine c.left (what.Acc access reply) bank number context gains setup of j refl (given setup of);
        obeys = obeys c c.hart progress pass log c.engine c.left (what.Acc access reply) bank number context gains setup of _ refl in_it;
        few = counted c c.hart progress pass log c.engine c.left (what.Acc access reply) bank number context gains setup of 1 j refl refl
            (few_access setup i access reply _ (asks setup of) (woken setup of) (context.stands setup of).few);
      }

  pub after_access : IsContext (next c c.hart progress pass log c.engine c.left)
  after_access = record {
    whole = whole c c.hart progress pass log c.engine c.left (what.Acc access reply) bank number context gains;
    room = room c c.hart progress pass log c.engine c.left (what.Acc access reply) bank number context gains some;
    below = subst (λ (h : HartId). h.0 < c.settings.harts) (sym gains.extends.hart) context.below;
    stands = stands_after;
    told = λ w. (
      engine_is c c.hart progress pass log c.engine c.left (what.Acc access reply) bank number context gains,
      ap (plan_of c) (sym (told w)) ∙ in_it,
    );
    round = context.round;
  }

-- after a handover to the engine of what its hart wants
module _ (c : Context) (pass : PassOfHart) (log : Log) (to : Engine) (bank : Option ℕ) (number : ℕ)
    (context : IsContext c) (some : 1 ≤ c.log.room) (gains : Gains c pass log (what.Handover to) bank number)
    (wanted_in : IsWantedIn c to) (other : to ≢ c.engine) (awake : waits c.pass ≡ false) where
  stands_moved : (setup : Setup) → IsRunOf c.entry c.settings setup → StandsIn setup (next c c.hart c.progress pass log to c.left)
  stands_moved setup of =
      let i = instruction_at setup c in
      let stands = context.stands setup of in
      let now = leads c c.hart c.progress pass log to c.left (what.Handover to) bank number context gains setup of in
      let for_it : IsFor (plan_of c) (wants_in setup c) to = subst (λ (x : Wants). IsFor (plan_of c) x to) (sym (wanted_in.1 setup of)) wanted_in.2 in
      let obeyed = obeys_handover (plan_of c) (wants_in setup c) c.engine to (moves (events_in c)) other for_it stands.obeys in
      let moved = moves_are c c.hart c.progress pass log to c.left (what.Handover to) bank number context gains setup of in
      record {
        follows = follows c c.hart c.progress pass log to c.left (what.Handover to) bank number context gains setup of tt;
        at = at c c.hart c.progress pass log to c.left (what.Handover to) bank number context gains setup of i refl stands.at;
        obeys = subst (λ (p : Instruction × List (Engine × What)). ObeysSoFar (plan_of c) (wants_of (wanted setup p.0)) to p.1)
            (λ k. (sym now k, sym moved k)) obeyed;
        few = counted c c.hart c.progress pass log to c.left (what.Handover to) bank number context gains setup of 0 i refl refl
            (let same : plain_count (moves (events_in c)) ≡ plain_count (moves (events_in c)) + 0 = omega arith in
            subst (IsFew setup i) same stands.few);
      }

  pub after_handover : IsContext (next c c.hart c.progress pass log to c.left)
  after_handover = record {
    whole = whole c c.hart c.progress pass log to c.left (what.Handover to) bank number context gains;
    room = room c c.hart c.progress pass log to c.left (what.Handover to) bank number context gains some;
    below = subst (λ (h : HartId). h.0 < c.settings.harts) (sym gains.extends.hart) context.below;
    stands = stands_moved;
    told = λ w.
        let false_is : waits pass ≡ false = waits_is c c.hart c.progress pass log to c.left (what.Handover to) bank number context gains ∙ awake in
        absurd cc;
    round = context.round;
  }

-- the hart's instruction has come to this end, and it stands at the start of the next one
pub record HasEnded (setup : Setup) (c : Context) (part : EndPart) (hart : Hart) (progress : Progress) : Type 0 where
  pub after : State
  pub ends : wanted setup (instruction_at setup c) ≡ Ends part after
  pub unspent : (instruction_at setup c).state.ends < setup.budget
  pub more : after.ends ≡ (instruction_at setup c).state.ends + 1
  pub at : IsIn setup (instruction_from after) hart progress (layout_of c.settings) c.settings.budget

-- after the end of its hart's instruction
module _ (c : Context) (hart : Hart) (progress : Progress) (pass : PassOfHart) (log : Log) (left : ℕ) (part : EndPart) (bank : Option ℕ) (number : ℕ)
    (context : IsContext c) (some : 1 ≤ c.log.room) (gains : Gains c pass log (what.End part) bank number)
    (in_it : plan_of c part.class ≡ c.engine) (awake : waits c.pass ≡ false) (less : left + 1 ≡ c.left) (count : hart.regs.ends ≡ c.hart.regs.ends + 1)
    (ended : (setup : Setup) → IsRunOf c.entry c.settings setup → HasEnded setup c part hart progress) where
  stands_ended : (setup : Setup) → IsRunOf c.entry c.settings setup → StandsIn setup (next c hart progress pass log c.engine left)
  stands_ended setup of =
      let i = instruction_at setup c in
      let e = ended setup of in
      let to : instruction_then setup i (what.End part) ≡ instruction_from e.after = ap (λ w. instruction_after i w (reply_with 0)) e.ends in
      record {
        follows = follows c hart progress pass log c.engine left (what.End part) bank number context gains setup of (e.after, e.ends);
        at = at c hart progress pass log c.engine left (what.End part) bank number context gains setup of (instruction_from e.after) to e.at;
        obeys = obeys c hart progress pass log c.engine left (what.End part) bank number context gains setup of _ refl in_it;
        few = counted c hart progress pass log c.engine left (what.End part) bank number context gains setup of 1 (instruction_from e.after) to refl
            (few_end setup i part e.after _ e.ends e.unspent e.more (context.stands setup of).few);
      }

  pub after_end : IsContext (next c hart progress pass log c.engine left)
  after_end = record {
    whole = whole c hart progress pass log c.engine left (what.End part) bank number context gains;
    room = room c hart progress pass log c.engine left (what.End part) bank number context gains some;
    below = subst (λ (h : HartId). h.0 < c.settings.harts) (sym gains.extends.hart) context.below;
    stands = stands_ended;
    told = λ w.
        let false_is : waits pass ≡ false = waits_is c hart progress pass log c.engine left (what.End part) bank number context gains ∙ awake in
        absurd cc;
    round = omega (arith, context.round, less, count);
  }

-- What a call of a context makes of it.

-- what the reply leads to, in each run in which the hart stands for an instruction that asks this access
abbrev pub GoesOn : Context → Progress → Layout → Access → Reply → Type 0
GoesOn c progress layout access reply = (setup : Setup) (i : Instruction) (other : Access)
    → IsIn setup i c.hart c.progress layout c.settings.budget → story.IsAsking setup i other
    → IsIn setup (record i { replies = i.replies ++ reply ∷ [] }) c.hart progress layout c.settings.budget

pub makes_access : (c : Context) (progress : Progress) (pass : PassOfHart) (log : Log) (access : Access) (reply : Reply) (bank : Option ℕ) (number : ℕ)
    (setup : Setup) (layout : Layout) → IsContext c → IsRunOf c.entry c.settings setup → IsAsking c access → HasForm access reply
    → Gains c pass log (what.Acc access reply) bank number → layout ≡ layout_of c.settings → GoesOn c progress layout access reply
    → IsContext (next c c.hart progress pass log c.engine c.left)
makes_access c progress pass log access reply bank number setup layout context of asking form gains same on =
    let awake = asks-waiting setup c.pass.hart.0 (events_in c) access (context.stands setup of).follows (asking.asks setup of) in
    after_access c progress pass log access reply bank number context (has_room c setup context of) gains form asking.class_is
    (λ one its.
    let In : Layout → Type 0 = λ l. IsIn one (record (instruction_at one c) { replies = (instruction_at one c).replies ++ reply ∷ [] }) c.hart progress l c.settings.budget in
    subst In same (on one (instruction_at one c) access (in_run c layout one context same its) (wants_asked _ access (asking.asks one its))))
    (λ one its. ap next_access (asking.asks one its))
    (λ one its parked. let not_so = sym (asking.asks one its) ∙ parked in absurd cc)
    (asked_told c pass log access reply bank number context gains awake)

pub steps_access : (run : Run) (before after : Option History) (c : Context) (progress : Progress) (pass : PassOfHart) (log : Log) (access : Access) (reply : Reply)
    (bank : Option ℕ) (number : ℕ) → IsContext c → IsRunOf c.entry c.settings run.setup → IsAsking c access → HasForm access reply
    → Gains c pass log (what.Acc access reply) bank number → InHistory run before c.pass.hart.0 (what.Acc access reply) number after
    → Steps run before after c (next c c.hart progress pass log c.engine c.left)
steps_access run before after c progress pass log access reply bank number context of asking form gains history = record {
  happened = what.Acc access reply;
  adds = record { bank = bank; number = number; noted = gains.extends; history = history };
  may = (ap next_access (asking.asks run.setup of), form);
  placed = asking.placed run.setup of;
  plain = refl;
  engine = refl;
  left = omega arith;
  room = one_place c log _ run.setup context of gains.grown;
}

pub steps_from : (run : Run) (before after : Option History) (c k d : Context) → c ≡ k → Steps run before after c d → Steps run before after k d
steps_from run before after c k d is steps = subst (λ (x : Context). Steps run before after x d) is steps

-- A handover.

pub makes_handover : (c : Context) (pass : PassOfHart) (log : Log) (to : Engine) (bank : Option ℕ) (number : ℕ) (setup : Setup) → IsContext c
    → IsRunOf c.entry c.settings setup → IsWantedIn c to → to ≢ c.engine → Gains c pass log (what.Handover to) bank number
    → IsContext (next c c.hart c.progress pass log to c.left)
makes_handover c pass log to bank number setup context of wanted_in other gains =
    after_handover c pass log to bank number context (has_room c setup context of) gains wanted_in other (not_waiting c setup to context of wanted_in)

pub moves_to : (run : Run) (before after : Option History) (c k : Context) (pass : PassOfHart) (log : Log) (to : Engine) (bank : Option ℕ) (number : ℕ)
    → c ≡ k → IsContext c → Gains c pass log (what.Handover to) bank number → InHistory run before c.pass.hart.0 (what.Handover to) number after
    → Moves run before after to k (next c c.hart c.progress pass log to c.left)
moves_to run before after c k pass log to bank number is context gains history =
    let wants_still : (w : Wants) → IsWanting c w → IsWanting (next c c.hart c.progress pass log to c.left) w = λ w wanting setup of.
    ap (λ (i : Instruction). wants_of (wanted setup i)) (leads c c.hart c.progress pass log to c.left (what.Handover to) bank number context gains setup of)
    ∙ wanting setup of in
    let moves : Moves run before after to c (next c c.hart c.progress pass log to c.left) = record {
      adds = record { bank = bank; number = number; noted = gains.extends; history = history };
      engine = refl;
      left = refl;
      wants = wants_still;
    } in
    subst (λ (x : Context). Moves run before after to x (next c c.hart c.progress pass log to c.left)) is moves

-- then it wants an event of the engine that it is in
pub wanted_moved : (run : Run) (before after : Option History) (to : Engine) (old new : Context) → Moves run before after to old new → IsSame old new
    → IsWantedIn old to → IsWantedIn new new.engine
wanted_moved run before after to old new moved same w =
    let For : Plan × Engine → Type 0 = λ p. IsFor (λ k. engine_at p.0.engines k) w.0 p.1 in
    let there : IsFor (plan_of new) w.0 new.engine = subst For (λ i. (sym same.plan i, sym moved.engine i)) w.2 in
    (w.0, moved.wants w.0 w.1, there)

-- An end.

-- what the end leads to, in each run in which the hart stands for an instruction that comes to it
abbrev pub EndsSo : Context → Layout → EndPart → Hart → Type 0
EndsSo c layout part hart = (setup : Setup) (i : Instruction) (other : EndPart) (after : State)
    → IsIn setup i c.hart c.progress layout c.settings.budget → story.IsEnding setup i other after → EndsWith setup (story.want_in setup i) part hart

pub ending_in : (c : Context) (setup : Setup) (ending : IsEnding c) → IsRunOf c.entry c.settings setup → IsAtEnd (wanted setup (instruction_at setup c))
ending_in c setup ending of = needs_finish ending.class (wanted setup (instruction_at setup c)) (ending.ends setup of)

finish_is : (class : Class) (w : Want) (part : EndPart) (after : State) → need.Finish class ≡ need_of w → w ≡ Ends part after → part.class ≡ class
finish_is class w part after is ends =
    let told : need.Finish class ≡ need.Finish part.class = is ∙ ap need_of ends in
    cc

-- the hart at the beginning of its next instruction is led to this progress
pub record LeadsTo (hart : Hart) (layout : Layout) (budget : ℕ) (progress : Progress) : Type 0 where
  pub first : Progress
  pub begins : first ≡ begun
  pub same : (setup : Setup) (i : Instruction) → IsIn setup i hart first layout budget → IsIn setup i hart progress layout budget

pub leads_to : (hart : Hart) (layout : Layout) (budget : ℕ) (first progress : Progress) → first ≡ begun
    → ((setup : Setup) (i : Instruction) → IsIn setup i hart first layout budget → IsIn setup i hart progress layout budget)
    → LeadsTo hart layout budget progress
leads_to hart layout budget first progress begins same = record { first = first; begins = begins; same = same }

has_ended : (c : Context) (hart : Hart) (progress : Progress) (part : EndPart) (setup : Setup) (layout : Layout) → IsContext c → (ending : IsEnding c)
    → layout ≡ layout_of c.settings → EndsSo c layout part hart → hart.regs.ends ≡ c.hart.regs.ends + 1
    → LeadsTo hart layout c.settings.budget progress → IsRunOf c.entry c.settings setup → HasEnded setup c part hart progress
has_ended c hart progress part setup layout context ending same so count leads_on of =
    let i = instruction_at setup c in
    let stands = (context.stands setup of).at in
    let end = ending_in c setup ending of in
    let made = so setup i end.part end.after (in_run c layout setup context same of) end.ends in
    let unspent = ends_unspent setup i.state i.replies part made.after made.ends in
    let first : IsIn setup (instruction_from made.after) hart begun (layout_of c.settings) c.settings.budget = record {
      of = stands.of;
      stands = made.stands;
      fit = made.fit;
      reached = refl;
      sound = record { stage = tt; found = are_none begun.found refl };
    } in
    let First : Progress × Layout → Type 0 = λ p. IsIn setup (instruction_from made.after) hart p.0 p.1 c.settings.budget in
    let Now : Layout → Type 0 = λ l. IsIn setup (instruction_from made.after) hart progress l c.settings.budget in
    let led = leads_on.same setup (instruction_from made.after) (subst First (λ k. (sym leads_on.begins k, sym same k)) first) in
    record {
      after = made.after;
      ends = made.ends;
      unspent = omega (arith, unspent, stands.fit.within);
      more = omega (arith, made.stands.regs.ends, stands.stands.regs.ends, count);
      at = subst Now same led;
    }

pub makes_end : (c : Context) (hart : Hart) (progress : Progress) (pass : PassOfHart) (log : Log) (left : ℕ) (part : EndPart) (bank : Option ℕ) (number : ℕ)
    (setup : Setup) (layout : Layout) → IsContext c → IsRunOf c.entry c.settings setup → IsEnding c → Gains c pass log (what.End part) bank number
    → layout ≡ layout_of c.settings → EndsSo c layout part hart → hart.regs.ends ≡ c.hart.regs.ends + 1
    → LeadsTo hart layout c.settings.budget progress → left + 1 ≡ c.left → IsContext (next c hart progress pass log c.engine left)
makes_end c hart progress pass log left part bank number setup layout context of ending gains same so count leads_on less =
    let end = ending_in c setup ending of in
    let ended = has_ended c hart progress part setup layout context ending same so count leads_on of in
    let class_is : part.class ≡ ending.class = finish_is ending.class (wanted setup (instruction_at setup c)) part ended.after (ending.ends setup of) ended.ends in
    let awake = ends-waiting setup c.pass.hart.0 (events_in c) end.part end.after (context.stands setup of).follows end.ends in
    after_end c hart progress pass log left part bank number context (has_room c setup context of) gains (ap (plan_of c) class_is ∙ ending.class_is) awake less count
    (λ one its. has_ended c hart progress part one layout context ending same so count leads_on its)

pub steps_end : (run : Run) (before after : Option History) (c : Context) (hart : Hart) (progress : Progress) (pass : PassOfHart) (log : Log) (left : ℕ)
    (part : EndPart) (bank : Option ℕ) (number : ℕ) (layout : Layout) → IsContext c → IsRunOf c.entry c.settings run.setup → IsEnding c
    → Gains c pass log (what.End part) bank number → InHistory run before c.pass.hart.0 (what.End part) number after
    → layout ≡ layout_of c.settings → EndsSo c layout part hart → left + 1 ≡ c.left
    → Steps run before after c (next c hart progress pass log c.engine left)
steps_end run before after c hart progress pass log left part bank number layout context of ending gains history same so less =
    let setup = run.setup in
    let end = ending_in c setup ending of in
    let made = so setup (instruction_at setup c) end.part end.after (in_run c layout setup context same of) end.ends in
    record {
      happened = what.End part;
      adds = record { bank = bank; number = number; noted = gains.extends; history = history };
      may = (made.after, made.ends);
      placed = tt;
      plain = refl;
      engine = refl;
      left = less;
      room = one_place c log _ setup context of gains.grown;
    }

-- A pulse of a parked hart.

pub makes_pulse : (c : Context) (progress : Progress) (pass : PassOfHart) (log : Log) (reply : Reply) (bank : Option ℕ) (number : ℕ)
    (setup : Setup) (layout : Layout) → IsContext c → IsRunOf c.entry c.settings setup → IsWanting c wants.Parked → HasForm (acc.Pulse false) reply
    → reply.value ≡ 0 → Gains c pass log (what.Acc (acc.Pulse false) reply) bank number → layout ≡ layout_of c.settings
    → GoesOn c progress layout (acc.Pulse false) reply → IsContext (next c c.hart progress pass log c.engine c.left)
makes_pulse c progress pass log reply bank number setup layout context of parked form value gains same on =
    after_access c progress pass log (acc.Pulse false) reply bank number context (has_room c setup context of) gains form
    (context.told (is_waiting_in c setup context of parked)).1
    (λ one its.
    let In : Layout → Type 0 = λ l. IsIn one (record (instruction_at one c) { replies = (instruction_at one c).replies ++ reply ∷ [] }) c.hart progress l c.settings.budget in
    subst In same (on one (instruction_at one c) (acc.Pulse false) (in_run c layout one context same its) (parked_asked _ (is_parked c one its parked))))
    (λ one its. ap next_access (is_parked c one its parked)) (λ one its is. value) (λ w. refl)

pub is_woken : (run : Run) (before after : Option History) (c k : Context) (progress : Progress) (pass : PassOfHart) (log : Log) (reply : Reply)
    (bank : Option ℕ) (number : ℕ) → c ≡ k → IsContext c → waits c.pass ≡ true → HasForm (acc.Pulse false) reply → reply.value ≡ 0
    → Gains c pass log (what.Acc (acc.Pulse false) reply) bank number → InHistory run before c.pass.hart.0 (what.Acc (acc.Pulse false) reply) number after
    → IsWoken run before after k (next c c.hart progress pass log c.engine c.left)
is_woken run before after c k progress pass log reply bank number is context waited form value gains history =
    let woken : IsWoken run before after c (next c c.hart progress pass log c.engine c.left) = record {
      reply = reply;
      adds = record { bank = bank; number = number; noted = gains.extends; history = history };
      form = form;
      value = value;
      here = (context.told waited).1;
      engine = refl;
      left = refl;
    } in
    subst (λ (x : Context). IsWoken run before after x (next c c.hart progress pass log c.engine c.left)) is woken

-- a look changes nothing that a context keeps
pub looks_keep : (c : Context) (pass : PassOfHart) → IsContext c → HasLooked c.pass pass → IsContext (next c c.hart c.progress pass c.log c.engine c.left)
looks_keep c pass context looked =
    let with : HartId × List LogEntry → Context = λ p. next c c.hart c.progress (record pass { hart = p.0; log = p.1 }) c.log c.engine c.left in
    let before : IsContext (with (c.pass.hart, c.pass.log)) = record {
      whole = context.whole;
      room = context.room;
      below = context.below;
      stands = λ setup of.
          let s = context.stands setup of in
          record { follows = s.follows; at = s.at; obeys = s.obeys; few = s.few };
      told = context.told;
      round = context.round;
    } in
    subst (λ (p : HartId × List LogEntry). IsContext (with p)) (λ i. (sym looked.hart i, sym looked.log i)) before

-- What is needed.

pub asking_by : (c : Context) (n : Need) (access : Access) (class : Class) → n ≡ need.Ask access class
    → ((setup : Setup) → IsRunOf c.entry c.settings setup → n ≡ need_of (wanted setup (instruction_at setup c)))
    → ((setup : Setup) → IsRunOf c.entry c.settings setup → AsksPlaced setup n) → IsWantedIn c c.engine → IsAsking c access
asking_by c n access class is told placed w =
    let asks : (setup : Setup) → IsRunOf c.entry c.settings setup → wanted setup (instruction_at setup c) ≡ Asks access =
    λ setup of. needs_ask access class (wanted setup (instruction_at setup c)) (sym is ∙ told setup of) in
    let its : w.0 ≡ wants.Ask (class_of_access access) = sym (w.1 (some_setup c) (some_run c)) ∙ ap wants_of (asks (some_setup c) (some_run c)) in
    record {
      asks = asks;
      placed = λ setup of. subst (AsksPlaced setup) is (placed setup of);
      class_is = subst (λ (x : Wants). IsFor (plan_of c) x c.engine) its w.2;
    }

pub ending_by : (c : Context) (n : Need) (class : Class) → n ≡ need.Finish class
    → ((setup : Setup) → IsRunOf c.entry c.settings setup → n ≡ need_of (wanted setup (instruction_at setup c))) → IsWantedIn c c.engine → IsEnding c
ending_by c n class is told w =
    let ends : (setup : Setup) → IsRunOf c.entry c.settings setup → need.Finish class ≡ need_of (wanted setup (instruction_at setup c)) =
    λ setup of. sym is ∙ told setup of in
    let end = needs_finish class (wanted (some_setup c) (instruction_at (some_setup c) c)) (ends (some_setup c) (some_run c)) in
    let class_is = finish_is class (wanted (some_setup c) (instruction_at (some_setup c) c)) end.part end.after (ends (some_setup c) (some_run c)) end.ends in
    let its : w.0 ≡ wants.Finish class = sym (w.1 (some_setup c) (some_run c)) ∙ ap wants_of end.ends ∙ ap (λ k. wants.Finish k) class_is in
    record { class = class; ends = ends; class_is = subst (λ (x : Wants). IsFor (plan_of c) x c.engine) its w.2 }

-- who is parked or over wants no event
no_event : (plan : Class → Engine) (engine : Engine) (w : Wants) (n : Need) (x : Want) → wants_of x ≡ w → n ≡ need_of x → IsFor plan w engine
    → n ≢ need.Parked × n ≢ need.Over
no_event plan engine w n (Asks access) is told for_it = (λ e. let no : need.Ask access (class_of_access access) ≡ need.Parked = sym told ∙ e in cc, λ e. let no : need.Ask access (class_of_access access) ≡ need.Over = sym told ∙ e in cc)
no_event plan engine w n (Ends part after) is told for_it = (λ e. let no : need.Finish part.class ≡ need.Parked = sym told ∙ e in cc, λ e. let no : need.Finish part.class ≡ need.Over = sym told ∙ e in cc)
no_event plan engine w n IsOver is told for_it = absurd (subst (λ (x : Wants). IsFor plan x engine) (sym is) for_it)
no_event plan engine w n IsParked is told for_it = absurd (subst (λ (x : Wants). IsFor plan x engine) (sym is) for_it)

pub needs_event : (c : Context) (n : Need) → ((setup : Setup) → IsRunOf c.entry c.settings setup → n ≡ need_of (wanted setup (instruction_at setup c)))
    → IsWantedIn c c.engine → n ≢ need.Parked × n ≢ need.Over
needs_event c n told w =
    no_event (plan_of c) c.engine w.0 n (wanted (some_setup c) (instruction_at (some_setup c) c)) (w.1 (some_setup c) (some_run c)) (told (some_setup c) (some_run c)) w.2

pub wanted_engine_is : (view c : Context) (told : Wants) (at : Engine) → view ≡ c → IsWanting c told → at ≡ engine_wanted (plan_of view) view.engine told
    → (w : Wants) → IsWanting c w → at ≡ engine_wanted (plan_of c) c.engine w
wanted_engine_is view c told at is wanting its w other =
    its ∙ ap (λ (k : Context). engine_wanted (plan_of k) k.engine told) is ∙ ap (λ (x : Wants). engine_wanted (plan_of c) c.engine x) (wants_one c told w wanting other)

-- What is wanted, by what is needed.

abbrev pub wants_by : Need → Wants
wants_by (need.Ask access class) = wants.Ask class
wants_by (need.Finish class) = wants.Finish class
wants_by need.Parked = wants.Parked
wants_by need.Over = wants.Over

wants_needed : (x : Want) (n : Need) → n ≡ need_of x → wants_of x ≡ wants_by n
wants_needed (Asks access) n told = sym (ap wants_by told)
wants_needed (Ends part after) n told = sym (ap wants_by told)
wants_needed IsParked n told = sym (ap wants_by told)
wants_needed IsOver n told = sym (ap wants_by told)

pub wanting_by : (c : Context) (n other : Need) → n ≡ other
    → ((setup : Setup) → IsRunOf c.entry c.settings setup → n ≡ need_of (wanted setup (instruction_at setup c))) → IsWanting c (wants_by other)
wanting_by c n other is told = λ setup of. wants_needed (wanted setup (instruction_at setup c)) n (told setup of) ∙ ap wants_by is

-- the engine of what is wanted is the one in which the hart is
pub is_here : (view c : Context) (w : Wants) (at : Engine) → view ≡ c → IsFor (plan_of view) w at → at ≡ view.engine → IsFor (plan_of c) w c.engine
is_here view c w at is for_it same =
    let here : IsFor (plan_of view) w view.engine = subst (IsFor (plan_of view) w) same for_it in
    subst (λ (k : Context). IsFor (plan_of k) w k.engine) is here

pub is_left : (view c : Context) → view ≡ c → IsContext view → 0 < c.left
is_left view c is context = left_some c (subst IsContext is context)

-- or another
pub is_elsewhere : (view c : Context) (w : Wants) (to : Engine) → view ≡ c → IsContext view → IsWanting c w → IsFor (plan_of view) w to → to ≢ view.engine
    → IsElsewhere to c
is_elsewhere view c w to is context wanting for_it other = record {
  wanted = (w, wanting, subst (λ (k : Context). IsFor (plan_of k) w to) is for_it);
  other = subst (λ (k : Context). to ≢ k.engine) is other;
  left = is_left view c is context;
}

-- an access is no end
pub asks_no_end : (class other : Class) → wants.Ask class ≡ wants.Finish other → ⊥
asks_no_end class other is = cc
