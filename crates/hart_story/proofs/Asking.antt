-- What a hart asks, and where the replies have led it.
use Rattle.std.proofs.Common.{◌≡◌, ◌≢◌, ℕ, Bool, true, false, ◌||◌, ◌&&◌, ◌==◌, if◌then◌else◌, [], ◌∷◌, ◌++◌, refl, ap, sym, subst, ◌∙◌, arith}
use Rattle.flex_base.specs.Forms.{HasForm}
use Rattle.flex_base.specs.Parked.{Busy, node_of}
use Rattle.flex_base.specs.Setup.{Setup}
use Rattle.flex_base.specs.State.{State}
use Rattle.flex_base.specs.Word.{is_multiple}
use Rattle.flex_base.specs.StoryTree.{Want, Asks, Ends, IsOver, IsParked, Story, Says, Closes, StaysOver, Parks, want, after_one}
use Rattle.flex_base.specs.Reservations.{asked}
use Rattle.flex_base.specs.Story.{story, after_pulse, begins, fetches_at, is_tick}
use Rattle.flex_base.specs.Unsplit.{Instruction, is_idle}
use Rattle.flex_base.specs.declared.access.Access.{Access}
use Rattle.flex_base.specs.declared.access.Access.TheVariants as acc
use Rattle.flex_base.specs.declared.access.Reply.{Reply}
use Rattle.flex_base.specs.declared.event.EndPart.{EndPart}
use Rattle.flex_base.specs.declared.settings.Layout.{Layout}
use Rattle.flex_base.specs.declared.translation.Kind.{Kind}
use Rattle.flex_base.specs.declared.translation.Kind.TheVariants as kind
use Rattle.flex_base.proofs.Stories.{goes_push, retires, story_undue}
use Rattle.flex_base.proofs.Standing.{begun_busy}
use Rattle.sv39.specs.IsAfter.{ahead, entries_left}
use Rattle.sv39.specs.declared.walk.Walk.{Walk}
use Rattle.hart_story.specs.Found.{state_at}
use Rattle.hart_story.specs.Memory.{access_by, access_of, device_access_by, device_access_of, kind_of, reaching}
use Rattle.hart_story.specs.Outcome.{outcome_of, is_end, IsSoundOutcome}
use Rattle.hart_story.specs.Progress.{node_at, node, Reached, want_in, is_done, is_parked, IsAsking, leaves_over, IsSoundProgress, IsHere, IsIn}
use Rattle.hart_story.specs.Stage.{stage_of, walking, has_begun, is_end_at, is_over_at, is_parked_at, tells_stop, IsReading, IsSoundStage}
use Rattle.hart_story.specs.declared.hart.Hart.{Hart}
use Rattle.hart_story.specs.declared.found.Found.{Found}
use Rattle.hart_story.specs.declared.memory_work.MemoryOp.{MemoryOp}
use Rattle.hart_story.specs.declared.memory_work.MemoryOp.TheVariants as memory
use Rattle.hart_story.specs.declared.outcome.Outcome.{Outcome}
use Rattle.hart_story.specs.declared.outcome.Outcome.TheVariants as outcome
use Rattle.hart_story.specs.declared.progress.Progress.{Progress}
use Rattle.hart_story.specs.declared.stage.Stage.{Stage}
use Rattle.hart_story.specs.declared.stage.Stage.TheVariants as stage
use Rattle.hart_story.proofs.Committing.{comes_to_end}
use Rattle.hart_story.proofs.Seeing.{node_begun}
use Rattle.hart_story.proofs.Walking.{needs, some_left, walks_asks}

-- the replies lead on by one
pub reached_on : (setup : Setup) (i : Instruction) (p q : Progress) (reply : Reply) → Reached setup i p
    → after_one (node setup i.state p) reply ≡ node setup i.state q → Reached setup (record i { replies = i.replies ++ reply ∷ [] }) q
reached_on setup i p q reply reached next = goes_push (story setup i.state) i.replies reply ∙ ap (λ s. after_one s reply) reached ∙ next

-- what the node wants is what the hart wants
pub node_wants : (setup : Setup) (i : Instruction) (p : Progress) (w : Want) → Reached setup i p → want_in setup i ≡ w → want (node setup i.state p) ≡ w
node_wants setup i p w reached asks = sym (ap want reached) ∙ asks

-- and so is what it asks
pub node_asks : (setup : Setup) (i : Instruction) (p : Progress) (access : Access) → Reached setup i p → IsAsking setup i access
    → asked (node setup i.state p) ≡ access ∷ []
node_asks setup i p access reached asks = sym (ap asked reached) ∙ asks

pub asked_is : (one other : Access) → one ∷ [] ≡ other ∷ [] → other ≡ one
asked_is one other e = cc

-- the one access that a story asks
pub asked_only : (s : Story) (access : Access) (next : Reply → Story) (other : Access) → s ≡ Says access next → asked s ≡ other ∷ [] → other ≡ access
asked_only s access next other is e = asked_is access other (sym (ap asked is) ∙ e)

asks_end : (part : EndPart) (after : State) (access : Access) → Asks access ≡ Ends part after → ⊥
asks_end part after access e = cc

-- an instruction that is at its end in the beginning neither retires nor makes a pulse
ending_by : (spent due : Bool) (pulse begun : Story) (part : EndPart) (after : State) (access : Access) (next : Reply → Story) → pulse ≡ Says access next
    → want (if spent then retires else (if due then pulse else begun)) ≡ Ends part after → (if spent then retires else (if due then pulse else begun)) ≡ begun
ending_by true due pulse begun part after access next is e = absurd cc
ending_by false true pulse begun part after access next is e = let asks = ap want is in absurd cc
ending_by false false pulse begun part after access next is e = refl

pub ending_begins : (setup : Setup) (a : State) (part : EndPart) (after : State) → want (story setup a) ≡ Ends part after → story setup a ≡ begins setup a
ending_begins setup a part after e =
    ending_by (a.ends == setup.budget) a.due (Says (acc.Pulse (is_tick a)) (after_pulse setup a)) (begins setup a) part after
    (acc.Pulse (is_tick a)) (after_pulse setup a) refl e

-- The beginning.

pub begun_is : (here : Stage) → has_begun here ≡ false → here ≡ stage.Begun
begun_is stage.Begun e = refl
begun_is (stage.FetchWalk w) e = absurd cc
begun_is (stage.Fetch address) e = absurd cc
begun_is (stage.AccessWalk w work) e = absurd cc
begun_is (stage.Access address work) e = absurd cc
begun_is (stage.Device address work) e = absurd cc
begun_is (stage.Working made) e = absurd cc
begun_is stage.Over e = absurd cc

pub node_story : (setup : Setup) (a : State) (p : Progress) → has_begun p.stage ≡ false → node setup a p ≡ story setup a
node_story setup a p e = ap (node_at setup a p.lines p.found) (begun_is p.stage e)

-- with the lines that it has
pub begins_with : (setup : Setup) (a : State) (lines : ℕ) → lines ≡ a.lines → begins setup a ≡ begins setup (record a { lines = lines })
begins_with setup a lines e = ap (λ l. begins setup (record a { lines = l })) (sym e)

-- the story of one that neither retires nor makes a pulse is what begins here
pub begins_here : (setup : Setup) (a : State) (hart : Hart) (old next : Progress) (layout : Layout) (budget : ℕ)
    → IsHere setup a hart old layout budget → hart.regs.ends ≢ budget → hart.regs.due ≡ false
    → begins setup (record a { lines = hart.regs.lines }) ≡ node setup a next → story setup a ≡ node setup a next
begins_here setup a hart old next layout budget here unspent undue begun =
    story_undue setup a (λ spent. unspent (omega (arith, here.stands.regs.ends, here.of.budget_is, spent))) (sym here.stands.regs.due ∙ undue)
    ∙ begins_with setup a hart.regs.lines here.stands.regs.lines ∙ begun

-- and its progress is sound
pub begun_here : (setup : Setup) (a : State) (hart : Hart) (old next : Progress) (layout : Layout) (budget : ℕ)
    → IsHere setup a hart old layout budget → (is_multiple hart.regs.pc 4 ≡ true → IsSoundProgress layout hart next)
    → IsHere setup a hart next layout budget
begun_here setup a hart old next layout budget here sound = record {
  of = here.of;
  stands = here.stands;
  fit = here.fit;
  sound = sound (ap (λ p. is_multiple p 4) here.stands.regs.pc ∙ here.fit.aligned);
}

-- an instruction that ends where it begins
pub ends_begun : (setup : Setup) (i : Instruction) (p next : Progress) (lines : ℕ) (part : EndPart) (after : State) → Reached setup i p
    → has_begun p.stage ≡ false → lines ≡ i.state.lines → begins setup (record i.state { lines = lines }) ≡ node setup i.state next
    → want_in setup i ≡ Ends part after → node setup i.state p ≡ node setup i.state next
ends_begun setup i p next lines part after reached begun same leads ends =
    let here = node_story setup i.state p begun in
    here ∙ ending_begins setup i.state part after (sym (ap want here) ∙ node_wants setup i p (Ends part after) reached ends)
    ∙ begins_with setup i.state lines same ∙ leads

-- A walk that reads asks for an entry.

pub record AsksEntry (ram : ℕ) (a : State) (k : Kind) (va : ℕ) (next : State → ℕ → Story) (w : Walk) : Type 0 where
  pub address : ℕ
  pub onward : Reply → Story
  pub says : walking ram a k va next w ≡ Says (acc.Pte address) onward

pub asks_entry : (ram : ℕ) (a : State) (k : Kind) (va : ℕ) (next : State → ℕ → Story) (w : Walk) → IsReading ram w → AsksEntry ram a k va next w
asks_entry ram a k va next w reading =
    let found = needs ram w reading in
    record {
      address = found.address;
      onward = _;
      says = walks_asks ram a k va next (entries_left w) (ahead w) found.address (some_left w found.address found.need) found.need found.lies.in_ram;
    }

-- The end of an instruction is an outcome.

pub record IsAtOutcome (here : Stage) : Type 0 where
  pub made : Outcome
  pub is : here ≡ stage.Working made
  pub end : is_end made ≡ true

pub working_is : (one other : Outcome) → stage.Working one ≡ stage.Working other → one ≡ other
working_is one other e = cc

no_end : (ram : ℕ) (a : State) (k : Kind) (va : ℕ) (next : State → ℕ → Story) (w : Walk) (part : EndPart) (after : State)
    → IsReading ram w → want (walking ram a k va next w) ≡ Ends part after → ⊥
no_end ram a k va next w part after reading e =
    let entry = asks_entry ram a k va next w reading in
    asks_end part after (acc.Pte entry.address) (sym (ap want entry.says) ∙ e)

pub at_outcome : (setup : Setup) (a : State) (layout : Layout) (hart : Hart) (count : ℕ) (here : Stage) (part : EndPart) (after : State)
    → setup.ram ≡ layout.ram → has_begun here ≡ true → IsSoundStage layout hart count here → want (stage_of setup a here) ≡ Ends part after → IsAtOutcome here
at_outcome setup a layout hart count stage.Begun part after of begun sound e = absurd cc
at_outcome setup a layout hart count (stage.FetchWalk w) part after of begun sound e =
    let In : ℕ → Type 0 = λ ram. IsReading ram w in
    absurd (no_end setup.ram a kind.Fetch a.pc (fetches_at setup) w part after (subst In (sym of) sound.0) e)
at_outcome setup a layout hart count (stage.Fetch address) part after of begun sound e = absurd cc
at_outcome setup a layout hart count (stage.AccessWalk w work) part after of begun sound e =
    let In : ℕ → Type 0 = λ ram. IsReading ram w in
    absurd (no_end setup.ram a (kind_of work.op) work.address (reaching work setup) w part after (subst In (sym of) sound.0) e)
at_outcome setup a layout hart count (stage.Access address work) part after of begun sound e = absurd cc
at_outcome setup a layout hart count (stage.Device address work) part after of begun sound e = absurd cc
at_outcome setup a layout hart count (stage.Working made) part after of begun sound e =
    record { made = made; is = refl; end = comes_to_end a made part after e }
at_outcome setup a layout hart count stage.Over part after of begun sound e = absurd cc

ended_stage : (here : Stage) → IsAtOutcome here → is_end_at here ≡ true
ended_stage here at =
    let At : Stage → Type 0 = λ s. is_end_at s ≡ true in
    subst At (sym at.is) at.end

-- of an outcome that a stage is
pub made_end : (here : Stage) (made : Outcome) → here ≡ stage.Working made → is_end_at here ≡ true → is_end made ≡ true
made_end here made is end =
    let At : Stage → Type 0 = λ s. is_end_at s ≡ true in
    subst At is end

pub made_sound : (layout : Layout) (hart : Hart) (count : ℕ) (here : Stage) (made : Outcome) → here ≡ stage.Working made → IsSoundStage layout hart count here
    → IsSoundOutcome layout hart made
made_sound layout hart count here made is sound =
    let At : Stage → Type 0 = λ s. IsSoundStage layout hart count s in
    subst At is sound

-- an instruction that has begun and is at an end has come to it
pub ends_at : (setup : Setup) (a : State) (layout : Layout) (hart : Hart) (p : Progress) (part : EndPart) (after : State) → setup.ram ≡ layout.ram
    → has_begun p.stage ≡ true → IsSoundProgress layout hart p → want (node setup a p) ≡ Ends part after → is_end_at p.stage ≡ true
ends_at setup a layout hart p part after of begun sound ends =
    let there = sym (ap want (node_begun setup a p.lines p.found p.stage begun)) ∙ ends in
    ended_stage p.stage (at_outcome setup (state_at a p.lines p.found) layout hart p.found.count p.stage part after of begun sound.stage there)

-- Whether a hart is then over.

-- its next step leaves a hart over that asks for this, as the access and its reply say
abbrev pub LeavesOver : Access → Reply → Bool → Type 0
LeavesOver access reply over = leaves_over access reply ≡ over

memory_on : (op : MemoryOp) (address width value : ℕ) (reply : Reply) → HasForm (access_by op address width value) reply
    → LeavesOver (access_by op address width value) reply false
memory_on memory.Load address width value reply form = form.stop
memory_on memory.Store address width value reply form = form.stop
memory_on memory.LoadReserved address width value reply form = form.stop
memory_on memory.StoreConditional address width value reply form = form.stop
memory_on (memory.Modify does) address width value reply form = form.stop

device_on : (op : MemoryOp) (address width value : ℕ) (reply : Reply) → HasForm (device_access_by op address width value) reply
    → LeavesOver (device_access_by op address width value) reply false
device_on memory.Load address width value reply form = form.stop
device_on memory.Store address width value reply form = form.stop
device_on memory.LoadReserved address width value reply form = form.stop
device_on memory.StoreConditional address width value reply form = form.stop
device_on (memory.Modify does) address width value reply form = form.stop

entry_on : (ram : ℕ) (a : State) (k : Kind) (va : ℕ) (next : State → ℕ → Story) (w : Walk) (access : Access) (reply : Reply)
    → IsReading ram w → asked (walking ram a k va next w) ≡ access ∷ [] → HasForm access reply → LeavesOver access reply false
entry_on ram a k va next w access reply reading e form =
    let entry = asks_entry ram a k va next w reading in
    let is = asked_only (walking ram a k va next w) (acc.Pte entry.address) entry.onward access entry.says e in
    let Form : Access → Type 0 = λ x. HasForm x reply in
    let Left : Access → Type 0 = λ x. LeavesOver x reply false in
    let told : HasForm (acc.Pte entry.address) reply = subst Form is form in
    subst Left (sym is) told.stop

outcome_on : (a : State) (made : Outcome) (access : Access) (reply : Reply) → asked (outcome_of a made) ≡ access ∷ [] → HasForm access reply
    → LeavesOver access reply (tells_stop (stage.Working made) && reply.stop)
outcome_on a (outcome.AskPending does rd rs1 number) access reply e form =
    let Left : Access → Type 0 = λ x. LeavesOver x reply reply.stop in
    subst Left (sym (asked_is (acc.Pulse false) access e)) refl
outcome_on a (outcome.AskTime does rd rs1 number) access reply e form =
    let is = asked_is acc.Time access e in
    let Form : Access → Type 0 = λ x. HasForm x reply in
    let Left : Access → Type 0 = λ x. LeavesOver x reply false in
    let told : HasForm acc.Time reply = subst Form is form in
    subst Left (sym is) told.stop
outcome_on a (outcome.End end) access reply e form = absurd cc
outcome_on a (outcome.Trap cause tval) access reply e form = absurd cc
outcome_on a (outcome.WriteCsr number rd old value) access reply e form = absurd cc
outcome_on a outcome.Mret access reply e form = absurd cc
outcome_on a outcome.Sret access reply e form = absurd cc
outcome_on a outcome.FenceMemory access reply e form = absurd cc
outcome_on a outcome.WaitPulse access reply e form =
    let Left : Access → Type 0 = λ x. LeavesOver x reply reply.stop in
    subst Left (sym (asked_is (acc.Pulse false) access e)) refl
outcome_on a (outcome.Wait mie) access reply e form =
    let Left : Access → Type 0 = λ x. LeavesOver x reply reply.stop in
    subst Left (sym (asked_is (acc.Wait mie) access e)) refl
outcome_on a outcome.Parked access reply e form =
    let Left : Access → Type 0 = λ x. LeavesOver x reply reply.stop in
    subst Left (sym (asked_is (acc.Pulse false) access e)) refl

pub stage_on : (setup : Setup) (a : State) (layout : Layout) (hart : Hart) (count : ℕ) (here : Stage) (access : Access) (reply : Reply)
    → setup.ram ≡ layout.ram → has_begun here ≡ true → IsSoundStage layout hart count here → asked (stage_of setup a here) ≡ access ∷ [] → HasForm access reply
    → LeavesOver access reply (tells_stop here && reply.stop)
stage_on setup a layout hart count stage.Begun access reply of begun sound e form = absurd cc
stage_on setup a layout hart count (stage.FetchWalk w) access reply of begun sound e form =
    let In : ℕ → Type 0 = λ ram. IsReading ram w in
    entry_on setup.ram a kind.Fetch a.pc (fetches_at setup) w access reply (subst In (sym of) sound.0) e form
stage_on setup a layout hart count (stage.Fetch address) access reply of begun sound e form =
    let is = asked_is (acc.Fetch address) access e in
    let Form : Access → Type 0 = λ x. HasForm x reply in
    let Left : Access → Type 0 = λ x. LeavesOver x reply false in
    let told : HasForm (acc.Fetch address) reply = subst Form is form in
    subst Left (sym is) told.stop
stage_on setup a layout hart count (stage.AccessWalk w work) access reply of begun sound e form =
    let In : ℕ → Type 0 = λ ram. IsReading ram w in
    entry_on setup.ram a (kind_of work.op) work.address (reaching work setup) w access reply (subst In (sym of) sound.0) e form
stage_on setup a layout hart count (stage.Access address work) access reply of begun sound e form =
    let is = asked_is (access_of work address) access e in
    let Form : Access → Type 0 = λ x. HasForm x reply in
    let Left : Access → Type 0 = λ x. LeavesOver x reply false in
    subst Left (sym is) (memory_on work.op address work.width work.value reply (subst Form is form))
stage_on setup a layout hart count (stage.Device address work) access reply of begun sound e form =
    let is = asked_is (device_access_of work address) access e in
    let Form : Access → Type 0 = λ x. HasForm x reply in
    let Left : Access → Type 0 = λ x. LeavesOver x reply false in
    subst Left (sym is) (device_on work.op address work.width work.value reply (subst Form is form))
stage_on setup a layout hart count (stage.Working made) access reply of begun sound e form = outcome_on a made access reply e form
stage_on setup a layout hart count stage.Over access reply of begun sound e form = absurd cc

-- Ends.

ends_by : (setup : Setup) (a : State) (lines : ℕ) (found : Found) (here : Stage) (part : EndPart) (after : State)
    → want (node_at setup a lines found here) ≡ Ends part after → is_over_at here ≡ false
ends_by setup a lines found stage.Begun part after e = refl
ends_by setup a lines found (stage.FetchWalk w) part after e = refl
ends_by setup a lines found (stage.Fetch address) part after e = refl
ends_by setup a lines found (stage.AccessWalk w work) part after e = refl
ends_by setup a lines found (stage.Access address work) part after e = refl
ends_by setup a lines found (stage.Device address work) part after e = refl
ends_by setup a lines found (stage.Working made) part after e = refl
ends_by setup a lines found stage.Over part after e = absurd cc

-- a hart that is at the end of an instruction isn't over
pub ends_not_done : (setup : Setup) (i : Instruction) (p : Progress) (part : EndPart) (after : State) → Reached setup i p
    → want_in setup i ≡ Ends part after → is_done p ≡ false
ends_not_done setup i p part after reached ends =
    ends_by setup i.state p.lines p.found p.stage part after (node_wants setup i p (Ends part after) reached ends)

asks_by : (setup : Setup) (a : State) (lines : ℕ) (found : Found) (here : Stage) (access : Access)
    → asked (node_at setup a lines found here) ≡ access ∷ [] → is_over_at here ≡ false
asks_by setup a lines found stage.Begun access e = refl
asks_by setup a lines found (stage.FetchWalk w) access e = refl
asks_by setup a lines found (stage.Fetch address) access e = refl
asks_by setup a lines found (stage.AccessWalk w work) access e = refl
asks_by setup a lines found (stage.Access address work) access e = refl
asks_by setup a lines found (stage.Device address work) access e = refl
asks_by setup a lines found (stage.Working made) access e = refl
asks_by setup a lines found stage.Over access e = absurd cc

-- nor is one that asks, or is parked
pub asks_not_done : (setup : Setup) (i : Instruction) (p : Progress) (access : Access) → Reached setup i p
    → IsAsking setup i access → is_done p ≡ false
asks_not_done setup i p access reached asks =
    asks_by setup i.state p.lines p.found p.stage access (node_asks setup i p access reached asks)

over_by : (setup : Setup) (a : State) (lines : ℕ) (found : Found) (here : Stage) → is_over_at here ≡ true
    → want (node_at setup a lines found here) ≡ IsOver
over_by setup a lines found stage.Over e = refl
over_by setup a lines found other e = absurd cc

-- a hart that has nothing left to do is over
pub done_over : (setup : Setup) (i : Instruction) (p : Progress) → Reached setup i p → is_done p ≡ true → want_in setup i ≡ IsOver
done_over setup i p reached done = ap want reached ∙ over_by setup i.state p.lines p.found p.stage done

parked_by : (setup : Setup) (a : State) (lines : ℕ) (found : Found) (here : Stage) → is_parked_at here ≡ true
    → want (node_at setup a lines found here) ≡ IsParked
parked_by setup a lines found (stage.Working outcome.Parked) e = refl
parked_by setup a lines found other e = absurd cc

-- and one that waits is parked
pub waits_parked : (setup : Setup) (i : Instruction) (p : Progress) → Reached setup i p → is_parked p ≡ true → want_in setup i ≡ IsParked
waits_parked setup i p reached waits = ap want reached ∙ parked_by setup i.state p.lines p.found p.stage waits

-- No other hart is without an event of its own.

busy_idle : (s : Story) → node_of s ≡ Busy → is_idle (want s) ≡ false
busy_idle (Says access next) e = refl
busy_idle (Closes part after) e = refl
busy_idle StaysOver e = absurd cc
busy_idle (Parks wakes) e = absurd cc

outcome_idle : (a : State) (made : Outcome) → is_idle (want (outcome_of a made)) ≡ is_parked_at (stage.Working made)
outcome_idle a (outcome.End end) = refl
outcome_idle a (outcome.Trap cause tval) = refl
outcome_idle a (outcome.AskPending does rd rs1 number) = refl
outcome_idle a (outcome.AskTime does rd rs1 number) = refl
outcome_idle a (outcome.WriteCsr number rd old value) = refl
outcome_idle a outcome.Mret = refl
outcome_idle a outcome.Sret = refl
outcome_idle a outcome.FenceMemory = refl
outcome_idle a outcome.WaitPulse = refl
outcome_idle a (outcome.Wait mie) = refl
outcome_idle a outcome.Parked = refl

walk_idle : (ram : ℕ) (a : State) (k : Kind) (va : ℕ) (next : State → ℕ → Story) (w : Walk) → IsReading ram w
    → is_idle (want (walking ram a k va next w)) ≡ false
walk_idle ram a k va next w reading = ap (λ s. is_idle (want s)) (asks_entry ram a k va next w reading).says

idle_by : (setup : Setup) (a : State) (layout : Layout) (hart : Hart) (lines : ℕ) (found : Found) (here : Stage) → setup.ram ≡ layout.ram
    → IsSoundStage layout hart found.count here
    → is_idle (want (node_at setup a lines found here)) ≡ (is_over_at here || is_parked_at here)
idle_by setup a layout hart lines found stage.Begun of sound = busy_idle (story setup a) (begun_busy setup a)
idle_by setup a layout hart lines found (stage.FetchWalk w) of sound =
    let In : ℕ → Type 0 = λ ram. IsReading ram w in
    walk_idle setup.ram (state_at a lines found) kind.Fetch a.pc (fetches_at setup) w (subst In (sym of) sound.0)
idle_by setup a layout hart lines found (stage.Fetch address) of sound = refl
idle_by setup a layout hart lines found (stage.AccessWalk w work) of sound =
    let In : ℕ → Type 0 = λ ram. IsReading ram w in
    walk_idle setup.ram (state_at a lines found) (kind_of work.op) work.address (reaching work setup) w (subst In (sym of) sound.0)
idle_by setup a layout hart lines found (stage.Access address work) of sound = refl
idle_by setup a layout hart lines found (stage.Device address work) of sound = refl
idle_by setup a layout hart lines found (stage.Working made) of sound = outcome_idle (state_at a lines found) made
idle_by setup a layout hart lines found stage.Over of sound = refl

-- a hart makes no event by itself where it has nothing left to do or waits, and only there
pub idle_is : (setup : Setup) (i : Instruction) (hart : Hart) (p : Progress) (layout : Layout) (budget : ℕ) → IsIn setup i hart p layout budget
    → is_idle (want_in setup i) ≡ (is_done p || is_parked p)
idle_is setup i hart p layout budget at =
    ap (λ s. is_idle (want s)) at.reached ∙ idle_by setup i.state layout hart p.lines p.found p.stage at.of.ram at.sound.stage
