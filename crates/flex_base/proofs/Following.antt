-- A list of events that follows a hart's story, and the unsplit machine.
use Rattle.std.proofs.Common.{◌≡◌, ℕ, ◌<◌, Bool, true, false, not, List, [], ◌∷◌, ◌++◌, map, cond, length, refl, ap, sym, subst, ◌∙◌, None, Some, append-nil, append_assoc}
use Rattle.std.specs.List.{filter}
use Rattle.std.proofs.lemmas.List.FromFn.{length-map-range_with_len}
use Rattle.std.proofs.lemmas.List.Sums.{fold_push}
use Rattle.flex_base.specs.Setup.{Setup}
use Rattle.flex_base.specs.State.{start}
use Rattle.flex_base.specs.StoryTree.{Want, Asks, Ends, IsParked}
use Rattle.flex_base.specs.FlatMemory.{reply_with}
use Rattle.flex_base.specs.Unsplit.{Machine, Instruction, instruction_from, instruction_at, instruction_after, Made, does, begin, want_of, is_woken_in, next_of, resumes, reply_to, step, reach_from, unsplit}
use Rattle.flex_base.specs.Journal.{is_handover, strip, order_of}
use Rattle.flex_base.specs.Following.{next_access, wanted, MayDo, instruction_then, FollowsFrom, leads_to, Follows, waits_after, is_waiting, reserved_after, last_reserved, engine_after, last_engine}
use Rattle.flex_base.specs.declared.access.Access.{Access}
use Rattle.flex_base.specs.declared.access.Access.TheVariants as acc
use Rattle.flex_base.specs.declared.event.Event.{Event}
use Rattle.flex_base.specs.declared.event.What.{What}
use Rattle.flex_base.specs.declared.event.What.TheVariants as what
use Rattle.flex_base.proofs.Machines.{reach-cons, reach-none, next_ends, step_is, instruction_after_access, instruction_after_end, instruction_at-begin, length-step}

-- One event more.

leads_to-cons : (setup : Setup) (i : Instruction) (e : Event) (events : List Event) → leads_to setup i (e ∷ events) ≡ leads_to setup (instruction_then setup i e.what) events
unfolding leads_to
leads_to-cons setup i e events = refl

leads_to-none : (setup : Setup) (i : Instruction) → leads_to setup i [] ≡ i
unfolding leads_to
leads_to-none setup i = refl

pub leads_to-push : (setup : Setup) (i : Instruction) (events : List Event) (e : Event)
    → leads_to setup i (events ++ e ∷ []) ≡ instruction_then setup (leads_to setup i events) e.what
unfolding leads_to
leads_to-push setup i events e = fold_push (λ now (x : Event). instruction_then setup now x.what) i events e

pub follows_push : (setup : Setup) (i : Instruction) (events : List Event) (e : Event) → FollowsFrom setup i events
    → MayDo setup (leads_to setup i events) e.what → FollowsFrom setup i (events ++ e ∷ [])
follows_push setup i [] e follows may = (subst (λ (j : Instruction). MayDo setup j e.what) (leads_to-none setup i) may, tt)
follows_push setup i (x ∷ events) e follows may = (
  follows.0,
  follows_push setup (instruction_then setup i x.what) events e follows.1
      (subst (λ (j : Instruction). MayDo setup j e.what) (leads_to-cons setup i x events) may),
)

-- so it ends in what the last event was allowed by
pub follows_last : (setup : Setup) (i : Instruction) (events : List Event) (e : Event) → FollowsFrom setup i (events ++ e ∷ [])
    → FollowsFrom setup i events × MayDo setup (leads_to setup i events) e.what
follows_last setup i [] e follows = (tt, subst (λ (j : Instruction). MayDo setup j e.what) (sym (leads_to-none setup i)) follows.0)
follows_last setup i (x ∷ events) e follows =
    let rest = follows_last setup (instruction_then setup i x.what) events e follows.1 in
    ((follows.0, rest.0), subst (λ (j : Instruction). MayDo setup j e.what) (sym (leads_to-cons setup i x events)) rest.1)

pub is_waiting-none : is_waiting [] ≡ false
unfolding is_waiting
is_waiting-none = refl

pub is_waiting-push : (events : List Event) (e : Event) → is_waiting (events ++ e ∷ []) ≡ waits_after (is_waiting events) e.what
unfolding is_waiting
is_waiting-push events e = fold_push (λ was (x : Event). waits_after was x.what) false events e

pub last_reserved-push : (events : List Event) (e : Event) → last_reserved (events ++ e ∷ []) ≡ reserved_after (last_reserved events) e.what
unfolding last_reserved
last_reserved-push events e = fold_push (λ own (x : Event). reserved_after own x.what) None events e

pub last_engine-push : (events : List Event) (e : Event) → last_engine (events ++ e ∷ []) ≡ engine_after (last_engine events) e.engine e.what
unfolding last_engine
last_engine-push events e = fold_push (λ last (x : Event). engine_after last x.engine x.what) None events e

-- A hart alone.

-- the reply is the machine's, over all that the hart did so far, and a parked hart is woken where it makes its pulse
abbrev pub IsReply : Setup → Machine → ℕ → What → Type 0
IsReply setup u h (what.Acc access reply) =
    (reply ≡ reply_to setup u h access) × (want_of setup u h ≡ IsParked → is_woken_in setup u h ≡ true)
IsReply setup u h other = Unit {0}

abbrev pub machine_then : Setup → Machine → ℕ → What → Machine
machine_then setup u h (what.Handover to) = u
machine_then setup u h other = step setup u h

-- so it is with each of these events, and no other hart does anything
abbrev pub IsAlone : Setup → ℕ → Machine → List Event → Type 0
IsAlone setup h u [] = Unit {0}
IsAlone setup h u (e ∷ events) = (e.hart.0 ≡ h) × IsReply setup u h e.what × IsAlone setup h (machine_then setup u h e.what) events

-- the access that a hart makes next is its next event, where it is woken if it is parked
next_by : (w : Want) (woken : Bool) (access : Access) → next_access w ≡ Some access → (w ≡ IsParked → woken ≡ true) → resumes w woken ≡ Asks access
next_by (Asks other) woken access e awake = cc
next_by IsParked woken access e awake = let pulse : Asks (acc.Pulse false) ≡ Asks access = cc in ap (resumes IsParked) (awake refl) ∙ pulse
next_by other woken access e awake = absurd cc

strip-none : strip [] ≡ []
unfolding strip
strip-none = refl

-- an event that is no handover is kept, a handover isn't
strip-made : (e : Event) (events : List Event) → is_handover e.what ≡ false → strip (e ∷ events) ≡ does e.hart.0 e.what ∷ strip events
unfolding strip
strip-made e events made =
    let rest = filter (λ (x : Event). not (is_handover x.what)) events in
    ap (λ b. map (λ (x : Event). does x.hart.0 x.what) (cond (not b) (e ∷ rest) rest)) made

strip-handover : (e : Event) (events : List Event) → is_handover e.what ≡ true → strip (e ∷ events) ≡ strip events
unfolding strip
strip-handover e events handed =
    let rest = filter (λ (x : Event). not (is_handover x.what)) events in
    ap (λ b. map (λ (x : Event). does x.hart.0 x.what) (cond (not b) (e ∷ rest) rest)) handed

abbrev harts_of : List Made → List ℕ
harts_of made = map (λ (m : Made). m.hart) made

order_is : (events : List Event) → order_of events ≡ harts_of (strip events)
unfolding order_of strip
order_is events = refl

module _ (setup : Setup) (h : ℕ) (below : h < setup.harts) where
  -- the events of a machine that its hart makes go on as its log
  abbrev Goes : Machine → List Event → Type 0
  Goes u events = (reach_from setup u (harts_of (strip events))).events ≡ u.events ++ strip events

  -- one event of the hart, which is no handover
  made : (u : Machine) (e : Event) (events : List Event) (w : What) → e.what ≡ w → is_handover w ≡ false → e.hart.0 ≡ h
      → (step setup u h).events ≡ u.events ++ does h w ∷ [] → Goes (step setup u h) events → Goes u (e ∷ events)
  made u e events w is plain own adds rest =
      let one : strip (e ∷ events) ≡ does h w ∷ strip events = strip-made e events (ap is_handover is ∙ plain) ∙ ap (λ (m : Made). m ∷ strip events) (λ i. does (own i) (is i)) in
      let more = strip events in
      subst (λ (made : List Made). (reach_from setup u (harts_of made)).events ≡ u.events ++ made) (sym one)
      (ap (λ (m : Machine). m.events) (reach-cons setup u h (harts_of more)) ∙ rest ∙ ap (λ (es : List Made). es ++ more) adds ∙ append_assoc u.events (does h w ∷ []) more)

  alone : (u : Machine) (events : List Event) → length u.harts ≡ setup.harts → FollowsFrom setup (instruction_at u h) events → IsAlone setup h u events → Goes u events
  alone u [] same follows by_itself =
      subst (λ (made : List Made). (reach_from setup u (harts_of made)).events ≡ u.events ++ made) (sym strip-none)
      (ap (λ (m : Machine). m.events) (reach-none setup u) ∙ sym (append-nil u.events))
  alone u (e ∷ events) same follows by_itself = by (λ v. alone v events) e.what refl
    where
      i : Instruction
      i = instruction_at u h

      within : h < length u.harts
      within = subst (λ (n : ℕ). h < n) (sym same) below

      -- what is known of the event and of what follows it, for what happened
      Knows : What → Type 0
      Knows w = (MayDo setup i w × FollowsFrom setup (instruction_then setup i w) events) × IsReply setup u h w × IsAlone setup h (machine_then setup u h w) events

      knows : Knows e.what
      knows = (follows, by_itself.1, by_itself.2)

      next : length (step setup u h).harts ≡ setup.harts
      next = length-step setup u h ∙ same

      by : ((v : Machine) → length v.harts ≡ setup.harts → FollowsFrom setup (instruction_at v h) events → IsAlone setup h v events → Goes v events) → (w : What) → e.what ≡ w → Goes u (e ∷ events)
      by again (what.Acc access reply) is =
          let k : Knows (what.Acc access reply) = subst Knows is knows in
          let told = k.1.0 in
          let asks : next_of setup u h ≡ Asks access = next_by (wanted setup i) (is_woken_in setup u h) access k.0.0.0 k.1.1 in
          let made_is = step_is setup u h (Asks access) below asks in
          let at : instruction_at (step setup u h) h ≡ instruction_then setup i (what.Acc access reply) =
          instruction_after_access setup u h access below within asks ∙ ap (λ r. instruction_after i (Asks access) r) (sym told) in
          made u e events (what.Acc access reply) is refl by_itself.0
          (ap (λ (m : Machine). m.events) made_is ∙ ap (λ r. u.events ++ does h (what.Acc access r) ∷ []) (sym told))
          (again (step setup u h) next (subst (λ (j : Instruction). FollowsFrom setup j events) (sym at) k.0.1) k.2)
      by again (what.End part) is =
          let k : Knows (what.End part) = subst Knows is knows in
          let after = k.0.0.0 in
          let ends = k.0.0.1 in
          let at : instruction_at (step setup u h) h ≡ instruction_then setup i (what.End part) =
          instruction_after_end setup u h part after below within ends ∙ ap (λ w. instruction_after i w (reply_with 0)) (sym ends) in
          made u e events (what.End part) is refl by_itself.0
          (ap (λ (m : Machine). m.events) (step_is setup u h (Ends part after) below (next_ends setup u h part after ends)))
          (again (step setup u h) next (subst (λ (j : Instruction). FollowsFrom setup j events) (sym at) k.0.1) k.2)
      by again (what.Handover to) is =
          let k : Knows (what.Handover to) = subst Knows is knows in
          subst (λ (made : List Made). (reach_from setup u (harts_of made)).events ≡ u.events ++ made) (sym (strip-handover e events (ap is_handover is)))
          (again u same k.0.1 k.2)

-- a log that follows the story, of one hart alone, is what the unsplit machine does where that hart is named each time
pub follows-unsplit : (setup : Setup) (h : ℕ) (events : List Event) → h < setup.harts → Follows setup h events → IsAlone setup h (begin setup) events
    → strip events ≡ unsplit setup (order_of events)
unfolding reach_from
follows-unsplit setup h events below follows by_itself =
    let all : length (begin setup).harts ≡ setup.harts = length-map-range_with_len (λ k. instruction_from (start k setup.image.entry)) 0 setup.harts in
    let at = subst (λ (j : Instruction). FollowsFrom setup j events) (sym (instruction_at-begin setup h below)) follows in
    sym (ap (λ names. unsplit setup names) (order_is events) ∙ alone setup h below (begin setup) events all at by_itself)
