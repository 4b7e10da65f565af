-- In a list of a hart's events that follows its story, a store-conditional stands only after a load-reserved of the same 8 bytes.
use Rattle.std.proofs.Common.{◌≡◌, ◌==◌, ℕ, Bool, true, false, if◌then◌else◌, List, [], ◌∷◌, fold, Option, None, Some, sym, subst}
use Rattle.flex_base.specs.Setup.{Setup}
use Rattle.flex_base.specs.State.{State}
use Rattle.flex_base.specs.FlatMemory.{reservation_set, reply_with}
use Rattle.flex_base.specs.Reservations.{reserving, IsOwn}
use Rattle.flex_base.specs.StoryTree.{Want, Asks, Ends, Story, Says, Closes, StaysOver, Parks, want, after_one, after_park}
use Rattle.flex_base.specs.Story.{story}
use Rattle.flex_base.specs.Unsplit.{Instruction, instruction_after}
use Rattle.flex_base.specs.Following.{next_access, first_instruction, wanted, MayDo, instruction_then, FollowsFrom, leads_to, Follows, instruction_of, reserved_after, last_reserved}
use Rattle.flex_base.specs.declared.access.Access.{Access}
use Rattle.flex_base.specs.declared.access.Access.TheVariants as acc
use Rattle.flex_base.specs.declared.access.Reply.{Reply}
use Rattle.flex_base.specs.declared.event.Event.{Event}
use Rattle.flex_base.specs.declared.event.EndPart.{EndPart}
use Rattle.flex_base.specs.declared.event.What.{What}
use Rattle.flex_base.specs.declared.event.What.TheVariants as what
use Rattle.flex_base.proofs.Machines.{place_in}
use Rattle.flex_base.proofs.Stories.{goes_push}
use Rattle.flex_base.proofs.OwnReservations.{AsksFrom, Reserves, story_reserves}

-- where the pulse of a parked hart leads
park_reserves : (own : Option ℕ) (stop one : Bool) (wakes : ℕ → Story) (lines : ℕ) → ((told : ℕ) → Reserves own (wakes told))
    → Reserves own (if stop then StaysOver else (if one then Parks wakes else wakes lines))
park_reserves own true one wakes lines reserves = tt
park_reserves own false true wakes lines reserves = reserves
park_reserves own false false wakes lines reserves = reserves lines

access_reserves : (own : Option ℕ) (s : Story) (access : Access) (reply : Reply) → next_access (want s) ≡ Some access → Reserves own s
    → Reserves (reserving own access) (after_one s reply)
access_reserves own (Says made next) access reply e reserves =
    let is : made ≡ access = cc in
    subst (λ (x : Access). Reserves (reserving own x) (next reply)) is (reserves.1 reply)
access_reserves own (Parks wakes) access reply e reserves =
    let is : acc.Pulse false ≡ access = cc in
    subst (λ (x : Access). Reserves (reserving own x) (after_park wakes reply)) is
    (park_reserves own reply.stop (reply.value == 1) wakes reply.lines reserves)
access_reserves own (Closes part after) access reply e reserves = absurd cc
access_reserves own StaysOver access reply e reserves = absurd cc

end_reserves : (own : Option ℕ) (s : Story) (part : EndPart) (after : State) → want s ≡ Ends part after → Reserves own s → IsOwn own after.reservation
end_reserves own (Closes other left) part after e reserves =
    let is : left ≡ after = cc in
    subst (λ (a : State). IsOwn own a.reservation) is reserves
end_reserves own (Says access next) part after e reserves = absurd cc
end_reserves own StaysOver part after e reserves = absurd cc
end_reserves own (Parks wakes) part after e reserves = absurd cc

event_reserves : (setup : Setup) (own : Option ℕ) (i : Instruction) (w : What) → MayDo setup i w → Reserves own (place_in setup i)
    → Reserves (reserved_after own w) (place_in setup (instruction_then setup i w))
event_reserves setup own i (what.Acc access reply) may reserves =
    subst (λ (s : Story). Reserves (reserving own access) s) (sym (goes_push (story setup i.state) i.replies reply))
    (access_reserves own (place_in setup i) access reply may.0 reserves)
event_reserves setup own i (what.End part) may reserves =
    subst (λ (w : Want). Reserves own (place_in setup (instruction_after i w (reply_with 0)))) (sym may.1)
    (story_reserves setup own may.0 (end_reserves own (place_in setup i) part may.0 may.1 reserves))
event_reserves setup own i (what.Handover to) may reserves = reserves

events_reserve : (setup : Setup) (own : Option ℕ) (i : Instruction) (events : List Event) → FollowsFrom setup i events → Reserves own (place_in setup i)
    → Reserves (fold (λ o (e : Event). reserved_after o e.what) own events) (place_in setup (leads_to setup i events))
unfolding leads_to
events_reserve setup own i [] follows reserves = reserves
events_reserve setup own i (e ∷ events) follows reserves =
    events_reserve setup (reserved_after own e.what) (instruction_then setup i e.what) events follows.1
    (event_reserves setup own i e.what follows.0 reserves)

-- where the hart is after these events, by what it has reserved
pub log_reserves : (setup : Setup) (hart : ℕ) (events : List Event) → Follows setup hart events
    → Reserves (last_reserved events) (place_in setup (instruction_of setup hart events))
unfolding last_reserved
log_reserves setup hart events follows =
    events_reserve setup None (first_instruction setup hart) events follows
    (story_reserves setup None (first_instruction setup hart).state (λ set e. absurd cc))

asking_reserves : (own : Option ℕ) (s : Story) (access : Access) → want s ≡ Asks access → Reserves own s → AsksFrom own access
asking_reserves own (Says made next) access e reserves =
    let is : made ≡ access = cc in
    subst (λ (x : Access). AsksFrom own x) is reserves.0
asking_reserves own (Closes part after) access e reserves = absurd cc
asking_reserves own StaysOver access e reserves = absurd cc
asking_reserves own (Parks wakes) access e reserves = absurd cc

pub asks-reserved : (setup : Setup) (hart : ℕ) (events : List Event) (address width value : ℕ) → Follows setup hart events
    → wanted setup (instruction_of setup hart events) ≡ Asks (acc.Sc address width value) → last_reserved events ≡ Some (reservation_set address)
asks-reserved setup hart events address width value follows asks =
    asking_reserves (last_reserved events) (place_in setup (instruction_of setup hart events)) (acc.Sc address width value) asks
    (log_reserves setup hart events follows)
