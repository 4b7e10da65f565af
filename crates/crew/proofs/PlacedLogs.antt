-- Whatever happens to a hart that follows its story stands where it may.
use Rattle.std.proofs.Common.{◌≡◌, ◌==◌, ℕ, Bool, true, false, ◌&&◌, if◌then◌else◌, List, [], ◌∷◌, Some, refl, sym, subst}
use Rattle.std.specs.List.{list_all}
use Rattle.flex_base.specs.Word.{is_multiple}
use Rattle.flex_base.specs.Place.{in_ram}
use Rattle.flex_base.specs.Loaded.{Loaded, image_fits, part_fits}
use Rattle.flex_base.specs.Forms.{IsPlaced}
use Rattle.flex_base.specs.Setup.{Setup}
use Rattle.flex_base.specs.State.{State}
use Rattle.flex_base.specs.FlatMemory.{reply_with}
use Rattle.flex_base.specs.StoryTree.{Want, Ends, Story, Says, Closes, StaysOver, Parks, want, after_one}
use Rattle.flex_base.specs.Story.{story}
use Rattle.flex_base.specs.Unsplit.{Instruction, instruction_after}
use Rattle.flex_base.specs.Following.{next_access, first_instruction, MayDo, instruction_then, FollowsFrom, Follows}
use Rattle.flex_base.specs.declared.access.Access.{Access}
use Rattle.flex_base.specs.declared.access.Access.TheVariants as acc
use Rattle.flex_base.specs.declared.access.Reply.{Reply}
use Rattle.flex_base.specs.declared.event.EndPart.{EndPart}
use Rattle.flex_base.specs.declared.event.Event.{Event}
use Rattle.flex_base.specs.declared.event.What.{What}
use Rattle.flex_base.specs.declared.event.What.TheVariants as what
use Rattle.flex_base.proofs.Machines.{place_in}
use Rattle.flex_base.proofs.Stories.{goes_push}
use Rattle.context.specs.Contexts.{IsPlacedIn}
use Rattle.access_record.specs.declared.entry.LogEntry.{LogEntry}
use Rattle.access_record.specs.Buses.{events_of}
use Rattle.crew.specs.Placing.{AreEventsPlaced}
use Rattle.crew.specs.LogsOfRun.{ArePlacedIn}
use Rattle.crew.proofs.Addresses.{IsAligned, start_aligned}
use Rattle.crew.proofs.Placing.{Stands, story_stands}

-- where the pulse of a parked hart leads
park_stands : (setup : Setup) (stop one : Bool) (wakes : ℕ → Story) (lines : ℕ) → ((told : ℕ) → Stands setup (wakes told))
    → Stands setup (if stop then StaysOver else (if one then Parks wakes else wakes lines))
park_stands setup true one wakes lines stands = tt
park_stands setup false true wakes lines stands = stands
park_stands setup false false wakes lines stands = stands lines

-- the access that is made next stands where it may, and so does all that follows it
access_stands : (setup : Setup) (s : Story) (access : Access) (reply : Reply) → next_access (want s) ≡ Some access → Stands setup s
    → IsPlaced setup.harts setup.ram access × Stands setup (after_one s reply)
access_stands setup (Says made next) access reply e stands =
    let is : made ≡ access = cc in
    let At : Access → Type 0 = λ x. IsPlaced setup.harts setup.ram x in
    (subst At is stands.0, stands.1 reply)
access_stands setup (Parks wakes) access reply e stands =
    let is : acc.Pulse false ≡ access = cc in
    let At : Access → Type 0 = λ x. IsPlaced setup.harts setup.ram x in
    (subst At is tt, park_stands setup reply.stop (reply.value == 1) wakes reply.lines stands)
access_stands setup (Closes part after) access reply e stands = absurd cc
access_stands setup StaysOver access reply e stands = absurd cc

end_aligned : (setup : Setup) (s : Story) (part : EndPart) (after : State) → want s ≡ Ends part after → Stands setup s → IsAligned after
end_aligned setup (Closes other left) part after e stands =
    let is : left ≡ after = cc in
    let At : State → Type 0 = λ a. IsAligned a in
    subst At is stands
end_aligned setup (Says access next) part after e stands = absurd cc
end_aligned setup StaysOver part after e stands = absurd cc
end_aligned setup (Parks wakes) part after e stands = absurd cc

-- what happens, and all that follows it
event_stands : (setup : Setup) (i : Instruction) (w : What) → MayDo setup i w → Stands setup (place_in setup i)
    → IsPlacedIn setup w × Stands setup (place_in setup (instruction_then setup i w))
event_stands setup i (what.Acc access reply) may stands =
    let made = access_stands setup (place_in setup i) access reply may.0 stands in
    let At : Story → Type 0 = λ s. Stands setup s in
    (made.0, subst At (sym (goes_push (story setup i.state) i.replies reply)) made.1)
event_stands setup i (what.End part) may stands =
    let At : Want → Type 0 = λ w. Stands setup (place_in setup (instruction_after i w (reply_with 0))) in
    (tt, subst At (sym may.1) (story_stands setup may.0 (end_aligned setup (place_in setup i) part may.0 may.1 stands)))
event_stands setup i (what.Handover to) may stands = (tt, stands)

events_placed : (setup : Setup) (i : Instruction) (events : List Event) → FollowsFrom setup i events → Stands setup (place_in setup i)
    → AreEventsPlaced setup events
events_placed setup i [] follows stands = tt
events_placed setup i (e ∷ events) follows stands =
    let made = event_stands setup i e.what follows.0 stands in
    (made.0, events_placed setup (instruction_then setup i e.what) events follows.1 made.1)

pub follows_placed : (setup : Setup) (hart : ℕ) (events : List Event) → is_multiple setup.image.entry 4 ≡ true → Follows setup hart events
    → AreEventsPlaced setup events
follows_placed setup hart events entry follows =
    events_placed setup (first_instruction setup hart) events follows
    (story_stands setup (first_instruction setup hart).state (entry, start_aligned hart))

-- so it is with the events of a log
pub log_placed : (setup : Setup) (hart : ℕ) (log : List LogEntry) → is_multiple setup.image.entry 4 ≡ true → Follows setup hart (events_of log)
    → ArePlacedIn setup log
log_placed setup hart log entry follows = follows_placed setup hart (events_of log) entry follows

entry_by : (aligned inside fits : Bool) → (aligned && inside && fits) ≡ true → aligned ≡ true
entry_by true inside fits e = refl
entry_by false inside fits e = absurd cc

-- an image that fits begins there
pub entry_aligned : (ram : ℕ) (image : Loaded) → image_fits ram image ≡ true → is_multiple image.entry 4 ≡ true
entry_aligned ram image fits = entry_by (is_multiple image.entry 4) (in_ram ram image.entry 1) (list_all (part_fits ram) image.parts) fits
