-- How each hart stands in every state that an order leads to.
use Rattle.std.proofs.Common.{◌≡◌, ◌≢◌, ℕ, ◌+◌, ◌*◌, ◌<◌, ◌≤◌, suc, Bool, true, false, if◌then◌else◌, nat_lt, List, [], ◌∷◌, ◌==◌, length, Option, ◌⊎◌, inl, inr, refl, ap, sym, subst, ◌∙◌, arith}
use Rattle.std.proofs.lemmas.Bool.{cases_eq, cases_Bool}
use Rattle.std.proofs.lemmas.Bool.Decides.{nat_tests}
use Rattle.std.proofs.lemmas.List.FromFn.{length-map-range_with_len}
use Rattle.std.proofs.lemmas.List.{get_or-replicate}
use Rattle.std.proofs.lemmas.List.Sums.{fold_push}
use Rattle.flex_base.specs.Setup.{Setup}
use Rattle.flex_base.specs.State.{State, start}
use Rattle.flex_base.specs.FlatMemory.{Done, is_ram_access, flat}
use Rattle.flex_base.specs.StoryTree.{Want, Asks, Ends, IsOver, IsParked, Story, Says, Closes, StaysOver, Parks, want, after_park}
use Rattle.flex_base.specs.Story.{story, pulses}
use Rattle.flex_base.specs.Devices.{DeviceState, is_transmit, is_woken, byte_of, hart_start, device_step, reply_in, input_left, reply_after, devices, devices_start}
use Rattle.flex_base.specs.DeviceLaws.{AreBelow}
use Rattle.flex_base.specs.Parked.{Node, Busy, Parked, Gone, node_of, told_node, next_node, Fits, MayMake}
use Rattle.flex_base.specs.Unsplit.{Machine, Instruction, instruction_from, instruction_at, story_of, next_of, is_woken_in, reply_to, begin, make, with_access, step, reach, reach_from}
use Rattle.flex_base.specs.Rounds.{most_events}
use Rattle.flex_base.specs.EndOfRun.{events_of, count_of}
use Rattle.flex_base.specs.Journal.{sent}
use Rattle.flex_base.specs.declared.access.Access.{Access}
use Rattle.flex_base.specs.declared.access.Access.TheVariants as acc
use Rattle.flex_base.specs.declared.access.Reply.{Reply}
use Rattle.flex_base.specs.declared.event.Stop.{Stop}
use Rattle.flex_base.specs.declared.event.EndPart.{EndPart}
use Rattle.flex_base.specs.declared.event.What.TheVariants as what
use Rattle.flex_base.specs.declared.hart_device.HartDevice.{HartDevice}
use Rattle.flex_base.specs.declared.hart_device.HartStanding.{HartStanding}
use Rattle.flex_base.specs.declared.hart_device.HartStanding.TheVariants as stand
use Rattle.flex_base.proofs.Machines.{instruction_at-begin, Stays, Adds, step_steps, reach-cons, reach-none, next_asks, next_ends, next_woken, step_is, step_over, step_unwoken, instruction_after_access, story_after_access, story_after_park, instruction_after_end, instruction_at-other, length-step, place_in}
use Rattle.flex_base.proofs.Stories.{retires, story_spent, story_unspent}
use Rattle.flex_base.proofs.Leading.{IsTold, EndsAfter, LeadsAs, Leads, leads_node, pulses_leads}
use Rattle.flex_base.proofs.Sending.{sent-none, bytes_of, events-other, count_own, sent_of, sent_own_access, sent_own_end}
use Rattle.flex_base.proofs.DeviceLaws.{harts-devices}
use Rattle.flex_base.proofs.Fitting.{standing_in, fits_own, fits_other, pulse_told}

-- The events of a hart by a step of another one.

step_events_other : (setup : Setup) (u : Machine) (h k : ℕ) → h ≢ k → events_of h (step setup u k).events ≡ events_of h u.events
step_events_other setup u h k other = elim (step_steps setup u k) [
  | Stays e ↦ ap (λ (m : Machine). events_of h m.events) e
  | Adds happened plain below events same ↦ ap (events_of h) events ∙ events-other u.events h k happened other
]

-- How a hart stands: it works on an instruction, where it may be parked or have been told the stop; or it is about to retire,
-- or has retired.

-- one where the next event is an end, which counts for the byte that may have been transmitted before it
abbrev pub closing : Story → ℕ
closing (Closes part after) = 1
closing other = 0

pub data Stands (setup : Setup) (u : Machine) (h : ℕ) : Type 0 where
  Works : (node : Node) (left : ℕ) → (instruction_at u h).state.ends < setup.budget → LeadsAs node left (instruction_at u h).state.ends (story_of setup u h)
      → count_of h u.events + left ≤ 10 * (instruction_at u h).state.ends + 10
      → sent_of h u.events ≤ (instruction_at u h).state.ends + closing (story_of setup u h) → Stands setup u h
  Retires : story_of setup u h ≡ retires → (instruction_at u h).state.ends ≤ setup.budget → count_of h u.events ≤ 10 * setup.budget
      → sent_of h u.events ≤ setup.budget → Stands setup u h
  Retired : story_of setup u h ≡ StaysOver → count_of h u.events ≤ most_events setup → sent_of h u.events ≤ setup.budget → Stands setup u h

-- a hart works where it stands in this story, after so many ends
works_in : (setup : Setup) (u : Machine) (h left ends : ℕ) (node : Node) (s : Story) → (instruction_at u h).state.ends ≡ ends → story_of setup u h ≡ s
    → ends < setup.budget → LeadsAs node left ends s → count_of h u.events + left ≤ 10 * ends + 10 → sent_of h u.events ≤ ends + closing s → Stands setup u h
works_in setup u h left ends node s same is unspent leads few sends =
    let After : ℕ → Type 0 = λ n. LeadsAs node left n s in
    let In : Story → Type 0 = λ t. LeadsAs node left (instruction_at u h).state.ends t in
    Works node left (omega (arith, same, unspent)) (subst In (sym is) (subst After (sym same) leads)) (omega (arith, same, few))
    (omega (arith, same, sends, ap closing is))

-- at the beginning of an instruction
stands_begun : (setup : Setup) (u : Machine) (h : ℕ) (a : State) → instruction_at u h ≡ instruction_from a → a.ends ≤ setup.budget → count_of h u.events ≤ 10 * a.ends
    → sent_of h u.events ≤ a.ends → Stands setup u h
stands_begun setup u h a begins within few sends = elim (cases_eq a.ends setup.budget) [
  | inl spent ↦
      let same = ap (λ (i : Instruction). i.state.ends) begins in
      Retires (ap (place_in setup) begins ∙ story_spent setup a spent) (omega (arith, same, within)) (omega (arith, few, spent)) (omega (arith, sends, within))
  | inr unspent ↦ works_in setup u h 10 a.ends Busy (pulses setup a) (ap (λ (i : Instruction). i.state.ends) begins) (ap (place_in setup) begins ∙ story_unspent setup a unspent)
      (omega (arith, within, unspent)) (pulses_leads setup a) (omega (arith, few)) (omega (arith, sends))
]

-- an instruction begins with an event of its hart
pub begun_busy : (setup : Setup) (a : State) → node_of (story setup a) ≡ Busy
begun_busy setup a = elim (cases_eq a.ends setup.budget) [
  | inl spent ↦ ap node_of (story_spent setup a spent)
  | inr unspent ↦ ap node_of (story_unspent setup a unspent) ∙ leads_node Busy 10 a.ends (pulses setup a) (pulses_leads setup a)
]

-- The devices know of each hart what its story says.

-- the devices of a machine
abbrev pub devices_in : Setup → Machine → DeviceState
devices_in setup u = devices setup.harts u.devices

abbrev pub FitsAt : Setup → Machine → ℕ → Type 0
FitsAt setup u h = Fits (standing_in (devices_in setup u) h) (devices_in setup u).stop (node_of (story_of setup u h))

fits_as : (standing : HartStanding) (stop : Option Stop) (old new : Node) → new ≡ old → Fits standing stop old → Fits standing stop new
fits_as standing stop old new same fits = let At : Node → Type 0 = λ n. Fits standing stop n in subst At (sym same) fits

fits_in : (setup : Setup) (u : Machine) (h : ℕ) (s : DeviceState) (node : Node) → devices_in setup u ≡ s → node_of (story_of setup u h) ≡ node
    → Fits (standing_in s h) s.stop node → FitsAt setup u h
fits_in setup u h s node same at fits =
    let In : DeviceState → Type 0 = λ t. Fits (standing_in t h) t.stop (node_of (story_of setup u h)) in
    subst In (sym same) (fits_as (standing_in s h) s.stop node (node_of (story_of setup u h)) at fits)

pub devices_push : (harts : ℕ) (made : List Done) (h : ℕ) (access : Access) (reply : Reply) → devices harts (with_access made h access reply) ≡ device_step (devices harts made) h access
devices_push harts made h access reply = fold_push (λ s (d : Done). device_step s d.hart d.access) (devices_start harts) made _

-- one of the harts makes an access
made_below : (harts : ℕ) (made : List Done) (h : ℕ) (access : Access) (reply : Reply) → h < harts → AreBelow harts made → AreBelow harts (with_access made h access reply)
made_below harts [] h access reply below are = (below, tt)
made_below harts (d ∷ made) h access reply below are = (are.0, made_below harts made h access reply below are.1)

runs_by : (standing : HartStanding) (stop : Option Stop) → Fits standing stop Busy → standing ≡ stand.Runs
runs_by stand.Runs stop fits = refl
runs_by (stand.Waits mie) stop fits = absurd fits
runs_by stand.Woken stop fits = absurd fits
runs_by stand.Spent stop fits = absurd fits

woken_by : (standing : HartStanding) → is_woken standing ≡ true → standing ≡ stand.Woken
woken_by stand.Runs e = absurd cc
woken_by (stand.Waits mie) e = absurd cc
woken_by stand.Woken e = refl
woken_by stand.Spent e = absurd cc

-- a pulse is told 0 where the hart runs or is woken
pulse_reply : (setup : Setup) (u : Machine) (h : ℕ) (tick : Bool) → h < setup.harts
    → (standing_in (devices_in setup u) h ≡ stand.Runs) ⊎ (standing_in (devices_in setup u) h ≡ stand.Woken)
    → (reply_to setup u h (acc.Pulse tick)).value ≡ 0
pulse_reply setup u h tick below awake =
    pulse_told (devices_in setup u) (input_left setup.input u.devices) h tick (omega (arith, below, harts-devices setup.harts u.devices)) awake

is_told : (setup : Setup) (u : Machine) (h : ℕ) (access : Access) → h < setup.harts → standing_in (devices_in setup u) h ≡ stand.Runs → IsTold access (reply_to setup u h access)
is_told setup u h (acc.Pulse tick) below runs = pulse_reply setup u h tick below (inl runs)
is_told setup u h other below runs = tt

-- the pulse of a parked hart that is woken is told 0
pub woken_told : (setup : Setup) (u : Machine) (h : ℕ) → h < setup.harts → is_woken_in setup u h ≡ true → (reply_to setup u h (acc.Pulse false)).value ≡ 0
woken_told setup u h below woken = pulse_reply setup u h false below (inr (woken_by (standing_in (devices_in setup u) h) woken))

-- what an access leaves of the devices
devices_made : (setup : Setup) (u : Machine) (h : ℕ) (access : Access) (reply : Reply) (b : Bool) → is_ram_access access ≡ b
    → devices setup.harts (if b then u.devices else with_access u.devices h access reply)
    ≡ (if b then devices_in setup u else device_step (devices_in setup u) h access)
devices_made setup u h access reply true e = refl
devices_made setup u h access reply false e = devices_push setup.harts u.devices h access reply

ram_busy : (access : Access) (reply : Reply) → is_ram_access access ≡ true → next_node access reply ≡ Busy
ram_busy (acc.Pulse tick) reply e = absurd cc
ram_busy (acc.Wait mie) reply e = absurd cc
ram_busy acc.Retire reply e = absurd cc
ram_busy other reply e = refl

-- an access of a hart that may make it
access_fits : (setup : Setup) (u v : Machine) (h : ℕ) (access : Access) (node : Node) (ram : Bool) → h < setup.harts → is_ram_access access ≡ ram
    → (ram ≡ true → node ≡ Busy) → devices_in setup v ≡ (if ram then devices_in setup u else device_step (devices_in setup u) h access)
    → node_of (story_of setup v h) ≡ next_node access (if ram then flat setup.image u.ram h access else reply_after setup.harts setup.input u.devices h access)
    → MayMake node (standing_in (devices_in setup u) h) access → Fits (standing_in (devices_in setup u) h) (devices_in setup u).stop node → FitsAt setup v h
access_fits setup u v h access node true below e busy same at may fits =
    fits_in setup v h (devices_in setup u) node same (at ∙ ram_busy access _ e ∙ sym (busy refl)) fits
access_fits setup u v h access node false below e busy same at may fits =
    let s = devices_in setup u in
    fits_in setup v h (device_step s h access) (next_node access (reply_in s (input_left setup.input u.devices) h access)) same at
    (fits_own s (input_left setup.input u.devices) h access node (omega (arith, below, harts-devices setup.harts u.devices)) fits may)

-- The hart's own step.

-- while it runs
says_fits : (setup : Setup) (u : Machine) (h : ℕ) (access : Access) (next : Reply → Story) → h < setup.harts → h < length u.harts → story_of setup u h ≡ Says access next
    → node_of (next (reply_to setup u h access)) ≡ next_node access (reply_to setup u h access) → FitsAt setup u h → FitsAt setup (step setup u h) h
says_fits setup u h access next below within says leads fits =
    let reply = reply_to setup u h access in
    let s = devices_in setup u in
    access_fits setup u (step setup u h) h access Busy (is_ram_access access) below refl (λ e. refl)
    (ap (devices_in setup) (step_is setup u h (Asks access) below (next_asks setup u h access (ap want says))) ∙ devices_made setup u h access reply (is_ram_access access) refl)
    (ap node_of (story_after_access setup u h access next below within says) ∙ leads)
    tt (fits_as (standing_in s h) s.stop (node_of (story_of setup u h)) Busy (sym (ap node_of says)) fits)

closes_fits : (setup : Setup) (u : Machine) (h : ℕ) (part : EndPart) (after : State) → h < setup.harts → h < length u.harts → story_of setup u h ≡ Closes part after
    → FitsAt setup u h → FitsAt setup (step setup u h) h
closes_fits setup u h part after below within closes fits =
    let s = devices_in setup u in
    let ends = ap want closes in
    fits_in setup (step setup u h) h s Busy
    (ap (devices_in setup) (step_is setup u h (Ends part after) below (next_ends setup u h part after ends)))
    (ap (λ i. node_of (place_in setup i)) (instruction_after_end setup u h part after below within ends) ∙ begun_busy setup after)
    (fits_as (standing_in s h) s.stop (node_of (story_of setup u h)) Busy (sym (ap node_of closes)) fits)

park_node_by : (stop one : Bool) (wakes : ℕ → Story) (s : Story) → node_of s ≡ Busy
    → node_of (if stop then StaysOver else (if one then Parks wakes else s)) ≡ (if stop then Gone else (if one then Parked else Busy))
park_node_by true one wakes s e = refl
park_node_by false true wakes s e = refl
park_node_by false false wakes s e = e

parks_fits : (setup : Setup) (u : Machine) (h : ℕ) (wakes : ℕ → Story) → h < setup.harts → h < length u.harts → story_of setup u h ≡ Parks wakes
    → ((lines : ℕ) → node_of (wakes lines) ≡ Busy) → is_woken_in setup u h ≡ true → FitsAt setup u h → FitsAt setup (step setup u h) h
parks_fits setup u h wakes below within parks leads woken fits =
    let reply = reply_to setup u h (acc.Pulse false) in
    let s = devices_in setup u in
    access_fits setup u (step setup u h) h (acc.Pulse false) Parked false below refl (λ e. absurd cc)
    (ap (devices_in setup) (step_is setup u h (Asks (acc.Pulse false)) below (next_woken setup u h (ap want parks) woken)) ∙ devices_push setup.harts u.devices h (acc.Pulse false) reply)
    (ap node_of (story_after_park setup u h wakes below within parks woken) ∙ park_node_by reply.stop (reply.value == 1) wakes (wakes reply.lines) (leads reply.lines))
    (woken_by (standing_in s h) woken, refl) (fits_as (standing_in s h) s.stop (node_of (story_of setup u h)) Parked (sym (ap node_of parks)) fits)

still_fits : (setup : Setup) (u : Machine) (h : ℕ) → step setup u h ≡ u → FitsAt setup u h → FitsAt setup (step setup u h) h
still_fits setup u h still fits = let At : Machine → Type 0 = λ m. FitsAt setup m h in subst At (sym still) fits

-- where the story leads to an end as from a node
leads_fit : (setup : Setup) (u : Machine) (h left ends : ℕ) (node : Node) (s : Story) → h < setup.harts → h < length u.harts → story_of setup u h ≡ s → LeadsAs node left ends s
    → FitsAt setup u h → FitsAt setup (step setup u h) h
leads_fit setup u h (suc left) ends Busy (Says access next) below within says leads fits =
    let reply = reply_to setup u h access in
    let s = devices_in setup u in
    let runs = runs_by (standing_in s h) s.stop (fits_as (standing_in s h) s.stop (node_of (story_of setup u h)) Busy (sym (ap node_of says)) fits) in
    let goes = leads reply (is_told setup u h access below runs) in
    says_fits setup u h access next below within says (leads_node (next_node access reply) left ends (next reply) goes.1) fits
leads_fit setup u h (suc left) ends Busy (Closes part after) below within closes leads fits = closes_fits setup u h part after below within closes fits
leads_fit setup u h (suc left) ends Parked (Parks wakes) below within parks leads fits = elim (cases_Bool (is_woken_in setup u h)) [
  | inl woken ↦ parks_fits setup u h wakes below within parks (λ lines. leads_node Busy left ends (wakes lines) (leads lines)) woken fits
  | inr unwoken ↦ still_fits setup u h (step_unwoken setup u h below (ap want parks) unwoken) fits
]
leads_fit setup u h left ends Gone StaysOver below within over leads fits = still_fits setup u h (step_over setup u h below (ap want over)) fits
leads_fit setup u h left ends node s below within is leads fits = absurd leads

fits_on : (setup : Setup) (u : Machine) (h : ℕ) → h < setup.harts → h < length u.harts → Stands setup u h → FitsAt setup u h → FitsAt setup (step setup u h) h
fits_on setup u h below within (Works node left unspent leads few sends) fits =
    leads_fit setup u h left (instruction_at u h).state.ends node (story_of setup u h) below within refl leads fits
fits_on setup u h below within (Retires e spent few sends) fits = says_fits setup u h acc.Retire (λ reply. StaysOver) below within e refl fits
fits_on setup u h below within (Retired e few sends) fits = still_fits setup u h (step_over setup u h below (ap want e)) fits

-- how many bytes an access transmits, by what follows it
sends_one : (b : Bool) (byte : ℕ) → length (if b then byte ∷ [] else []) ≤ 1
sends_one true byte = omega arith
sends_one false byte = omega arith

sends_on : (access : Access) (s : Story) → EndsAfter access s → length (bytes_of access) ≤ closing s
sends_on (acc.DevWrite address width value) (Closes part after) e = sends_one (is_transmit (acc.DevWrite address width value)) (byte_of (acc.DevWrite address width value))
sends_on (acc.DevWrite address width value) (Says access next) e = absurd e
sends_on (acc.DevWrite address width value) StaysOver e = absurd e
sends_on (acc.DevWrite address width value) (Parks wakes) e = absurd e
sends_on other s e = omega arith

-- where the pulse that wakes a hart leads
park_by : (n ends : ℕ) (stop one : Bool) (wakes : ℕ → Story) (s : Story) → one ≡ false → Leads n ends s
    → LeadsAs (if stop then Gone else (if one then Parked else Busy)) n ends (if stop then StaysOver else (if one then Parks wakes else s))
park_by n ends true one wakes s told leads = tt
park_by n ends false true wakes s told leads = absurd cc
park_by n ends false false wakes s told leads = leads

closing_none : (s : Story) → 0 ≤ closing s
closing_none s = omega arith

still_stands : (setup : Setup) (u : Machine) (h : ℕ) → step setup u h ≡ u → Stands setup u h → Stands setup (step setup u h) h
still_stands setup u h still stands = let At : Machine → Type 0 = λ m. Stands setup m h in subst At (sym still) stands

-- while the hart works
works_on : (setup : Setup) (u : Machine) (h left : ℕ) (node : Node) (s : Story) → h < setup.harts → h < length u.harts → FitsAt setup u h → story_of setup u h ≡ s
    → (instruction_at u h).state.ends < setup.budget → LeadsAs node left (instruction_at u h).state.ends s → count_of h u.events + left ≤ 10 * (instruction_at u h).state.ends + 10
    → sent_of h u.events ≤ (instruction_at u h).state.ends + closing s → Stands setup (step setup u h) h
works_on setup u h (suc left) Busy (Says access next) below within fits says unspent leads few sends =
    let asks = next_asks setup u h access (ap want says) in
    let reply = reply_to setup u h access in
    let made = ap (λ (m : Machine). m.events) (step_is setup u h (Asks access) below asks) in
    let one = ap (count_of h) made ∙ count_own u.events h (what.Acc access reply) in
    let bytes = ap (sent_of h) made ∙ sent_own_access u.events h access reply in
    let s = devices_in setup u in
    let runs = runs_by (standing_in s h) s.stop (fits_as (standing_in s h) s.stop (node_of (story_of setup u h)) Busy (sym (ap node_of says)) fits) in
    let goes = leads reply (is_told setup u h access below runs) in
    works_in setup (step setup u h) h left (instruction_at u h).state.ends (next_node access reply) (next reply)
    (ap (λ (i : Instruction). i.state.ends) (instruction_after_access setup u h access below within asks))
    (story_after_access setup u h access next below within says)
    unspent goes.1 (omega (arith, one, few)) (omega (arith, bytes, sends, sends_on access (next reply) goes.0))
works_on setup u h (suc left) Busy (Closes part after) below within fits closes unspent leads few sends =
    let ends = ap want closes in
    let made = ap (λ (m : Machine). m.events) (step_is setup u h (Ends part after) below (next_ends setup u h part after ends)) in
    let one = ap (count_of h) made ∙ count_own u.events h (what.End part) in
    let bytes = ap (sent_of h) made ∙ sent_own_end u.events h part in
    stands_begun setup (step setup u h) h after (instruction_after_end setup u h part after below within ends) (omega (arith, leads, unspent))
    (omega (arith, one, few, leads)) (omega (arith, bytes, sends, leads))
works_on setup u h (suc left) Parked (Parks wakes) below within fits parks unspent leads few sends = elim (cases_Bool (is_woken_in setup u h)) [
  | inl woken ↦
      let asks = next_woken setup u h (ap want parks) woken in
      let reply = reply_to setup u h (acc.Pulse false) in
      let made = ap (λ (m : Machine). m.events) (step_is setup u h (Asks (acc.Pulse false)) below asks) in
      let one = ap (count_of h) made ∙ count_own u.events h (what.Acc (acc.Pulse false) reply) in
      let bytes = ap (sent_of h) made ∙ sent_own_access u.events h (acc.Pulse false) reply in
      let next = after_park wakes reply in
      works_in setup (step setup u h) h left (instruction_at u h).state.ends (told_node reply) next
      (ap (λ (i : Instruction). i.state.ends) (instruction_after_access setup u h (acc.Pulse false) below within asks))
      (story_after_park setup u h wakes below within parks woken)
      unspent
      (park_by left (instruction_at u h).state.ends reply.stop (reply.value == 1) wakes (wakes reply.lines) (ap (λ v. v == 1) (woken_told setup u h below woken)) (leads reply.lines))
      (omega (arith, one, few)) (omega (arith, bytes, sends, closing_none next))
  | inr unwoken ↦
      still_stands setup u h (step_unwoken setup u h below (ap want parks) unwoken)
      (works_in setup u h (suc left) (instruction_at u h).state.ends Parked (Parks wakes) refl parks unspent leads few sends)
]
works_on setup u h left Gone StaysOver below within fits over unspent leads few sends =
    still_stands setup u h (step_over setup u h below (ap want over))
    (works_in setup u h left (instruction_at u h).state.ends Gone StaysOver refl over unspent leads few sends)
works_on setup u h left node s below within fits is unspent leads few sends = absurd leads

-- however it stands
steps_on : (setup : Setup) (u : Machine) (h : ℕ) → h < setup.harts → h < length u.harts → FitsAt setup u h → Stands setup u h → Stands setup (step setup u h) h
steps_on setup u h below within fits (Works node left unspent leads few sends) = works_on setup u h left node (story_of setup u h) below within fits refl unspent leads few sends
steps_on setup u h below within fits (Retires e spent few sends) =
    let asks = next_asks setup u h acc.Retire (ap want e) in
    let reply = reply_to setup u h acc.Retire in
    let made = ap (λ (m : Machine). m.events) (step_is setup u h (Asks acc.Retire) below asks) in
    let one = ap (count_of h) made ∙ count_own u.events h (what.Acc acc.Retire reply) in
    let bytes = ap (sent_of h) made ∙ sent_own_access u.events h acc.Retire reply in
    Retired (story_after_access setup u h acc.Retire (λ r. StaysOver) below within e) (omega (arith, one, few)) (omega (arith, bytes, sends))
steps_on setup u h below within fits (Retired e few sends) = still_stands setup u h (step_over setup u h below (ap want e)) (Retired e few sends)

-- The step of another hart.

-- the hart stays where it was in its story
stands_still : (setup : Setup) (u : Machine) (h k : ℕ) → h ≢ k → Stands setup u h → Stands setup (step setup u k) h
stands_still setup u h k other stands =
    let kept = instruction_at-other setup u k h other in
    let same = step_events_other setup u h k other in
    let count = ap length same in
    let bytes = ap (λ es. length (sent es)) same in
    elim stands [
      | Works node left unspent leads few sends ↦
          works_in setup (step setup u k) h left (instruction_at u h).state.ends node (story_of setup u h) (ap (λ (x : Instruction). x.state.ends) kept) (ap (place_in setup) kept)
          unspent leads (omega (arith, count, few)) (omega (arith, bytes, sends))
      | Retires e within few sends ↦
          let ends = ap (λ (x : Instruction). x.state.ends) kept in
          Retires (ap (place_in setup) kept ∙ e) (omega (arith, ends, within)) (omega (arith, count, few)) (omega (arith, bytes, sends))
      | Retired e few sends ↦ Retired (ap (place_in setup) kept ∙ e) (omega (arith, count, few)) (omega (arith, bytes, sends))
    ]

-- and what the devices know of it goes on fitting
fits_make : (setup : Setup) (u : Machine) (h k : ℕ) (w : Want) → h ≢ k → h < setup.harts → FitsAt setup u h
    → Fits (standing_in (devices_in setup (make setup u k w)) h) (devices_in setup (make setup u k w)).stop (node_of (story_of setup u h))
fits_make setup u h k (Asks access) other below fits =
    let s = devices_in setup u in
    let node = node_of (story_of setup u h) in
    let reply = reply_to setup u k access in
    let At : DeviceState → Type 0 = λ t. Fits (standing_in t h) t.stop node in
    subst At (sym (devices_made setup u k access reply (is_ram_access access) refl))
    (elim (is_ram_access access) as (λ b. At (if b then s else device_step s k access))
    [ true ↦ fits | false ↦ fits_other s k h access node other (omega (arith, below, harts-devices setup.harts u.devices)) fits ])
fits_make setup u h k (Ends part after) other below fits = fits
fits_make setup u h k IsOver other below fits = fits
fits_make setup u h k IsParked other below fits = fits

fits_still : (setup : Setup) (u : Machine) (h k : ℕ) → h ≢ k → h < setup.harts → FitsAt setup u h → FitsAt setup (step setup u k) h
fits_still setup u h k other below fits =
    let s = devices_in setup (step setup u k) in
    let kept = ap (λ i. node_of (place_in setup i)) (instruction_at-other setup u k h other) in
    fits_as (standing_in s h) s.stop (node_of (story_of setup u h)) (node_of (story_of setup (step setup u k) h)) kept
    (elim (nat_lt k setup.harts) as (λ b. Fits (standing_in (devices_in setup (if b then make setup u k (next_of setup u k) else u)) h)
    (devices_in setup (if b then make setup u k (next_of setup u k) else u)).stop (node_of (story_of setup u h)))
    [ true ↦ fits_make setup u h k (next_of setup u k) other below fits | false ↦ fits ])

-- All harts, along an order.

pub record AllStand (setup : Setup) (u : Machine) : Type 0 where
  pub harts : length u.harts ≡ setup.harts
  -- each access of the devices is of one of the harts
  pub below : AreBelow setup.harts u.devices
  pub each : (h : ℕ) → h < setup.harts → Stands setup u h
  pub fits : (h : ℕ) → h < setup.harts → FitsAt setup u h

below_make : (setup : Setup) (u : Machine) (k : ℕ) (w : Want) → k < setup.harts → AreBelow setup.harts u.devices → AreBelow setup.harts (make setup u k w).devices
below_make setup u k (Asks access) within below = elim (is_ram_access access) as (λ b. AreBelow setup.harts (if b then u.devices else with_access u.devices k access (reply_to setup u k access)))
    [ true ↦ below | false ↦ made_below setup.harts u.devices k access (reply_to setup u k access) within below ]
below_make setup u k (Ends part after) within below = below
below_make setup u k IsOver within below = below
below_make setup u k IsParked within below = below

below_by : (setup : Setup) (u : Machine) (k : ℕ) (b : Bool) → nat_lt k setup.harts ≡ b → AreBelow setup.harts u.devices
    → AreBelow setup.harts (if b then make setup u k (next_of setup u k) else u).devices
below_by setup u k true e below = below_make setup u k (next_of setup u k) (grind (arith, nat_tests, e)) below
below_by setup u k false e below = below

pub all_step : (setup : Setup) (u : Machine) (k : ℕ) → AllStand setup u → AllStand setup (step setup u k)
all_step setup u k all = record {
  harts = length-step setup u k ∙ all.harts;
  below = below_by setup u k (nat_lt k setup.harts) refl all.below;
  each = λ h below. elim (cases_eq h k) [
    | inl same ↦
        let At : ℕ → Type 0 = λ j. Stands setup (step setup u j) h in
        subst At same (steps_on setup u h below (omega (arith, below, all.harts)) (all.fits h below) (all.each h below))
    | inr other ↦ stands_still setup u h k other (all.each h below)
  ];
  fits = λ h below. elim (cases_eq h k) [
    | inl same ↦
        let At : ℕ → Type 0 = λ j. FitsAt setup (step setup u j) h in
        subst At same (fits_on setup u h below (omega (arith, below, all.harts)) (all.each h below) (all.fits h below))
    | inr other ↦ fits_still setup u h k other below (all.fits h below)
  ];
}

runs_start : (harts h : ℕ) → h < harts → standing_in (devices_start harts) h ≡ stand.Runs
runs_start harts h below = ap (λ (own : HartDevice). own.standing) (get_or-replicate harts h hart_start hart_start below)

begin_fits : (setup : Setup) (h : ℕ) → h < setup.harts → FitsAt setup (begin setup) h
begin_fits setup h below =
    let At : HartStanding → Type 0 = λ x. Fits x (devices_start setup.harts).stop Busy in
    fits_in setup (begin setup) h (devices_start setup.harts) Busy refl
    (ap (λ i. node_of (place_in setup i)) (instruction_at-begin setup h below) ∙ begun_busy setup (start h setup.image.entry))
    (subst At (sym (runs_start setup.harts h below)) tt)

sent_nothing : (h : ℕ) → sent_of h [] ≡ 0
sent_nothing h = ap length sent-none

pub all_begin : (setup : Setup) → AllStand setup (begin setup)
all_begin setup = record {
  harts = length-map-range_with_len (λ k. instruction_from (start k setup.image.entry)) 0 setup.harts;
  below = tt;
  each = λ h below. stands_begun setup (begin setup) h (start h setup.image.entry) (instruction_at-begin setup h below) (omega arith) (omega arith) (omega (arith, sent_nothing h));
  fits = λ h below. begin_fits setup h below;
}

pub all_from : (setup : Setup) (u : Machine) (order : List ℕ) → AllStand setup u → AllStand setup (reach_from setup u order)
all_from setup u [] all =
    let At : Machine → Type 0 = λ m. AllStand setup m in
    subst At (sym (reach-none setup u)) all
all_from setup u (h ∷ order) all =
    let At : Machine → Type 0 = λ m. AllStand setup m in
    subst At (sym (reach-cons setup u h order)) (all_from setup (step setup u h) order (all_step setup u h all))

-- in every state that an order leads to
pub all_stand : (setup : Setup) (order : List ℕ) → AllStand setup (reach setup order)
all_stand setup order = all_from setup (begin setup) order (all_begin setup)
