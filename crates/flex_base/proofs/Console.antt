-- The console of a run: the machine's events and the devices' accesses transmit the same bytes, and few of them.
use Rattle.std.proofs.Common.{◌≡◌, ℕ, ◌+◌, ◌*◌, ◌<◌, ◌≤◌, Bool, true, false, if◌then◌else◌, nat_lt, List, [], ◌∷◌, ◌++◌, ◌==◌, length, append-nil, length-append, refl, ap, sym, ◌∙◌, arith, eq-eqb}
use Rattle.flex_base.specs.Setup.{Setup}
use Rattle.flex_base.specs.FlatMemory.{Done, is_ram_access}
use Rattle.flex_base.specs.StoryTree.{Want, Asks, Ends, IsOver, IsParked, Story, Says, Closes, StaysOver, Parks, want}
use Rattle.flex_base.specs.Devices.{is_transmit, byte_of, sent_bytes}
use Rattle.flex_base.specs.Unsplit.{Machine, Made, story_of, want_of, next_of, reply_to, begin, with_access, make, step, reach, reach_from, unsplit}
use Rattle.flex_base.specs.EndOfRun.{events_of}
use Rattle.flex_base.specs.Journal.{sent}
use Rattle.flex_base.specs.declared.access.Access.{Access}
use Rattle.flex_base.specs.declared.access.Access.TheVariants as acc
use Rattle.flex_base.specs.declared.access.Reply.{Reply}
use Rattle.flex_base.proofs.Machines.{reach-cons, reach-none, reach_push, next_asks, step_is}
use Rattle.flex_base.proofs.Orders.{Plain, More, added}
use Rattle.flex_base.proofs.Totals.{total, total_more, total_most}
use Rattle.flex_base.proofs.Sending.{sent-none, sent-append, bytes_of, sent_access, sent_end, sent_of, sent_bytes_access, no_bytes}
use Rattle.flex_base.proofs.Standing.{Stands, Works, Retires, Retired, closing, all_stand}
use Rattle.flex_base.proofs.EndOfRun.{stands_sends}

-- The same bytes.

-- what has been transmitted by the events is what has been by the accesses of the devices
abbrev AreSent : Machine → Type 0
AreSent u = sent u.events ≡ sent_bytes u.devices

sent_made : (made : List Done) (h : ℕ) (access : Access) (reply : Reply) (ram : Bool) → is_ram_access access ≡ ram
    → sent_bytes (if ram then made else with_access made h access reply) ≡ sent_bytes made ++ bytes_of access
sent_made made h access reply true e = sym (ap (λ bytes. sent_bytes made ++ bytes) (no_bytes access e) ∙ append-nil (sent_bytes made))
sent_made made h access reply false e = sent_bytes_access made h access reply

make_sent : (setup : Setup) (u : Machine) (h : ℕ) (w : Want) → AreSent u → AreSent (make setup u h w)
make_sent setup u h (Asks access) are =
    let reply = reply_to setup u h access in
    sent_access u.events h access reply
    ∙ ap (λ bytes. bytes ++ bytes_of access) are
    ∙ sym (sent_made u.devices h access reply (is_ram_access access) refl)
make_sent setup u h (Ends part after) are = sent_end u.events h part ∙ are
make_sent setup u h IsOver are = are
make_sent setup u h IsParked are = are

step_sent : (setup : Setup) (u : Machine) (h : ℕ) → AreSent u → AreSent (step setup u h)
step_sent setup u h are = elim (nat_lt h setup.harts) as (λ b. AreSent (if b then make setup u h (next_of setup u h) else u))
    [ true ↦ make_sent setup u h (next_of setup u h) are | false ↦ are ]

from_sent : (setup : Setup) (u : Machine) (order : List ℕ) → AreSent u → AreSent (reach_from setup u order)
from_sent setup u [] are =
    ap (λ (m : Machine). sent m.events) (reach-none setup u) ∙ are ∙ ap (λ (m : Machine). sent_bytes m.devices) (sym (reach-none setup u))
from_sent setup u (h ∷ order) are =
    ap (λ (m : Machine). sent m.events) (reach-cons setup u h order)
    ∙ from_sent setup (step setup u h) order (step_sent setup u h are)
    ∙ ap (λ (m : Machine). sent_bytes m.devices) (sym (reach-cons setup u h order))

pub sent_devices : (setup : Setup) (order : List ℕ) → sent (unsplit setup order) ≡ sent_bytes (reach setup order).devices
sent_devices setup order = from_sent setup (begin setup) order sent-none

-- Few bytes.

-- no hart has transmitted more bytes than it may make ends
pub sent_few : (setup : Setup) (order : List ℕ) (h : ℕ) → h < setup.harts → sent_of h (unsplit setup order) ≤ setup.budget
sent_few setup order h below = stands_sends setup (reach setup order) h ((all_stand setup order).each h below)

-- what an event adds to the bytes of a hart
sent_of-cons : (k : ℕ) (m : Made) (made : List Made) (own : Bool) → (m.hart == k) ≡ own
    → sent_of k (m ∷ made) ≡ (if own then length (sent (m ∷ [])) + sent_of k made else sent_of k made)
sent_of-cons k m made true e =
    ap (λ b. length (sent (if b then m ∷ events_of k made else events_of k made))) e
    ∙ ap length (sent-append (m ∷ []) (events_of k made)) ∙ length-append (sent (m ∷ [])) (sent (events_of k made))
sent_of-cons k m made false e = ap (λ b. length (sent (if b then m ∷ events_of k made else events_of k made))) e

grows_by : (own : Bool) (more less all : ℕ) → all ≡ (if own then more + less else less) → less ≤ all
grows_by true more less all e = omega (arith, e)
grows_by false more less all e = omega (arith, e)

-- the harts' bytes are all that are transmitted
sent_total : (harts : ℕ) (made : List Made) → Plain harts made → length (sent made) ≤ total (λ h. sent_of h made) harts
sent_total harts [] plain = omega (arith, ap length sent-none)
sent_total harts (m ∷ made) (More same rest plain below plains) =
    let one = length (sent (m ∷ [])) in
    let all = ap length (sent-append (m ∷ []) made) ∙ length-append (sent (m ∷ [])) (sent made) in
    let own = sent_of-cons m.hart m made true (eq-eqb m.hart m.hart refl) in
    omega (
      arith,
      all,
      sent_total harts made plains,
      total_more (λ h. sent_of h made) (λ h. sent_of h (m ∷ made)) harts m.hart one below
          (λ k within. grows_by (m.hart == k) one (sent_of k made) (sent_of k (m ∷ made)) (sent_of-cons k m made (m.hart == k) refl)) (omega (arith, own)),
    )

-- all harts together transmit at most as many bytes as they may make ends
pub sent_fewer : (setup : Setup) (order : List ℕ) → length (sent (unsplit setup order)) ≤ setup.harts * setup.budget
sent_fewer setup order =
    let all = added setup (begin setup) order in
    let same : unsplit setup order ≡ all.new = all.events in
    let few : total (λ h. sent_of h (unsplit setup order)) setup.harts ≤ setup.harts * setup.budget =
    total_most (λ h. sent_of h (unsplit setup order)) setup.harts setup.budget (sent_few setup order) in
    omega (arith, few, sent_total setup.harts all.new all.plain, ap (λ made. length (sent made)) same, ap (λ made. total (λ h. sent_of h made) setup.harts) same)

-- so there is room for the byte that a hart wants to transmit

one_byte : (access : Access) → is_transmit access ≡ true → length (bytes_of access) ≡ 1
one_byte access e = ap (λ b. length (if b then byte_of access ∷ [] else [])) e

pub sent_room : (setup : Setup) (order : List ℕ) (h : ℕ) (access : Access) → h < setup.harts → want_of setup (reach setup order) h ≡ Asks access → is_transmit access ≡ true
    → length (sent_bytes (reach setup order).devices) < setup.harts * setup.budget
sent_room setup order h access below asks transmits =
    let u = reach setup order in
    let reply = reply_to setup u h access in
    let next = ap (λ (m : Machine). m.events) (reach_push setup (begin setup) order h ∙ step_is setup u h (Asks access) below (next_asks setup u h access asks)) in
    let bytes = ap (λ made. length (sent made)) next ∙ ap length (sent_access u.events h access reply) ∙ length-append (sent u.events) (bytes_of access) in
    omega (arith, sent_fewer setup (order ++ h ∷ []), bytes, one_byte access transmits, ap length (sent_devices setup order))

asks_closing : (s : Story) (access : Access) → want s ≡ Asks access → closing s ≡ 0
asks_closing (Says other next) access e = refl
asks_closing (Closes part after) access e = absurd cc
asks_closing StaysOver access e = refl
asks_closing (Parks wakes) access e = refl

busy_room : (setup : Setup) (u : Machine) (h : ℕ) (access : Access) → want_of setup u h ≡ Asks access → is_transmit access ≡ true → Stands setup u h → sent_of h u.events < setup.budget
busy_room setup u h access asks transmits (Works node left unspent leads few sends) = omega (arith, unspent, sends, asks_closing (story_of setup u h) access asks)
busy_room setup u h access asks transmits (Retires e within few sends) =
    let same : acc.Retire ≡ access = let both = sym (ap want e) ∙ asks in cc in
    let silent = ap is_transmit same in
    absurd cc
busy_room setup u h access asks transmits (Retired e few sends) = let both = sym (ap want e) ∙ asks in absurd cc

-- and the hart itself has transmitted fewer than it may make ends
pub own_room : (setup : Setup) (order : List ℕ) (h : ℕ) (access : Access) → h < setup.harts → want_of setup (reach setup order) h ≡ Asks access → is_transmit access ≡ true
    → sent_of h (unsplit setup order) < setup.budget
own_room setup order h access below asks transmits = busy_room setup (reach setup order) h access asks transmits ((all_stand setup order).each h below)
