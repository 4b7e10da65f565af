-- A run goes on until it has ended, and the rounds end it.
use Rattle.std.proofs.Common.{◌≡◌, ◌≢◌, ℕ, ◌+◌, ◌-◌, ◌<◌, ◌≤◌, zero, suc, Bool, true, false, if◌then◌else◌, nat_lt, List, [], ◌∷◌, ◌++◌, ◌==◌, length, append-nil, append_assoc, length-append, Option, ◌⊎◌, inl, inr, refl, ap, sym, subst, ◌∙◌, arith}
use Rattle.std.specs.Prelude.{is_some, slice_index_or}
use Rattle.std.specs.List.{list_all, range_with_len}
use Rattle.std.proofs.lemmas.Bool.{cases_eq, cases_Bool, and_cases}
use Rattle.std.proofs.lemmas.Bool.Decides.{nat_tests}
use Rattle.std.proofs.lemmas.List.Elements.{filter-append}
use Rattle.flex_base.specs.Setup.{Setup}
use Rattle.flex_base.specs.StoryTree.{Want, Asks, Ends, IsOver, IsParked, Story, Says, Closes, StaysOver, Parks, want}
use Rattle.flex_base.specs.FlatMemory.{is_ram_access}
use Rattle.flex_base.specs.Devices.{DeviceState, is_woken, is_at_rest, hart_start, device_stop}
use Rattle.flex_base.specs.Parked.{node_of, Fits}
use Rattle.flex_base.specs.Unsplit.{Machine, Made, story_of, want_of, next_of, resumes, is_woken_in, reply_to, begin, with_access, make, step, reach, reach_from, hart_numbers, is_idle, has_ended}
use Rattle.flex_base.specs.Rounds.{turn_of, turns, repeated, most_events, most_rounds, rounds, names_played}
use Rattle.flex_base.specs.EndOfRun.{HasNext, WaitsWoken, events_of, count_of, GoesOn}
use Rattle.flex_base.specs.declared.access.Access.{Access}
use Rattle.flex_base.specs.declared.access.Access.TheVariants as acc
use Rattle.flex_base.specs.declared.access.Reply.{Reply}
use Rattle.flex_base.specs.declared.event.Stop.{Stop}
use Rattle.flex_base.specs.declared.event.What.TheVariants as what
use Rattle.flex_base.specs.declared.hart_device.HartDevice.{HartDevice}
use Rattle.flex_base.specs.declared.hart_device.HartStanding.{HartStanding}
use Rattle.flex_base.specs.declared.hart_device.HartStanding.TheVariants as stand
use Rattle.flex_base.proofs.Machines.{reach-cons, reach-append, reach-none, step_is, step_over, step_unwoken, step_beyond, story_after_park, instruction_at-other, place_in}
use Rattle.flex_base.proofs.Orders.{added}
use Rattle.flex_base.proofs.Turns.{story_parks, ended_all, idle_ended, stop_ended, turn_of-begins, turn_of-idle, turns_ended, turns_busy, turns-append}
use Rattle.flex_base.proofs.OwnReservations.{all_asks_reserved}
use Rattle.flex_base.proofs.DeviceLaws.{devices_live, harts-devices}
use Rattle.flex_base.proofs.Fitting.{standing_in, still_stopped}
use Rattle.flex_base.proofs.Totals.{total, total_least, total_more, total_most}
use Rattle.flex_base.proofs.Sending.{count_own, sent_of}
use Rattle.flex_base.proofs.Standing.{closing, Stands, Works, Retires, Retired, devices_in, devices_push, AllStand, all_step, all_from, all_stand}

-- What each hart has made.

-- no hart has made more events than there can be
stands_few : (setup : Setup) (u : Machine) (h : ℕ) → Stands setup u h → count_of h u.events ≤ most_events setup
stands_few setup u h (Works node left unspent leads few sends) = omega (arith, unspent, few)
stands_few setup u h (Retires e within few sends) = omega (arith, few)
stands_few setup u h (Retired e few sends) = few

closing_most : (s : Story) → closing s ≤ 1
closing_most (Says access next) = omega arith
closing_most (Closes part after) = omega arith
closing_most StaysOver = omega arith
closing_most (Parks wakes) = omega arith

-- nor transmitted more bytes than it may make ends
pub stands_sends : (setup : Setup) (u : Machine) (h : ℕ) → Stands setup u h → sent_of h u.events ≤ setup.budget
stands_sends setup u h (Works node left unspent leads few sends) = omega (arith, unspent, sends, closing_most (story_of setup u h))
stands_sends setup u h (Retires e within few sends) = sends
stands_sends setup u h (Retired e few sends) = sends

-- While the run hasn't ended, some hart has a next event.

-- a number of the range for which the test is false, where it isn't true of all
failing_number : (p : ℕ → Bool) (a n : ℕ) → list_all p (range_with_len a n) ≡ false → (h : ℕ) × (h < a + n) × (p h ≡ false)
failing_number p a zero e = absurd cc
failing_number p a (suc n) e = elim (and_cases (p a) (list_all p (range_with_len (a + 1) n)) e) [
  | inl here ↦ (a, omega arith, here)
  | inr later ↦ let found = failing_number p (a + 1) n later in (found.0, omega (arith, found.1), found.2)
]

-- a hart of the list that isn't at rest
goer : (xs : List HartDevice) → list_all (λ (own : HartDevice). is_at_rest own.standing) xs ≡ false
    → (h : ℕ) × (h < length xs) × (is_at_rest (slice_index_or xs h hart_start).standing ≡ false)
goer [] none = absurd cc
goer (x ∷ xs) none = elim (and_cases (is_at_rest x.standing) (list_all (λ (own : HartDevice). is_at_rest own.standing) xs) none) [
  | inl here ↦ (zero, omega arith, here)
  | inr later ↦ let found = goer xs later in (suc found.0, omega (arith, found.1), found.2)
]

-- it has an event, where no stop stands
goes_by : (standing : HartStanding) (stop : Option Stop) (s : Story) → is_some stop ≡ false → is_at_rest standing ≡ false → Fits standing stop (node_of s)
    → is_idle (resumes (want s) (is_woken standing)) ≡ false
goes_by stand.Runs stop (Says access next) none goes fits = refl
goes_by stand.Runs stop (Closes part after) none goes fits = refl
goes_by stand.Runs stop (Parks wakes) none goes fits = absurd fits
goes_by stand.Runs stop StaysOver none goes fits = let same = sym fits ∙ none in absurd cc
goes_by stand.Woken stop (Says access next) none goes fits = absurd fits
goes_by stand.Woken stop (Closes part after) none goes fits = absurd fits
goes_by stand.Woken stop (Parks wakes) none goes fits = refl
goes_by stand.Woken stop StaysOver none goes fits = let same = sym fits ∙ none in absurd cc
goes_by (stand.Waits mie) stop s none goes fits = absurd cc
goes_by stand.Spent stop s none goes fits = absurd cc

-- one that has an event by itself has one whether or not it is woken
busy_goes : (w : Want) (woken : Bool) → is_idle w ≡ false → is_idle (resumes w woken) ≡ false
busy_goes (Asks access) woken e = refl
busy_goes (Ends part after) woken e = refl
busy_goes IsOver woken e = absurd cc
busy_goes IsParked woken e = absurd cc

has_next : (setup : Setup) (u : Machine) → 0 < setup.harts → AllStand setup u → has_ended setup u ≡ false → HasNext setup u
has_next setup u some all going = elim (and_cases (is_some (device_stop setup.harts u.devices)) (list_all (λ h. is_idle (want_of setup u h)) (hart_numbers setup)) going) [
  | inl none ↦ elim (devices_live setup.harts u.devices some all.below) [
    | inl stands ↦ absurd cc
    | inr awake ↦
        let found = goer (devices_in setup u).harts awake in
        let below : found.0 < setup.harts = omega (arith, found.1, harts-devices setup.harts u.devices) in
        (found.0, below, goes_by (standing_in (devices_in setup u) found.0) (devices_in setup u).stop (story_of setup u found.0) none found.2 (all.fits found.0 below))
  ]
  | inr busy ↦
      let found = failing_number (λ h. is_idle (want_of setup u h)) 0 setup.harts busy in
      (found.0, omega (arith, found.1), busy_goes (want_of setup u found.0) (is_woken_in setup u found.0) found.2)
]

-- Once it has ended, only a hart that waits woken may make an event, and the run stays ended.

idle_is : (w : Want) → is_idle w ≡ true → (w ≡ IsOver) ⊎ (w ≡ IsParked)
idle_is (Asks access) e = absurd cc
idle_is (Ends part after) e = absurd cc
idle_is IsOver e = inl refl
idle_is IsParked e = inr refl

still_or_woken : (setup : Setup) (u : Machine) (h : ℕ) → has_ended setup u ≡ true → (step setup u h ≡ u) ⊎ WaitsWoken setup u h
still_or_woken setup u h ended = elim (cases_Bool (nat_lt h setup.harts)) [
  | inl within ↦
      let below : h < setup.harts = grind (arith, nat_tests, within) in
      elim (idle_is (want_of setup u h) (idle_ended setup u h ended below)) [
        | inl over ↦ inl (step_over setup u h below over)
        | inr parked ↦ elim (cases_Bool (is_woken_in setup u h)) [
          | inl woken ↦ inr (record { below = below; parked = parked; woken = woken })
          | inr unwoken ↦ inl (step_unwoken setup u h below parked unwoken)
        ]
      ]
  | inr beyond ↦ inl (step_beyond setup u h beyond)
]

-- the pulse of such a hart tells the stop
woken_over : (setup : Setup) (u : Machine) (h : ℕ) → AllStand setup u → has_ended setup u ≡ true → WaitsWoken setup u h → want_of setup (step setup u h) h ≡ IsOver
woken_over setup u h all ended waits =
    let parks = story_parks (story_of setup u h) waits.parked in
    let reply = reply_to setup u h (acc.Pulse false) in
    let stops : reply.stop ≡ true = still_stopped (devices_in setup u) h (acc.Pulse false) (stop_ended setup u ended) in
    ap want (story_after_park setup u h parks.0 waits.below (omega (arith, waits.below, all.harts)) parks.1 waits.woken)
    ∙ ap (λ b. want (if b then StaysOver else (if reply.value == 1 then Parks parks.0 else parks.0 reply.lines))) stops

stop_makes : (setup : Setup) (u : Machine) (h : ℕ) (ram : Bool) (access : Access) (reply : Reply) → is_some (device_stop setup.harts u.devices) ≡ true
    → is_some (device_stop setup.harts (if ram then u.devices else with_access u.devices h access reply)) ≡ true
stop_makes setup u h true access reply stands = stands
stop_makes setup u h false access reply stands =
    ap (λ (s : DeviceState). is_some s.stop) (devices_push setup.harts u.devices h access reply) ∙ still_stopped (devices_in setup u) h access stands

stop_make : (setup : Setup) (u : Machine) (h : ℕ) (w : Want) → is_some (device_stop setup.harts u.devices) ≡ true → is_some (device_stop setup.harts (make setup u h w).devices) ≡ true
stop_make setup u h (Asks access) stands = stop_makes setup u h (is_ram_access access) access (reply_to setup u h access) stands
stop_make setup u h (Ends part after) stands = stands
stop_make setup u h IsOver stands = stands
stop_make setup u h IsParked stands = stands

-- a stop that stands goes on standing
stop_steps : (setup : Setup) (u : Machine) (h : ℕ) → is_some (device_stop setup.harts u.devices) ≡ true → is_some (device_stop setup.harts (step setup u h).devices) ≡ true
stop_steps setup u h stands = elim (nat_lt h setup.harts) as (λ b. is_some (device_stop setup.harts (if b then make setup u h (next_of setup u h) else u).devices) ≡ true)
    [ true ↦ stop_make setup u h (next_of setup u h) stands | false ↦ stands ]

stays_step : (setup : Setup) (u : Machine) (h : ℕ) → AllStand setup u → has_ended setup u ≡ true → has_ended setup (step setup u h) ≡ true
stays_step setup u h all ended = elim (still_or_woken setup u h ended) [
  | inl still ↦ ap (has_ended setup) still ∙ ended
  | inr waits ↦
      let v = step setup u h in
      ended_all setup v (stop_steps setup u h (stop_ended setup u ended)) (λ k below. elim (cases_eq k h) [
        | inl same ↦ ap (λ j. is_idle (want_of setup v j)) same ∙ ap is_idle (woken_over setup u h all ended waits)
        | inr other ↦ ap (λ i. is_idle (want (place_in setup i))) (instruction_at-other setup u h k other) ∙ idle_ended setup u k ended below
      ])
]

pub stays_ended : (setup : Setup) (u : Machine) (names : List ℕ) → AllStand setup u → has_ended setup u ≡ true → has_ended setup (reach_from setup u names) ≡ true
stays_ended setup u [] all ended = ap (has_ended setup) (reach-none setup u) ∙ ended
stays_ended setup u (h ∷ names) all ended =
    ap (has_ended setup) (reach-cons setup u h names)
    ∙ stays_ended setup (step setup u h) names (all_step setup u h all) (stays_step setup u h all ended)

rounds_rest : (setup : Setup) (order : List ℕ) → has_ended setup (reach setup order) ≡ true → names_played setup order ≡ order
rounds_rest setup order ended =
    ap (λ names. order ++ names) (turns_ended setup (reach setup order) (repeated (most_rounds setup) (hart_numbers setup)) ended) ∙ append-nil order

-- How many events all harts have made.

abbrev pub made_in : Setup → Machine → ℕ
made_in setup u = total (λ h. count_of h u.events) setup.harts

pub made_most : (setup : Setup) (u : Machine) → AllStand setup u → made_in setup u ≤ most_rounds setup
made_most setup u all = total_most (λ h. count_of h u.events) setup.harts (most_events setup) (λ h below. stands_few setup u h (all.each h below))

count_more : (h : ℕ) (made new : List Made) → count_of h made ≤ count_of h (made ++ new)
count_more h made new =
    let both = ap length (filter-append (λ (m : Made). m.hart == h) made new) ∙ length-append (events_of h made) (events_of h new) in
    omega (arith, both)

count_from : (setup : Setup) (u : Machine) (names : List ℕ) (h : ℕ) → count_of h u.events ≤ count_of h (reach_from setup u names).events
count_from setup u names h =
    let more = added setup u names in
    omega (arith, count_more h u.events more.new, ap (count_of h) more.events)

made_from : (setup : Setup) (u : Machine) (names : List ℕ) → made_in setup u ≤ made_in setup (reach_from setup u names)
made_from setup u names = total_least (λ h. count_of h u.events) (λ h. count_of h (reach_from setup u names).events) setup.harts (λ h below. count_from setup u names h)

-- a hart that has a next event makes one more
count_step : (setup : Setup) (u : Machine) (h : ℕ) (w : Want) → h < setup.harts → next_of setup u h ≡ w → is_idle w ≡ false → count_of h (step setup u h).events ≡ count_of h u.events + 1
count_step setup u h (Asks access) below e busy = ap (λ (m : Machine). count_of h m.events) (step_is setup u h (Asks access) below e) ∙ count_own u.events h (what.Acc access (reply_to setup u h access))
count_step setup u h (Ends part after) below e busy = ap (λ (m : Machine). count_of h m.events) (step_is setup u h (Ends part after) below e) ∙ count_own u.events h (what.End part)
count_step setup u h IsOver below e busy = absurd cc
count_step setup u h IsParked below e busy = absurd cc

step_from : (setup : Setup) (u : Machine) (h : ℕ) → reach_from setup u (h ∷ []) ≡ step setup u h
step_from setup u h = reach-cons setup u h [] ∙ reach-none setup (step setup u h)

pub made_step : (setup : Setup) (u : Machine) (h : ℕ) → h < setup.harts → is_idle (next_of setup u h) ≡ false → made_in setup u + 1 ≤ made_in setup (step setup u h)
made_step setup u h below busy =
    total_more (λ k. count_of k u.events) (λ k. count_of k (step setup u h).events) setup.harts h 1 below
    (λ k within. omega (arith, count_from setup u (h ∷ []) k, ap (λ (m : Machine). count_of k m.events) (step_from setup u h)))
    (omega (arith, count_step setup u h (next_of setup u h) below refl busy))

-- The rounds.

-- a round from a number up to which no hart has an event, while one from there on has one
round_makes : (setup : Setup) (u : Machine) (a m h : ℕ) → a + m ≡ setup.harts → a ≤ h → h < setup.harts → has_ended setup u ≡ false → is_idle (next_of setup u h) ≡ false
    → made_in setup u + 1 ≤ made_in setup (reach_from setup u (turns setup u (range_with_len a m)))
round_makes setup u a zero h all from below going busy = absurd (omega (arith, all, from, below))
round_makes setup u a (suc m) h all from below going busy = elim (cases_Bool (is_idle (next_of setup u a))) [
  | inl idle ↦
      let rest = range_with_len (a + 1) m in
      let names : turns setup u (range_with_len a (suc m)) ≡ turns setup u rest =
      turns_busy setup u a rest going
      ∙ ap (λ ns. ns ++ turns setup (reach_from setup u ns) rest) (turn_of-idle setup u a idle)
      ∙ ap (λ v. turns setup v rest) (reach-none setup u) in
      let other : h ≢ a = λ same. let idle_h = ap (λ j. is_idle (next_of setup u j)) same ∙ idle in cc in
      let At : List ℕ → Type 0 = λ ns. made_in setup u + 1 ≤ made_in setup (reach_from setup u ns) in
      subst At (sym names) (round_makes setup u (a + 1) m h (omega (arith, all)) (omega (arith, from, other)) below going busy)
  | inr goes ↦
      let rest = range_with_len (a + 1) m in
      let turn = turn_of-begins setup u a goes in
      let more = turns setup (reach_from setup u (turn_of setup u a)) rest in
      let names : turns setup u (range_with_len a (suc m)) ≡ a ∷ (turn.0 ++ more) =
      turns_busy setup u a rest going ∙ ap (λ ns. ns ++ more) turn.1 in
      let At : List ℕ → Type 0 = λ ns. made_in setup u + 1 ≤ made_in setup (reach_from setup u ns) in
      subst At (sym names)
      (omega (
        arith,
        made_step setup u a (omega (arith, all)) goes,
        made_from setup (step setup u a) (turn.0 ++ more),
        ap (made_in setup) (reach-cons setup u a (turn.0 ++ more)),
      ))
]

-- in each round of a run that hasn't ended some hart makes an event
pub round_more : (setup : Setup) (u : Machine) → 0 < setup.harts → AllStand setup u → has_ended setup u ≡ false
    → made_in setup u + 1 ≤ made_in setup (reach_from setup u (turns setup u (hart_numbers setup)))
round_more setup u some all going =
    let next = has_next setup u some all going in
    round_makes setup u 0 setup.harts next.0 (omega arith) (omega arith) next.1 going next.2

pub repeated-none : (names : List ℕ) → repeated zero names ≡ []
unfolding repeated
repeated-none names = refl

pub repeated-suc : (n : ℕ) (names : List ℕ) → repeated (suc n) names ≡ names ++ repeated n names
unfolding repeated
repeated-suc n names = refl

-- the state after so many rounds
abbrev pub after_rounds : Setup → Machine → ℕ → Machine
after_rounds setup u n = reach_from setup u (turns setup u (repeated n (hart_numbers setup)))

after_rounds-none : (setup : Setup) (u : Machine) → after_rounds setup u zero ≡ u
after_rounds-none setup u = ap (λ names. reach_from setup u (turns setup u names)) (repeated-none (hart_numbers setup)) ∙ reach-none setup u

after_rounds-suc : (setup : Setup) (u : Machine) (n : ℕ) → after_rounds setup u (suc n) ≡ after_rounds setup (reach_from setup u (turns setup u (hart_numbers setup))) n
after_rounds-suc setup u n =
    let numbers = hart_numbers setup in
    let first = turns setup u numbers in
    ap (reach_from setup u) (ap (turns setup u) (repeated-suc n numbers) ∙ turns-append setup u numbers (repeated n numbers))
    ∙ reach-append setup u first (turns setup (reach_from setup u first) (repeated n numbers))

-- so many rounds end the run, or make as many events
rounds_or : (setup : Setup) (u : Machine) (n : ℕ) → 0 < setup.harts → AllStand setup u
    → (has_ended setup (after_rounds setup u n) ≡ true) ⊎ (made_in setup u + n ≤ made_in setup (after_rounds setup u n))
rounds_or setup u zero some all = inr (omega (arith, ap (made_in setup) (after_rounds-none setup u)))
rounds_or setup u (suc n) some all = elim (cases_Bool (has_ended setup u)) [
  | inl ended ↦ inl (stays_ended setup u (turns setup u (repeated (suc n) (hart_numbers setup))) all ended)
  | inr going ↦
      let first = turns setup u (hart_numbers setup) in
      let v = reach_from setup u first in
      let same = after_rounds-suc setup u n in
      elim (rounds_or setup v n some (all_from setup u first all)) [
        | inl ended ↦ inl (ap (has_ended setup) same ∙ ended)
        | inr more ↦ inr (omega (arith, more, round_more setup u some all going, ap (made_in setup) same))
      ]
]

-- where the run hasn't ended, these are fewer rounds than are enough
pub rounds_few : (setup : Setup) (u : Machine) (n : ℕ) → 0 < setup.harts → AllStand setup u → has_ended setup (after_rounds setup u n) ≡ false → n < most_rounds setup
rounds_few setup u n some all going = elim (rounds_or setup u n some all) [
  | inl ended ↦ absurd cc
  | inr more ↦
      let v = after_rounds setup u n in
      let stand = all_from setup u (turns setup u (repeated n (hart_numbers setup))) all in
      let next = has_next setup v some stand going in
      omega (arith, more, made_step setup v next.0 next.1 next.2, made_most setup (step setup v next.0) (all_step setup v next.0 stand))
]

-- so the rounds end the run
pub rounds_end : (setup : Setup) (u : Machine) → 0 < setup.harts → AllStand setup u → has_ended setup (reach_from setup u (rounds setup u)) ≡ true
rounds_end setup u some all = elim (cases_Bool (has_ended setup (after_rounds setup u (most_rounds setup)))) [
  | inl ended ↦ ended
  | inr going ↦ absurd (omega (arith, rounds_few setup u (most_rounds setup) some all going))
]

repeated-plus : (n more : ℕ) (names : List ℕ) → repeated (n + more) names ≡ repeated n names ++ repeated more names
repeated-plus zero more names =
    let same : 0 + more ≡ more = omega arith in
    ap (λ k. repeated k names) same ∙ ap (λ ns. ns ++ repeated more names) (sym (repeated-none names))
repeated-plus (suc n) more names =
    let same : suc n + more ≡ suc (n + more) = omega arith in
    ap (λ k. repeated k names) same
    ∙ repeated-suc (n + more) names
    ∙ ap (λ ns. names ++ ns) (repeated-plus n more names)
    ∙ sym (append_assoc names (repeated n names) (repeated more names))
    ∙ ap (λ ns. ns ++ repeated more names) (sym (repeated-suc n names))

-- where so many rounds have ended the run, they are all of them
pub rounds_done : (setup : Setup) (u : Machine) (n : ℕ) → n ≤ most_rounds setup → has_ended setup (after_rounds setup u n) ≡ true
    → rounds setup u ≡ turns setup u (repeated n (hart_numbers setup))
rounds_done setup u n within ended =
    let numbers = hart_numbers setup in
    let left = most_rounds setup - n in
    let all : most_rounds setup ≡ n + left = omega (arith, within) in
    let done = turns setup u (repeated n numbers) in
    ap (λ k. turns setup u (repeated k numbers)) all
    ∙ ap (turns setup u) (repeated-plus n left numbers)
    ∙ turns-append setup u (repeated n numbers) (repeated left numbers)
    ∙ ap (λ ns. done ++ ns) (turns_ended setup (after_rounds setup u n) (repeated left numbers) ended)
    ∙ append-nil done

names_played_end : (setup : Setup) (order : List ℕ) → 0 < setup.harts → has_ended setup (reach setup (names_played setup order)) ≡ true
names_played_end setup order some =
    let u = reach setup order in
    ap (has_ended setup) (reach-append setup (begin setup) order (rounds setup u)) ∙ rounds_end setup u some (all_stand setup order)

stays_more : (setup : Setup) (order more : List ℕ) → has_ended setup (reach setup order) ≡ true → has_ended setup (reach setup (order ++ more)) ≡ true
stays_more setup order more ended =
    ap (has_ended setup) (reach-append setup (begin setup) order more) ∙ stays_ended setup (reach setup order) more (all_stand setup order) ended

-- where there is a hart
pub run_goes_on : (setup : Setup) (order : List ℕ) → 0 < setup.harts → GoesOn setup order
run_goes_on setup order some =
    let u = reach setup order in
    let stand = all_stand setup order in
    record {
      next = has_next setup u some stand;
      still = λ ended h. still_or_woken setup u h ended;
      stays = λ ended more. stays_more setup order more ended;
      rest = rounds_rest setup order;
      few = λ h below. stands_few setup u h (stand.each h below);
      ends = names_played_end setup order some;
      reserved = all_asks_reserved setup order;
      transmits = λ h below. stands_sends setup u h (stand.each h below);
    }
