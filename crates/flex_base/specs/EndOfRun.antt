-- A run goes on until it has ended, and no hart goes on for ever.
use Rattle.std.specs.Prelude.{◌≡◌, ℕ, ◌<◌, ◌≤◌, ◌⊎◌, ◌==◌, true, false, List, ◌++◌, filter, length}
use Rattle.flex_base.specs.Setup.{Setup}
use Rattle.flex_base.specs.StoryTree.{IsParked}
use Rattle.flex_base.specs.Unsplit.{Machine, Made, want_of, next_of, is_woken_in, is_idle, has_ended, step, reach, unsplit}
use Rattle.flex_base.specs.Rounds.{most_events, names_played}
use Rattle.flex_base.specs.Journal.{sent}
use Rattle.flex_base.specs.Reservations.{AsksReserved}

-- these of the events are the hart's
abbrev pub events_of : ℕ → List Made → List Made
events_of h made = filter (λ (m : Made). m.hart == h) made

-- how many they are
abbrev pub count_of : ℕ → List Made → ℕ
count_of h made = length (events_of h made)

module _ (setup : Setup) where
  -- some hart has a next event
  abbrev pub HasNext : Machine → Type 0
  HasNext u = (h : ℕ) × (h < setup.harts) × (is_idle (next_of setup u h) ≡ false)

  -- the hart waits and is woken, so it may make its pulse whether or not a stop stands
  pub record WaitsWoken (u : Machine) (h : ℕ) : Type 0 where
    pub below : h < setup.harts
    pub parked : want_of setup u h ≡ IsParked
    pub woken : is_woken_in setup u h ≡ true

  -- after this order
  pub record GoesOn (order : List ℕ) : Type 0 where
    -- while the run hasn't ended some hart has a next event
    pub next : has_ended setup (reach setup order) ≡ false → HasNext (reach setup order)
    -- once it has ended only a hart that waits woken may make an event, and the run stays ended
    pub still : has_ended setup (reach setup order) ≡ true → (h : ℕ)
        → (step setup (reach setup order) h ≡ reach setup order) ⊎ WaitsWoken (reach setup order) h
    pub stays : has_ended setup (reach setup order) ≡ true → (more : List ℕ)
        → has_ended setup (reach setup (order ++ more)) ≡ true
    -- and the rounds add nothing
    pub rest : has_ended setup (reach setup order) ≡ true → names_played setup order ≡ order
    -- each hart has made a bounded number of events
    pub few : (h : ℕ) → h < setup.harts → count_of h (unsplit setup order) ≤ most_events setup
    -- the rounds end the run
    pub ends : has_ended setup (reach setup (names_played setup order)) ≡ true
    -- a store-conditional is asked only after a load-reserved of the same 8 bytes
    pub reserved : (h : ℕ) → h < setup.harts
        → AsksReserved (reach setup order).ram h (want_of setup (reach setup order) h)
    -- no hart has transmitted more bytes than it may make ends
    pub transmits : (h : ℕ) → h < setup.harts → length (sent (events_of h (unsplit setup order))) ≤ setup.budget
