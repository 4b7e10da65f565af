-- The rounds: the harts in rising order, again and again, each up to and including its next end, or until it has no next
-- event.
use Rattle.std.specs.Prelude.{ℕ, ◌+◌, ◌*◌, zero, suc, false, if◌then◌else◌, List, [], ◌∷◌, ◌++◌}
use Rattle.flex_base.specs.Setup.{Setup}
use Rattle.flex_base.specs.StoryTree.{Story, Says, Closes, StaysOver, Parks}
use Rattle.flex_base.specs.Unsplit.{Machine, story_of, is_woken_in, reply_to, step, reach, reach_from, has_ended, hart_numbers}
use Rattle.flex_base.specs.declared.access.Access.TheVariants as acc

-- the same names, so many times
unfoldable pub repeated : ℕ → List ℕ → List ℕ
repeated zero names = []
repeated (suc n) names = names ++ repeated n names

module _ (setup : Setup) where
  -- the hart's name, once for each event up to and including its next end; of a parked hart once for its pulse and once for
  -- its end where it is woken, and else not at all
  abbrev pub turn : Machine → ℕ → Story → List ℕ
  turn u h (Says access next) = h ∷ turn (step setup u h) h (next (reply_to setup u h access))
  turn u h (Closes part after) = h ∷ []
  turn u h StaysOver = []
  turn u h (Parks wakes) = if is_woken_in setup u h
      then h ∷ (if (reply_to setup u h (acc.Pulse false)).stop then []
      else turn (step setup u h) h (wakes (reply_to setup u h (acc.Pulse false)).lines))
      else []

  abbrev pub turn_of : Machine → ℕ → List ℕ
  turn_of u h = turn u h (story_of setup u h)

  -- the turns of these harts, one after another, until the run has ended
  abbrev pub turns : Machine → List ℕ → List ℕ
  turns u [] = []
  turns u (h ∷ harts) =
      if has_ended setup u then [] else turn_of u h ++ turns (reach_from setup u (turn_of u h)) harts

  -- a hart makes at most 10 events an instruction, and a retirement
  abbrev pub most_events : ℕ
  most_events = 10 * setup.budget + 1

  -- each round of a run that goes on has an event
  abbrev pub most_rounds : ℕ
  most_rounds = setup.harts * most_events

  abbrev pub rounds : Machine → List ℕ
  rounds u = turns u (repeated most_rounds (hart_numbers setup))

  -- the names of the order, and then the rounds
  abbrev pub names_played : List ℕ → List ℕ
  names_played order = order ++ rounds (reach setup order)
