-- How far a turn or a round is.
use Rattle.std.specs.Prelude.{◌≡◌, ℕ, ◌<◌, Bool, true, false, List, [], ◌∷◌, ◌++◌}
use Rattle.flex_base.specs.Setup.{Setup}
use Rattle.flex_base.specs.Unsplit.{Machine, want_of, is_idle, step, reach_from, hart_numbers}
use Rattle.flex_base.specs.Rounds.{turn_of, turns, repeated, most_rounds}
use Rattle.solo.specs.Solo.{Solo}
use Rattle.solo.specs.Standing.{IsAt}
use Rattle.solo.specs.declared.machine.Step.{Step}
use Rattle.solo.specs.declared.machine.Step.TheVariants as step_of

-- no hart goes on by itself; or this one does
abbrev pub TellsIdle : Setup → Machine → Bool → Type 0
TellsIdle setup u true = (h : ℕ) → h < setup.harts → is_idle (want_of setup u h) ≡ true
TellsIdle setup u false = (h : ℕ) × (h < setup.harts) × (is_idle (want_of setup u h) ≡ false)

-- the hart made an access, and its turn goes on
pub record Accesses (setup : Setup) (u : Machine) (h : ℕ) (s : Solo) : Type 0 where
  pub at : IsAt setup (step setup u h) s
  pub names : turn_of setup u h ≡ h ∷ turn_of setup (step setup u h) h

-- it made an end, and so its turn is over
pub record Finishes (setup : Setup) (u : Machine) (h : ℕ) (s : Solo) : Type 0 where
  pub at : IsAt setup (step setup u h) s
  pub names : turn_of setup u h ≡ h ∷ []

-- it had no event
pub record Rests (setup : Setup) (u : Machine) (h : ℕ) (s : Solo) : Type 0 where
  pub at : IsAt setup u s
  pub still : step setup u h ≡ u
  pub names : turn_of setup u h ≡ []

abbrev pub AfterStep : Setup → Machine → ℕ → Step → Solo → Type 0
AfterStep setup u h step_of.Accessed s = Accesses setup u h s
AfterStep setup u h step_of.Ended s = Finishes setup u h s
AfterStep setup u h step_of.Rested s = Rests setup u h s

-- the turn was made
abbrev pub IsTurned : Setup → Machine → ℕ → Solo → Type 0
IsTurned setup u h s = IsAt setup (reach_from setup u (turn_of setup u h)) s

-- of the rounds that follow this state, the turns of some harts are made and those of the rest are to come
pub record Playing (setup : Setup) (u : Machine) (done rest : List ℕ) (s : Solo) : Type 0 where
  pub all : done ++ rest ≡ repeated (most_rounds setup) (hart_numbers setup)
  pub at : IsAt setup (reach_from setup u (turns setup u done)) s
