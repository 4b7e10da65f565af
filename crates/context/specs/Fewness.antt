-- How many events a hart may still make.
use Rattle.std.specs.Prelude.{ℕ, suc, ◌+◌, ◌-◌, ◌*◌, ◌≤◌, if◌then◌else◌, List, [], ◌∷◌}
use Rattle.flex_base.specs.Setup.{Setup}
use Rattle.flex_base.specs.StoryTree.{Story, Says, Closes, StaysOver, Parks, goes}
use Rattle.flex_base.specs.Story.{story}
use Rattle.flex_base.specs.Unsplit.{Instruction}
use Rattle.flex_base.specs.Journal.{is_handover}
use Rattle.flex_base.specs.declared.access.Reply.{Reply}
use Rattle.flex_base.specs.declared.engine.Engine.{Engine}
use Rattle.flex_base.specs.declared.event.What.{What}

-- from here on come at most so many events, the end among them, where a parked hart is woken by the pulse that it makes
abbrev pub Within : Story → ℕ → Type 0
Within StaysOver n = Unit {0}
Within (Says access next) (suc n) = (reply : Reply) → Within (next reply) n
Within (Closes part after) (suc n) = Unit {0}
Within (Parks wakes) (suc n) = (lines : ℕ) → Within (wakes lines) n
Within other n = ⊥

-- how many of these are no handovers
abbrev pub plain_count : List (Engine × What) → ℕ
plain_count [] = 0
plain_count (m ∷ made) = (if is_handover m.1 then 0 else 1) + plain_count made

-- a hart that made so many events has few enough left: its instruction has some number left, and each end to come after it
-- makes room for an instruction of 10
pub record IsFew (setup : Setup) (i : Instruction) (made : ℕ) : Type 0 where
  pub rest : ℕ
  pub within : Within (goes (story setup i.state) i.replies) rest
  pub bound : made + rest + 11 * (setup.budget - i.state.ends) ≤ 11 * setup.budget + 10
