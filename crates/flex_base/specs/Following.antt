-- A hart's events against its story: what may happen to it next, and where a list of its events leads.
use Rattle.std.specs.Prelude.{◌≡◌, ℕ, Bool, false, ◌&&◌, ◌==◌, List, [], ◌∷◌, fold, Option, None, Some}
use Rattle.flex_base.specs.Setup.{Setup}
use Rattle.flex_base.specs.State.{State, start}
use Rattle.flex_base.specs.StoryTree.{Want, Asks, Ends, IsParked}
use Rattle.flex_base.specs.Story.{ask}
use Rattle.flex_base.specs.Unsplit.{Instruction, instruction_from, instruction_after}
use Rattle.flex_base.specs.Forms.{HasForm}
use Rattle.flex_base.specs.FlatMemory.{reply_with}
use Rattle.flex_base.specs.Reservations.{reserving}
use Rattle.flex_base.specs.declared.access.Access.{Access}
use Rattle.flex_base.specs.declared.access.Access.TheVariants as acc
use Rattle.flex_base.specs.declared.access.Reply.{Reply}
use Rattle.flex_base.specs.declared.engine.Engine.{Engine}
use Rattle.flex_base.specs.declared.event.Event.{Event}
use Rattle.flex_base.specs.declared.event.What.{What}
use Rattle.flex_base.specs.declared.event.What.TheVariants as what

-- the access that a hart makes next, where it makes one; a parked hart makes a pulse without tick
abbrev pub next_access : Want → Option Access
next_access (Asks access) = Some access
next_access IsParked = Some (acc.Pulse false)
next_access other = None

-- an instruction before its first event, at the entry of the image
abbrev pub first_instruction : Setup → ℕ → Instruction
first_instruction setup hart = instruction_from (start hart setup.image.entry)

module _ (setup : Setup) where
  -- what a hart wants in its instruction
  abbrev pub wanted : Instruction → Want
  wanted i = ask setup i.state i.replies

  -- what may happen to a hart in its instruction: the access that it makes next, with any reply of that access's form; the
  -- end that it has come to; and a handover, which the story doesn't know
  abbrev pub MayDo : Instruction → What → Type 0
  MayDo i (what.Acc access reply) = (next_access (wanted i) ≡ Some access) × HasForm access reply
  MayDo i (what.End part) = (next : State) × (wanted i ≡ Ends part next)
  MayDo i (what.Handover to) = Unit {0}

  -- the instruction after what happened; after an end it is the next one
  abbrev pub instruction_then : Instruction → What → Instruction
  instruction_then i (what.Acc access reply) = instruction_after i (Asks access) reply
  instruction_then i (what.End part) = instruction_after i (wanted i) (reply_with 0)
  instruction_then i (what.Handover to) = i

  -- each of these events may happen to the hart after those before it
  abbrev pub FollowsFrom : Instruction → List Event → Type 0
  FollowsFrom i [] = Unit {0}
  FollowsFrom i (e ∷ events) = MayDo i e.what × FollowsFrom (instruction_then i e.what) events

  -- where these events lead
  unfoldable pub leads_to : Instruction → List Event → Instruction
  leads_to i events = fold (λ now (e : Event). instruction_then now e.what) i events

  -- a list of a hart's events follows the story, from the hart's start on
  abbrev pub Follows : ℕ → List Event → Type 0
  Follows hart events = FollowsFrom (first_instruction setup hart) events

  -- the state at the start of the hart's instruction after these events, and the replies since
  abbrev pub instruction_of : ℕ → List Event → Instruction
  instruction_of hart events = leads_to (first_instruction setup hart) events

-- Waiting, by what the hart was told: a wait tells it whether it waits, and so does a pulse of a hart that waits. Who has
-- spent its budget waits no more.

abbrev pub waits_by : Bool → Access → Reply → Bool
waits_by was (acc.Wait mie) reply = reply.value == 1
waits_by was (acc.Pulse tick) reply = was && (reply.value == 1)
waits_by was acc.Retire reply = false
waits_by was other reply = was

abbrev pub waits_after : Bool → What → Bool
waits_after was (what.Acc access reply) = waits_by was access reply
waits_after was other = was

-- the hart waits after these events of its own
unfoldable pub is_waiting : List Event → Bool
is_waiting events = fold (λ was (e : Event). waits_after was e.what) false events

-- the set of the hart's last load-reserved, where no store-conditional came after it
abbrev pub reserved_after : Option ℕ → What → Option ℕ
reserved_after own (what.Acc access reply) = reserving own access
reserved_after own other = own

unfoldable pub last_reserved : List Event → Option ℕ
last_reserved events = fold (λ own (e : Event). reserved_after own e.what) None events

-- the engine of the last event that is no handover
abbrev pub engine_after : Option Engine → Engine → What → Option Engine
engine_after last engine (what.Handover to) = last
engine_after last engine other = Some engine

unfoldable pub last_engine : List Event → Option Engine
last_engine events = fold (λ last (e : Event). engine_after last e.engine e.what) None events
