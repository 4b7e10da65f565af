-- What a hart wants, by what it is told that it needs.
use Rattle.std.proofs.Common.{◌≡◌, false, [], ◌∷◌, refl, ap}
use Rattle.flex_base.specs.State.{State}
use Rattle.flex_base.specs.StoryTree.{Want, Asks, Ends, IsOver, IsParked, Story, Says, Closes, StaysOver, Parks, want}
use Rattle.flex_base.specs.Reservations.{asked}
use Rattle.flex_base.specs.declared.access.Access.{Access}
use Rattle.flex_base.specs.declared.access.Access.TheVariants as acc
use Rattle.flex_base.specs.declared.class.Class.{Class}
use Rattle.flex_base.specs.declared.event.EndPart.{EndPart}
use Rattle.hart_story.specs.Need.{need_of}
use Rattle.hart_story.specs.declared.progress.Need.TheVariants as need

pub needs_ask : (access : Access) (class : Class) (w : Want) → need.Ask access class ≡ need_of w → w ≡ Asks access
needs_ask access class (Asks a) e = let same : a ≡ access = cc in ap Asks same
needs_ask access class (Ends part after) e = absurd cc
needs_ask access class IsOver e = absurd cc
needs_ask access class IsParked e = absurd cc

-- an end that is needed is wanted
pub record IsAtEnd (w : Want) : Type 0 where
  pub part : EndPart
  pub after : State
  pub ends : w ≡ Ends part after

pub needs_finish : (class : Class) (w : Want) → need.Finish class ≡ need_of w → IsAtEnd w
needs_finish class (Asks a) e = absurd cc
needs_finish class (Ends part after) e = record { part = part; after = after; ends = refl }
needs_finish class IsOver e = absurd cc
needs_finish class IsParked e = absurd cc

pub needs_over : (w : Want) → need.Over ≡ need_of w → w ≡ IsOver
needs_over (Asks a) e = absurd cc
needs_over (Ends part after) e = absurd cc
needs_over IsOver e = refl
needs_over IsParked e = absurd cc

pub needs_parked : (w : Want) → need.Parked ≡ need_of w → w ≡ IsParked
needs_parked (Asks a) e = absurd cc
needs_parked (Ends part after) e = absurd cc
needs_parked IsOver e = absurd cc
needs_parked IsParked e = refl

-- the access that comes next, by what is wanted

pub wants_asked : (s : Story) (access : Access) → want s ≡ Asks access → asked s ≡ access ∷ []
wants_asked (Says a next) access e = let same : a ≡ access = cc in ap (λ x. x ∷ []) same
wants_asked (Closes part after) access e = absurd cc
wants_asked StaysOver access e = absurd cc
wants_asked (Parks wakes) access e = absurd cc

pub parked_asked : (s : Story) → want s ≡ IsParked → asked s ≡ acc.Pulse false ∷ []
parked_asked (Says a next) e = absurd cc
parked_asked (Closes part after) e = absurd cc
parked_asked StaysOver e = absurd cc
parked_asked (Parks wakes) e = refl

-- an access that is needed is asked
pub needs_asked : (access : Access) (class : Class) (s : Story) → need.Ask access class ≡ need_of (want s) → asked s ≡ access ∷ []
needs_asked access class s e = wants_asked s access (needs_ask access class (want s) e)

-- and so is the pulse of a hart that needs to be woken
pub needs_pulse : (s : Story) → need.Parked ≡ need_of (want s) → asked s ≡ acc.Pulse false ∷ []
needs_pulse s e = parked_asked s (needs_parked (want s) e)
