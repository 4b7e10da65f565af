-- Going on in a story by one reply.
use Rattle.std.proofs.Common.{◌≡◌, ◌≢◌, ℕ, true, false, if◌then◌else◌, List, [], ◌∷◌, ◌++◌, refl, ap, sym, ◌∙◌, eq-eqb}
use Rattle.std.proofs.lemmas.Bool.{ne_eqb}
use Rattle.flex_base.specs.Setup.{Setup}
use Rattle.flex_base.specs.State.{State}
use Rattle.flex_base.specs.Decoding.{decoded}
use Rattle.flex_base.specs.StoryTree.{Ends, Story, Says, Closes, StaysOver, goes, want, after_one}
use Rattle.flex_base.specs.Story.{story, pulses, after_pulse, begins, works, is_tick, ask}
use Rattle.flex_base.specs.declared.access.Access.TheVariants as acc
use Rattle.flex_base.specs.declared.access.Reply.{Reply}
use Rattle.flex_base.specs.declared.event.EndPart.{EndPart}

pub goes_push : (s : Story) (replies : List Reply) (reply : Reply) → goes s (replies ++ reply ∷ []) ≡ after_one (goes s replies) reply
goes_push s [] reply = refl
goes_push s (first ∷ replies) reply = goes_push (after_one s first) replies reply

-- a hart that is over stays so
pub goes-StaysOver : (replies : List Reply) → goes StaysOver replies ≡ StaysOver
goes-StaysOver [] = refl
goes-StaysOver (reply ∷ replies) = goes-StaysOver replies

-- and one that comes to its end stays there
pub goes-Closes : (part : EndPart) (after : State) (replies : List Reply) → goes (Closes part after) replies ≡ Closes part after
goes-Closes part after [] = refl
goes-Closes part after (reply ∷ replies) = goes-Closes part after replies

-- The story by its first event.

abbrev pub retires : Story
retires = Says acc.Retire (λ reply. StaysOver)

abbrev pub goes_on : Setup → State → ℕ → Story
goes_on setup a address = Says (acc.Fetch address) (λ reply. works setup a reply.value (decoded reply.value))

pub story_spent : (setup : Setup) (a : State) → a.ends ≡ setup.budget → story setup a ≡ retires
story_spent setup a spent = ap (λ b. if b then retires else pulses setup a) (eq-eqb a.ends setup.budget spent)

pub story_unspent : (setup : Setup) (a : State) → a.ends ≢ setup.budget → story setup a ≡ pulses setup a
story_unspent setup a unspent = ap (λ b. if b then retires else pulses setup a) (ne_eqb a.ends setup.budget unspent)

pub story_due : (setup : Setup) (a : State) → a.ends ≢ setup.budget → a.due ≡ true → story setup a ≡ Says (acc.Pulse (is_tick a)) (after_pulse setup a)
story_due setup a unspent due = story_unspent setup a unspent ∙ ap (λ b. if b then Says (acc.Pulse (is_tick a)) (after_pulse setup a) else begins setup a) due

pub story_undue : (setup : Setup) (a : State) → a.ends ≢ setup.budget → a.due ≡ false → story setup a ≡ begins setup a
story_undue setup a unspent undue = story_unspent setup a unspent ∙ ap (λ b. if b then Says (acc.Pulse (is_tick a)) (after_pulse setup a) else begins setup a) undue

-- a hart that has spent its budget comes to no end
spent_never_ends : (replies : List Reply) (part : EndPart) (after : State) → want (goes retires replies) ≡ Ends part after → ⊥
spent_never_ends [] part after e = cc
spent_never_ends (reply ∷ replies) part after e = let over = ap want (goes-StaysOver replies) in cc

pub ends_unspent : (setup : Setup) (a : State) (replies : List Reply) (part : EndPart) (after : State) → ask setup a replies ≡ Ends part after → a.ends ≢ setup.budget
ends_unspent setup a replies part after ends spent = spent_never_ends replies part after (ap (λ s. want (goes s replies)) (sym (story_spent setup a spent)) ∙ ends)
