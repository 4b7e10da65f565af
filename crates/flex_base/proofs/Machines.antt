-- Single steps of the unsplit machine.
use Rattle.std.proofs.Common.{◌≡◌, ◌≢◌, ℕ, ◌+◌, ◌<◌, Bool, true, false, if◌then◌else◌, nat_lt, List, [], ◌∷◌, ◌++◌, length, refl, ap, ◌∙◌, arith, get_or, set, length-set, get_or-set_same, get_or-set_other}
use Rattle.std.proofs.lemmas.Bool.Decides.{nat_tests}
use Rattle.std.proofs.lemmas.List.FromFn.{get_or-map-range_with_len}
use Rattle.std.proofs.lemmas.List.Sums.{fold_push, fold-append}
use Rattle.flex_base.specs.Setup.{Setup}
use Rattle.flex_base.specs.State.{State, start}
use Rattle.flex_base.specs.StoryTree.{Want, Asks, Ends, IsOver, IsParked, Story, Says, Parks, goes, want, after_one, after_park}
use Rattle.flex_base.specs.Story.{story}
use Rattle.flex_base.specs.Unsplit.{Machine, Instruction, instruction_from, does, begin, instruction_at, story_of, want_of, next_of, resumes, is_woken_in, reply_to, instruction_after, make, step, reach_from}
use Rattle.flex_base.specs.declared.access.Access.{Access}
use Rattle.flex_base.specs.declared.access.Access.TheVariants as acc
use Rattle.flex_base.specs.declared.access.Reply.{Reply}
use Rattle.flex_base.specs.Journal.{is_handover}
use Rattle.flex_base.specs.declared.event.EndPart.{EndPart}
use Rattle.flex_base.specs.declared.event.What.{What}
use Rattle.flex_base.specs.declared.event.What.TheVariants as what
use Rattle.flex_base.proofs.Stories.{goes_push}

-- one more name
pub reach_push : (setup : Setup) (u : Machine) (order : List ℕ) (h : ℕ) → reach_from setup u (order ++ h ∷ []) ≡ step setup (reach_from setup u order) h
unfolding reach_from
reach_push setup u order h = fold_push (step setup) u order h

pub reach-append : (setup : Setup) (u : Machine) (order more : List ℕ) → reach_from setup u (order ++ more) ≡ reach_from setup (reach_from setup u order) more
unfolding reach_from
reach-append setup u order more = fold-append (step setup) u order more

pub reach-cons : (setup : Setup) (u : Machine) (h : ℕ) (order : List ℕ) → reach_from setup u (h ∷ order) ≡ reach_from setup (step setup u h) order
unfolding reach_from
reach-cons setup u h order = refl

pub reach-none : (setup : Setup) (u : Machine) → reach_from setup u [] ≡ u
unfolding reach_from
reach-none setup u = refl

-- each hart begins at the entry
pub instruction_at-begin : (setup : Setup) (h : ℕ) → h < setup.harts → instruction_at (begin setup) h ≡ instruction_from (start h setup.image.entry)
instruction_at-begin setup h below =
    let from : 0 + h ≡ h = omega arith in
    get_or-map-range_with_len (λ k. instruction_from (start k setup.image.entry)) 0 setup.harts h h (instruction_from (start h 0)) below from

-- The next event by what the hart wants.

pub next_asks : (setup : Setup) (u : Machine) (h : ℕ) (access : Access) → want_of setup u h ≡ Asks access → next_of setup u h ≡ Asks access
next_asks setup u h access asks = ap (λ w. resumes w (is_woken_in setup u h)) asks

pub next_ends : (setup : Setup) (u : Machine) (h : ℕ) (part : EndPart) (after : State) → want_of setup u h ≡ Ends part after → next_of setup u h ≡ Ends part after
next_ends setup u h part after ends = ap (λ w. resumes w (is_woken_in setup u h)) ends

pub next_over : (setup : Setup) (u : Machine) (h : ℕ) → want_of setup u h ≡ IsOver → next_of setup u h ≡ IsOver
next_over setup u h over = ap (λ w. resumes w (is_woken_in setup u h)) over

-- a parked hart makes its pulse where it is woken, and else nothing
pub next_woken : (setup : Setup) (u : Machine) (h : ℕ) → want_of setup u h ≡ IsParked → is_woken_in setup u h ≡ true → next_of setup u h ≡ Asks (acc.Pulse false)
next_woken setup u h parked woken = ap (λ w. resumes w (is_woken_in setup u h)) parked ∙ ap (resumes IsParked) woken

pub next_unwoken : (setup : Setup) (u : Machine) (h : ℕ) → want_of setup u h ≡ IsParked → is_woken_in setup u h ≡ false → next_of setup u h ≡ IsParked
next_unwoken setup u h parked unwoken = ap (λ w. resumes w (is_woken_in setup u h)) parked ∙ ap (resumes IsParked) unwoken

-- a step by the next event
pub step_is : (setup : Setup) (u : Machine) (h : ℕ) (w : Want) → h < setup.harts → next_of setup u h ≡ w → step setup u h ≡ make setup u h w
step_is setup u h w below e =
    let within : nat_lt h setup.harts ≡ true = grind (arith, nat_tests) in
    ap (λ b. if b then make setup u h (next_of setup u h) else u) within ∙ ap (make setup u h) e

-- a hart that is over stays where it is
pub step_over : (setup : Setup) (u : Machine) (h : ℕ) → h < setup.harts → want_of setup u h ≡ IsOver → step setup u h ≡ u
step_over setup u h below over = step_is setup u h IsOver below (next_over setup u h over)

-- and so does a parked one that isn't woken
pub step_unwoken : (setup : Setup) (u : Machine) (h : ℕ) → h < setup.harts → want_of setup u h ≡ IsParked → is_woken_in setup u h ≡ false → step setup u h ≡ u
step_unwoken setup u h below parked unwoken = step_is setup u h IsParked below (next_unwoken setup u h parked unwoken)

-- a name without a hart makes no event
pub step_beyond : (setup : Setup) (u : Machine) (h : ℕ) → nat_lt h setup.harts ≡ false → step setup u h ≡ u
step_beyond setup u h beyond = ap (λ b. if b then make setup u h (next_of setup u h) else u) beyond

-- the instruction of the hart that made a step
pub instruction-set : (u : Machine) (h : ℕ) (i : Instruction) (harts : List Instruction) (d : Instruction) → h < length u.harts → harts ≡ set u.harts h i → get_or harts h d ≡ i
instruction-set u h i harts d below e = let b : h < length u.harts = below in ap (λ (xs : List Instruction). get_or xs h d) e ∙ get_or-set_same u.harts h i d b

-- where an instruction is in its story
abbrev pub place_in : Setup → Instruction → Story
place_in setup i = goes (story setup i.state) i.replies

-- the instruction of a hart after it made an access, and after an end
pub instruction_after_access : (setup : Setup) (u : Machine) (h : ℕ) (access : Access) → h < setup.harts → h < length u.harts → next_of setup u h ≡ Asks access
    → instruction_at (step setup u h) h ≡ instruction_after (instruction_at u h) (Asks access) (reply_to setup u h access)
instruction_after_access setup u h access below within asks =
    ap (λ m. instruction_at m h) (step_is setup u h (Asks access) below asks)
    ∙ instruction-set u h (instruction_after (instruction_at u h) (Asks access) (reply_to setup u h access)) _ _ within refl

pub instruction_after_end : (setup : Setup) (u : Machine) (h : ℕ) (part : EndPart) (after : State) → h < setup.harts → h < length u.harts → want_of setup u h ≡ Ends part after
    → instruction_at (step setup u h) h ≡ instruction_from after
instruction_after_end setup u h part after below within ends =
    ap (λ m. instruction_at m h) (step_is setup u h (Ends part after) below (next_ends setup u h part after ends))
    ∙ instruction-set u h (instruction_from after) _ _ within refl

-- after its next event, where this is an access, the hart is at what follows the reply
story_after : (setup : Setup) (u : Machine) (h : ℕ) (access : Access) (s : Story) → h < setup.harts → h < length u.harts → next_of setup u h ≡ Asks access
    → story_of setup u h ≡ s → story_of setup (step setup u h) h ≡ after_one s (reply_to setup u h access)
story_after setup u h access s below within asks is =
    ap (place_in setup) (instruction_after_access setup u h access below within asks)
    ∙ goes_push (story setup (instruction_at u h).state) (instruction_at u h).replies (reply_to setup u h access)
    ∙ ap (λ t. after_one t (reply_to setup u h access)) is

-- after an access the hart is at what follows the reply
pub story_after_access : (setup : Setup) (u : Machine) (h : ℕ) (access : Access) (next : Reply → Story) → h < setup.harts → h < length u.harts → story_of setup u h ≡ Says access next
    → story_of setup (step setup u h) h ≡ next (reply_to setup u h access)
story_after_access setup u h access next below within says =
    story_after setup u h access (Says access next) below within (next_asks setup u h access (ap want says)) says

-- and a parked one that is woken at what follows its pulse
pub story_after_park : (setup : Setup) (u : Machine) (h : ℕ) (wakes : ℕ → Story) → h < setup.harts → h < length u.harts → story_of setup u h ≡ Parks wakes
    → is_woken_in setup u h ≡ true → story_of setup (step setup u h) h ≡ after_park wakes (reply_to setup u h (acc.Pulse false))
story_after_park setup u h wakes below within parks woken =
    story_after setup u h (acc.Pulse false) (Parks wakes) below within (next_woken setup u h (ap want parks) woken) parks

-- what a step comes to: nothing, or one more event of a hart that there is, which is no handover
pub data StepsTo (setup : Setup) (u : Machine) (h : ℕ) (v : Machine) : Type 0 where
  Stays : v ≡ u → StepsTo setup u h v
  Adds : (happened : What) → is_handover happened ≡ false → h < setup.harts → v.events ≡ u.events ++ does h happened ∷ []
      → length v.harts ≡ length u.harts → StepsTo setup u h v

make_steps : (setup : Setup) (u : Machine) (h : ℕ) (w : Want) → h < setup.harts → StepsTo setup u h (make setup u h w)
make_steps setup u h (Asks access) below =
    Adds (what.Acc access (reply_to setup u h access)) refl below refl (length-set u.harts h _)
make_steps setup u h (Ends part after) below = Adds (what.End part) refl below refl (length-set u.harts h _)
make_steps setup u h IsOver below = Stays refl
make_steps setup u h IsParked below = Stays refl

below_by : (h n : ℕ) → nat_lt h n ≡ true → h < n
below_by h n e = grind (arith, nat_tests, e)

steps_by : (setup : Setup) (u : Machine) (h : ℕ) (b : Bool) → nat_lt h setup.harts ≡ b
    → StepsTo setup u h (if b then make setup u h (next_of setup u h) else u)
steps_by setup u h true e = make_steps setup u h (next_of setup u h) (below_by h setup.harts e)
steps_by setup u h false e = Stays refl

pub step_steps : (setup : Setup) (u : Machine) (h : ℕ) → StepsTo setup u h (step setup u h)
step_steps setup u h = steps_by setup u h (nat_lt h setup.harts) refl

-- a step keeps the number of harts
pub length-step : (setup : Setup) (u : Machine) (h : ℕ) → length (step setup u h).harts ≡ length u.harts
length-step setup u h = elim (step_steps setup u h) [ Stays e ↦ ap (λ (m : Machine). length m.harts) e | Adds x plain below events same ↦ same ]

-- a step of one hart leaves the others where they are
make_other : (setup : Setup) (u : Machine) (h k : ℕ) (w : Want) → k ≢ h → instruction_at (make setup u h w) k ≡ instruction_at u k
make_other setup u h k (Asks access) other = get_or-set_other u.harts h k _ _ other
make_other setup u h k (Ends part after) other = get_or-set_other u.harts h k _ _ other
make_other setup u h k IsOver other = refl
make_other setup u h k IsParked other = refl

pub instruction_at-other : (setup : Setup) (u : Machine) (h k : ℕ) → k ≢ h → instruction_at (step setup u h) k ≡ instruction_at u k
instruction_at-other setup u h k other = elim (nat_lt h setup.harts) as (λ b. instruction_at (if b then make setup u h (next_of setup u h) else u) k ≡ instruction_at u k)
    [ true ↦ make_other setup u h k (next_of setup u h) other | false ↦ refl ]
