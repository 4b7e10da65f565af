-- What a hart shows in the middle of its instruction.
use Rattle.std.proofs.Common.{◌≡◌, ℕ, ◌%◌, true, List, [], ◌∷◌, ◌++◌, length, refl, ap, sym, subst, ◌∙◌, arith, append-nil, ◌==◌, if◌then◌else◌}
use Rattle.std.proofs.lemmas.List.{length_push}
use Rattle.flex_base.specs.Word.{is_multiple}
use Rattle.flex_base.specs.Setup.{Setup}
use Rattle.flex_base.specs.State.{State}
use Rattle.flex_base.specs.Translation.{AreLeaves}
use Rattle.flex_base.specs.declared.translation.Leaf.{Leaf}
use Rattle.hart_story.specs.Found.{Sees, first_of, second_of, leaves_of, state_at}
use Rattle.hart_story.specs.Progress.{node_at}
use Rattle.hart_story.specs.Stage.{stage_of, has_begun}
use Rattle.hart_story.specs.StandsFor.{StandsFor, Shows}
use Rattle.hart_story.specs.declared.found.Found.{Found}
use Rattle.hart_story.specs.declared.hart.Hart.{Hart}
use Rattle.hart_story.specs.declared.stage.Stage.{Stage}
use Rattle.hart_story.specs.declared.stage.Stage.TheVariants as stage

-- whatever lines the last pulse told, and whatever walks have found
pub shows : (hart : Hart) (a : State) (lines : ℕ) (leaves : List Leaf) → StandsFor hart a
    → Shows hart (record a { lines = lines; leaves = leaves })
shows hart a lines leaves stands = record {
  regs = record {
    pc = stands.regs.pc;
    x = stands.regs.x;
    mode = stands.regs.mode;
    reservation = stands.regs.reservation;
    ends = stands.regs.ends;
    lines = refl;
    due = stands.regs.due;
  };
  csrs = stands.csrs;
}

pub shows_with : (hart : Hart) (a : State) (leaves : List Leaf) → Shows hart a → Shows hart (record a { leaves = leaves })
shows_with hart a leaves shown = record {
  regs = record {
    pc = shown.regs.pc;
    x = shown.regs.x;
    mode = shown.regs.mode;
    reservation = shown.regs.reservation;
    ends = shown.regs.ends;
    lines = refl;
    due = shown.regs.due;
  };
  csrs = shown.csrs;
}

pub leaves_append : (leaves more : List Leaf) → AreLeaves leaves → AreLeaves more → AreLeaves (leaves ++ more)
leaves_append [] more are too = too
leaves_append (leaf ∷ leaves) more are too = (are.0, leaves_append leaves more are.1 too)

-- what a hart that stands for a state sees of it
pub sees : (hart : Hart) (a : State) (lines : ℕ) (found : Found) → StandsFor hart a → AreLeaves a.leaves → AreLeaves (leaves_of found)
    → Sees hart found (state_at a lines found)
sees hart a lines found stands fit leaves = record {
  shows = shows hart a lines (a.leaves ++ leaves_of found) stands;
  before = a.leaves;
  latest = stands.kept;
  leaves = refl;
  fit = leaves_append a.leaves (leaves_of found) fit leaves;
}

pub leaves_none : (found : Found) → found.count ≡ 0 → leaves_of found ≡ []
leaves_none found none =
    ap (λ n. if n == 0 then [] else (if n == 1 then first_of found ∷ [] else first_of found ∷ second_of found ∷ [])) none

pub are_none : (found : Found) → found.count ≡ 0 → AreLeaves (leaves_of found)
are_none found none = let Are : List Leaf → Type 0 = λ ls. AreLeaves ls in subst Are (sym (leaves_none found none)) tt

-- where nothing has been found
pub state_none : (a : State) (lines : ℕ) (found : Found) → found.count ≡ 0 → state_at a lines found ≡ record a { lines = lines }
state_none a lines found none =
    ap (λ ls. record a { lines = lines; leaves = ls }) (ap (λ ls. a.leaves ++ ls) (leaves_none found none) ∙ append-nil a.leaves)

-- what the hart sees then
pub sees_none : (hart : Hart) (a : State) (lines : ℕ) (found : Found) → StandsFor hart a → AreLeaves a.leaves → found.count ≡ 0
    → Sees hart found (record a { lines = lines })
sees_none hart a lines found stands fit none =
    let Sees_it : State → Type 0 = λ b. Sees hart found b in
    subst Sees_it (state_none a lines found none) (sees hart a lines found stands fit (are_none found none))

-- a list isn't one with an element more
pub not_longer : (leaves : List Leaf) (leaf : Leaf) → leaves ++ leaf ∷ [] ≡ leaves → ⊥
not_longer leaves leaf e = let one = ap length e in absurd (omega (arith, sym (length_push leaves leaf) ∙ one))

pub node_begun : (setup : Setup) (a : State) (lines : ℕ) (found : Found) (here : Stage) → has_begun here ≡ true
    → node_at setup a lines found here ≡ stage_of setup (state_at a lines found) here
node_begun setup a lines found stage.Begun e = absurd cc
node_begun setup a lines found (stage.FetchWalk walk) e = refl
node_begun setup a lines found (stage.Fetch address) e = refl
node_begun setup a lines found (stage.AccessWalk walk work) e = refl
node_begun setup a lines found (stage.Access address work) e = refl
node_begun setup a lines found (stage.Device address work) e = refl
node_begun setup a lines found (stage.Working made) e = refl
node_begun setup a lines found stage.Over e = refl

-- a physical address has the place in its page of the virtual one
pub aligned_in_page : (address va : ℕ) → address % 4096 ≡ va % 4096 → is_multiple va 4 ≡ true → is_multiple address 4 ≡ true
aligned_in_page address va same aligned = grind (arith, same, aligned)
