-- A hart at the beginning of an instruction is in a story, in a run of its layout and budget.
use Rattle.std.proofs.Common.{◌≡◌, ℕ, List, [], refl, sym, ap, subst}
use Rattle.flex_base.specs.Word.{is_multiple}
use Rattle.flex_base.specs.Setup.{Setup}
use Rattle.flex_base.specs.Limits.{mebibyte}
use Rattle.flex_base.specs.State.{State, IsFit}
use Rattle.flex_base.specs.Translation.{AreLeaves}
use Rattle.flex_base.specs.Unsplit.{instruction_from}
use Rattle.flex_base.specs.declared.settings.Layout.{Layout}
use Rattle.flex_base.specs.declared.translation.Leaf.{Leaf}
use Rattle.hart_state.specs.IsLatest.{IsLatest}
use Rattle.hart_state.specs.declared.kept.Kept.{Kept}
use Rattle.hart_story.specs.CanBegin.{AreKept}
use Rattle.hart_story.specs.StandsFor.{StandsFor}
use Rattle.hart_story.specs.Progress.{IsIn, IsSoundProgress, begun, node}
use Rattle.hart_story.specs.declared.hart.Hart.{Hart}
use Rattle.hart_story.specs.declared.progress.Progress.{Progress}

abbrev pub setup_of : Layout → ℕ → Setup
setup_of layout budget = record { image = record { entry = 0; parts = [] }; harts = layout.harts; ram = layout.ram; budget = budget; input = [] }

-- the layout of the tests: four harts in 1 MiB of RAM
abbrev pub small : Layout
small = record { harts = 4; ram = 1048576 }

-- the state that the hart is in, where it has found these leaves
pub state_of : Hart → List Leaf → State
state_of hart leaves = record {
  pc = hart.regs.pc;
  x = hart.regs.x;
  mode = hart.regs.mode;
  reservation = hart.regs.reservation;
  ends = hart.regs.ends;
  lines = hart.regs.lines;
  due = hart.regs.due;
  csrs = hart.csrs;
  leaves = leaves;
}

pub is_there : (hart : Hart) (leaves : List Leaf) → IsLatest hart.kept leaves → StandsFor hart (state_of hart leaves)
unfolding state_of
is_there hart leaves latest = record {
  regs = record { pc = refl; x = refl; mode = refl; reservation = refl; ends = refl; lines = refl; due = refl };
  csrs = refl;
  kept = latest;
}

-- the leaves that a hart has found
pub record HasLeaves (kept : Kept) : Type 0 where
  pub leaves : List Leaf
  pub latest : IsLatest kept leaves
  pub are : AreLeaves leaves

pub leaves_in : (kept : Kept) → AreKept kept → HasLeaves kept
unfolding AreKept
leaves_in kept (leaves, latest, are) = record { leaves = leaves; latest = latest; are = are }

pub are_kept : (kept : Kept) (leaves : List Leaf) → IsLatest kept leaves → AreLeaves leaves → AreKept kept
unfolding AreKept
are_kept kept leaves latest are = (leaves, latest, are)

fit_leaves : (hart : Hart) (found : HasLeaves hart.kept) → AreLeaves (state_of hart found.leaves).leaves
unfolding state_of
fit_leaves hart found = found.are

pub begun_in : (hart : Hart) (p : Progress) (layout : Layout) (budget : ℕ) (found : HasLeaves hart.kept) → p ≡ begun → layout ≡ small
    → ((a : State) → StandsFor hart a → AreLeaves a.leaves → IsFit 4 1048576 budget a)
    → IsIn (setup_of layout budget) (instruction_from (state_of hart found.leaves)) hart p layout budget
begun_in hart p layout budget found begins is all_fit =
    let a = state_of hart found.leaves in
    let stands = is_there hart found.leaves found.latest in
    let fit = all_fit a stands (fit_leaves hart found) in
    let Sound : Progress → Type 0 = λ q. IsSoundProgress layout hart q in
    let Fit : Layout → Type 0 = λ l. IsFit l.harts l.ram budget a in
    let sound : Sound begun = record { stage = tt; found = tt } in
    record {
      of = record { harts = refl; ram = refl; budget_is = refl; whole = ap (λ (l : Layout). is_multiple l.ram mebibyte) is };
      stands = stands;
      fit = subst Fit (sym is) fit;
      reached = sym (ap (node (setup_of layout budget) a) begins);
      sound = subst Sound (sym begins) sound;
    }
