-- The hart after an end stands for the state after it, which is fit.
use Rattle.std.proofs.Common.{◌≡◌, ℕ, ◌+◌, ◌<◌, Bool, true, ◌||◌, false, if◌then◌else◌, List, [], Option, ap, sym, subst, ◌∙◌, refl, arith}
use Rattle.flex_base.specs.Setup.{Setup}
use Rattle.flex_base.specs.Csrs.{AreFit}
use Rattle.flex_base.specs.Word.{wrap, is_multiple}
use Rattle.flex_base.specs.Translation.{AreLeaves}
use Rattle.flex_base.specs.State.{State, IsFit, IsReservation}
use Rattle.flex_base.specs.StoryTree.{Ends, Story, Says, Closes, StaysOver, Parks, want}
use Rattle.flex_base.specs.Story.{leaves_after}
use Rattle.flex_base.specs.Zicsr.{turns_satp}
use Rattle.flex_base.specs.declared.translation.Leaf.{Leaf}
use Rattle.flex_base.specs.declared.class.Class.{Class}
use Rattle.flex_base.specs.declared.event.EndPart.{EndPart}
use Rattle.flex_base.specs.declared.hart.Mode.{Mode}
use Rattle.hart_state.specs.IsLatest.{IsLatest}
use Rattle.flex_base.specs.declared.settings.Layout.{Layout}
use Rattle.hart_state.specs.declared.kept.Kept.{Kept}
use Rattle.hart_state.specs.declared.regs.Regs.{Regs}
use Rattle.hart_story.specs.Outcome.{outcome_of, is_end, IsSoundOutcome}
use Rattle.hart_story.specs.Progress.{CommitsTo, EndsWith}
use Rattle.hart_story.specs.StandsFor.{StandsFor}
use Rattle.hart_story.specs.declared.hart.Hart.{Hart}
use Rattle.hart_story.specs.declared.outcome.Outcome.{Outcome}
use Rattle.hart_story.specs.declared.outcome.Outcome.TheVariants as outcome

-- the state that an end leaves, where the results of the instruction stand in another
abbrev pub left_by : State → State → Bool → State
left_by a after due = record after { ends = a.ends + 1; due = due || is_multiple (a.ends + 1) 64 }

-- the registers that an end leaves
abbrev pub regs_left : ℕ → List ℕ → Mode → Option ℕ → ℕ → ℕ → Bool → Regs
regs_left pc x mode reservation before lines due = record {
  pc = pc;
  x = x;
  mode = mode;
  reservation = reservation;
  ends = before + 1;
  lines = lines;
  due = due || is_multiple (before + 1) 64;
}

pub ended : (setup : Setup) (a after : State) (hart : Hart) (pc : ℕ) (x : List ℕ) (mode : Mode) (reservation : Option ℕ) (before : ℕ) (due : Bool)
    → hart.regs ≡ regs_left pc x mode reservation before after.lines due → pc ≡ after.pc → x ≡ after.x → mode ≡ after.mode
    → reservation ≡ after.reservation → before ≡ a.ends → hart.csrs ≡ after.csrs → a.ends < setup.budget → is_multiple pc 4 ≡ true
    → IsReservation setup.ram after.reservation → AreFit setup.harts hart.csrs → IsLatest hart.kept after.leaves → AreLeaves after.leaves
    → StandsFor hart (left_by a after due) × IsFit setup.harts setup.ram setup.budget (left_by a after due)
ended setup a after hart pc x mode reservation before due regs pc_is x_is mode_is reservation_is ends_is csrs_is unspent aligned reserved fit kept leaves =
    let Fit : List ℕ → Type 0 = λ s. AreFit setup.harts s in (
      record {
        regs = record {
          pc = ap (λ (r : Regs). r.pc) regs ∙ pc_is;
          x = ap (λ (r : Regs). r.x) regs ∙ x_is;
          mode = ap (λ (r : Regs). r.mode) regs ∙ mode_is;
          reservation = ap (λ (r : Regs). r.reservation) regs ∙ reservation_is;
          ends = ap (λ (r : Regs). r.ends) regs ∙ ap (λ (n : ℕ). n + 1) ends_is;
          lines = ap (λ (r : Regs). r.lines) regs;
          due = ap (λ (r : Regs). r.due) regs ∙ ap (λ (n : ℕ). due || is_multiple (n + 1) 64) ends_is;
        };
        csrs = csrs_is;
        kept = kept;
      },
      record {
        aligned = sym (ap (λ (n : ℕ). is_multiple n 4) pc_is) ∙ aligned;
        within = omega (arith, unspent);
        reserved = reserved;
        csrs = subst Fit csrs_is fit;
        leaves = leaves;
      },
    )

-- the next instruction
pub next_aligned : (pc : ℕ) → is_multiple pc 4 ≡ true → is_multiple (wrap (pc + 4)) 4 ≡ true
next_aligned pc aligned = grind arith

leaves_by : (b : Bool) (leaves : List Leaf) → AreLeaves leaves → AreLeaves (if b then [] else leaves)
leaves_by true leaves are = tt
leaves_by false leaves are = are

pub leaves_after_are : (a : State) (number value : ℕ) → AreLeaves a.leaves → AreLeaves (leaves_after a number value)
leaves_after_are a number value are = leaves_by (turns_satp number value) a.leaves are

-- what is told of an end, by its parts
pub part_is : (class : Class) (pc pc_of next next_of first second second_of : ℕ) → pc ≡ pc_of → next ≡ next_of → second ≡ second_of
    → ◌≡◌ {A = EndPart} (record { class = class; pc = pc; next = next; first = first; second = second })
    (record { class = class; pc = pc_of; next = next_of; first = first; second = second_of })
part_is class pc pc_of next next_of first second second_of one two three =
    let By : ℕ → ℕ → ℕ → EndPart = λ p n s. record { class = class; pc = p; next = n; first = first; second = s } in
    ap (λ (n : ℕ). By n next second) one ∙ ap (λ (n : ℕ). By pc_of n second) two ∙ ap (λ (n : ℕ). By pc_of next_of n) three

-- an instruction that is at its end comes to one
pub comes_to_end : (a : State) (o : Outcome) (part : EndPart) (after : State) → want (outcome_of a o) ≡ Ends part after → is_end o ≡ true
comes_to_end a (outcome.End end) part after e = refl
comes_to_end a (outcome.Trap cause tval) part after e = refl
comes_to_end a (outcome.AskPending does rd rs1 number) part after e = absurd cc
comes_to_end a (outcome.AskTime does rd rs1 number) part after e = absurd cc
comes_to_end a (outcome.WriteCsr number rd old value) part after e = refl
comes_to_end a outcome.Mret part after e = refl
comes_to_end a outcome.Sret part after e = refl
comes_to_end a outcome.FenceMemory part after e = refl
comes_to_end a outcome.WaitPulse part after e = absurd cc
comes_to_end a (outcome.Wait mie) part after e = absurd cc
comes_to_end a outcome.Parked part after e = absurd cc

-- a story that closes so ends so
pub ends_with : (setup : Setup) (s : Story) (part : EndPart) (hart : Hart) → CommitsTo setup hart part s → EndsWith setup (want s) part hart
ends_with setup (Says access next) part hart committed = absurd committed
ends_with setup (Closes made after) part hart committed = record {
  after = after;
  ends = ap (λ (p : EndPart). Ends p after) (sym committed.0);
  stands = committed.1;
  fit = committed.2;
}
ends_with setup StaysOver part hart committed = absurd committed
ends_with setup (Parks wakes) part hart committed = absurd committed

-- what is sound of a hart is sound of it whatever translations it keeps
pub sound_kept : (layout : Layout) (hart : Hart) (kept : Kept) (o : Outcome) → IsSoundOutcome layout hart o
    → IsSoundOutcome layout (record hart { kept = kept }) o
sound_kept layout hart kept (outcome.End end) sound = record { register = sound.register; aligned = sound.aligned; reserved = sound.reserved }
sound_kept layout hart kept (outcome.Trap cause tval) sound = sound
sound_kept layout hart kept (outcome.AskPending does rd rs1 number) sound = sound
sound_kept layout hart kept (outcome.AskTime does rd rs1 number) sound = sound
sound_kept layout hart kept (outcome.WriteCsr number rd old value) sound = sound
sound_kept layout hart kept outcome.Mret sound = sound
sound_kept layout hart kept outcome.Sret sound = sound
sound_kept layout hart kept outcome.FenceMemory sound = sound
sound_kept layout hart kept outcome.WaitPulse sound = sound
sound_kept layout hart kept (outcome.Wait mie) sound = sound
sound_kept layout hart kept outcome.Parked sound = sound
