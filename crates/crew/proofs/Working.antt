-- What a run of one hart comes to, and of all harts of a worker.
use Rattle.std.proofs.Common.{◌≡◌, ℕ, zero, suc, ◌+◌, ◌-◌, ◌≤◌, List, [], ◌++◌, length, All, refl, sym, ap, ◌∙◌, subst, arith, inl, inr, slice_index_or, Option}
use Rattle.std.proofs.lemmas.Bool.{cases_lt}
use Rattle.std.proofs.lemmas.List.{length-append, get_or_append_left, get_or-append_right}
use Rattle.flex_base.specs.declared.event.What.{What}
use Rattle.flex_base.specs.declared.event.What.TheVariants as what
use Rattle.access_record.specs.Buses.{Run}
use Rattle.access_record.specs.Histories.{History}
use Rattle.context.specs.Contexts.{Context, IsOn, IsSame, ends_by}
use Rattle.context.specs.Runs.{Runs, HasRun}
use Rattle.crew.specs.Crews.{Berth, MayWork, HasWorked, WorkerHasWorked, AllHaveWorked, AreIdleFrom}

pub few_ends : (happened : What) → ends_by happened ≤ 1
few_ends (what.Acc access reply) = omega arith
few_ends (what.Handover to) = omega arith
few_ends (what.End part) = omega arith

-- no run makes more ends than leave so many
runs_leave : (run : Run) (least : ℕ) (before after : Option History) (n : ℕ) (old new : Context) → Runs run least before after n old new → least ≤ old.left → least ≤ new.left
runs_leave run least before after zero old new ran enough = omega (arith, ap (λ (c : Context). c.left) ran.same, enough)
runs_leave run least before after (suc n) old new ran enough =
    let step = ran.3 in
    let one : ran.2.left + ends_by step.happened ≡ old.left = step.left in
    runs_leave run least ran.1 after n ran.2 new ran.4 (omega (arith, ran.0, one, few_ends step.happened))

-- a run makes at most so many ends
pub run_worked : (run : Run) (most : ℕ) (before after : Option History) (old new : Context) → HasRun run before after most old new → new.engine ≡ old.engine → IsSame old new → IsOn run new → HasWorked run most old new
run_worked run most before after old new ran engine same on =
    let left : old.left - most ≤ new.left = runs_leave run (old.left - most) before after ran.events old new ran.runs (omega arith) in
    record { same = same; on = on; engine = engine; ends = omega (arith, left) }

-- what a call left of a worker is what stands there
pub same_worked : (run : Run) (old new was is : Berth) → was ≡ old → is ≡ new → WorkerHasWorked run was is → WorkerHasWorked run old new
same_worked run old new was is first last worked =
    let Worked : Berth × Berth → Type 0 = λ p. WorkerHasWorked run p.0 p.1 in
    subst Worked (λ i. (first i, last i)) worked

-- the first workers may run where all may
pub first_may : (run : Run) (workers first rest : List Berth) → workers ≡ first ++ rest → All (λ w. MayWork run w) workers → All (λ w. MayWork run w) first
first_may run workers first rest parts may = λ k d below.
    let May : List Berth → Type 0 = λ ws. All (λ w. MayWork run w) ws in
    let At : Berth → Type 0 = λ w. MayWork run w in
    subst At (get_or_append_left first rest d k below) (subst May parts may k d (omega (arith, below, length-append first rest)))

-- who holds no hart has run all that it holds
idle_worked : (run : Run) (w : Berth) → w.contexts ≡ [] → WorkerHasWorked run w w
idle_worked run w none = record {
  engine = refl;
  room = refl;
  worked = record { counted = refl; each = λ place other below. absurd (omega (arith, below, ap length none)) };
}

-- the first workers have run, and those after them hold no hart
pub rest_idle : (run : Run) (workers first rest new : List Berth) (count : ℕ) → workers ≡ first ++ rest → length first ≡ count → AllHaveWorked run first new
    → AreIdleFrom count workers → AllHaveWorked run workers (new ++ rest)
rest_idle run workers first rest new count parts counted worked idle =
    let size : length workers ≡ length first + length rest = ap length parts ∙ length-append first rest in
    record {
      counted = omega (arith, size, worked.counted, length-append new rest);
      each = λ k d below.
          let Worked : Berth × Berth → Type 0 = λ p. WorkerHasWorked run p.0 p.1 in
          elim (cases_lt k (length first)) [
            | inl early ↦
                let was : slice_index_or workers k d ≡ slice_index_or first k d = ap (λ ws. slice_index_or ws k d) parts ∙ get_or_append_left first rest d k early in
                let is : slice_index_or (new ++ rest) k d ≡ slice_index_or new k d = get_or_append_left new rest d k (omega (arith, early, worked.counted)) in
                subst Worked (λ i. (sym was i, sym is i)) (worked.each k d early)
            | inr late ↦
                let was : slice_index_or workers k d ≡ slice_index_or rest (k - length first) d = ap (λ ws. slice_index_or ws k d) parts ∙ get_or-append_right first rest (length first) k d refl late in
                let is : slice_index_or (new ++ rest) k d ≡ slice_index_or rest (k - length first) d = get_or-append_right new rest (length first) k d worked.counted late in
                let To : Berth → Type 0 = λ w. WorkerHasWorked run (slice_index_or workers k d) w in
                subst To (was ∙ sym is) (idle_worked run (slice_index_or workers k d) (idle k d (omega (arith, late, counted)) below))
          ];
    }
