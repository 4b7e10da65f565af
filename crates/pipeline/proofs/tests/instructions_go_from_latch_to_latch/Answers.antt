-- Each hart that is enrolled is held or has its pass among those that are kept, so at last all passes are there.
use Rattle.std.proofs.Common.{rules, arith, ◌≡◌, ℕ, ◌≤◌, List, [], ◌∷◌, length, ap, sym, ◌∙◌, subst}
use Rattle.std.specs.Prelude.{vec_len, vec_capacity}
use Rattle.flex_base.specs.declared.engine.Engine.TheVariants as engine
use Rattle.access_record.specs.Passes.{EachHasPass, Enrolment}
use Rattle.access_record.specs.Buses.{Run}
use Rattle.mem_banks.specs.End.{IsMemoryOf, IsFounderOf}
use Rattle.pipeline.specs.Pipes.{AreOn}
use Rattle.pipeline.proofs.Trying.{kept_nobody, kept_same, kept_none, no_length}
use Rattle.pipeline.proofs.tests.instructions_go_from_latch_to_latch.Goals as goal

pub drain_one-requires : goal.drain_one-requires
drain_one-requires g c =
    let run = c.in-Ok-new-2.bus.run in
    let no_hart : c.in-Ok-new.pipe.held ≡ [] = c.in-Ok-new.ensures.empty in
    let no_pass : c.in_ok-passes.passes.items ≡ [] = c.in_ok-passes.ensures.items in
    let nobody = kept_nobody run c.in-Ok-new.pipe.held c.in_ok-passes.passes.items no_hart no_pass in
    let at_leave = c.leave.ensures.kept run [] nobody in
    let room : 2 ≤ vec_capacity c.in_ok-passes.passes = c.in_ok-passes.ensures.capacity in
    let count : vec_len c.leave.new.passes ≡ length c.leave.new.passes.items = search rules in
    let kept = at_leave.count in
    record { room = omega (arith, count, kept, room, c.leave.ensures.room) }

pub begin-founder-requires-clause-fetches : goal.begin-founder-requires-clause-fetches
begin-founder-requires-clause-fetches g c =
    let is : c.engine_for.result ≡ engine.Pipe = search rules in
    sym (c.engine_for.ensures.engine 0) ∙ is

pub begin-founder-requires-2-clause-fetches : goal.begin-founder-requires-2-clause-fetches
begin-founder-requires-2-clause-fetches g c =
    let is : c.engine_for.result ≡ engine.Pipe = search rules in
    sym (c.engine_for.ensures.engine 0) ∙ is

pub begin-founder-requires-clause-few : goal.begin-founder-requires-clause-few
begin-founder-requires-clause-few g c =
    let run = c.in-Ok-new-2.bus.run in
    let no_hart : c.in-Ok-new.pipe.held ≡ [] = c.in-Ok-new.ensures.empty in
    let no_pass : c.in_ok-passes.passes.items ≡ [] = c.in_ok-passes.ensures.items in
    let nobody = kept_nobody run c.in-Ok-new.pipe.held c.in_ok-passes.passes.items no_hart no_pass in
    let at_leave = c.leave.ensures.kept run [] nobody in
    let at_drain = c.drain_one.ensures.kept run [] at_leave in
    let kept = at_drain.count in
    omega (arith, kept)

pub begin-founder-requires-2-clause-few : goal.begin-founder-requires-2-clause-few
begin-founder-requires-2-clause-few g c =
    let run = c.in-Ok-new-2.bus.run in
    let no_hart : c.in-Ok-new.pipe.held ≡ [] = c.in-Ok-new.ensures.empty in
    let no_pass : c.in_ok-passes.passes.items ≡ [] = c.in_ok-passes.ensures.items in
    let nobody = kept_nobody run c.in-Ok-new.pipe.held c.in_ok-passes.passes.items no_hart no_pass in
    let at_leave = c.leave.ensures.kept run [] nobody in
    let at_drain = c.drain_one.ensures.kept run [] at_leave in
    let at_first = c.begin-founder.ensures.kept [] c.drain_one.new.passes.items at_drain in
    let kept = at_first.count in
    omega (arith, kept)

pub play-right-requires : goal.play-right-requires
play-right-requires g c =
    let run = c.in-Ok-new-2.bus.run in
    let no_hart : c.in-Ok-new.pipe.held ≡ [] = c.in-Ok-new.ensures.empty in
    let no_pass : c.in_ok-passes.passes.items ≡ [] = c.in_ok-passes.ensures.items in
    let nobody = kept_nobody run c.in-Ok-new.pipe.held c.in_ok-passes.passes.items no_hart no_pass in
    let at_leave = c.leave.ensures.kept run [] nobody in
    let at_drain = c.drain_one.ensures.kept run [] at_leave in
    let at_first = c.begin-founder.ensures.kept [] c.drain_one.new.passes.items at_drain in
    let at_both = c.begin-founder-2.ensures.kept (0 ∷ []) c.drain_one.new.passes.items at_first in
    record { on = at_both.on }

pub leave-left-requires : goal.leave-left-requires
leave-left-requires g c =
    let run = c.in-Ok-new-2.bus.run in
    let no_hart : c.in-Ok-new.pipe.held ≡ [] = c.in-Ok-new.ensures.empty in
    let no_pass : c.in_ok-passes.passes.items ≡ [] = c.in_ok-passes.ensures.items in
    let nobody = kept_nobody run c.in-Ok-new.pipe.held c.in_ok-passes.passes.items no_hart no_pass in
    let at_leave = c.leave.ensures.kept run [] nobody in
    let at_drain = c.drain_one.ensures.kept run [] at_leave in
    let at_first = c.begin-founder.ensures.kept [] c.drain_one.new.passes.items at_drain in
    let at_both = c.begin-founder-2.ensures.kept (0 ∷ []) c.drain_one.new.passes.items at_first in
    let after = c.begin-founder-2.new.bus.run in
    let harts : List ℕ = 1 ∷ 0 ∷ [] in
    let played = kept_same after harts c.begin-founder-2.new.pipe.held c.play-right.new.pipe.held c.drain_one.new.passes.items c.play-right.ensures.same c.play-right.ensures.on at_both in
    let On : Run → Type 0 = λ r. AreOn r c.cycles-more.new.pipe.held in
    let on : AreOn after c.cycles-more.new.pipe.held = subst On c.play-right.ensures.bus c.cycles-more.ensures.on in
    let cycled = kept_same after harts c.play-right.new.pipe.held c.cycles-more.new.pipe.held c.drain_one.new.passes.items c.cycles-more.ensures.same on played in
    let room : 2 ≤ vec_capacity c.in_ok-passes.passes = c.in_ok-passes.ensures.capacity in
    let count : vec_len c.drain_one.new.passes ≡ length c.drain_one.new.passes.items = search rules in
    let kept = cycled.count in
    record { room = omega (arith, count, kept, room, c.leave.ensures.room, c.drain_one.ensures.room) }

pub drain_one-last-requires : goal.drain_one-last-requires
drain_one-last-requires g c =
    let run = c.in-Ok-new-2.bus.run in
    let no_hart : c.in-Ok-new.pipe.held ≡ [] = c.in-Ok-new.ensures.empty in
    let no_pass : c.in_ok-passes.passes.items ≡ [] = c.in_ok-passes.ensures.items in
    let nobody = kept_nobody run c.in-Ok-new.pipe.held c.in_ok-passes.passes.items no_hart no_pass in
    let at_leave = c.leave.ensures.kept run [] nobody in
    let at_drain = c.drain_one.ensures.kept run [] at_leave in
    let at_first = c.begin-founder.ensures.kept [] c.drain_one.new.passes.items at_drain in
    let at_both = c.begin-founder-2.ensures.kept (0 ∷ []) c.drain_one.new.passes.items at_first in
    let after = c.begin-founder-2.new.bus.run in
    let harts : List ℕ = 1 ∷ 0 ∷ [] in
    let played = kept_same after harts c.begin-founder-2.new.pipe.held c.play-right.new.pipe.held c.drain_one.new.passes.items c.play-right.ensures.same c.play-right.ensures.on at_both in
    let On : Run → Type 0 = λ r. AreOn r c.cycles-more.new.pipe.held in
    let on : AreOn after c.cycles-more.new.pipe.held = subst On c.play-right.ensures.bus c.cycles-more.ensures.on in
    let cycled = kept_same after harts c.play-right.new.pipe.held c.cycles-more.new.pipe.held c.drain_one.new.passes.items c.cycles-more.ensures.same on played in
    let left = c.leave-left.ensures.kept after harts cycled in
    let room : 2 ≤ vec_capacity c.in_ok-passes.passes = c.in_ok-passes.ensures.capacity in
    let count : vec_len c.leave-left.new.passes ≡ length c.leave-left.new.passes.items = search rules in
    let kept = left.count in
    record { room = omega (arith, count, kept, room, c.leave.ensures.room, c.drain_one.ensures.room, c.leave-left.ensures.room) }

pub drain_one-none-requires : goal.drain_one-none-requires
drain_one-none-requires g c =
    let run = c.in-Ok-new-2.bus.run in
    let no_hart : c.in-Ok-new.pipe.held ≡ [] = c.in-Ok-new.ensures.empty in
    let no_pass : c.in_ok-passes.passes.items ≡ [] = c.in_ok-passes.ensures.items in
    let nobody = kept_nobody run c.in-Ok-new.pipe.held c.in_ok-passes.passes.items no_hart no_pass in
    let at_leave = c.leave.ensures.kept run [] nobody in
    let at_drain = c.drain_one.ensures.kept run [] at_leave in
    let at_first = c.begin-founder.ensures.kept [] c.drain_one.new.passes.items at_drain in
    let at_both = c.begin-founder-2.ensures.kept (0 ∷ []) c.drain_one.new.passes.items at_first in
    let after = c.begin-founder-2.new.bus.run in
    let harts : List ℕ = 1 ∷ 0 ∷ [] in
    let played = kept_same after harts c.begin-founder-2.new.pipe.held c.play-right.new.pipe.held c.drain_one.new.passes.items c.play-right.ensures.same c.play-right.ensures.on at_both in
    let On : Run → Type 0 = λ r. AreOn r c.cycles-more.new.pipe.held in
    let on : AreOn after c.cycles-more.new.pipe.held = subst On c.play-right.ensures.bus c.cycles-more.ensures.on in
    let cycled = kept_same after harts c.play-right.new.pipe.held c.cycles-more.new.pipe.held c.drain_one.new.passes.items c.cycles-more.ensures.same on played in
    let left = c.leave-left.ensures.kept after harts cycled in
    let last = c.drain_one-last.ensures.kept after harts left in
    let room : 2 ≤ vec_capacity c.in_ok-passes.passes = c.in_ok-passes.ensures.capacity in
    let count : vec_len c.drain_one-last.new.passes ≡ length c.drain_one-last.new.passes.items = search rules in
    let kept = last.count in
    record { room = omega (arith, count, kept, room, c.leave.ensures.room, c.drain_one.ensures.room, c.leave-left.ensures.room, c.drain_one-last.ensures.room) }

pub discard-requires-2 : goal.discard-requires-2
discard-requires-2 g c =
    let run = c.in-Ok-new-2.bus.run in
    let no_hart : c.in-Ok-new.pipe.held ≡ [] = c.in-Ok-new.ensures.empty in
    let no_pass : c.in_ok-passes.passes.items ≡ [] = c.in_ok-passes.ensures.items in
    let nobody = kept_nobody run c.in-Ok-new.pipe.held c.in_ok-passes.passes.items no_hart no_pass in
    let at_leave = c.leave.ensures.kept run [] nobody in
    let at_drain = c.drain_one.ensures.kept run [] at_leave in
    let at_first = c.begin-founder.ensures.kept [] c.drain_one.new.passes.items at_drain in
    let at_both = c.begin-founder-2.ensures.kept (0 ∷ []) c.drain_one.new.passes.items at_first in
    let after = c.begin-founder-2.new.bus.run in
    let harts : List ℕ = 1 ∷ 0 ∷ [] in
    let played = kept_same after harts c.begin-founder-2.new.pipe.held c.play-right.new.pipe.held c.drain_one.new.passes.items c.play-right.ensures.same c.play-right.ensures.on at_both in
    let On : Run → Type 0 = λ r. AreOn r c.cycles-more.new.pipe.held in
    let on : AreOn after c.cycles-more.new.pipe.held = subst On c.play-right.ensures.bus c.cycles-more.ensures.on in
    let cycled = kept_same after harts c.play-right.new.pipe.held c.cycles-more.new.pipe.held c.drain_one.new.passes.items c.cycles-more.ensures.same on played in
    let left = c.leave-left.ensures.kept after harts cycled in
    let kept = left.count in
    let gone : c.drain_one-none.new.pipe.held ≡ [] =
    no_length c.drain_one-none.new.pipe.held (omega (arith, kept, c.drain_one-last.ensures.fewer, c.drain_one-none.ensures.fewer)) in
    record { none = gone }

pub settle-closed-requires : goal.settle-closed-requires
settle-closed-requires g c =
    let run = c.in-Ok-new-2.bus.run in
    let no_hart : c.in-Ok-new.pipe.held ≡ [] = c.in-Ok-new.ensures.empty in
    let no_pass : c.in_ok-passes.passes.items ≡ [] = c.in_ok-passes.ensures.items in
    let nobody = kept_nobody run c.in-Ok-new.pipe.held c.in_ok-passes.passes.items no_hart no_pass in
    let at_leave = c.leave.ensures.kept run [] nobody in
    let at_drain = c.drain_one.ensures.kept run [] at_leave in
    let at_first = c.begin-founder.ensures.kept [] c.drain_one.new.passes.items at_drain in
    let at_both = c.begin-founder-2.ensures.kept (0 ∷ []) c.drain_one.new.passes.items at_first in
    let after = c.begin-founder-2.new.bus.run in
    let harts : List ℕ = 1 ∷ 0 ∷ [] in
    let played = kept_same after harts c.begin-founder-2.new.pipe.held c.play-right.new.pipe.held c.drain_one.new.passes.items c.play-right.ensures.same c.play-right.ensures.on at_both in
    let On : Run → Type 0 = λ r. AreOn r c.cycles-more.new.pipe.held in
    let on : AreOn after c.cycles-more.new.pipe.held = subst On c.play-right.ensures.bus c.cycles-more.ensures.on in
    let cycled = kept_same after harts c.play-right.new.pipe.held c.cycles-more.new.pipe.held c.drain_one.new.passes.items c.cycles-more.ensures.same on played in
    let left = c.leave-left.ensures.kept after harts cycled in
    let last = c.drain_one-last.ensures.kept after harts left in
    let none = c.drain_one-none.ensures.kept after harts last in
    let kept = left.count in
    let gone : c.drain_one-none.new.pipe.held ≡ [] =
    no_length c.drain_one-none.new.pipe.held (omega (arith, kept, c.drain_one-last.ensures.fewer, c.drain_one-none.ensures.fewer)) in
    let founder = c.begin-founder-2.result in
    let Harts : Enrolment → List ℕ = λ r. r.harts in
    let Banks : Enrolment → List ℕ = λ r. r.banks in
    let FromFirst : List ℕ → List ℕ = λ l. 0 ∷ l in
    let FromOther : List ℕ → List ℕ = λ l. 1 ∷ l in
    let first_is = c.begin-founder.ensures.founder in
    let other_is = c.begin-founder-2.ensures.founder in
    let enrolled : founder.harts ≡ harts =
    ap Harts other_is ∙ ap FromOther (ap Harts first_is ∙ ap FromFirst c.in-Ok-new-2.ensures.harts) in
    let same_run : after ≡ run = c.begin-founder-2.ensures.same ∙ c.begin-founder.ensures.same in
    let Founds : Run → Type 0 = λ r. IsFounderOf r founder in
    let founds : IsFounderOf run founder = record {
      id = ap (λ (r : Enrolment). r.id) other_is ∙ ap (λ (r : Enrolment). r.id) first_is ∙ c.in-Ok-new-2.ensures.founder.id;
      banks = ap Banks other_is ∙ ap Banks first_is ∙ c.in-Ok-new-2.ensures.founder.banks;
    } in
    let at_last : c.cycles-more.new.bus.run ≡ after = c.cycles-more.ensures.bus ∙ c.play-right.ensures.bus in
    let Of : Run → Type 0 = λ r. IsMemoryOf r c.dissolve-end.result in
    let Each : List ℕ → Type 0 = λ l. EachHasPass l c.drain_one-none.new.passes.items in
    record {
      of_run = (
        after,
        record {
          of_run = subst Of at_last c.dissolve-end.ensures.memory;
          founder_is = subst Founds (sym same_run) founds;
          ids = none.ids;
          harts = subst Each (sym enrolled) (kept_none after harts c.drain_one-none.new.pipe.held c.drain_one-none.new.passes.items gone none);
        },
      );
    }
