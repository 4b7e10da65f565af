use Rattle.std.proofs.Common.{◌≡◌, ℕ, ◌-◌, ◌++◌, [], ◌∷◌, append-nil, sym, ap, ◌∙◌}
use Rattle.std.specs.Prelude.{Vec, vec_capacity}
use Rattle.std.specs.declared.alloc.Global.{Global}
use Rattle.flex_base.specs.declared.event.Event.{Event}
use Rattle.journal.specs.Packing.{event_by, event_of, view_of, what_of}
use Rattle.journal.specs.declared.kept.Kept.{Kept}
use Rattle.journal.proofs.Packed.{pushed, more_beside, more_beside-beside, more_beside-small}
use Rattle.journal.specs.declared.hart_log.HartLog.TheInside.{Inside}
use Rattle.journal.proofs.hart_log.HartLog.push_parts.Goals as goal
use Rattle.journal.proofs.hart_log.HartLog.push_parts.Goals.{in-Beside, in_default}

pub returns : goal.returns
returns c =
    let parts = c.args.parts in
    let event : Event = record { number = c.args.number; hart = c.args.hart; engine = c.args.engine; what = what_of parts } in
    let n : ℕ = parts.last in
    let k : Kept = record {
      number = c.args.number;
      first = parts.first;
      second = parts.second;
      third = parts.third;
      hart = c.args.hart;
      engine = c.args.engine;
      kind = parts.kind;
      stop = parts.stop;
      last = c.of-last.result;
    } in
    let is : event_of k n ≡ event = ap (event_by k) c.of-last.ensures in
    let i = c.self.inside in
    let m = c.match-last.self-inside in
    let new = c.push_reserved-2.new.self.items in
    let from : (beside : m.beside.value.items ≡ i.beside.value.items ++ more_beside k n) (kept : m.kept ≡ i.kept)
    → view_of new m.beside.value.items (vec_capacity c.push_reserved-2.new.self) ≡ record { events = c.args.self.now.events ++ event ∷ []; room = c.args.self.now.room - 1 } =
    λ beside kept. ap (view_of new m.beside.value.items) (c.push_reserved-2.ensures.capacity ∙ ap (λ v. vec_capacity v) kept)
    ∙ pushed c.args.self.now event i.kept.items i.beside.value.items (vec_capacity i.kept) k n new m.beside.value.items c.self.view_is c.self.invariant.told is
    (c.push_reserved-2.ensures.items ∙ ap (λ v. v.items ++ k ∷ []) kept) beside in
    elim c.match-last.branch [
      | in-Beside w ↦
          from (ap (λ (x : Inside). x.beside.value.items) w.self-inside-is ∙ w.push_reserved.ensures.items ∙ ap (λ (v : Vec ℕ Global). v.items ++ n ∷ []) w.deref_mut.ensures.value ∙ ap (λ l. i.beside.value.items ++ l) (sym (more_beside-beside k n w.in-Beside.is)))
          (ap (λ (x : Inside). x.kept) w.self-inside-is)
      | in_default w ↦
          from (ap (λ (x : Inside). x.beside.value.items) w.self-inside-is ∙ sym (append-nil i.beside.value.items) ∙ ap (λ l. i.beside.value.items ++ l) (sym (more_beside-small k n w.in_default.not-Beside)))
          (ap (λ (x : Inside). x.kept) w.self-inside-is)
    ]
