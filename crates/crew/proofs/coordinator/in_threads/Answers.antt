-- Each worker may run, and what a call left of it is what stands there now.
use Rattle.std.proofs.Common.{rules, ◌≡◌, length, sym, subst, slice_index_or}
use Rattle.crew.specs.Crews.{Berth, MayWork}
use Rattle.crew.proofs.Working.{same_worked}
use Rattle.crew.proofs.coordinator.in_threads.Goals as goal

pub for_each_mut-requires-clause-accepts : goal.for_each_mut-requires-clause-accepts
for_each_mut-requires-clause-accepts g c κs within = λ i p below is.
    let May : Berth → Type 0 = λ w. MayWork g.N.RunName.run w in
    (subst May (sym is) (c.requires.manned i p.now below), search rules)

pub returns : goal.returns
returns g c =
    let counted : length c.for_each_mut.new.s ≡ length c.args.workers.now = search rules in
    record {
      worked = record {
        counted = counted;
        each = λ i d below.
            let call = (c.for_each_mut.ensures i d below).1 in
            same_worked g.N.RunName.run (slice_index_or c.args.workers.now i d) (slice_index_or c.for_each_mut.new.s i d) _ _ call.argument_is call.left call.call;
      };
    }
