-- The first workers may run, and those after them hold no hart.
use Rattle.crew.proofs.Working.{first_may, rest_idle}
use Rattle.crew.proofs.coordinator.side_by_side.Goals as goal

pub in_threads-requires-clause-manned : goal.in_threads-requires-clause-manned
in_threads-requires-clause-manned g c κs within =
    let cut = c.split_at_mut-first.ensures in
    first_may g.N.RunName.run c.args.workers.now c.split_at_mut-first.result.0.now c.split_at_mut-first.result.1.now cut.value c.requires.manned

pub returns : goal.returns
returns g c =
    let cut = c.split_at_mut-first.ensures in
    record {
      worked = rest_idle g.N.RunName.run c.args.workers.now c.split_at_mut-first.result.0.now c.split_at_mut-first.result.1.now c.in_threads.new.workers
          c.up_to_last_busy-count.result cut.value cut.front_len c.in_threads.ensures.worked c.up_to_last_busy-count.ensures.idle;
    }
