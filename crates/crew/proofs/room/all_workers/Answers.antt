use Rattle.std.proofs.Common.{rules, arith, ◌≡◌, ◌∙◌}
use Rattle.crew.specs.Crews.{count_by}
use Rattle.crew.proofs.Manning.{none_yet, one_more, all_of_them}
use Rattle.crew.proofs.room.all_workers.Goals as goal

pub loop-number-init : goal.loop-number-init
loop-number-init c = (
  none_yet c.args.plan c.args.room c.in_ok-workers.workers.items (search rules),
  search rules,
  search rules,
  search rules,
)

pub discard_all-requires : goal.discard_all-requires
discard_all-requires c = record { none = c.loop-number.invariant.0.none }

pub loop-number-preserved : goal.loop-number-preserved
loop-number-preserved c = (
  one_more c.args.plan c.args.room c.loop-number.number c.loop-number.workers.items c.push_reserved.new.self.items c.in-Ok.worker c.push_reserved.ensures.items
      c.loop-number.invariant.0 (c.in-Ok.ensures.engine ∙ c.engine_of-engine.ensures) c.in-Ok.ensures.none c.in-Ok.ensures.room,
  search rules,
  search rules,
  search rules,
)

pub returns : goal.returns
returns c =
    let end : c.loop-number.number ≡ count_by c.args.plan = omega (arith, c.loop-number-test.false, c.loop-number.invariant.2, c.loop-number.invariant.3) in
    all_of_them c.args.plan c.args.room c.loop-number.number c.loop-number.workers.items end c.loop-number.invariant.0
