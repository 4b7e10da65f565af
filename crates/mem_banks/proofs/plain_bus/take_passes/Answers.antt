use Rattle.std.proofs.Common.{rules, arith, ◌≡◌, ◌-◌, ◌<◌, suc, None, Some, ◌++◌, ◌∷◌, [], ap, ◌∙◌}
use Rattle.std.specs.Prelude.{vec_len, slice_index_or}
use Rattle.mem_banks.specs.End.{passes_down}
use Rattle.mem_banks.proofs.Ending.{held_take, take_step}
use Rattle.mem_banks.proofs.plain_bus.take_passes.Goals as goal

pub loop-slot-preserved : goal.loop-slot-preserved
loop-slot-preserved c =
    let old = c.loop-slot.slots.items in
    let len = vec_len c.loop-slot.slots in
    let m = len - 1 in
    let some : 0 < len = search rules in
    let p = c.in-Some-slot.pass in
    let here : slice_index_or old m None ≡ Some p = cc (c.pop.ensures.value None some, c.in-Some.is, c.in-Some-slot.is) in
    let one : len ≡ suc m = omega (arith, some) in
    let fewer : vec_len c.pop.new.self ≡ m = search rules in (
      held_take old c.pop.new.self.items m c.loop-slot.invariant.0 (search rules) c.pop.ensures.rest,
      search rules,
      ap (λ room. room ++ passes_down c.pop.new.self.items (vec_len c.pop.new.self)) c.push_reserved.ensures.items
          ∙ ap (λ n. (c.loop-slot.room.items ++ p ∷ []) ++ passes_down c.pop.new.self.items n) fewer
          ∙ take_step old c.pop.new.self.items c.loop-slot.room.items (passes_down c.args.slots.items (vec_len c.args.slots)) m len p one c.pop.ensures.rest here c.loop-slot.invariant.2,
    )
