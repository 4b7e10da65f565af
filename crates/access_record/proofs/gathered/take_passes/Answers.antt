use Rattle.std.proofs.Common.{ap, sym, refl, rules, append-nil, []}
use Rattle.atomic_table.specs.Table.{Me}
use Rattle.access_record.specs.declared.view.View.{View}
use Rattle.access_record.specs.Passes.{PassOfHart, view_of_pass}
use Rattle.access_record.proofs.Taking.{takes_pass}
use Rattle.access_record.proofs.gathered.take_passes.Goals as goal

pub loop-pass-init : goal.loop-pass-init
loop-pass-init c = (refl, refl, record { done = []; all_are = sym (append-nil c.args.passes.now.items); view_is = refl; ids = c.requires.record; places = search rules; listed = λ few. tt })

pub loop-pass-preserved : goal.loop-pass-preserved
loop-pass-preserved c =
    let inv = c.loop-pass.invariant in
    let p : PassOfHart = c.in-Some.pass in (
      search rules,
      search rules,
      takes_pass _ _ _ _ p _ _ _ c.loop-pass.harts _ _ _ c.pass.inside.hart inv.2 (search rules) (ap view_of_pass c.pass.view_is) (ap (λ (m : Me _ View). m.0) c.pass.invariant.view_is) c.pass.invariant.hart_is c.join_seats.ensures.logs (search rules),
    )
