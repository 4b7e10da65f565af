use Rattle.std.proofs.Common.{ℕ, ap, ◌∙◌, sym, subst, rules, List}
use Rattle.atomic_table.specs.Table.{Me}
use Rattle.access_record.specs.declared.view.View.{View}
use Rattle.access_record.specs.Steps.{first_of}
use Rattle.access_record.specs.Passes.{PassOfHart, pass_of, first_hart}
use Rattle.access_record.proofs.Giving.{HasGivenPasses, gives_pass, made_as}
use Rattle.access_record.proofs.gathered.give_passes.Goals as goal

pub loop-seat-preserved : goal.loop-seat-preserved
loop-seat-preserved c =
    let inv = c.loop-seat.invariant in
    let h = inv.3 in
    let now : Me ℕ View = c.loop-seat.seat.me in
    let id = c.args.seat.now.table_id in
    let one = ap (λ (m : Me ℕ View). m.0.harts) c.split_first_hart-other.ensures.one ∙ ap (λ (m : Me ℕ View). first_of m.0.harts) h.view_is in
    let table = c.split_first_hart-other.ensures.table.1 ∙ inv.0 in
    let made = made_as pass_of first_hart _ _ _ _ _ _ c.pass_of_seat-pass.ensures table one in (
      search rules,
      search rules,
      search rules,
      subst (λ (l : List PassOfHart). HasGivenPasses id c.args.count c.args.seat.now.me c.split_first_hart-other.new.seat.me l c.args.harts.now) (sym c.in-Ok.ensures.items)
          (gives_pass id c.args.count c.args.seat.now.me now c.split_first_hart-other.new.seat.me c.loop-seat.passes.items c.args.harts.now _ _ h.done h.left h.all_are h.view_is h.passes_are h.listed h.counted (search rules) c.split_first_hart-other.ensures.rest made),
    )
