-- A walk that reads asks for its entry.
use Rattle.std.proofs.Common.{◌≡◌, ℕ, true, ap, sym, subst, ◌∙◌}
use Rattle.flex_base.specs.Place.{in_ram}
use Rattle.flex_base.specs.StoryTree.{want}
use Rattle.sv39.specs.IsAfter.{ahead, entries_left}
use Rattle.hart_story.specs.Need.{need_of}
use Rattle.hart_story.proofs.Walking.{needs, need_is, walks_asks}
use Rattle.hart_story.proofs.needs.walk_need.Goals as goal

pub returns-in-Need-clause-told : goal.returns-in-Need-clause-told
returns-in-Need-clause-told c = λ ram a k va next reading.
    let walk = c.args.walk.now in
    let need = sym c.next.ensures.ahead ∙ c.in-Need.is in
    let found = needs ram walk reading in
    let Inside : ℕ → Type 0 = λ address. in_ram ram address 8 ≡ true in
    let inside = subst Inside (need_is found.address c.in-Need.address (sym found.need ∙ need)) found.lies.in_ram in
    sym (ap (λ s. need_of (want s)) (walks_asks ram a k va next (entries_left walk) (ahead walk) c.in-Need.address
    (c.next.ensures.left c.in-Need.address c.in-Need.is) need inside))
