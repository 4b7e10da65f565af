-- A walk that reads goes on with the entry.
use Rattle.std.proofs.Common.{◌≡◌, ◌-◌, true, ap, ◌∙◌, arith}
use Rattle.flex_base.specs.Place.{in_ram}
use Rattle.sv39.specs.IsAfter.{ahead, entries_left}
use Rattle.hart_story.proofs.Walking.{needs, some_left, walks_on}
use Rattle.hart_story.proofs.replies.after_entry.Goals as goal

pub returns-clause-arrives : goal.returns-clause-arrives
returns-clause-arrives c = λ setup budget a next of shown.
    let walk = c.args.walk in
    let found = needs c.args.layout.now.ram walk c.requires in
    let some = some_left walk found.address found.need in
    let inside : in_ram setup.ram found.address 8 ≡ true = ap (λ r. in_ram r found.address 8) of.ram ∙ found.lies.in_ram in
    walks_on setup.ram a c.args.kind c.args.va next (entries_left walk) (ahead walk) (ahead c.give.new.self) found.address c.args.reply
    some found.need inside c.give.ensures.ahead
    ∙ c.arrive.ensures.arrives setup budget a next (entries_left walk - 1) of shown
    (λ address need. omega (arith, c.give.ensures.left address need))
