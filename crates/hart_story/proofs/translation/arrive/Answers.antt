-- Where a walk arrives, by its step.
use Rattle.std.proofs.Common.{◌≡◌, ◌<◌, false, ap, sym, ◌∙◌, arith}
use Rattle.flex_base.specs.Place.{in_ram}
use Rattle.flex_base.specs.Ends.{traps}
use Rattle.sv39.specs.IsAfter.{ahead}
use Rattle.hart_story.proofs.Walking.{is_reading, walks_leaf, walks_fault, walks_outside}
use Rattle.hart_story.proofs.translation.arrive.Goals as goal

pub returns-then-is_in_ram-clause-sound : goal.returns-then-is_in_ram-clause-sound
returns-then-is_in_ram-clause-sound c =
    is_reading c.args.layout.now.ram c.args.walk c.in-Need.address (sym c.next.ensures.ahead ∙ c.in-Need.is)
    (record { aligned = c.next.ensures.aligned c.in-Need.address c.in-Need.is; in_ram = sym c.is_in_ram.ensures ∙ c.if-is_in_ram.true })

pub returns-else-is_in_ram-clause-arrives : goal.returns-else-is_in_ram-clause-arrives
returns-else-is_in_ram-clause-arrives c = λ setup budget a next left of shown many.
    let need = sym c.next.ensures.ahead ∙ c.in-Need.is in
    let outside : in_ram setup.ram c.in-Need.address 8 ≡ false =
    ap (λ r. in_ram r c.in-Need.address 8) of.ram ∙ sym c.is_in_ram.ensures ∙ c.if-is_in_ram.false in
    let some : 0 < left = omega (arith, many c.in-Need.address need, c.next.ensures.left c.in-Need.address c.in-Need.is) in
    walks_outside setup.ram a c.args.kind c.args.va next left (ahead c.args.walk) c.in-Need.address some need outside
    ∙ ap (λ cause. traps a cause c.args.va) (sym c.access_fault.ensures)

pub returns-in-Leaf-clause-arrives : goal.returns-in-Leaf-clause-arrives
returns-in-Leaf-clause-arrives c = λ setup budget a next left of shown many.
    walks_leaf setup.ram a c.args.kind c.args.va next left (ahead c.args.walk) c.in-Leaf.leaf (sym c.next.ensures.ahead ∙ c.in-Leaf.is)
    ∙ c.use_found.ensures.uses setup.ram a next shown

pub returns-in-Leaf-clause-walk : goal.returns-in-Leaf-clause-walk
returns-in-Leaf-clause-walk c = λ some. absurd (some c.use_found.ensures.none)

pub returns-in-Leaf-clause-sound : goal.returns-in-Leaf-clause-sound
returns-in-Leaf-clause-sound c = c.use_found.ensures.sound c.args.layout.now.ram

pub returns-in-Fault-clause-arrives : goal.returns-in-Fault-clause-arrives
returns-in-Fault-clause-arrives c = λ setup budget a next left of shown many.
    walks_fault setup.ram a c.args.kind c.args.va next left (ahead c.args.walk) (sym c.next.ensures.ahead ∙ c.in-Fault.is)
    ∙ ap (λ cause. traps a cause c.args.va) (sym c.page_fault.ensures)
