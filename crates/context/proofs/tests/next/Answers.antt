-- Where `go` makes nothing, the context is as before.
use Rattle.std.proofs.Common.{sym, subst}
use Rattle.context.specs.Contexts.{Context, IsElsewhere, IsWanting}
use Rattle.context.specs.declared.wants.Wants.TheVariants as wants
use Rattle.context.proofs.tests.next.Goals as goal

pub move_on-requires-clause-elsewhere : goal.move_on-requires-clause-elsewhere
move_on-requires-clause-elsewhere g c =
    let Elsewhere : Context → Type 0 = λ k. IsElsewhere c.in-Elsewhere.to k in
    subst Elsewhere (sym c.in-Elsewhere.ensures.went.1.same) c.in-Elsewhere.ensures.went.0

pub try_to_wake-requires-clause-parked : goal.try_to_wake-requires-clause-parked
try_to_wake-requires-clause-parked g c =
    let Parked : Context → Type 0 = λ k. IsWanting k wants.Parked in
    subst Parked (sym c.in-Parked.ensures.went.1.same) c.in-Parked.ensures.went.0
