use Rattle.std.proofs.Common.{rules, arith, ◌≡◌, ◌+◌, ◌-◌, ◌&&◌, ◌==◌, false, sym, subst}
use Rattle.flex_base.specs.declared.access.Access.TheVariants as acc
use Rattle.flex_base.specs.declared.engine.Engine.TheVariants as engine
use Rattle.access_record.specs.Buses.{Run}
use Rattle.mem_banks.specs.Tried.{IsTried}
use Rattle.mem_banks.proofs.Trying.{tried_more}
use Rattle.mem_banks.proofs.tests.wake.Goals as goal

pub returns-in-Some-clause-tried : goal.returns-in-Some-clause-tried
returns-in-Some-clause-tried c =
    let run = c.args.bus.now.run in
    let hart = c.args.hart in
    let reply = c.in-Some.reply in
    let value : reply.value ≡ 0 = search rules in
    let told : false ≡ hart.waiting && (reply.value == 1) = search rules in
    let more : (hart.left - 1) + 1 ≡ hart.left = search rules in
    subst (λ (r : Run). IsTried r c.make_pulse-pass.result.0 false (hart.left - 1) hart.bytes) (sym c.make_pulse-pass.ensures.same)
    (tried_more run hart.pass c.make_pulse-pass.result.0 engine.Kernel (acc.Pulse false) reply c.in-Some.field-0-0 hart.waiting false hart.left (hart.left - 1) hart.bytes hart.bytes
    c.requires.tried (search rules) told more (omega arith))
