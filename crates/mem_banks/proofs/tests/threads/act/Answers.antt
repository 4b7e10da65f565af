use Rattle.std.proofs.Common.{rules, arith, ◌≡◌, ◌+◌, ◌-◌, Bool, false, cond, subst}
use Rattle.flex_base.specs.Devices.{is_transmit}
use Rattle.flex_base.specs.declared.engine.Engine.TheVariants as engine
use Rattle.mem_banks.specs.Tried.{IsTried}
use Rattle.mem_banks.proofs.Trying.{tried_more}
use Rattle.mem_banks.proofs.tests.threads.act.Goals as goal

pub returns : goal.returns
returns g c =
    let run = g.N.RunName.run in
    let hart = c.args.hart in
    let awake : hart.waiting ≡ false = search rules in
    let tried = subst (λ (w : Bool). IsTried run hart.pass w hart.left hart.bytes) awake c.requires.tried in
    let after = c.in-Some.after in
    let send : after + cond (is_transmit c.args.acc) 1 0 ≡ hart.bytes = search rules in
    let more : (hart.left - 1) + 1 ≡ hart.left = search rules in
    record {
      tried = tried_more run hart.pass c.make-pass.result.0 engine.Host c.args.acc c.make-pass.result.2 c.make-pass.result.1 false c.is_told_to_wait.result hart.left (hart.left - 1)
          hart.bytes after tried c.make-pass.ensures.noted (search rules) more (omega (arith, send));
    }
