-- By what the context wants.
use Rattle.std.proofs.Common.{◌≡◌, get_or, subst}
use Rattle.context.specs.declared.wants.Wants.{Wants}
use Rattle.context.specs.Contexts.{IsWanting}
use Rattle.solo.specs.Solo.{Solo}
use Rattle.solo.proofs.Standing.{idle_read}
use Rattle.solo.proofs.machine.SoloMachine.is_idle.Goals as goal

pub returns-in-Ask : goal.returns-in-Ask
returns-in-Ask c = λ setup u at.
    let Is : Wants → Type 0 = λ w. IsWanting c.index.result.now w in
    let Read : Solo → Type 0 = λ s. c.index.result.now ≡ get_or s.contexts c.args.h c.index.result.now in
    idle_read setup u c.args.self.now c.args.h c.index.result.now _ at c.requires.hart (subst Read c.self.view_is c.index.ensures) (subst Is c.in-Ask.is c.wants.ensures)

pub returns-in-Finish : goal.returns-in-Finish
returns-in-Finish c = λ setup u at.
    let Is : Wants → Type 0 = λ w. IsWanting c.index.result.now w in
    let Read : Solo → Type 0 = λ s. c.index.result.now ≡ get_or s.contexts c.args.h c.index.result.now in
    idle_read setup u c.args.self.now c.args.h c.index.result.now _ at c.requires.hart (subst Read c.self.view_is c.index.ensures) (subst Is c.in-Finish.is c.wants.ensures)

pub returns-in-Parked : goal.returns-in-Parked
returns-in-Parked c = λ setup u at.
    let Is : Wants → Type 0 = λ w. IsWanting c.index.result.now w in
    let Read : Solo → Type 0 = λ s. c.index.result.now ≡ get_or s.contexts c.args.h c.index.result.now in
    idle_read setup u c.args.self.now c.args.h c.index.result.now _ at c.requires.hart (subst Read c.self.view_is c.index.ensures) (subst Is c.in-Parked.is c.wants.ensures)

pub returns-in-Over : goal.returns-in-Over
returns-in-Over c = λ setup u at.
    let Is : Wants → Type 0 = λ w. IsWanting c.index.result.now w in
    let Read : Solo → Type 0 = λ s. c.index.result.now ≡ get_or s.contexts c.args.h c.index.result.now in
    idle_read setup u c.args.self.now c.args.h c.index.result.now _ at c.requires.hart (subst Read c.self.view_is c.index.ensures) (subst Is c.in-Over.is c.wants.ensures)
