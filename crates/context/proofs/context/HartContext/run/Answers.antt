-- The run goes on by each event, and stops where it makes none.
use Rattle.std.proofs.Common.{rules, subst, ◌∙◌, ap, ◌-◌}
use Rattle.access_record.specs.Buses.{Run}
use Rattle.context.specs.Contexts.{IsOn, Steps}
use Rattle.context.proofs.Running.{run_goes_on, has_run_so_far}
use Rattle.context.proofs.context.HartContext.run.Goals as goal

pub loop-self-preserved : goal.loop-self-preserved
loop-self-preserved g c =
    let Made : Run → Type 0 = λ r.
    Steps r (g.B.Bus.history c.loop-self.bus) (g.B.Bus.history c.try_advance.new.bus) c.loop-self.self c.try_advance.new.self × IsOn r c.try_advance.new.self in
    let made = subst Made c.loop-self.invariant.1 (c.if-not-try_advance.ensures.advanced.1, c.try_advance.ensures.on) in (
      run_goes_on _ _ _ _ _ _ _ _ c.loop-self.invariant.0 (search rules) made.0 c.try_advance.ensures.same made.1,
      c.try_advance.ensures.bus ∙ c.loop-self.invariant.1,
    )

pub returns-then-not-try_advance-clause-ran : goal.returns-then-not-try_advance-clause-ran
returns-then-not-try_advance-clause-ran g c =
    has_run_so_far _ _ _ _ _ c.args.most_ends _ _ _ (c.saturating_sub-least.ensures ∙ ap (λ n. n - c.args.most_ends) c.round_left.ensures.left)
    c.loop-self.invariant.0 c.if-not-try_advance.ensures.advanced.0 c.if-not-try_advance.ensures.advanced.1
