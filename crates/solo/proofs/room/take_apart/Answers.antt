-- The last context goes to the end of what is taken. Turned round, all stands as it stood.
use Rattle.std.proofs.Common.{rules, arith, ◌≡◌, [], length, vec_len}
use Rattle.context.specs.Contexts.{Context, IsContext}
use Rattle.solo.proofs.Taking.{taken_more, taken_all, have_push, have_none}
use Rattle.solo.proofs.room.take_apart.Goals as goal

pub loop-context-preserved : goal.loop-context-preserved
loop-context-preserved c =
    let x = c.in-Some.context in
    let last = c.in-Some.ensures.items in
    let left = c.pop.new.self.items in (
      search rules,
      search rules,
      search rules,
      taken_more (λ (k : Context). k.hart) _ left x last _ _ _ _ c.push_reserved.ensures.items c.dissolve-hart.ensures.hart c.loop-context.invariant.3,
      taken_more (λ (k : Context). k.log) _ left x last _ _ _ _ c.push_reserved-in-Some.ensures.items c.dissolve-hart.ensures.log c.loop-context.invariant.4,
      taken_more (λ (k : Context). k.pass) _ left x last _ _ _ _ c.push_reserved-in-Some-2.ensures.items c.dissolve-hart.ensures.pass c.loop-context.invariant.5,
      λ all. c.loop-context.invariant.6 (have_push IsContext _ left x last c.dissolve-hart.ensures.context all),
    )

pub returns-clause-harts : goal.returns-clause-harts
returns-clause-harts c =
    let none : c.loop-context.contexts.items ≡ [] = search rules in
    taken_all (λ (k : Context). k.hart) _ _ _ _ none c.reverse.ensures.items c.loop-context.invariant.3

pub returns-clause-logs : goal.returns-clause-logs
returns-clause-logs c =
    let none : c.loop-context.contexts.items ≡ [] = search rules in
    taken_all (λ (k : Context). k.log) _ _ _ _ none c.reverse-2.ensures.items c.loop-context.invariant.4

pub returns-clause-contexts : goal.returns-clause-contexts
returns-clause-contexts c =
    let none : c.loop-context.contexts.items ≡ [] = search rules in
    let count : length c.args.contexts.items ≡ vec_len c.args.contexts = search rules in
    λ h other below. c.loop-context.invariant.6 (have_none IsContext _ none) h other (omega (arith, below, count))

pub returns-clause-passes : goal.returns-clause-passes
returns-clause-passes c =
    let none : c.loop-context.contexts.items ≡ [] = search rules in
    taken_all (λ (k : Context). k.pass) _ _ _ _ none c.reverse-3.ensures.items c.loop-context.invariant.5
