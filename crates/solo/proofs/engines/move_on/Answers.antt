-- The one hart in the latches has made its event, or has moved on by one.
use Rattle.std.proofs.Common.{◌∙◌}
use Rattle.solo.proofs.Flying.{past_more, alone_read, alone_on, alone_flying, one_goes, one_same, made_none, made_end, made_access, moved_alone}
use Rattle.solo.proofs.engines.move_on.Goals as goal

pub returns-then-made-ne0-clause-made : goal.returns-then-made-ne0-clause-made
returns-then-made-ne0-clause-made g c =
    let was = c.loop.invariant in
    let (flying, advanced) = moved_alone _ _ _ _ _ _ _ _ _ _ _ _ was.run was.history was.same c.from_mut.ensures.value was.flying c.advance-made.ensures.advanced in
    one_goes _ _ _ _ _ _ (made_end _ _ _ _ _ _ _ _ flying advanced c.if-made-ne0.true) c.loop.context

pub returns-then-made-ne0-clause-same : goal.returns-then-made-ne0-clause-same
returns-then-made-ne0-clause-same g c =
    let was = c.loop.invariant in
    let (flying, advanced) = moved_alone _ _ _ _ _ _ _ _ _ _ _ _ was.run was.history was.same c.from_mut.ensures.value was.flying c.advance-made.ensures.advanced in
    one_same _ _ _ _ _ _ (made_end _ _ _ _ _ _ _ _ flying advanced c.if-made-ne0.true) c.loop.context

pub returns-then-made-ne0-clause-on : goal.returns-then-made-ne0-clause-on
returns-then-made-ne0-clause-on g c =
    let was = c.loop.invariant in
    let (flying, advanced) = moved_alone _ _ _ _ _ _ _ _ _ _ _ _ was.run was.history was.same c.from_mut.ensures.value was.flying c.advance-made.ensures.advanced in
    let one = made_end _ _ _ _ _ _ _ _ flying advanced c.if-made-ne0.true in
    alone_on _ _ one.new_is c.loop.context _ _ was.run c.advance-made.ensures.on

pub returns-then-made-ne0-clause-flying : goal.returns-then-made-ne0-clause-flying
returns-then-made-ne0-clause-flying g c =
    let was = c.loop.invariant in
    let (flying, advanced) = moved_alone _ _ _ _ _ _ _ _ _ _ _ _ was.run was.history was.same c.from_mut.ensures.value was.flying c.advance-made.ensures.advanced in
    let one = made_end _ _ _ _ _ _ _ _ flying advanced c.if-made-ne0.true in
    alone_flying _ _ one.new_is c.loop.context _ c.advance-made.ensures.flights

pub returns-then-made-ne0-2-clause-made : goal.returns-then-made-ne0-2-clause-made
returns-then-made-ne0-2-clause-made g c =
    let was = c.loop.invariant in
    let (flying, advanced) = moved_alone _ _ _ _ _ _ _ _ _ _ _ _ was.run was.history was.same c.from_mut.ensures.value was.flying c.advance-made.ensures.advanced in
    one_goes _ _ _ _ _ _ (made_access _ _ _ _ _ _ _ _ flying advanced c.if-made-ne0.false c.if-made-ne0-2.true) c.loop.context

pub returns-then-made-ne0-2-clause-same : goal.returns-then-made-ne0-2-clause-same
returns-then-made-ne0-2-clause-same g c =
    let was = c.loop.invariant in
    let (flying, advanced) = moved_alone _ _ _ _ _ _ _ _ _ _ _ _ was.run was.history was.same c.from_mut.ensures.value was.flying c.advance-made.ensures.advanced in
    one_same _ _ _ _ _ _ (made_access _ _ _ _ _ _ _ _ flying advanced c.if-made-ne0.false c.if-made-ne0-2.true) c.loop.context

pub returns-then-made-ne0-2-clause-on : goal.returns-then-made-ne0-2-clause-on
returns-then-made-ne0-2-clause-on g c =
    let was = c.loop.invariant in
    let (flying, advanced) = moved_alone _ _ _ _ _ _ _ _ _ _ _ _ was.run was.history was.same c.from_mut.ensures.value was.flying c.advance-made.ensures.advanced in
    let one = made_access _ _ _ _ _ _ _ _ flying advanced c.if-made-ne0.false c.if-made-ne0-2.true in
    alone_on _ _ one.new_is c.loop.context _ _ was.run c.advance-made.ensures.on

pub returns-then-made-ne0-2-clause-flying : goal.returns-then-made-ne0-2-clause-flying
returns-then-made-ne0-2-clause-flying g c =
    let was = c.loop.invariant in
    let (flying, advanced) = moved_alone _ _ _ _ _ _ _ _ _ _ _ _ was.run was.history was.same c.from_mut.ensures.value was.flying c.advance-made.ensures.advanced in
    let one = made_access _ _ _ _ _ _ _ _ flying advanced c.if-made-ne0.false c.if-made-ne0-2.true in
    alone_flying _ _ one.new_is c.loop.context _ c.advance-made.ensures.flights

pub loop-preserved : goal.loop-preserved
loop-preserved g c =
    let was = c.loop.invariant in
    let (flying, advanced) = moved_alone _ _ _ _ _ _ _ _ _ _ _ _ was.run was.history was.same c.from_mut.ensures.value was.flying c.advance-made.ensures.advanced in
    let (alone, history, left) = made_none _ _ _ _ _ _ _ _ flying advanced c.if-made-ne0.false c.if-made-ne0-2.false in
    record {
      same = alone_read _ _ alone c.loop.context;
      history = history;
      run = c.advance-made.ensures.bus ∙ was.run;
      flying = alone_flying _ _ alone c.loop.context _ c.advance-made.ensures.flights;
      past = past_more _ _ _ c.loop.counter was.flying left was.past;
    }
