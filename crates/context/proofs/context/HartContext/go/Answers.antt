-- What is needed tells what is wanted, and the test of the engine whether it is made here.
use Rattle.std.proofs.Common.{rules, ◌≡◌, ◌≢◌, refl, sym}
use Rattle.context.specs.declared.wants.Wants.TheVariants as wants
use Rattle.context.proofs.Keeping.{asking_by, ending_by, wanting_by, is_here, is_elsewhere, is_left}
use Rattle.context.proofs.context.HartContext.go.Goals as goal

-- an access

pub returns-then-ne-clause-went : goal.returns-then-ne-clause-went
returns-then-ne-clause-went g c =
    let wanting = wanting_by c.args.self.now c.need.result _ c.in-Ask.is c.need.ensures.told in
    let other : c.engine_for-engine.result ≢ c.self.inside.engine = search rules in
    let elsewhere = is_elsewhere _ _ (wants.Ask c.in-Ask.class) _ c.self.view_is c.self.invariant wanting (sym (c.engine_for-engine.ensures.engine 0)) other in
    (elsewhere, record { same = refl; stays = refl })

pub make_access-requires-clause-asks : goal.make_access-requires-clause-asks
make_access-requires-clause-asks g c =
    let wanting = wanting_by c.args.self.now c.need.result _ c.in-Ask.is c.need.ensures.told in
    let same : c.engine_for-engine.result ≡ c.self.inside.engine = search rules in
    let here = is_here _ _ (wants.Ask c.in-Ask.class) _ c.self.view_is (sym (c.engine_for-engine.ensures.engine 0)) same in
    asking_by c.args.self.now c.need.result _ _ c.in-Ask.is c.need.ensures.told c.need.ensures.placed (wants.Ask c.in-Ask.class, wanting, here)

pub returns-else-ne-clause-went : goal.returns-else-ne-clause-went
returns-else-ne-clause-went g c =
    let wanting = wanting_by c.args.self.now c.need.result _ c.in-Ask.is c.need.ensures.told in
    let same : c.engine_for-engine.result ≡ c.self.inside.engine = search rules in
    let here = is_here _ _ (wants.Ask c.in-Ask.class) _ c.self.view_is (sym (c.engine_for-engine.ensures.engine 0)) same in
    record { class = c.in-Ask.class; wanting = wanting; here = here; steps = c.make_access.ensures.one }

-- an end

pub returns-then-ne-2-clause-went : goal.returns-then-ne-2-clause-went
returns-then-ne-2-clause-went g c =
    let wanting = wanting_by c.args.self.now c.need.result _ c.in-Finish.is c.need.ensures.told in
    let other : c.engine_for-engine-in-Finish.result ≢ c.self.inside.engine = search rules in
    let elsewhere = is_elsewhere _ _ (wants.Finish c.in-Finish.class) _ c.self.view_is c.self.invariant wanting (sym (c.engine_for-engine-in-Finish.ensures.engine 0)) other in
    (elsewhere, record { same = refl; stays = refl })

pub make_end-requires-clause-ends : goal.make_end-requires-clause-ends
make_end-requires-clause-ends g c =
    let wanting = wanting_by c.args.self.now c.need.result _ c.in-Finish.is c.need.ensures.told in
    let same : c.engine_for-engine-in-Finish.result ≡ c.self.inside.engine = search rules in
    let here = is_here _ _ (wants.Finish c.in-Finish.class) _ c.self.view_is (sym (c.engine_for-engine-in-Finish.ensures.engine 0)) same in
    ending_by c.args.self.now c.need.result _ c.in-Finish.is c.need.ensures.told (wants.Finish c.in-Finish.class, wanting, here)

pub make_end-requires-clause-left : goal.make_end-requires-clause-left
make_end-requires-clause-left g c = is_left _ _ c.self.view_is c.self.invariant

pub returns-else-ne-2-clause-went : goal.returns-else-ne-2-clause-went
returns-else-ne-2-clause-went g c =
    let wanting = wanting_by c.args.self.now c.need.result _ c.in-Finish.is c.need.ensures.told in
    let same : c.engine_for-engine-in-Finish.result ≡ c.self.inside.engine = search rules in
    let here = is_here _ _ (wants.Finish c.in-Finish.class) _ c.self.view_is (sym (c.engine_for-engine-in-Finish.ensures.engine 0)) same in
    record { class = c.in-Finish.class; wanting = wanting; here = here; steps = c.make_end.ensures.one }

-- nothing

pub returns-in-Parked-clause-went : goal.returns-in-Parked-clause-went
returns-in-Parked-clause-went g c =
    (wanting_by c.args.self.now c.need.result _ c.in-Parked.is c.need.ensures.told, record { same = refl; stays = refl })

pub returns-in-Over-clause-went : goal.returns-in-Over-clause-went
returns-in-Over-clause-went g c =
    (wanting_by c.args.self.now c.need.result _ c.in-Over.is c.need.ensures.told, record { same = refl; stays = refl })
