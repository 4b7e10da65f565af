-- The machine is at the beginning, then where the order leads, and then at the end of the run.
use Rattle.std.proofs.Common.{◌∙◌}
use Rattle.flex_base.specs.Unsplit.{begin}
use Rattle.solo.specs.Solo.{setup_of}
use Rattle.solo.proofs.tests.play.Goals as goal

pub play_out-requires : goal.play_out-requires
play_out-requires c =
    let setup = setup_of c.args.image.now c.args.settings c.new-input.result.items in
    record { at = (setup, _, c.play.ensures.at setup (begin setup) c.in_ok-machine.ensures.at) }

pub finish-requires : goal.finish-requires
finish-requires c =
    let setup = setup_of c.args.image.now c.args.settings c.new-input.result.items in
    let out = c.play_out.ensures.at setup _ (c.play.ensures.at setup (begin setup) c.in_ok-machine.ensures.at) in
    record { ended = (setup, _, out.at, out.ended) }

pub returns-clause-harts : goal.returns-clause-harts
returns-clause-harts c =
    let setup = setup_of c.args.image.now c.args.settings c.new-input.result.items in
    let out = c.play_out.ensures.at setup _ (c.play.ensures.at setup (begin setup) c.in_ok-machine.ensures.at) in
    c.finish.result.harts.ok.0 ∙ (c.finish.ensures setup _ out.at out.ended).counted

pub returns-clause-logs : goal.returns-clause-logs
returns-clause-logs c =
    let setup = setup_of c.args.image.now c.args.settings c.new-input.result.items in
    let out = c.play_out.ensures.at setup _ (c.play.ensures.at setup (begin setup) c.in_ok-machine.ensures.at) in
    c.finish.result.logs.ok.0 ∙ (c.finish.ensures setup _ out.at out.ended).logs.counted

pub returns-clause-settled : goal.returns-clause-settled
returns-clause-settled c =
    let setup = setup_of c.args.image.now c.args.settings c.new-input.result.items in
    let out = c.play_out.ensures.at setup _ (c.play.ensures.at setup (begin setup) c.in_ok-machine.ensures.at) in
    (c.finish.ensures setup _ out.at out.ended).memory.settled
