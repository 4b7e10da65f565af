use Rattle.std.proofs.Common.{◌∙◌}
use Rattle.mem_lines.specs.Steps.{done_of}
use Rattle.mem_lines.proofs.Replays.{reply_flat, replay_push}
use Rattle.mem_lines.proofs.lines.Lines.act.Goals as goal

pub returns-clause-flat : goal.returns-clause-flat
returns-clause-flat c = λ setup made replay.
    c.make.ensures.reply ∙ reply_flat setup c.args.self.now made c.args.hart.0 c.args.acc.now c.requires.hart c.requires.here replay

pub returns-clause-replay : goal.returns-clause-replay
returns-clause-replay c = λ setup made replay.
    replay_push setup c.args.self.now c.make.new.self made (done_of c.args.hart.0 c.args.acc.now c.make.result) c.make.ensures.follows replay
