use Rattle.std.proofs.Common.{ap, ◌∙◌, get_or, ◌+◌, ◌/◌}
use Rattle.flex_base.specs.FlatMemory.{put}
use Rattle.mem_lines.proofs.LittleEndian.{put_put}
use Rattle.mem_lines.proofs.little_endian.store_double.Goals as goal

pub returns : goal.returns
returns c = λ i.
    c.«store_word-2».ensures i ∙ ap (λ n. put i n (c.args.at + 4) 4 (c.args.value / 4294967296)) (c.store_word.ensures i) ∙ put_put i (get_or c.args.bytes.now i 0) c.args.at 4 4 c.args.value
