use Rattle.std.proofs.Common.{refl, append_assoc}
use Rattle.tracer.specs.EventText.{header_text}
use Rattle.tracer.proofs.header.put_header.Goals as goal

pub returns-clause-text : goal.returns-clause-text
unfolding header_text
returns-clause-text g c =
    rw (c.put-4.ensures.text, c.put_number-2.ensures.text, c.put-3.ensures.text, c.put_number.ensures.text, c.put-2.ensures.text, c.put_small.ensures.text, c.put.ensures.text) (simp append_assoc refl)
