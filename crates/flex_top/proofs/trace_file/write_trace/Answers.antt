use Rattle.std.proofs.Common.{◌++◌, List, ℕ, [], ap, ◌∙◌}
use Rattle.std.proofs.lemmas.List.{append-nil}
use Rattle.tracer.specs.EventText.{header_text}
use Rattle.tracer.specs.Trace.{whole_text}
use Rattle.flex_top.proofs.Growth.{on_err, becomes, becomes_part, passes_none, passes_put, passes_on, part_on, part_more}
use Rattle.flex_top.proofs.trace_file.write_trace.Goals as goal

pub returns-in_err-add_events-clause-err : goal.returns-in_err-add_events-clause-err
unfolding whole_text
returns-in_err-add_events-clause-err g c =
    let header = passes_put _ _ _ [] _ _ (header_text c.args.settings.now) (c.put_header.ensures.text ∙ ap (λ (t : List ℕ). t ++ header_text c.args.settings.now) c.clear.ensures) (passes_none _ _ _) in
    on_err _ (becomes_part (g.O.Outer.outside c.args.outer.now) _ _ _ _ c.in_ok-start.ensures.ok (part_more _ _ _ _ _ _ (part_on _ _ _ _ _ _ _ _ header c.in_err-add_events.ensures.err)))

pub returns-in_err-add_tail-clause-err : goal.returns-in_err-add_tail-clause-err
unfolding whole_text
returns-in_err-add_tail-clause-err g c =
    let header = passes_put _ _ _ [] _ _ (header_text c.args.settings.now) (c.put_header.ensures.text ∙ ap (λ (t : List ℕ). t ++ header_text c.args.settings.now) c.clear.ensures) (passes_none _ _ _) in
    on_err _ (becomes_part (g.O.Outer.outside c.args.outer.now) _ _ _ _ c.in_ok-start.ensures.ok (part_on _ _ _ _ _ _ _ _ (passes_on _ _ _ _ _ _ _ _ _ header c.in_ok-add_events.ensures.ok) c.in_err-add_tail.ensures.err))

pub returns-in_err-flush-clause-err : goal.returns-in_err-flush-clause-err
unfolding whole_text
returns-in_err-flush-clause-err g c =
    let header = passes_put _ _ _ [] _ _ (header_text c.args.settings.now) (c.put_header.ensures.text ∙ ap (λ (t : List ℕ). t ++ header_text c.args.settings.now) c.clear.ensures) (passes_none _ _ _) in
    let lines = passes_on _ _ _ _ _ _ _ _ _ (passes_on _ _ _ _ _ _ _ _ _ header c.in_ok-add_events.ensures.ok) c.in_ok-add_tail.ensures.ok in
    on_err _ (becomes_part (g.O.Outer.outside c.args.outer.now) _ _ _ _ c.in_ok-start.ensures.ok (rw append-nil at (part_on _ _ _ _ _ _ _ _ lines c.in_err-flush.ensures.err)))

pub returns-clause-ok : goal.returns-clause-ok
unfolding whole_text
returns-clause-ok g c =
    let header = passes_put _ _ _ [] _ _ (header_text c.args.settings.now) (c.put_header.ensures.text ∙ ap (λ (t : List ℕ). t ++ header_text c.args.settings.now) c.clear.ensures) (passes_none _ _ _) in
    let lines = passes_on _ _ _ _ _ _ _ _ _ (passes_on _ _ _ _ _ _ _ _ _ header c.in_ok-add_events.ensures.ok) c.in_ok-add_tail.ensures.ok in
    becomes (g.O.Outer.outside c.args.outer.now) _ _ (g.O.Outer.outside c.flush.new.outer) _ _ _ c.in_ok-start.ensures.ok lines c.in_ok-flush.ensures.ok
