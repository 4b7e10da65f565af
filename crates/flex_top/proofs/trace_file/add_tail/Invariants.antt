use Rattle.std.proofs.Common.{take, length, ◌<◌}
use Rattle.std.specs.List.{flat_map}
use Rattle.flex_base.specs.Outside.{OnlyWrites}
use Rattle.tracer.specs.TailText.{tail_line_text}
use Rattle.flex_top.specs.Written.{Passes}
use Rattle.flex_top.proofs.trace_file.add_tail.Given as goal

-- the lines so far are written or held, there is room for one more, and nothing failed
abbrev pub invariant-loop-line : goal.invariant-loop-line
invariant-loop-line g l = record {
  passes : Passes (g.O.Outer.outside l.fn.outer) (g.O.Outer.outside l.outer) l.name l.fn.pieces l.pieces (flat_map tail_line_text (take l.line-index l.tail));
  room : length l.pieces < 65536;
  frame : OnlyWrites (g.O.Outer.outside l.fn.outer) (g.O.Outer.outside l.outer) ⊥;
}
