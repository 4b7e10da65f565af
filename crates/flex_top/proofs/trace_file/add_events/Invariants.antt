use Rattle.std.proofs.Common.{◌≡◌, ◌++◌, length, ◌<◌}
use Rattle.std.specs.List.{flat_map}
use Rattle.flex_base.specs.Outside.{OnlyWrites}
use Rattle.tracer.specs.EventText.{event_text}
use Rattle.flex_top.specs.Written.{Passes}
use Rattle.flex_top.proofs.trace_file.add_events.Given as goal

-- the lines so far are written or held, there is room for one more, and nothing failed
abbrev pub invariant-loop-event : goal.invariant-loop-event
invariant-loop-event g l = record {
  come : l.yielded ++ l.event-iterator ≡ l.fn.events;
  passes : Passes (g.O.Outer.outside l.fn.outer) (g.O.Outer.outside l.outer) l.name l.fn.pieces l.pieces (flat_map event_text l.yielded);
  room : length l.pieces < 65536;
  frame : OnlyWrites (g.O.Outer.outside l.fn.outer) (g.O.Outer.outside l.outer) ⊥;
}
