use Rattle.std.proofs.Common.{◌≡◌, ◌+◌, ◌*◌, ◌++◌, take, length}
use Rattle.std.specs.List.{flat_map}
use Rattle.tracer.specs.EventText.{hex_digits}
use Rattle.tracer.proofs.tail_text.put_bytes.Given as goal

-- the bytes so far are written
abbrev pub invariant-loop-byte : goal.invariant-loop-byte
invariant-loop-byte g l = record {
  text : g.P.Put.text l.into ≡ g.P.Put.text l.fn.into ++ flat_map (hex_digits 2) (take l.byte-index l.bytes);
  room : length (g.P.Put.text l.into) ≡ length (g.P.Put.text l.fn.into) + 2 * l.byte-index;
}
