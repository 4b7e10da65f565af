-- An outside in memory, as contracts see it.
use Rattle.std.specs.Prelude.{◌≡◌, ℕ, List, Bool, Some}
use Rattle.flex_base.specs.Files.{Files}
use Rattle.flex_base.specs.Outside.{Outside}
use Rattle.flex_base.specs.FilesInMemory.{files_of, entries_of, files_of_map, is_due, one_more}
use Rattle.flex_base.specs.declared.outer.memory_outer.MemoryOuter.{MemoryOuter}

-- the files that can be taken, those written, the bytes said, and how often a read and a write have failed
abbrev pub outside_of : MemoryOuter → Outside
outside_of outer = record {
  held = Some (files_of (entries_of outer.files.items));
  written = Some (files_of_map outer.written);
  said = Some outer.said.items;
  read_faults = outer.read_faults;
  write_faults = outer.write_faults;
}

-- the files as written
abbrev pub written_files : MemoryOuter → Files
written_files outer = files_of_map outer.written

-- the bytes said
abbrev pub said_bytes : MemoryOuter → List ℕ
said_bytes outer = outer.said.items

-- the files that can be taken
abbrev pub held_files : MemoryOuter → Files
held_files outer = files_of (entries_of outer.files.items)

-- how many calls were made
abbrev pub calls_made : MemoryOuter → ℕ
calls_made outer = outer.calls

-- the numbers of the calls that fail
abbrev pub failing_calls : MemoryOuter → List ℕ
failing_calls outer = outer.failing.items

-- the next call is one that fails
abbrev pub fails_next : MemoryOuter → Bool
fails_next outer = is_due (failing_calls outer) (calls_made outer)

-- one call was made, and the same calls fail
abbrev pub MadeOneCall : MemoryOuter → MemoryOuter → Type 0
MadeOneCall old new = (calls_made new ≡ one_more (calls_made old)) × (failing_calls new ≡ failing_calls old)
