use Rattle.std.proofs.Common.{◌≡◌, drop}
use Rattle.flex_base.specs.FilesInMemory.{files_of, entries_of}
use Rattle.flex_base.proofs.outer.memory_files.find.Given as goal

abbrev pub invariant-loop-file : goal.invariant-loop-file
invariant-loop-file l =
    files_of (entries_of (drop l.file-index l.files)) l.name ≡ files_of (entries_of l.files) l.name
