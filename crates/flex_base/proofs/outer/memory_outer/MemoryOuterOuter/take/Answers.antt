use Rattle.std.proofs.Common.{rules}
use Rattle.flex_base.specs.FilesInMemory.{files_of, entries_of}
use Rattle.flex_base.proofs.outer.memory_outer.MemoryOuterOuter.take.Goals as goal

pub returns-in-Some-clause-taken : goal.returns-in-Some-clause-taken
returns-in-Some-clause-taken c =
    c.copy.ensures.taken (files_of (entries_of c.args.self.now.files.items)) c.args.name.now (search rules)
