use Rattle.std.proofs.Common.{rules}
use Rattle.flex_base.specs.FilesInMemory.{files_or_empty, entries_of}
use Rattle.flex_base.proofs.outer.steady_outer.SteadyOuterOuter.take.Goals as goal

pub returns-in-Some-clause-taken : goal.returns-in-Some-clause-taken
returns-in-Some-clause-taken c =
    c.copy.ensures.taken (files_or_empty (entries_of c.args.self.now.files.items)) c.args.name.now (search rules)
