-- One leaf more can be kept.
use Rattle.std.proofs.Common.{[], ◌∷◌, ◌++◌}
use Rattle.flex_base.proofs.Walked.{leaves_push}
use Rattle.hart_story.proofs.Beginning.{leaves_in, are_kept}
use Rattle.hart_story.proofs.tests.pages.keeping.Goals as goal

pub returns : goal.returns
returns c kept =
    let found = leaves_in c.args.kept kept in
    let more = found.leaves ++ c.args.leaf ∷ [] in
    are_kept _ more (c.keep.ensures found.leaves found.latest) (leaves_push found.leaves c.args.leaf found.are c.requires)
