-- The hart is at its end, and then can begin again.
use Rattle.std.proofs.Common.{ℕ, sym, subst}
use Rattle.flex_base.specs.Csrs.{AreFit}
use Rattle.hart_story.specs.Progress.{want_in}
use Rattle.hart_story.proofs.Beginning.{are_kept}
use Rattle.hart_story.proofs.Needing.{needs_finish}
use Rattle.hart_story.proofs.tests.playing.end.Goals as goal

pub finish-part-requires : goal.finish-part-requires
finish-part-requires g c =
    let (setup, i, at) = c.requires in
    let ending = needs_finish c.in-Finish.class (want_in setup i) (c.in-Finish.ensures.told setup i at) in
    (setup, i, ending.part, ending.after, at, ending.ends)

pub returns : goal.returns
returns g c =
    let (setup, i, at) = c.requires in
    let ending = needs_finish c.in-Finish.class (want_in setup i) (c.in-Finish.ensures.told setup i at) in
    let ended = c.finish-part.ensures.ends setup i ending.part ending.after at ending.ends in
    let fit : AreFit c.args.layout.now.harts ended.after.csrs = subst (λ (n : ℕ). AreFit n ended.after.csrs) at.of.harts ended.fit.csrs in
    let csrs = subst (AreFit c.args.layout.now.harts) (sym ended.stands.csrs) fit in
    (csrs, are_kept _ ended.after.leaves ended.stands.kept ended.fit.leaves)
