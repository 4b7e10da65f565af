use Rattle.std.proofs.Common.{◌≡◌, List, ℕ, [], ◌++◌, take, ap, ◌∙◌}
use Rattle.std.proofs.lemmas.Result.{on_err_weaker}
use Rattle.flex_top.proofs.Growth.{part_of}
use Rattle.flex_top.proofs.pieces.Pieces.flush.Goals as goal

pub returns-clause-err : goal.returns-clause-err
returns-clause-err g c =
    let end = c.self.inside.end in
    let same : take end c.deref.result.now ≡ c.args.self.now = ap (λ (t : List ℕ). take end t) c.deref.ensures.value ∙ c.self.view_is in
    on_err_weaker _ (part_of _ _ _ (take end c.deref.result.now) [] c.args.self.now [] (ap (λ (t : List ℕ). t ++ []) same)) c.add-written.ensures.err
