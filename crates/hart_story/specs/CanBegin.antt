-- What a hart that begins an instruction is, beside what can be seen of it.
use Rattle.std.specs.Prelude.{ℕ, List}
use Rattle.flex_base.specs.Csrs.{AreFit}
use Rattle.flex_base.specs.Translation.{AreLeaves}
use Rattle.flex_base.specs.declared.translation.Leaf.{Leaf}
use Rattle.hart_state.specs.IsLatest.{IsLatest}
use Rattle.hart_state.specs.declared.kept.Kept.{Kept}
use Rattle.hart_story.specs.declared.hart.Hart.{Hart}

-- what is kept stands for leaves that there are
unfoldable pub AreKept : Kept → Type 0
AreKept kept = (leaves : List Leaf) × IsLatest kept leaves × AreLeaves leaves

-- its registers and what it keeps are such as instructions leave
abbrev pub CanBegin : ℕ → Hart → Type 0
CanBegin harts hart = AreFit harts hart.csrs × AreKept hart.kept
