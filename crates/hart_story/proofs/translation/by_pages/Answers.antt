-- Where a translation begins, by what is kept.
use Rattle.std.proofs.Common.{◌≡◌, ℕ, [], ◌++◌, slice_index, Option, None, Some, ap, sym, subst, ◌∙◌}
use Rattle.flex_base.specs.Csrs.{satp}
use Rattle.flex_base.specs.Ends.{traps}
use Rattle.flex_base.specs.State.{State}
use Rattle.flex_base.specs.Translation.{page_of, kept, walk, IfLeaf}
use Rattle.flex_base.specs.declared.translation.Leaf.{Leaf}
use Rattle.flex_base.proofs.Walked.{kept_leaf}
use Rattle.hart_story.specs.Found.{Sees, leaves_of}
use Rattle.hart_story.specs.declared.found.Found.{Found}
use Rattle.hart_story.specs.declared.hart.Hart.{Hart}
use Rattle.hart_story.proofs.Walking.{translates_outside, translates_looks, walks_from_start, walk_starts}
use Rattle.hart_story.proofs.translation.by_pages.Goals as goal

pub returns-then-not-is_canonical-clause-translates : goal.returns-then-not-is_canonical-clause-translates
returns-then-not-is_canonical-clause-translates c = λ setup budget a next of sees is_on.
    translates_outside setup.ram a c.args.kind c.args.va next is_on
    (sym c.is_canonical.ensures ∙ c.if-not-is_canonical.true)
    ∙ ap (λ cause. traps a cause c.args.va) (sym c.page_fault.ensures)

-- what is looked up is what is kept
held : (hart : Hart) (found : Found) (a : State) (page va : ℕ) (result : Option Leaf) → (sees : Sees hart found a)
    → result ≡ kept (sees.before ++ leaves_of found) page → page ≡ page_of va → result ≡ kept a.leaves (page_of va)
held hart found a page va result sees looked is =
    looked ∙ ap (kept (sees.before ++ leaves_of found)) is ∙ ap (λ leaves. kept leaves (page_of va)) (sym sees.leaves)

pub returns-in-Some-clause-translates : goal.returns-in-Some-clause-translates
returns-in-Some-clause-translates c = λ setup budget a next of sees is_on.
    let is : Some c.in-Some.leaf ≡ kept a.leaves (page_of c.args.va) = sym c.in-Some.is
    ∙ held c.args.hart.now c.args.found.now a c.page_of.result c.args.va c.look.result sees (c.look.ensures sees.before sees.latest) c.page_of.ensures in
    let Leaves : Option Leaf → Type 0 = λ l. IfLeaf l in
    translates_looks setup.ram a c.args.kind c.args.va next (Some c.in-Some.leaf)
    is_on (sym c.is_canonical.ensures ∙ c.if-not-is_canonical.false) is
    ∙ c.use_kept.ensures.uses setup.ram a next (subst Leaves (sym is) (kept_leaf a.leaves (page_of c.args.va) sees.fit)) sees.shows

pub returns-in-Some-clause-same : goal.returns-in-Some-clause-same
returns-in-Some-clause-same c = c.use_kept.ensures.same

pub returns-in-Some-clause-sound : goal.returns-in-Some-clause-sound
returns-in-Some-clause-sound c = c.use_kept.ensures.sound c.args.layout.now.ram

pub returns-in-None-clause-translates : goal.returns-in-None-clause-translates
returns-in-None-clause-translates c = λ setup budget a next of sees is_on.
    let is : None ≡ kept a.leaves (page_of c.args.va) = sym c.in-None.is
    ∙ held c.args.hart.now c.args.found.now a c.page_of.result c.args.va c.look.result sees (c.look.ensures sees.before sees.latest) c.page_of.ensures in
    let root = c.satp.ensures ∙ ap (λ stores. slice_index stores satp) sees.shows.csrs in
    translates_looks setup.ram a c.args.kind c.args.va next None
    is_on (sym c.is_canonical.ensures ∙ c.if-not-is_canonical.false) is
    ∙ walks_from_start setup.ram a c.args.kind c.args.va next c.start.result
    (λ rest. c.start.ensures.ahead rest ∙ ap (λ s. walk s c.args.va rest) root)
    ∙ c.arrive.ensures.arrives setup budget a next 3 of sees.shows (λ address need. sym (c.start.ensures.left address need))

pub returns-in-None-clause-same : goal.returns-in-None-clause-same
returns-in-None-clause-same c =
    c.arrive.ensures.same (λ leaf e. walk_starts c.satp.result c.args.va leaf (sym (c.start.ensures.ahead []) ∙ e))
