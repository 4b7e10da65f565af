-- The passes of all contexts close the record, and then the logs are those of one run. All else is read of what is left.
use Rattle.std.proofs.Common.{rules, arith, ◌≡◌, length, vec_len, sym, subst, ap, ◌∙◌}
use Rattle.mem_banks.specs.End.{Memory}
use Rattle.context.specs.Contexts.{IsContext}
use Rattle.solo.proofs.Taking.{AllHave}
use Rattle.crew.specs.Crews.{Crew, AreHome, AreAllResting}
use Rattle.crew.proofs.Gathered.{all_resting, are_back}
use Rattle.crew.proofs.Closing.{may_close}
use Rattle.crew.proofs.Left.{stop_is, stops, played}
use Rattle.crew.proofs.ending.conclude.Goals as goal

pub discard_all-requires : goal.discard_all-requires
discard_all-requires c =
    let Home : Crew → Type 0 = λ w. AreHome w in
    record { none = subst Home (sym c.crew.view_is) c.requires.over.1.home }

pub all_resting-contexts-requires-clause-all : goal.all_resting-contexts-requires-clause-all
all_resting-contexts-requires-clause-all c =
    let over = c.requires.over.1 in
    let All : Crew → Type 0 = λ w. AreAllResting w.resting in
    subst All (sym c.crew.view_is) (all_resting _ _ over.is_crew over.home)

pub settle-requires : goal.settle-requires
settle-requires c =
    let over = c.requires.over.1 in
    let same = c.all_resting-contexts.ensures ∙ ap (λ (w : Crew). w.resting) c.crew.view_is in
    record {
      of_run = (_, may_close _ _ _ _ (are_back _ _ _ _ _ over same) _ _ over.enrolled c.take_apart-harts.ensures.passes);
    }

-- a stop stands
pub unreachable-requires : goal.unreachable-requires
unreachable-requires c =
    let over = c.requires.over.1 in
    let same = c.all_resting-contexts.ensures ∙ ap (λ (w : Crew). w.resting) c.crew.view_is in
    let back = are_back _ _ _ _ _ over same in
    let count : length c.all_resting-contexts.result.items ≡ vec_len c.all_resting-contexts.result = search rules in
    let passes = c.take_apart-harts.ensures.passes in
    let devices = ap (λ (m : Memory). m.devices) c.memory.view_is ∙ c.settle.ensures.devices in
    stops _ _ _ _ back
    (λ h other below. c.take_apart-harts.ensures.contexts h other (omega (arith, below, count)))
    _ _ passes (c.settle.ensures.closed _ (may_close _ _ _ _ back _ _ over.enrolled passes))
    _ _ devices c.stop.ensures.stop c.in_default.is

pub returns : goal.returns
returns c run over =
    let same = c.all_resting-contexts.ensures ∙ ap (λ (w : Crew). w.resting) c.crew.view_is in
    let back = are_back run _ _ _ _ over same in
    let count : length c.all_resting-contexts.result.items ≡ vec_len c.all_resting-contexts.result = search rules in
    let are : AllHave IsContext c.all_resting-contexts.result.items = λ h other below. c.take_apart-harts.ensures.contexts h other (omega (arith, below, count)) in
    let passes = c.take_apart-harts.ensures.passes in
    let closed = c.settle.ensures.closed run (may_close run _ _ _ back _ _ over.enrolled passes) in
    let devices = ap (λ (m : Memory). m.devices) c.memory.view_is ∙ c.settle.ensures.devices in
    let stop = sym (stop_is run _ _ _ back are _ _ passes closed _ _ devices c.stop.ensures.stop) ∙ c.in-Some.is in
    played run _ _ _ back are _ _ passes closed _
    c.take_apart-harts.ensures.harts c.take_apart-harts.ensures.logs stop
    c.settle.ensures.lines c.settle.ensures.devices c.settle.ensures.settled
