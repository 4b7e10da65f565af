-- The passes of the contexts close the record, which tells the count of all events; all else is read of what is left.
use Rattle.std.proofs.Common.{rules, arith, ◌≡◌, length, vec_len, sym, subst, ap, ◌∙◌}
use Rattle.mem_banks.specs.End.{Memory}
use Rattle.solo.specs.Solo.{Solo}
use Rattle.solo.specs.Standing.{IsAt}
use Rattle.solo.proofs.Finishing.{may_settle, stop_is, stops, memory_end, is_end}
use Rattle.solo.proofs.machine.SoloMachine.finish.Goals as goal

pub settle-requires : goal.settle-requires
settle-requires c =
    let At : Solo → Type 0 = λ s. IsAt c.requires.ended.0 c.requires.ended.1 s in
    let at = subst At (sym c.self.view_is) c.requires.ended.2 in
    record { of_run = (_, may_settle _ _ _ at _ c.dissolve-memory.ensures.memory _ c.take_apart-harts.ensures.passes) }

-- a stop stands
pub unreachable-requires : goal.unreachable-requires
unreachable-requires c =
    let At : Solo → Type 0 = λ s. IsAt c.requires.ended.0 c.requires.ended.1 s in
    let at = subst At (sym c.self.view_is) c.requires.ended.2 in
    let same = ap (λ (m : Memory). m.devices) c.memory.view_is ∙ c.settle.ensures.devices in
    stops _ _ _ at _ c.dissolve-memory.ensures.memory c.dissolve-memory.ensures.history _ _ same c.requires.ended.3 c.stop.ensures.stop c.in_default.is

pub returns : goal.returns
returns c setup u given ended =
    let At : Solo → Type 0 = λ s. IsAt setup u s in
    let at = subst At (sym c.self.view_is) given in
    let of = c.dissolve-memory.ensures.memory in
    let history = c.dissolve-memory.ensures.history in
    let passes = c.take_apart-harts.ensures.passes in
    let count : length c.self.inside.contexts.items ≡ vec_len c.self.inside.contexts = search rules in
    let same = ap (λ (m : Memory). m.devices) c.memory.view_is ∙ c.settle.ensures.devices in
    let stop = sym (stop_is setup u _ at _ of history _ _ same c.stop.ensures.stop) ∙ c.in-Some.is in
    is_end setup u _ _ _ _ _ _ at (ap (λ (s : Solo). s.plan) c.self.view_is)
    (λ h other below. c.take_apart-harts.ensures.contexts h other (omega (arith, below, count)))
    c.take_apart-harts.ensures.harts c.take_apart-harts.ensures.logs passes
    (c.settle.ensures.closed _ (may_settle setup u _ at _ of _ passes))
    stop (memory_end setup u _ at _ of history _ c.settle.ensures.lines c.settle.ensures.devices c.settle.ensures.settled)
