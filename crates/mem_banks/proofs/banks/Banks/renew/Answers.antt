use Rattle.std.proofs.Common.{rules, arith, ◌≡◌, ℕ, ◌+◌, ◌-◌, ◌<◌, ◌≤◌, Some, length, take, sym, ap, ◌∙◌}
use Rattle.std.specs.Prelude.{slice_index_or, vec_len}
use Rattle.access_record.specs.Buses.{ram_banks}
use Rattle.mem_banks.specs.Slots.{bank_in}
use Rattle.mem_banks.specs.End.{Unsettled, bank_passes}
use Rattle.mem_banks.specs.Memories.{unsettled_of}
use Rattle.mem_banks.proofs.Locking.{length-passes, book_is, passes_turned, begins, devices_begin, locked_at, in_order-take}
use Rattle.mem_banks.proofs.banks.Banks.renew.Goals as goal

pub unreachable-requires-in_default-pop : goal.unreachable-requires-in_default-pop
unreachable-requires-in_default-pop g c =
    let run = g.N.RunName.run in
    let held : c.end.inside.unsettled ≡ Some c.in-Some.unsettled = search rules in
    let all = passes_turned c.end.inside.lines.items c.end.inside.devices c.end.inside.unsettled c.in-Some.unsettled c.args.end c.reverse.new.self.items
    c.end.view_is held c.reverse.ensures.items in
    let size : length c.reverse.new.self.items ≡ ram_banks run + 1 = ap length all ∙ length-passes run c.args.room.run.run_is c.args.end c.requires.memory in
    let none : vec_len c.reverse.new.self ≡ 0 = search rules in
    let len : vec_len c.reverse.new.self ≡ length c.reverse.new.self.items = search rules in
    absurd (omega (arith, size, none, len))

pub new-requires : goal.new-requires
new-requires g c =
    let run = g.N.RunName.run in
    let p = c.in-Some-pop.pass in
    let n = vec_len c.reverse.new.self - 1 in
    let held : c.end.inside.unsettled ≡ Some c.in-Some.unsettled = search rules in
    let all = passes_turned c.end.inside.lines.items c.end.inside.devices c.end.inside.unsettled c.in-Some.unsettled c.args.end c.reverse.new.self.items
    c.end.view_is held c.reverse.ensures.items in
    let some : 0 < vec_len c.reverse.new.self = search rules in
    let one : length c.reverse.new.self.items ≡ n + 1 = search rules in
    let here : slice_index_or c.reverse.new.self.items n p ≡ p = cc (c.pop.ensures.value p some, c.in-Some-pop.is) in
    record { kept = devices_begin run c.args.end c.end.inside.devices c.reverse.new.self.items n p c.args.room.run c.requires.memory (ap (λ m. m.devices) c.end.view_is) all one here }

pub loop-bank-init : goal.loop-bank-init
loop-bank-init g c =
    let run = g.N.RunName.run in
    let n = vec_len c.reverse.new.self - 1 in
    let held : c.end.inside.unsettled ≡ Some c.in-Some.unsettled = search rules in
    let all = passes_turned c.end.inside.lines.items c.end.inside.devices c.end.inside.unsettled c.in-Some.unsettled c.args.end c.reverse.new.self.items
    c.end.view_is held c.reverse.ensures.items in
    let some : 0 < vec_len c.reverse.new.self = search rules in
    let one : length c.reverse.new.self.items ≡ n + 1 = search rules in
    let first = begins run c.args.end c.end.inside.lines.items c.reverse.new.self.items c.pop.new.self.items n c.args.room.run c.requires.memory
    (ap (λ m. m.lines) c.end.view_is) all one c.pop.ensures.rest in
    let same = first.same in
    let counted = first.counted in
    let size = first.size in
    let banks = c.args.room.run.run_is.some in (
      first.order,
      search rules,
      search rules,
      search rules,
      search rules,
      search rules,
    )

pub new-requires-in-Some-pop-2 : goal.new-requires-in-Some-pop-2
new-requires-in-Some-pop-2 g c =
    let run = g.N.RunName.run in
    let lines = c.loop-bank.lines in
    let passes = c.loop-bank.passes in
    let b = c.in-Some-pop-2.bank in
    let p = c.in-Some-pop-3.pass in
    let m = vec_len lines - 1 in
    let some : 0 < vec_len lines = search rules in
    let below : m < length lines.items = search rules in
    let line : slice_index_or lines.items m b ≡ b = cc (c.pop-in-loop-bank.ensures.value b some, c.in-Some-pop-2.is) in
    let same : vec_len passes ≡ vec_len lines = c.loop-bank.invariant.1 in
    let some_pass : 0 < vec_len passes = search rules in
    let at : m ≡ vec_len passes - 1 = ap (λ (n : ℕ). n - 1) (sym same) in
    let pass : slice_index_or passes.items m p ≡ p =
    ap (λ (n : ℕ). slice_index_or passes.items n p) at ∙ cc (c.pop-in-Some-pop-2.ensures.value p some_pass, c.in-Some-pop-3.is) in
    record { kept = locked_at run lines.items passes.items c.loop-bank.invariant.0 c.args.room.run.run_is m b p below line pass }

pub loop-bank-preserved : goal.loop-bank-preserved
loop-bank-preserved g c =
    let run = g.N.RunName.run in
    let lines = c.loop-bank.lines in
    let passes = c.loop-bank.passes in
    let m = vec_len lines - 1 in
    let same : vec_len passes ≡ vec_len lines = c.loop-bank.invariant.1 in
    let at : vec_len passes - 1 ≡ m = ap (λ (n : ℕ). n - 1) same in
    let within : m ≤ length lines.items = search rules in (
      in_order-take run lines.items passes.items c.loop-bank.invariant.0 m c.pop-in-loop-bank.new.self.items c.pop-in-Some-pop-2.new.self.items within
          c.pop-in-loop-bank.ensures.rest (c.pop-in-Some-pop-2.ensures.rest ∙ ap (λ (n : ℕ). take n passes.items) at),
      search rules,
      search rules,
      search rules,
      search rules,
      search rules,
    )

pub invariant_of-result : goal.invariant_of-result
invariant_of-result g c =
    let run = g.N.RunName.run in
    let p = c.in-Some-pop.pass in
    let n = vec_len c.reverse.new.self - 1 in
    let held : c.end.inside.unsettled ≡ Some c.in-Some.unsettled = search rules in
    let all = passes_turned c.end.inside.lines.items c.end.inside.devices c.end.inside.unsettled c.in-Some.unsettled c.args.end c.reverse.new.self.items
    c.end.view_is held c.reverse.ensures.items in
    let some : 0 < vec_len c.reverse.new.self = search rules in
    let one : length c.reverse.new.self.items ≡ n + 1 = search rules in
    let here : slice_index_or c.reverse.new.self.items n p ≡ p = cc (c.pop.ensures.value p some, c.in-Some-pop.is) in
    let devices = devices_begin run c.args.end c.end.inside.devices c.reverse.new.self.items n p c.args.room.run c.requires.memory (ap (λ m. m.devices) c.end.view_is) all one here in
    let number : p.bank ≡ ram_banks run = ap bank_in devices.kept.pass in
    let told : c.bank-count.result ≡ ram_banks run = search rules in
    let left : Unsettled = record { book = c.in-Some.unsettled.book; passes = c.in-Some.unsettled.passes.items } in
    let of_run : Unsettled = record { book = run.book; passes = bank_passes c.args.end } in
    let unsettled : Some left ≡ Some of_run =
    ap unsettled_of (sym held) ∙ ap (λ m. m.unsettled) c.end.view_is ∙ c.requires.memory.unsettled in
    record {
      named = book_is left of_run unsettled;
      counted = (told, search rules);
      spare = search rules;
      run = c.args.room.run;
    }
