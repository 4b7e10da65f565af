-- The banks of a memory in order, as they go under locks and come back.
use Rattle.std.proofs.Common.{◌≡◌, ℕ, zero, suc, ◌+◌, ◌<◌, ◌≤◌, if◌then◌else◌, List, [], ◌∷◌, ◌++◌, map, length, take, sym, refl, ap, ◌∙◌, subst, Option, None, Some, arith, eq-eqb, ne_eqb}
use Rattle.std.specs.Prelude.{slice_index_or, reverse}
use Rattle.std.specs.List.{All}
use Rattle.std.proofs.lemmas.List.{get_or-take, get_or-map, get_or_append_left, get_or_push, length-map, length-reverse, length-take-le, length_push, reverse-append, take_all, take_more}
use native.Mathlib.Decide.{ℕ_discrete}
use Rattle.mem_lines.specs.Bank.{Bank}
use Rattle.devices.specs.View.{DevicesView}
use Rattle.access_record.specs.declared.entry.LogEntry.{LogEntry}
use Rattle.access_record.specs.Passes.{RecordIdentity, PassOfBank, bank_logs_of}
use Rattle.access_record.specs.Buses.{Run, ram_banks}
use Rattle.mem_banks.specs.Slots.{HasPass}
use Rattle.mem_banks.specs.Kept.{IsRun, IsBankOf, IsBankAt, AreDevicesOf, AreDevicesAt}
use Rattle.mem_banks.specs.Plain.{IsPlain, numbers_below}
use Rattle.mem_banks.specs.End.{Unsettled, Memory, IsMemoryOf, bank_passes, passes_in, pass_in, passes_down}
use Rattle.mem_banks.specs.declared.end_memory.Unsettled as kept
use Rattle.mem_banks.specs.Memories.{unsettled_of, memory_of}
use Rattle.mem_banks.specs.Locked.{HasBanks, IsLockedBank, AreLockedDevices, AreInOrder}
use Rattle.mem_banks.proofs.Ending.{memory-plain}

-- The passes of a memory, the first one first.

pub length-numbers_below : (n : ℕ) → length (numbers_below n) ≡ n
length-numbers_below zero = refl
length-numbers_below (suc n) = ap suc (length-numbers_below n)

length-numbered : (ps : List PassOfBank) (n : ℕ) → map (λ (p : PassOfBank). p.bank) ps ≡ numbers_below n → length ps ≡ n
length-numbered ps n numbers = sym (length-map ps (λ (p : PassOfBank). p.bank)) ∙ ap length numbers ∙ length-numbers_below n

reverse-cons : (p : PassOfBank) (ps : List PassOfBank) → reverse (p ∷ ps) ≡ reverse ps ++ p ∷ []
reverse-cons p ps = reverse-append (p ∷ []) ps

-- this is the pass of bank k, and its log is the one that the passes have for this bank
abbrev pub IsPassOf : RecordIdentity → List PassOfBank → ℕ → PassOfBank → Type 0
IsPassOf book ps k p = HasPass book k (Some p) × (p.log ≡ bank_logs_of ps k)

pub passes_by_place : (book : RecordIdentity) (ps : List PassOfBank) (n : ℕ) → map (λ (p : PassOfBank). p.bank) ps ≡ numbers_below n
    → All (λ (p : PassOfBank). p.id ≡ book.id) ps → (k : ℕ) (d : PassOfBank) → k < n → IsPassOf book ps k (slice_index_or (reverse ps) k d)
passes_by_place book ps zero numbers ids k d below = absurd (omega (arith, below))
passes_by_place book [] (suc n) numbers ids k d below = absurd (cc numbers)
passes_by_place book (q ∷ qs) (suc n) numbers ids k d below = by (passes_by_place book qs n rest others k d) (ℕ_discrete k n)
  where
    rest : map (λ (p : PassOfBank). p.bank) qs ≡ numbers_below n
    rest = cc numbers

    number : q.bank ≡ n
    number = cc numbers

    others : All (λ (p : PassOfBank). p.id ≡ book.id) qs
    others j e less = ids (suc j) e (omega (arith, less))

    id : q.id ≡ book.id
    id = ids 0 q (omega arith)

    size : length (reverse qs) ≡ n
    size = length-reverse qs ∙ length-numbered qs n rest

    Is : ℕ → PassOfBank → Type 0
    Is j p = IsPassOf book (q ∷ qs) j p

    by : (k < n → IsPassOf book qs k (slice_index_or (reverse qs) k d)) → Dec (k ≡ n) → Is k (slice_index_or (reverse (q ∷ qs)) k d)
    by before (yes same) =
        let here : slice_index_or (reverse (q ∷ qs)) k d ≡ q =
        ap (λ (l : List PassOfBank). slice_index_or l k d) (reverse-cons q qs) ∙ get_or_push (reverse qs) q d k (size ∙ sym same) in
        let has : HasPass book k (Some q) = λ i. Some (record { id = id i; bank = (number ∙ sym same) i; log = q.log; seen = q.seen }) in
        let log : q.log ≡ bank_logs_of (q ∷ qs) k = sym (ap (λ b. if b then q.log else bank_logs_of qs k) (eq-eqb q.bank k (number ∙ sym same))) in
        subst (Is k) (sym here) (has, log)
    by before (no other) =
        let less : k < n = omega (arith, below, other) in
        let there : slice_index_or (reverse (q ∷ qs)) k d ≡ slice_index_or (reverse qs) k d =
        ap (λ (l : List PassOfBank). slice_index_or l k d) (reverse-cons q qs)
        ∙ get_or_append_left (reverse qs) (q ∷ []) d k (subst (λ (m : ℕ). k < m) (sym size) less) in
        let had = before less in
        let log = sym (ap (λ b. if b then q.log else bank_logs_of qs k) (ne_eqb q.bank k (λ (same : q.bank ≡ k). other (sym same ∙ number)))) in
        subst (Is k) (sym there) (had.0, had.1 ∙ log)

module _ (run : Run) (is_run : IsRun run) (memory : Memory) (of : IsMemoryOf run memory) where
  abbrev passes_are : List PassOfBank
  passes_are = bank_passes memory

  pass_at : (k : ℕ) (d : PassOfBank) → k < run.book.limits.banks → IsPassOf run.book passes_are k (slice_index_or (reverse passes_are) k d)
  pass_at = passes_by_place run.book passes_are run.book.limits.banks of.numbers of.ids

  pub length-passes : length (reverse passes_are) ≡ ram_banks run + 1
  length-passes = length-reverse passes_are ∙ length-numbered passes_are run.book.limits.banks of.numbers ∙ sym is_run.some

  pub memory_in_order : AreInOrder run memory.lines (reverse passes_are)
  memory_in_order bank b p below =
      let counted = of.counted in
      let all = is_run.some in
      let at = pass_at bank p (omega (arith, below, counted, all)) in
      record {
        pass = at.0;
        lines = subst (λ (log : List LogEntry). IsBankOf run bank (slice_index_or memory.lines bank b) log) (sym at.1) (of.banks bank b below);
      }

  -- the last one is that of the devices
  pub memory_devices : (d : PassOfBank) → AreDevicesAt run memory.devices (Some (slice_index_or (reverse passes_are) (ram_banks run) d))
  memory_devices d =
      let all = is_run.some in
      let at = pass_at (ram_banks run) d (omega (arith, all)) in
      record {
        pass = at.0;
        devices = subst (λ (log : List LogEntry). AreDevicesOf run memory.devices log) (sym at.1) of.devices;
      }

-- One bank after the other.

module _ (run : Run) (lines : List Bank) (passes : List PassOfBank) (order : AreInOrder run lines passes) where
  -- the first of them
  pub in_order-take : (m : ℕ) (few : List Bank) (left : List PassOfBank) → m ≤ length lines → few ≡ take m lines → left ≡ take m passes → AreInOrder run few left
  in_order-take m few left within few_are left_are = λ bank b p below.
      let less : bank < m = subst (λ (n : ℕ). bank < n) (ap length few_are ∙ length-take-le m lines within) below in
      let line = ap (λ (l : List Bank). slice_index_or l bank b) few_are ∙ get_or-take m lines bank b less in
      let pass = ap (λ (l : List PassOfBank). slice_index_or l bank p) left_are ∙ get_or-take m passes bank p less in
      subst (λ (x : Bank × PassOfBank). IsBankAt run bank x.0 (Some x.1)) (λ i. (sym line i, sym pass i)) (order bank b p (omega (arith, less, within)))

  -- one of them
  pub locked_at : IsRun run → (k : ℕ) (b : Bank) (p : PassOfBank) → k < length lines → slice_index_or lines k b ≡ b → slice_index_or passes k p ≡ p → IsLockedBank run b (Some p)
  locked_at is_run k b p below line pass =
      let at = subst (λ (x : Bank × PassOfBank). IsBankAt run k x.0 (Some x.1)) (λ i. (line i, pass i)) (order k b p below) in
      record { run_is = is_run; kept = subst (λ (n : ℕ). IsBankAt run n b (Some p)) (sym at.lines.is_bank.bank_is) at }

  -- one more
  pub in_order-push : (b : Bank) (p : PassOfBank) (more : List Bank) (held : List PassOfBank) → length passes ≡ length lines → IsLockedBank run b (Some p)
      → b.bank ≡ length lines → more ≡ lines ++ b ∷ [] → held ≡ passes ++ p ∷ [] → AreInOrder run more held
  in_order-push b p more held same locked bank_is more_are held_are = λ k c q below.
      subst (λ (x : Bank × PassOfBank). IsBankAt run k x.0 (Some x.1))
      (λ i. (sym (ap (λ (l : List Bank). slice_index_or l k c) more_are) i, sym (ap (λ (l : List PassOfBank). slice_index_or l k q) held_are) i))
      (by k c q (subst (λ (n : ℕ). k < n) (ap length more_are ∙ length_push lines b) below) (ℕ_discrete k (length lines)))
    where
      by : (k : ℕ) (c : Bank) (q : PassOfBank) → k < length lines + 1 → Dec (k ≡ length lines)
          → IsBankAt run k (slice_index_or (lines ++ b ∷ []) k c) (Some (slice_index_or (passes ++ p ∷ []) k q))
      by k c q below (yes here) =
          let at = subst (λ (n : ℕ). IsBankAt run n b (Some p)) (bank_is ∙ sym here) locked.kept in
          subst (λ (x : Bank × PassOfBank). IsBankAt run k x.0 (Some x.1))
          (λ i. (sym (get_or_push lines b c k (sym here)) i, sym (get_or_push passes p q k (same ∙ sym here)) i)) at
      by k c q below (no other) =
          let less : k < length lines = omega (arith, below, other) in
          let there : k < length passes = omega (arith, less, same) in
          subst (λ (x : Bank × PassOfBank). IsBankAt run k x.0 (Some x.1))
          (λ i. (sym (get_or_append_left lines (b ∷ []) c k less) i, sym (get_or_append_left passes (p ∷ []) q k there) i)) (order k c q less)

  -- Back to a memory.

  module _ (d : DevicesView) (p : PassOfBank) (has : HasBanks run) (counted : length lines ≡ ram_banks run) (same : length passes ≡ length lines)
      (devices : AreDevicesAt run d (Some p)) where
    abbrev all_passes : List PassOfBank
    all_passes = passes ++ p ∷ []

    size : length all_passes ≡ length lines + 1
    size = length_push passes p ∙ ap (λ (n : ℕ). n + 1) same

    slot_is : (k : ℕ) (slot : Option PassOfBank) → k < length lines + 1 → slice_index_or (map Some all_passes) k slot ≡ Some (slice_index_or all_passes k p)
    slot_is k slot below = get_or-map Some all_passes k p slot (subst (λ (n : ℕ). k < n) (sym size) below)

    plain : IsPlain run lines d (map Some all_passes)
    plain = record {
      run_is = has.run_is;
      some = subst (λ (n : ℕ). 0 < n) (sym counted) has.some;
      counted = counted;
      all = length-map all_passes Some ∙ size ∙ ap (λ (n : ℕ). n + 1) counted ∙ has.run_is.some;
      banks = λ bank b slot below.
          let there : bank < length passes = omega (arith, below, same) in
          let is = slot_is bank slot (omega (arith, below)) ∙ ap Some (get_or_append_left passes (p ∷ []) p bank there) in
          subst (λ (x : Option PassOfBank). IsBankAt run bank (slice_index_or lines bank b) x) (sym is) (order bank b p below);
      devices = λ slot.
          let is = slot_is (length lines) slot (omega arith) ∙ ap Some (get_or_push passes p p (length lines) same) in
          subst (λ (x : Option PassOfBank). AreDevicesAt run d x) (sym is) devices;
    }

    pub memory_again : (book : RecordIdentity) (held reversed : List PassOfBank) → book ≡ run.book → held ≡ all_passes → reversed ≡ reverse held
        → IsMemoryOf run (record { lines = lines; devices = d; unsettled = Some (record { book = book; passes = reversed }) })
    memory_again book held reversed book_is held_is reversed_is =
        let passes_are : reversed ≡ passes_down (map Some all_passes) (length (map Some all_passes)) = reversed_is ∙ ap reverse held_is ∙ sym down in
        memory-plain run lines d (map Some all_passes) _ plain
        (λ i. record { lines = lines; devices = d; unsettled = Some (record { book = book_is i; passes = passes_are i }) })
      where
        within : length all_passes ≤ length all_passes
        within = omega arith

        passes_down-some : (n : ℕ) → n ≤ length all_passes → passes_down (map Some all_passes) n ≡ reverse (take n all_passes)
        passes_down-some zero less = refl
        passes_down-some (suc n) less =
            let below : n < length all_passes = omega (arith, less) in
            let here = ap pass_in (get_or-map Some all_passes n p None below) in
            let one : suc n ≡ n + 1 = omega arith in
            let first : reverse (take (suc n) all_passes) ≡ slice_index_or all_passes n p ∷ reverse (take n all_passes) =
            ap (λ (m : ℕ). reverse (take m all_passes)) one ∙ ap reverse (take_more all_passes n p below)
            ∙ reverse-append (take n all_passes) (slice_index_or all_passes n p ∷ []) in
            ap (λ (x : PassOfBank × List PassOfBank). x.0 ∷ x.1) (λ i. (here i, passes_down-some n (omega (arith, less)) i)) ∙ sym first

        down : passes_down (map Some all_passes) (length (map Some all_passes)) ≡ reverse all_passes
        down = ap (passes_down (map Some all_passes)) (length-map all_passes Some) ∙ passes_down-some (length all_passes) within
            ∙ ap reverse (take_all (length all_passes) all_passes within)

-- How a memory goes under locks.

abbrev book_or : RecordIdentity → Option Unsettled → RecordIdentity
book_or other None = other
book_or other (Some u) = u.book

pub book_is : (u w : Unsettled) → Some u ≡ Some w → u.book ≡ w.book
book_is u w is = ap (book_or u.book) is

-- its passes, turned round
pub passes_turned : (lines : List Bank) (d : DevicesView) (unsettled : Option kept.Unsettled) (u : kept.Unsettled) (memory : Memory) (turned : List PassOfBank)
    → memory_of lines d unsettled ≡ memory → unsettled ≡ Some u → turned ≡ reverse u.passes.items → turned ≡ reverse (bank_passes memory)
passes_turned lines d unsettled u memory turned is held turned_is =
    let same : bank_passes memory ≡ u.passes.items = ap bank_passes (sym is) ∙ ap (λ (x : Option kept.Unsettled). passes_in (unsettled_of x)) held in
    turned_is ∙ ap reverse (sym same)

-- its lines, and their passes without that of the devices
pub record Begins (run : Run) (lines : List Bank) (all left : List PassOfBank) : Type 0 where
  pub order : AreInOrder run lines left
  pub same : length left ≡ length lines
  pub counted : length lines ≡ ram_banks run
  pub size : length all ≡ ram_banks run + 1

pub begins : (run : Run) (memory : Memory) (lines : List Bank) (all left : List PassOfBank) (n : ℕ) → HasBanks run → IsMemoryOf run memory
    → lines ≡ memory.lines → all ≡ reverse (bank_passes memory) → length all ≡ n + 1 → left ≡ take n all → Begins run lines all left
begins run memory lines all left n has of lines_are all_are one left_are =
    let counted : length lines ≡ ram_banks run = ap length lines_are ∙ of.counted in
    let size : length all ≡ ram_banks run + 1 = ap length all_are ∙ length-passes run has.run_is memory of in
    let less : n ≤ length all = omega (arith, one) in
    let here : length lines ≤ length lines = omega arith in
    let order : AreInOrder run lines all =
    subst (λ (x : List Bank × List PassOfBank). AreInOrder run x.0 x.1) (λ i. (sym lines_are i, sym all_are i)) (memory_in_order run has.run_is memory of) in
    let n_is : n ≡ length lines = omega (arith, one, size, counted) in
    record {
      order = in_order-take run lines all order (length lines) lines left here (sym (take_all (length lines) lines here)) (left_are ∙ ap (λ (m : ℕ). take m all) n_is);
      same = ap length left_are ∙ length-take-le n all less ∙ n_is;
      counted = counted;
      size = size;
    }

pub devices_begin : (run : Run) (memory : Memory) (d : DevicesView) (all : List PassOfBank) (n : ℕ) (p : PassOfBank) → HasBanks run → IsMemoryOf run memory
    → d ≡ memory.devices → all ≡ reverse (bank_passes memory) → length all ≡ n + 1 → slice_index_or all n p ≡ p → AreLockedDevices run d (Some p)
devices_begin run memory d all n p has of d_is all_are one here =
    let size : length all ≡ ram_banks run + 1 = ap length all_are ∙ length-passes run has.run_is memory of in
    let n_is : ram_banks run ≡ n = omega (arith, one, size) in
    let last : slice_index_or (reverse (bank_passes memory)) (ram_banks run) p ≡ p =
    ap (λ (x : List PassOfBank × ℕ). slice_index_or x.0 x.1 p) (λ i. (sym all_are i, n_is i)) ∙ here in
    record {
      run_is = has.run_is;
      kept = subst (λ (x : DevicesView × PassOfBank). AreDevicesAt run x.0 (Some x.1)) (λ i. (sym d_is i, last i)) (memory_devices run has.run_is memory of p);
    }
