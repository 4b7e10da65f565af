-- What the banks of a bus of one thread have seen of the numbers.
use Rattle.std.proofs.Common.{◌≡◌, ◌≢◌, ℕ, ◌<◌, ◌≤◌, List, length, set, sym, ap, ◌∙◌, subst, Option, Some, arith, length-set}
use Rattle.std.specs.Prelude.{slice_index_or}
use Rattle.std.proofs.lemmas.List.{get_or-set_same, get_or-set_other}
use native.Mathlib.Decide.{ℕ_discrete}
use Rattle.mem_lines.specs.Bank.{Bank}
use Rattle.devices.specs.View.{DevicesView}
use Rattle.access_record.specs.declared.entry.LogEntry.{LogEntry}
use Rattle.access_record.specs.Passes.{PassOfBank}
use Rattle.access_record.specs.Buses.{Run, ram_banks}
use Rattle.mem_banks.specs.Slots.{pass_of, bank_in, log_in, seen_in, HasPass}
use Rattle.mem_banks.specs.Kept.{IsBankOf, IsBankAt, AreDevicesAt}
use Rattle.mem_banks.specs.Plain.{IsPlain, HasSeen}
use Rattle.mem_banks.proofs.Ending.{plain-passes}

module _ (run : Run) (lines : List Bank) (d : DevicesView) (slots : List (Option PassOfBank)) (plain : IsPlain run lines d slots) where
  -- each bank of RAM has a place of its own for its pass
  pub within : (k : ℕ) → k < ram_banks run → k < length slots
  within k below = let p = plain.all in let r = plain.run_is.some in omega (arith, p, r, below)

  -- and so have the devices
  pub last_within : length lines < length slots
  last_within = let p = plain.all in let q = plain.counted in let r = plain.run_is.some in omega (arith, p, q, r)

  line_within : (k : ℕ) → k < ram_banks run → k < length lines
  line_within k below = let q = plain.counted in omega (arith, q, below)

  pub pass_at : (k : ℕ) (slot : Option PassOfBank) → k < ram_banks run → slot ≡ slice_index_or slots k slot → HasPass run.book k slot
  pass_at k slot below at = subst (HasPass run.book k) (sym at) (plain-passes run lines d slots plain k slot (within k below))

  -- so it is with its bank's number
  pub held_at : (k : ℕ) (slot : Option PassOfBank) → k < ram_banks run → slot ≡ slice_index_or slots k slot → HasPass run.book (bank_in slot) slot
  held_at k slot below at =
      let has = pass_at k slot below at in
      subst (λ (n : ℕ). HasPass run.book n slot) (sym (ap bank_in has)) has

  -- a bank that has seen all numbers so far
  pub seen-set : (k order : ℕ) (slot : Option PassOfBank) → k < ram_banks run → order ≤ seen_in slot → HasSeen (ram_banks run) (set slots k slot) k order
  seen-set k order slot below seen = record {
    bank = below;
    seen = λ other. subst (λ (x : Option PassOfBank). order ≤ seen_in x) (sym (get_or-set_same slots k slot other (within k below))) seen;
  }

  -- what the devices note changes nothing of it
  pub seen-devices : (newest order : ℕ) (slot : Option PassOfBank) → HasSeen (ram_banks run) slots newest order
      → HasSeen (ram_banks run) (set slots (length lines) slot) newest order
  seen-devices newest order slot has = record {
    bank = has.bank;
    seen = λ other.
        let below = has.bank in
        let q = plain.counted in
        let apart : newest ≢ length lines = λ (same : newest ≡ length lines). omega (arith, same, below, q) in
        subst (λ (x : Option PassOfBank). order ≤ seen_in x) (sym (get_or-set_other slots (length lines) newest slot other apart)) (has.seen other);
  }

  -- a bank's pass that has seen more
  pub plain-shared : (k seen : ℕ) (old new : Option PassOfBank) → k < ram_banks run → old ≡ slice_index_or slots k old
      → new ≡ Some (pass_of run.book (bank_in old) (log_in old) seen) → IsPlain run lines d (set slots k new)
  plain-shared k seen old new below at is = record {
    run_is = plain.run_is;
    some = plain.some;
    counted = plain.counted;
    all = length-set slots k new ∙ plain.all;
    banks = λ j c other less. by j c other less (ℕ_discrete j k);
    devices = λ other.
        let less = line_within k below in
        let apart : length lines ≢ k = λ (same : length lines ≡ k). omega (arith, same, less) in
        subst (AreDevicesAt run d) (sym (get_or-set_other slots k (length lines) new other apart)) (plain.devices other);
  }
    where
      had : HasPass run.book k old
      had = pass_at k old below at

      log_is : log_in new ≡ log_in old
      log_is = ap log_in is

      has : HasPass run.book k new
      has = is ∙ ap (λ (x : ℕ × List LogEntry × ℕ). Some (pass_of run.book x.0 x.1 x.2)) (λ i. (ap bank_in had i, sym log_is i, sym (ap seen_in is) i))

      by : (j : ℕ) (c : Bank) (other : Option PassOfBank) → j < length lines → Dec (j ≡ k) → IsBankAt run j (slice_index_or lines j c) (slice_index_or (set slots k new) j other)
      by j c other less (yes same) =
          subst (λ (n : ℕ). IsBankAt run n (slice_index_or lines n c) (slice_index_or (set slots k new) n other)) (sym same)
          (subst (IsBankAt run k (slice_index_or lines k c)) (sym (get_or-set_same slots k new other (within k below))) (record {
            pass = has;
            lines = subst (λ (log : List LogEntry). IsBankOf run k (slice_index_or lines k c) log) (sym (log_is ∙ ap log_in at)) (plain.banks k c old (line_within k below)).lines;
          }))
      by j c other less (no apart) =
          subst (IsBankAt run j (slice_index_or lines j c)) (sym (get_or-set_other slots k j new other apart)) (plain.banks j c other less)
