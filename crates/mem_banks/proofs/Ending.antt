-- The passes of a bus that is dissolved, and how its record is closed.
use Rattle.std.proofs.Common.{◌≡◌, ℕ, zero, suc, ◌+◌, ◌<◌, ◌≤◌, ◌==◌, if◌then◌else◌, List, [], ◌∷◌, ◌++◌, map, length, take, sym, refl, ap, ◌∙◌, subst, Option, Some, None, arith, eq-eqb, ne_eqb, append_assoc}
use Rattle.std.specs.Prelude.{slice_index_or}
use Rattle.std.specs.List.{All}
use Rattle.std.proofs.lemmas.List.{get_or-take, length-take-le}
use Rattle.std.proofs.lemmas.List.Elements.{All-cons}
use Rattle.std.proofs.Math.ListN.{get_or-map}
use native.Mathlib.Decide.{ℕ_discrete}
use Rattle.flex_base.specs.Banks.{accesses_of}
use Rattle.mem_lines.specs.Bank.{Bank}
use Rattle.devices.specs.View.{DevicesView}
use Rattle.access_record.specs.declared.entry.LogEntry.{LogEntry}
use Rattle.access_record.specs.Rule.{one_if, count_of, occurrences}
use Rattle.access_record.specs.Passes.{RecordIdentity, PassOfBank, Enrolment, EachHasBankPass, bank_logs_of}
use Rattle.access_record.specs.Buses.{Run, ram_banks, events_of}
use Rattle.mem_banks.specs.Slots.{pass_of, log_in, done_in, seen_in, HasPass}
use Rattle.mem_banks.specs.Kept.{IsBankOf, AreDevicesOf}
use Rattle.mem_banks.specs.Plain.{IsPlain, numbers_below}
use Rattle.mem_banks.specs.End.{Memory, IsMemoryOf, pass_in, passes_down, AreHeld}

-- those of the first n slots don't depend on the others
pub passes_down-take : (slots : List (Option PassOfBank)) (n k : ℕ) → k ≤ n → passes_down (take n slots) k ≡ passes_down slots k
passes_down-take slots n zero below = refl
passes_down-take slots n (suc k) below =
    let here = get_or-take n slots k None (omega (arith, below)) in
    let rest = passes_down-take slots n k (omega (arith, below)) in
    ap (λ (x : Option PassOfBank × List PassOfBank). pass_in x.0 ∷ x.1) (λ i. (here i, rest i))

-- each of these slots has a pass of the record, of its own number
abbrev pub HavePasses : RecordIdentity → List (Option PassOfBank) → Type 0
HavePasses book slots = (k : ℕ) (slot : Option PassOfBank) → k < length slots → HasPass book k (slice_index_or slots k slot)

pub are_held : (book : RecordIdentity) (slots : List (Option PassOfBank)) → HavePasses book slots → AreHeld slots
are_held book slots have k slot below =
    let at = have k slot below in
    at ∙ ap Some (sym (ap pass_in at))

pub held_take : (slots fewer : List (Option PassOfBank)) (n : ℕ) → AreHeld slots → n ≤ length slots → fewer ≡ take n slots → AreHeld fewer
held_take slots fewer n held within is = subst AreHeld (sym is) (λ k slot below.
    let less : k < n = omega (arith, below, length-take-le n slots within) in
    let at = held k slot (omega (arith, less, within)) in
    subst (λ (x : Option PassOfBank). x ≡ Some (pass_in x)) (sym (get_or-take n slots k slot less)) at)

-- one pass taken
pub take_step : (slots fewer : List (Option PassOfBank)) (room all : List PassOfBank) (m n : ℕ) (p : PassOfBank) → n ≡ suc m → fewer ≡ take m slots
    → slice_index_or slots m None ≡ Some p → room ++ passes_down slots n ≡ all → (room ++ p ∷ []) ++ passes_down fewer m ≡ all
take_step slots fewer room all m n p one is here whole =
    let le : m ≤ m = omega arith in
    append_assoc room (p ∷ []) (passes_down fewer m)
    ∙ ap (λ (x : Option PassOfBank × List PassOfBank). room ++ pass_in x.0 ∷ x.1) (λ i. (sym here i, (ap (λ (l : List (Option PassOfBank)). passes_down l m) is ∙ passes_down-take slots m m le) i))
    ∙ ap (λ (k : ℕ). room ++ passes_down slots k) (sym one) ∙ whole

module _ (book : RecordIdentity) (slots : List (Option PassOfBank)) (have : HavePasses book slots) where
  pass_is : (k : ℕ) → k < length slots → pass_in (slice_index_or slots k None) ≡ pass_of book k (log_in (slice_index_or slots k None)) (seen_in (slice_index_or slots k None))
  pass_is k below = ap pass_in (have k None below)

  bank_is : (k : ℕ) → k < length slots → (pass_in (slice_index_or slots k None)).bank ≡ k
  bank_is k below = ap (λ (p : PassOfBank). p.bank) (pass_is k below)

  numbers_down : (n : ℕ) → n ≤ length slots → map (λ (p : PassOfBank). p.bank) (passes_down slots n) ≡ numbers_below n
  numbers_down zero below = refl
  numbers_down (suc n) below =
      let here = bank_is n (omega (arith, below)) in
      let rest = numbers_down n (omega (arith, below)) in
      ap (λ (x : ℕ × List ℕ). x.0 ∷ x.1) (λ i. (here i, rest i))

  ids_down : (n : ℕ) → n ≤ length slots → All (λ (p : PassOfBank). p.id ≡ book.id) (passes_down slots n)
  ids_down zero within = λ k d below. absurd (omega (arith, below))
  ids_down (suc n) within = All-cons (λ (p : PassOfBank). p.id ≡ book.id) (pass_in (slice_index_or slots n None)) (passes_down slots n)
      (ap (λ (p : PassOfBank). p.id) (pass_is n (omega (arith, within)))) (ids_down n (omega (arith, within)))

  logs_down : (n k : ℕ) → n ≤ length slots → k < n → bank_logs_of (passes_down slots n) k ≡ log_in (slice_index_or slots k None)
  logs_down zero k below less = absurd (omega (arith, less))
  logs_down (suc n) k below less = by (logs_down n k (omega (arith, below))) (ℕ_discrete n k)
    where
      within : n < length slots
      within = omega (arith, below)

      by : (k < n → bank_logs_of (passes_down slots n) k ≡ log_in (slice_index_or slots k None)) → Dec (n ≡ k)
          → bank_logs_of (passes_down slots (suc n)) k ≡ log_in (slice_index_or slots k None)
      by rest (yes same) =
          ap (λ b. if b then (pass_in (slice_index_or slots n None)).log else bank_logs_of (passes_down slots n) k) (eq-eqb (pass_in (slice_index_or slots n None)).bank k (bank_is n within ∙ same))
          ∙ ap (λ (p : PassOfBank). p.log) (pass_is n within) ∙ ap (λ (j : ℕ). log_in (slice_index_or slots j None)) same
      by rest (no other) =
          ap (λ b. if b then (pass_in (slice_index_or slots n None)).log else bank_logs_of (passes_down slots n) k) (ne_eqb (pass_in (slice_index_or slots n None)).bank k (λ same. other (sym (bank_is n within) ∙ same)))
          ∙ rest (omega (arith, less, other))

-- a default for a place that there is
some_line : {n : ℕ} (lines : List Bank) → n < length lines → Bank
some_line [] below = absurd (omega (arith, below))
some_line (b ∷ lines) below = b

-- all slots of a bus have their passes
pub plain-passes : (run : Run) (lines : List Bank) (d : DevicesView) (slots : List (Option PassOfBank)) → IsPlain run lines d slots → HavePasses run.book slots
plain-passes run lines d slots plain = λ bank slot below. by bank slot below (ℕ_discrete bank (length lines))
  where
    by : (bank : ℕ) (slot : Option PassOfBank) → bank < length slots → Dec (bank ≡ length lines) → HasPass run.book bank (slice_index_or slots bank slot)
    by bank slot below (yes same) =
        subst (λ (k : ℕ). HasPass run.book k (slice_index_or slots k slot)) (sym same)
        (subst (λ (k : ℕ). HasPass run.book k (slice_index_or slots (length lines) slot)) (sym plain.counted) (plain.devices slot).pass)
    by bank slot below (no other) =
        let p = plain.all in let q = plain.counted in let r = plain.run_is.some in
        let less : bank < length lines = omega (arith, p, q, r, below, other) in
        (plain.banks bank (some_line lines less) slot less).pass

-- what a bus is dissolved into
pub memory-plain : (run : Run) (lines : List Bank) (d : DevicesView) (slots : List (Option PassOfBank)) (memory : Memory) → IsPlain run lines d slots
    → memory ≡ record { lines = lines; devices = d; unsettled = Some (record { book = run.book; passes = passes_down slots (length slots) }) }
    → IsMemoryOf run memory
memory-plain run lines d slots memory plain is = subst (IsMemoryOf run) (sym is) (record {
  unsettled = refl;
  ids = ids_down run.book slots have (length slots) all;
  numbers = numbers_down run.book slots have (length slots) all ∙ ap numbers_below plain.all;
  counted = plain.counted;
  banks = λ bank b below.
      let less : bank < length slots = omega (arith, p, q, r, below) in
      subst (λ (log : List LogEntry). IsBankOf run bank (slice_index_or lines bank b) log) (sym (logs_down run.book slots have (length slots) bank all less)) (plain.banks bank b None below).lines;
  devices =
      let less : ram_banks run < length slots = omega (arith, p, q, r) in
      let last : log_in (slice_index_or slots (length lines) None) ≡ bank_logs_of (passes_down slots (length slots)) (ram_banks run) =
      ap (λ (k : ℕ). log_in (slice_index_or slots k None)) plain.counted ∙ sym (logs_down run.book slots have (length slots) (ram_banks run) all less) in
      subst (λ (log : List LogEntry). AreDevicesOf run d log) last (plain.devices None).devices;
})
  where
    have : HavePasses run.book slots
    have = plain-passes run lines d slots plain

    all : length slots ≤ length slots
    all = omega arith

    p : length slots ≡ run.book.limits.banks
    p = plain.all

    q : length lines ≡ ram_banks run
    q = plain.counted

    r : ram_banks run + 1 ≡ run.book.limits.banks
    r = plain.run_is.some

-- and what its banks have done
pub done-down : (run : Run) (lines : List Bank) (d : DevicesView) (slots : List (Option PassOfBank)) (passes : List PassOfBank) → IsPlain run lines d slots
    → passes ≡ passes_down slots (length slots) → (bank : ℕ) → bank < run.book.limits.banks
    → accesses_of (events_of (bank_logs_of passes bank)) ≡ slice_index_or (map done_in slots) bank []
done-down run lines d slots passes plain is bank below =
    let all : length slots ≤ length slots = omega arith in
    let within : bank < length slots = let p = plain.all in omega (arith, below, p) in
    ap (λ (ps : List PassOfBank). accesses_of (events_of (bank_logs_of ps bank))) is
    ∙ ap (λ (log : List LogEntry). accesses_of (events_of log)) (logs_down run.book slots (plain-passes run lines d slots plain) (length slots) bank all within)
    ∙ sym (get_or-map done_in slots bank None)

-- the passes of the memory are all that the founder has enrolled
counts-map : (k : ℕ) (ds : List PassOfBank) → count_of (λ (p : PassOfBank). p.bank) k ds ≡ occurrences k (map (λ (p : PassOfBank). p.bank) ds)
counts-map k [] = refl
counts-map k (p ∷ ds) = ap (λ (n : ℕ). one_if (p.bank == k) + n) (counts-map k ds)

pub each_bank : (founder : Enrolment) (n : ℕ) (ds : List PassOfBank) → founder.banks ≡ numbers_below n → map (λ (p : PassOfBank). p.bank) ds ≡ numbers_below n
    → EachHasBankPass founder.banks ds
each_bank founder n ds enrolled numbers = λ bank.
    let same : occurrences bank founder.banks ≡ count_of (λ (p : PassOfBank). p.bank) bank ds =
    ap (occurrences bank) (enrolled ∙ sym numbers) ∙ sym (counts-map bank ds) in
    omega (arith, same)
