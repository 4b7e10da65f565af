-- The rule of the record: what its word and the views of its seats are between any two atomic steps.
use Rattle.std.specs.Prelude.{◌≡◌, ℕ, ◌+◌, ◌≤◌, ◌==◌, Bool, true, false, List, [], ◌∷◌}
use mathlib.Core.Option.{some}
use lib.ListN.{get_elem?}
use Rattle.atomic_table.specs.Table.{State}
use Rattle.access_record.specs.declared.limits.Limits.{Limits}
use Rattle.access_record.specs.declared.entry.LogEntry.{LogEntry}
use Rattle.access_record.specs.declared.view.HartView.{HartView}
use Rattle.access_record.specs.declared.view.BankView.{BankView}
use Rattle.access_record.specs.declared.view.View.{View}
use Rattle.access_record.specs.Logs.{IsRecord, log_of}

abbrev pub total : {X : Type 0} → (X → ℕ) → List X → ℕ
total f [] = 0
total f (x ∷ xs) = f x + total f xs

abbrev pub one_if : Bool → ℕ
one_if true = 1
one_if false = 0

-- how often a number is that of one of these
abbrev pub count_of : {X : Type 0} → (X → ℕ) → ℕ → List X → ℕ
count_of number k xs = total (λ x. one_if (number x == k)) xs

-- how often a number stands in a list
abbrev pub occurrences : ℕ → List ℕ → ℕ
occurrences k xs = count_of (λ (x : ℕ). x) k xs

abbrev pub hart_number : HartView → ℕ
hart_number p = p.hart.0

abbrev pub hart_log : HartView → List LogEntry
hart_log p = p.log

abbrev pub hart_seen : HartView → ℕ
hart_seen p = p.seen

abbrev pub bank_number : BankView → ℕ
bank_number p = p.bank

abbrev pub bank_log : BankView → List LogEntry
bank_log p = p.log

abbrev pub bank_seen : BankView → ℕ
bank_seen p = p.seen

-- how often a view has a hart's log, and a bank's log
abbrev pub hart_in : ℕ → View → ℕ
hart_in hart v = count_of hart_number hart v.harts

abbrev pub bank_in : ℕ → View → ℕ
bank_in bank v = count_of bank_number bank v.banks

abbrev pub founder_in : View → ℕ
founder_in v = one_if v.founder

-- the logs of a view's harts by their numbers, and those of its banks
abbrev pub log_in : List HartView → ℕ → List LogEntry
log_in ps = log_of hart_number hart_log ps

abbrev pub bank_log_in : List BankView → ℕ → List LogEntry
bank_log_in ps = log_of bank_number bank_log ps

-- the logs of all harts and banks by their numbers, and who is enrolled
pub record AllLogs : Type 0 where
  pub harts : ℕ → List LogEntry
  pub banks : ℕ → List LogEntry
  pub enrolled_harts : List ℕ
  pub enrolled_banks : List ℕ

-- each of these has the log of its number
abbrev pub HaveLogs : {X : Type 0} → (X → ℕ) → (X → List LogEntry) → (ℕ → List LogEntry) → List X → Type 0
HaveLogs number log logs [] = Unit {0}
HaveLogs number log logs (x ∷ xs) = (log x ≡ logs (number x)) × HaveLogs number log logs xs

-- each of these has seen no more events than n
abbrev pub HaveSeen : {X : Type 0} → (X → ℕ) → ℕ → List X → Type 0
HaveSeen seen n [] = Unit {0}
HaveSeen seen n (x ∷ xs) = (seen x ≤ n) × HaveSeen seen n xs

-- a view has the logs of its harts and banks as they are, and the founder's lists who is enrolled. None of it has seen
-- more events than the n that are counted
pub record Fits (n : ℕ) (all : AllLogs) (v : View) : Type 0 where
  pub harts : HaveLogs hart_number hart_log all.harts v.harts
  pub banks : HaveLogs bank_number bank_log all.banks v.banks
  pub harts_seen : HaveSeen hart_seen n v.harts
  pub banks_seen : HaveSeen bank_seen n v.banks
  pub enrolment : v.founder ≡ true → (v.enrolled_harts ≡ all.enrolled_harts) × (v.enrolled_banks ≡ all.enrolled_banks)

-- who is enrolled: nobody twice, only numbers below the limit, and what isn't enrolled has no entry
pub record IsEnrolled (most : ℕ) (enrolled : List ℕ) (logs : ℕ → List LogEntry) : Type 0 where
  pub once : (k : ℕ) → occurrences k enrolled ≤ 1
  pub below : (k : ℕ) → most ≤ k → occurrences k enrolled ≡ 0
  pub others : (k : ℕ) → occurrences k enrolled ≡ 0 → logs k ≡ []

-- the logs are a record and each view fits them. Each enrolled hart's log is in exactly one view and no other hart has
-- one; banks likewise. Exactly one view is the founder's
pub record IsConsistent (limits : Limits) (n : ℕ) (views : List View) (all : AllLogs) : Type 0 where
  pub logs : IsRecord limits n all.harts all.banks
  pub fits : (seat : ℕ) (v : View) → get_elem? views seat ≡ some v → Fits n all v
  pub harts_in_one : (hart : ℕ) → total (hart_in hart) views ≡ occurrences hart all.enrolled_harts
  pub banks_in_one : (bank : ℕ) → total (bank_in bank) views ≡ occurrences bank all.enrolled_banks
  pub one_founder : total founder_in views ≡ 1
  pub harts : IsEnrolled limits.harts all.enrolled_harts all.harts
  pub banks : IsEnrolled limits.banks all.enrolled_banks all.banks

-- the rule: the one word is the number of events, and some logs are consistent with all views
abbrev pub MeetsRule : Limits → State ℕ View → Type 0
MeetsRule limits s = (n : ℕ) × (all : AllLogs) × (s.words ≡ n ∷ []) × IsConsistent limits n s.views all

abbrev pub view_of : List HartView → List BankView → View
view_of harts banks = record { founder = false; enrolled_harts = []; enrolled_banks = []; harts = harts; banks = banks }

abbrev pub founder_with : List ℕ → List ℕ → List HartView → List BankView → View
founder_with enrolled_harts enrolled_banks harts banks = record {
  founder = true;
  enrolled_harts = enrolled_harts;
  enrolled_banks = enrolled_banks;
  harts = harts;
  banks = banks;
}

-- the founder's view at the beginning
abbrev pub founder_alone : View
founder_alone = founder_with [] [] [] []

-- the view of a seat that is spent
abbrev pub empty_view : View
empty_view = view_of [] []
