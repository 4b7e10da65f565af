-- The logs of a record: a list of numbered entries for each hart and for each bank.
use Rattle.std.specs.Prelude.{◌≡◌, ◌⊎◌, ℕ, zero, suc, ◌+◌, ◌<◌, ◌≤◌, ◌==◌, Bool, true, false, if◌then◌else◌, List, [], ◌∷◌, length, Option, None, Some}
use Rattle.std.specs.List.{filter}
use Rattle.flex_base.specs.declared.hart.HartId.{HartId}
use Rattle.flex_base.specs.declared.event.What.{What}
use Rattle.flex_base.specs.declared.event.What.TheVariants as what
use Rattle.access_record.specs.declared.limits.Limits.{Limits}
use Rattle.access_record.specs.declared.entry.Entry.{Entry}
use Rattle.access_record.specs.declared.entry.LogEntry.{LogEntry}

abbrev pub is_access : What → Bool
is_access (what.Acc access reply) = true
is_access other = false

-- what is noted of a hart at a bank, or at none, with its number
abbrev pub log_entry : Entry → HartId → Option ℕ → ℕ → LogEntry
log_entry entry hart bank number = record {
  event = record { number = number; hart = hart; engine = entry.engine; what = entry.what };
  bank = bank;
}

abbrev pub is_bank : Option ℕ → ℕ → Bool
is_bank None bank = false
is_bank (Some at) bank = at == bank

abbrev pub has_bank : Option ℕ → Bool
has_bank None = false
has_bank (Some at) = true

abbrev pub names_bank : ℕ → LogEntry → Bool
names_bank bank e = is_bank e.bank bank

abbrev pub names_hart : ℕ → LogEntry → Bool
names_hart hart e = e.event.hart.0 == hart

-- the entries of a log that name this bank
unfoldable pub on_bank : ℕ → List LogEntry → List LogEntry
on_bank bank log = filter (names_bank bank) log

-- the entries of a log that name this hart
unfoldable pub of_hart : ℕ → List LogEntry → List LogEntry
of_hart hart log = filter (names_hart hart) log

-- the numbers ascend, from low on and below high
abbrev pub Ascends : ℕ → ℕ → List LogEntry → Type 0
Ascends low high [] = low ≤ high
Ascends low high (e ∷ es) = (low ≤ e.event.number) × Ascends (suc e.event.number) high es

-- each entry is of this hart, and those that name a bank are the accesses
abbrev pub AreOfHart : ℕ → List LogEntry → Type 0
AreOfHart hart [] = Unit {0}
AreOfHart hart (e ∷ es) = ((e.event.hart.0 ≡ hart) × (is_access e.event.what ≡ has_bank e.bank)) × AreOfHart hart es

-- some entry has this number
abbrev pub HasNumber : ℕ → List LogEntry → Type 0
HasNumber k [] = ⊥
HasNumber k (e ∷ es) = (e.event.number ≡ k) ⊎ HasNumber k es

-- exactly one hart's log has this number
pub record IsInOneLog (harts : ℕ → List LogEntry) (k : ℕ) : Type 0 where
  pub hart : ℕ
  pub here : HasNumber k (harts hart)
  pub alone : (other : ℕ) → HasNumber k (harts other) → other ≡ hart

-- f of each number below this one, added up
abbrev pub sum_below : ℕ → (ℕ → ℕ) → ℕ
sum_below zero f = 0
sum_below (suc k) f = sum_below k f + f k

-- the logs of n events, those of harts and those of banks, each by its number
pub record IsRecord (limits : Limits) (n : ℕ) (harts banks : ℕ → List LogEntry) : Type 0 where
  pub hart_numbers : (hart : ℕ) → Ascends 0 n (harts hart)
  pub bank_numbers : (bank : ℕ) → Ascends 0 n (banks bank)
  pub own : (hart : ℕ) → AreOfHart hart (harts hart)
  pub once : (k : ℕ) → k < n → IsInOneLog harts k
  pub matched : (hart bank : ℕ) → on_bank bank (harts hart) ≡ of_hart hart (banks bank)
  pub room : (hart : ℕ) → length (harts hart) ≤ limits.room
  pub count : n ≡ sum_below limits.harts (λ hart. length (harts hart))
  pub no_hart : (hart : ℕ) → limits.harts ≤ hart → harts hart ≡ []
  pub no_bank : (bank : ℕ) → limits.banks ≤ bank → banks bank ≡ []

-- the logs of things that each have a number and a log, by their numbers: that of the first with the number, empty
-- where none has it
abbrev pub log_of : {X : Type 0} → (X → ℕ) → (X → List LogEntry) → List X → ℕ → List LogEntry
log_of number log [] k = []
log_of number log (x ∷ xs) k = if number x == k then log x else log_of number log xs k
