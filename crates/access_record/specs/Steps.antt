-- What the steps on a record's word do to the views of its seats.
use Rattle.std.specs.Prelude.{◌≡◌, ℕ, ◌+◌, ◌*◌, ◌<◌, ◌≤◌, ◌^◌, max, true, List, [], ◌∷◌, ◌++◌, length, None, Some}
use Rattle.atomic_table.specs.Seated.{TableId}
use Rattle.atomic_table.specs.Table.{Me, Step}
use Rattle.flex_base.specs.declared.hart.HartId.{HartId}
use Rattle.flex_base.specs.declared.engine.Engine.TheVariants.{Pipe}
use Rattle.flex_base.specs.declared.event.What.TheVariants.{Handover}
use Rattle.access_record.specs.declared.entry.Entry.{Entry}
use Rattle.access_record.specs.declared.entry.LogEntry.{LogEntry}
use Rattle.access_record.specs.declared.view.HartView.{HartView}
use Rattle.access_record.specs.declared.view.BankView.{BankView}
use Rattle.access_record.specs.declared.view.View.{View}
use Rattle.access_record.specs.declared.limits.Limits.{Limits}
use Rattle.access_record.specs.Logs.{Ascends, on_bank, of_hart, IsRecord, log_entry}
use Rattle.access_record.specs.Rule.{occurrences, hart_in, bank_in, log_in, bank_log_in, view_of}

-- a seat of this table, which has one word
abbrev pub IsSeatOf : TableId → TableId → Type 0
IsSeatOf seat table = (seat ≡ table) × (table.words ≡ 1)

-- all events that there is room for can be counted
abbrev pub IsCountable : Limits → Type 0
IsCountable limits = limits.harts * limits.room < 2 ^ 63

-- the founder lists one hart more, and a new seat has its empty log; the same for a bank
abbrev pub with_hart : HartId → View → View
with_hart hart v = record v { enrolled_harts = hart.0 ∷ v.enrolled_harts }

abbrev pub new_hart : HartId → View
new_hart hart = view_of (record { hart = hart; log = []; seen = 0; looks = 0; looked = [] } ∷ []) []

abbrev pub with_bank : ℕ → View → View
with_bank bank v = record v { enrolled_banks = bank ∷ v.enrolled_banks }

abbrev pub new_bank : ℕ → View
new_bank bank = view_of [] (record { bank = bank; log = []; seen = 0 } ∷ [])

-- one seat has the logs of both
abbrev pub union : View → View → View
union v w = record v { harts = w.harts ++ v.harts; banks = w.banks ++ v.banks }

-- a seat without its banks' logs, and a new seat with them
abbrev pub without_banks : View → View
without_banks v = record v { banks = [] }

abbrev pub banks_alone : View → View
banks_alone v = view_of [] v.banks

abbrev pub rest_of : {X : Type 0} → List X → List X
rest_of [] = []
rest_of (x ∷ xs) = xs

abbrev pub first_of : {X : Type 0} → List X → List X
first_of [] = []
first_of (x ∷ xs) = x ∷ []

-- a seat without its first hart's log, and a new seat with that; the same for a bank
abbrev pub without_first_hart : View → View
without_first_hart v = record v { harts = rest_of v.harts }

abbrev pub first_hart_alone : View → View
first_hart_alone v = view_of (first_of v.harts) []

abbrev pub without_first_bank : View → View
without_first_bank v = record v { banks = rest_of v.banks }

abbrev pub first_bank_alone : View → View
first_bank_alone v = view_of [] (first_of v.banks)

-- one entry more; so the events up to its own were counted
abbrev pub hart_with_entry : HartView → LogEntry → HartView
hart_with_entry p e = record p { log = p.log ++ e ∷ []; seen = e.event.number + 1 }

abbrev pub bank_with_entry : BankView → LogEntry → BankView
bank_with_entry p e = record p { log = p.log ++ e ∷ []; seen = e.event.number + 1 }

-- an entry of the first hart of a view, which names the first bank or none
abbrev pub with_entry : Entry → ℕ → List HartView → List BankView → View
with_entry entry number [] banks = view_of [] banks
with_entry entry number (p ∷ ps) [] = view_of (hart_with_entry p (log_entry entry p.hart None number) ∷ ps) []
with_entry entry number (p ∷ ps) (d ∷ ds) = view_of
    (hart_with_entry p (log_entry entry p.hart (Some d.bank) number) ∷ ps)
    (bank_with_entry d (log_entry entry p.hart (Some d.bank) number) ∷ ds)

-- the greater of what the two have seen
abbrev pub both_seen : HartView → BankView → ℕ
both_seen p d = max p.seen d.seen

-- the first hart looked at the first bank's log, and each of the two has seen what the other has
abbrev pub with_look : List HartView → List BankView → View
with_look [] banks = view_of [] banks
with_look (p ∷ ps) [] = view_of (p ∷ ps) []
with_look (p ∷ ps) (d ∷ ds) = view_of
    (record p { seen = both_seen p d; looks = p.looks + 1; looked = d.log } ∷ ps)
    (record d { seen = both_seen p d } ∷ ds)

-- the first hart has seen what the first bank has
abbrev pub harts_shared : List HartView → List BankView → List HartView
harts_shared [] banks = []
harts_shared (p ∷ ps) [] = p ∷ ps
harts_shared (p ∷ ps) (d ∷ ds) = record p { seen = both_seen p d } ∷ ps

-- the first bank has seen what the first hart has
abbrev pub banks_shared : List HartView → List BankView → List BankView
banks_shared harts [] = []
banks_shared [] (d ∷ ds) = d ∷ ds
banks_shared (p ∷ ps) (d ∷ ds) = record d { seen = both_seen p d } ∷ ds

-- a seat without its banks' logs, and a new seat with them, where the first hart and the first bank have shared what
-- they have seen
abbrev pub without_banks_shared : View → View
without_banks_shared v = record v { harts = harts_shared v.harts v.banks; banks = [] }

abbrev pub banks_alone_shared : View → View
banks_alone_shared v = view_of [] (banks_shared v.harts v.banks)

-- what the rule tells of the first hart and the first bank when n events are counted
abbrev pub AgreesAt : ℕ → List HartView → List BankView → Type 0
AgreesAt n [] banks = Unit {0}
AgreesAt n (p ∷ ps) [] = Ascends 0 n p.log × (p.seen ≤ n)
AgreesAt n (p ∷ ps) (d ∷ ds) = Ascends 0 n p.log × Ascends 0 n d.log × (on_bank d.bank p.log ≡ of_hart p.hart.0 d.log)
    × (p.seen ≤ n) × (d.seen ≤ n)

-- the number n is drawn for this entry
abbrev pub Enters : Entry → Step ℕ → Me ℕ View → ℕ → Me ℕ View → Type 0
Enters entry s me n to = (to ≡ (with_entry entry n me.0.harts me.0.banks, me.1)) × AgreesAt n me.0.harts me.0.banks

-- a look while n events are counted
abbrev pub Looks : Step ℕ → Me ℕ View → ℕ → Me ℕ View → Type 0
Looks s me n to = (to ≡ (with_look me.0.harts me.0.banks, me.1)) × AgreesAt n me.0.harts me.0.banks

-- a founder's view that has the logs of all whom it lists
pub record HasAllLogs (v : View) : Type 0 where
  pub founder : v.founder ≡ true
  pub harts : (hart : ℕ) → occurrences hart v.enrolled_harts ≤ hart_in hart v
  pub banks : (bank : ℕ) → occurrences bank v.enrolled_banks ≤ bank_in bank v

-- the logs of a view are a record of n events, and it has none twice
pub record IsWhole (limits : Limits) (n : ℕ) (v : View) : Type 0 where
  pub logs : IsRecord limits n (log_in v.harts) (bank_log_in v.banks)
  pub few_harts : length v.harts ≤ limits.harts
  pub few_banks : length v.banks ≤ limits.banks

-- a seat that has all logs knows the rule of them
abbrev pub Knows : Limits → Step ℕ → Me ℕ View → ℕ → Me ℕ View → Type 0
Knows limits s me n to = (to ≡ me) × IsWhole limits n me.0

-- values of no meaning, for names that no call has picked
abbrev pub some_hart : HartId
some_hart = record { 0 = 0 }

abbrev pub some_entry : Entry
some_entry = record { engine = Pipe; what = Handover Pipe }

abbrev pub some_limits : Limits
some_limits = record { harts = 0; banks = 0; room = 0 }
