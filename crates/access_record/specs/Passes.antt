-- What contracts see of a record and of its passes.
use Rattle.std.specs.Prelude.{◌≡◌, ℕ, ◌+◌, ◌*◌, ◌<◌, ◌≤◌, ◌^◌, List, [], ◌∷◌, ◌++◌, map}
use Rattle.atomic_table.specs.Seated.{TableId}
use Rattle.atomic_table.specs.Table.{Me}
use Rattle.flex_base.specs.declared.hart.HartId.{HartId}
use Rattle.access_record.specs.declared.limits.Limits.{Limits}
use Rattle.access_record.specs.declared.entry.LogEntry.{LogEntry}
use Rattle.access_record.specs.declared.view.HartView.{HartView}
use Rattle.access_record.specs.declared.view.BankView.{BankView}
use Rattle.access_record.specs.declared.view.View.{View}
use Rattle.access_record.specs.Logs.{IsRecord, log_of}
use Rattle.access_record.specs.Rule.{count_of, occurrences, view_of, founder_with}

-- which record it is, and its limits
pub record RecordIdentity : Type 0 where
  pub id : TableId
  pub limits : Limits

-- a hart's pass: its record and hart, the hart's log, how many events were counted at least when it last saw the count,
-- how often it looked at the devices, and their log when it looked last
pub record PassOfHart : Type 0 where
  pub id : TableId
  pub hart : HartId
  pub log : List LogEntry
  pub seen : ℕ
  pub looks : ℕ
  pub looked : List LogEntry

-- a bank's pass: its record and bank, the bank's log, and how many events were counted at least when it last saw the
-- count
pub record PassOfBank : Type 0 where
  pub id : TableId
  pub bank : ℕ
  pub log : List LogEntry
  pub seen : ℕ

-- the founder: its record, and who is enrolled
pub record Enrolment : Type 0 where
  pub id : TableId
  pub harts : List ℕ
  pub banks : List ℕ

abbrev pub pass_of : TableId → HartView → PassOfHart
pass_of id p = record { id = id; hart = p.hart; log = p.log; seen = p.seen; looks = p.looks; looked = p.looked }

abbrev pub bank_pass_of : TableId → BankView → PassOfBank
bank_pass_of id p = record { id = id; bank = p.bank; log = p.log; seen = p.seen }

abbrev pub enrolment_in : TableId → View → Enrolment
enrolment_in id v = record { id = id; harts = v.enrolled_harts; banks = v.enrolled_banks }

-- the first log of a view, or that of a hart without one
abbrev pub first_hart : HartId → List HartView → HartView
first_hart hart [] = record { hart = hart; log = []; seen = 0; looks = 0; looked = [] }
first_hart hart (p ∷ ps) = p

abbrev pub first_bank : ℕ → List BankView → BankView
first_bank bank [] = record { bank = bank; log = []; seen = 0 }
first_bank bank (p ∷ ps) = p

-- a seat that has one log, that of this hart, and holds no slot
pub record IsPass (hart : HartId) (me : Me ℕ View) : Type 0 where
  pub view_is : me ≡ (view_of (first_hart hart me.0.harts ∷ []) [], [])
  pub hart_is : (first_hart hart me.0.harts).hart ≡ hart

-- a seat that has one log, that of this bank, and holds no slot
pub record IsBankPass (bank : ℕ) (me : Me ℕ View) : Type 0 where
  pub view_is : me ≡ (view_of [] (first_bank bank me.0.banks ∷ []), [])
  pub bank_is : (first_bank bank me.0.banks).bank ≡ bank

-- the founder's seat, without a log
abbrev pub IsFounder : Me ℕ View → Type 0
IsFounder me = me ≡ (founder_with me.0.enrolled_harts me.0.enrolled_banks [] [], [])

-- a table of one word and no slot, whose events can be counted, and whose harts and banks have numbers of 8 bits
pub record IsRecordTable (id : TableId) (limits : Limits) : Type 0 where
  pub word : id.words ≡ 1
  pub no_slot : id.slots ≡ 0
  pub countable : limits.harts * limits.room < 2 ^ 63
  pub few_harts : limits.harts < 256
  pub few_banks : limits.banks < 256

-- one hart more is enrolled, or one bank
abbrev pub add_hart : Enrolment → HartId → Enrolment
add_hart r hart = record { id = r.id; harts = hart.0 ∷ r.harts; banks = r.banks }

abbrev pub add_bank : Enrolment → ℕ → Enrolment
add_bank r bank = record { id = r.id; harts = r.harts; banks = bank ∷ r.banks }

-- the pass of a hart that has just been enrolled, and that of a bank
abbrev pub new_pass : TableId → HartId → PassOfHart
new_pass id hart = record { id = id; hart = hart; log = []; seen = 0; looks = 0; looked = [] }

abbrev pub new_bank_pass : TableId → ℕ → PassOfBank
new_bank_pass id bank = record { id = id; bank = bank; log = []; seen = 0 }

-- one entry more; so the events up to its own were counted
abbrev pub add_entry : PassOfHart → LogEntry → PassOfHart
add_entry p e = record p { log = p.log ++ e ∷ []; seen = e.event.number + 1 }

abbrev pub add_bank_entry : PassOfBank → LogEntry → PassOfBank
add_bank_entry p e = record p { log = p.log ++ e ∷ []; seen = e.event.number + 1 }

-- one look more, at this log of the devices
abbrev pub add_look : PassOfHart → List LogEntry → PassOfHart
add_look p log = record p { looks = p.looks + 1; looked = log }

-- the logs of passes by the numbers of their harts or banks; empty where there is no pass
abbrev pub logs_of : List PassOfHart → ℕ → List LogEntry
logs_of ps = log_of (λ (p : PassOfHart). p.hart.0) (λ (p : PassOfHart). p.log) ps

abbrev pub bank_logs_of : List PassOfBank → ℕ → List LogEntry
bank_logs_of ps = log_of (λ (p : PassOfBank). p.bank) (λ (p : PassOfBank). p.log) ps

-- the logs of these passes are a record of n events
unfoldable pub AreRecord : Limits → ℕ → List PassOfHart → List PassOfBank → Type 0
AreRecord limits n ps ds = IsRecord limits n (logs_of ps) (bank_logs_of ds)

-- each of these harts, or banks, has a pass among these
abbrev pub EachHasPass : List ℕ → List PassOfHart → Type 0
EachHasPass harts ps = (hart : ℕ) → occurrences hart harts ≤ count_of (λ (p : PassOfHart). p.hart.0) hart ps

abbrev pub EachHasBankPass : List ℕ → List PassOfBank → Type 0
EachHasBankPass banks ps = (bank : ℕ) → occurrences bank banks ≤ count_of (λ (p : PassOfBank). p.bank) bank ps

-- what a seat has of a pass
abbrev pub view_of_pass : PassOfHart → HartView
view_of_pass p = record { hart = p.hart; log = p.log; seen = p.seen; looks = p.looks; looked = p.looked }

abbrev pub view_of_bank_pass : PassOfBank → BankView
view_of_bank_pass p = record { bank = p.bank; log = p.log; seen = p.seen }

-- the view with the logs of these passes too
abbrev pub with_passes : List PassOfHart → View → View
with_passes ps v = record v { harts = map view_of_pass ps ++ v.harts }

abbrev pub with_bank_passes : List PassOfBank → View → View
with_bank_passes ps v = record v { banks = map view_of_bank_pass ps ++ v.banks }

-- a record of no meaning, for a name that no call has picked
abbrev pub some_record : RecordIdentity
some_record = record {
  id = record { words = 0; slots = 0; views_name = 0; atom = 0; block = 0; offset = 0; slot_names = [] };
  limits = record { harts = 0; banks = 0; room = 0 };
}
