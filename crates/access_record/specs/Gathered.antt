-- All logs in one seat, and what contracts see of that.
use Rattle.std.specs.Prelude.{◌≡◌, ℕ, suc, ◌≤◌, List, [], ◌∷◌, map, length, slice_index_or}
use Rattle.atomic_table.specs.Seated.{TableId}
use Rattle.atomic_table.specs.Table.{Me}
use Rattle.flex_base.specs.declared.hart.HartId.{HartId}
use Rattle.access_record.specs.declared.view.HartView.{HartView}
use Rattle.access_record.specs.declared.view.BankView.{BankView}
use Rattle.access_record.specs.declared.view.View.{View}
use Rattle.access_record.specs.Rule.{founder_with}
use Rattle.access_record.specs.Steps.{some_hart}
use Rattle.access_record.specs.Passes.{PassOfHart, PassOfBank, Enrolment, pass_of, bank_pass_of}

-- a record whose founder and passes are taken apart: who is enrolled, and the passes that come back
pub record AllPasses : Type 0 where
  pub id : TableId
  pub harts : List ℕ
  pub banks : List ℕ
  pub passes : List PassOfHart
  pub bank_passes : List PassOfBank

abbrev pub all_in_view : TableId → View → AllPasses
all_in_view id v = record {
  id = id;
  harts = v.enrolled_harts;
  banks = v.enrolled_banks;
  passes = map (pass_of id) v.harts;
  bank_passes = map (bank_pass_of id) v.banks;
}

-- the passes of this founder's record
abbrev pub all_passes : Enrolment → List PassOfHart → List PassOfBank → AllPasses
all_passes r passes bank_passes = record {
  id = r.id;
  harts = r.harts;
  banks = r.banks;
  passes = passes;
  bank_passes = bank_passes;
}

abbrev pub enrolment_of : AllPasses → Enrolment
enrolment_of a = record { id = a.id; harts = a.harts; banks = a.banks }

-- the names of these stand in a list, one after another from place k on
abbrev pub Lists : {X N : Type 0} → (X → N) → N → List N → ℕ → List X → Type 0
Lists name other names k [] = Unit {0}
Lists name other names k (x ∷ xs) = (slice_index_or names k other ≡ name x) × Lists name other names (suc k) xs

abbrev pub ListsHarts : List HartId → ℕ → List HartView → Type 0
ListsHarts names k ps = Lists (λ (p : HartView). p.hart) some_hart names k ps

abbrev pub ListsBanks : List ℕ → ℕ → List BankView → Type 0
ListsBanks names k ps = Lists (λ (p : BankView). p.bank) 0 names k ps

-- one seat has all logs of a founder's record, and the names of their harts and banks are listed in the order of the
-- logs; there is room for the passes
pub record IsGathered (me : Me ℕ View) (harts : List HartId) (banks : List ℕ)
    (count bank_count room bank_room : ℕ) : Type 0 where
  pub view_is : me ≡ (founder_with me.0.enrolled_harts me.0.enrolled_banks me.0.harts me.0.banks, [])
  pub hart_names : ListsHarts harts 0 me.0.harts
  pub bank_names : ListsBanks banks 0 me.0.banks
  pub hart_count : length me.0.harts ≡ count
  pub bank_count_is : length me.0.banks ≡ bank_count
  pub few_harts : count ≤ 256
  pub few_banks : bank_count ≤ 256
  pub hart_room : count ≤ room
  pub banks_room : bank_count ≤ bank_room

-- the view with these logs of harts, and with these of banks
abbrev pub with_hart_views : View → List HartView → View
with_hart_views v harts = record v { harts = harts }

abbrev pub with_bank_views : View → List BankView → View
with_bank_views v banks = record v { banks = banks }
