-- What is known of the logs once one seat has them all.
use Rattle.std.proofs.Common.{◌≡◌, ℕ, true, List, map, sym, refl, ap, ◌∙◌, subst, set, arith}
use Rattle.std.specs.Prelude.{slice_index}
use mathlib.Core.Option.{some, some-injective}
use lib.ListN.{get_elem?}
use Rattle.atomic_table.specs.Seated.{TableId}
use Rattle.atomic_table.specs.Table.{State, Me, Step, Act, keeps, Valid, homes_after, carried_after, Allows, Final, Seen}
use Rattle.atomic_table.proofs.Lists.{set_again}
use Rattle.access_record.specs.declared.limits.Limits.{Limits}
use Rattle.access_record.specs.declared.entry.LogEntry.{LogEntry}
use Rattle.access_record.specs.declared.view.View.{View}
use Rattle.access_record.specs.Logs.{IsRecord}
use Rattle.access_record.specs.Rule.{occurrences, hart_number, hart_log, bank_number, bank_log, hart_in, bank_in, log_in, bank_log_in, IsConsistent, MeetsRule}
use Rattle.access_record.specs.Steps.{HasAllLogs, IsWhole, Knows}
use Rattle.access_record.specs.Passes.{PassOfHart, PassOfBank, pass_of, bank_pass_of, logs_of, bank_logs_of, EachHasPass, EachHasBankPass}
use Rattle.access_record.specs.Gathered.{AllPasses, all_in_view}
use Rattle.access_record.proofs.Totals.{total-one}
use Rattle.access_record.proofs.Having.{log_of-found, log_of-map, count_of-map, length-few}

-- two functions to logs that agree everywhere
is_record-same : (limits : Limits) (n : ℕ) (harts harts' banks banks' : ℕ → List LogEntry)
    → ((h : ℕ) → harts h ≡ harts' h) → ((b : ℕ) → banks b ≡ banks' b) → IsRecord limits n harts banks
    → IsRecord limits n harts' banks'
is_record-same limits n harts harts' banks banks' same same_banks r = subst (λ (f : (ℕ → List LogEntry) × (ℕ → List LogEntry)). IsRecord limits n f.0 f.1) (λ i. ((λ h. same h i), (λ b. same_banks b i))) r

-- a seat that has the logs of all who are enrolled has all logs
whole : (limits : Limits) (n : ℕ) (id : ℕ) (v : View) (s : State ℕ View) (k : MeetsRule limits s) → k.0 ≡ n
    → get_elem? s.views id ≡ some v → HasAllLogs v → IsWhole limits n v
whole limits n id v s k is at has =
    let all = k.1 in
    let kept = k.3 in
    let fits = kept.fits id v at in
    let listed = fits.enrolment has.founder in
    let harts : (h : ℕ) → all.harts h ≡ log_in v.harts h = λ h. log_of-found hart_number hart_log all.harts h v.harts fits.harts (λ none. kept.harts.others h (let t = has.harts h in let r : occurrences h v.enrolled_harts ≡ occurrences h all.enrolled_harts = ap (occurrences h) listed.0 in omega arith)) in
    let banks : (b : ℕ) → all.banks b ≡ bank_log_in v.banks b = λ b. log_of-found bank_number bank_log all.banks b v.banks fits.banks (λ none. kept.banks.others b (let t = has.banks b in let r : occurrences b v.enrolled_banks ≡ occurrences b all.enrolled_banks = ap (occurrences b) listed.1 in omega arith)) in
    record {
      logs = subst (λ (m : ℕ). IsRecord limits m (log_in v.harts) (bank_log_in v.banks)) is (is_record-same limits k.0 all.harts (log_in v.harts) all.banks (bank_log_in v.banks) harts banks kept.logs);
      few_harts = length-few hart_number limits.harts v.harts
          (λ h. let t = total-one (hart_in h) s.views id v at in let i = kept.harts_in_one h in let o = kept.harts.once h in omega arith)
          (λ h le. let t = total-one (hart_in h) s.views id v at in let i = kept.harts_in_one h in let o = kept.harts.below h le in omega arith);
      few_banks = length-few bank_number limits.banks v.banks
          (λ b. let t = total-one (bank_in b) s.views id v at in let i = kept.banks_in_one b in let o = kept.banks.once b in omega arith)
          (λ b le. let t = total-one (bank_in b) s.views id v at in let i = kept.banks_in_one b in let o = kept.banks.below b le in omega arith);
    }

-- a look by a seat that has all logs: the rule is known of them, and nothing changes
pub learns_rule : (limits : Limits) (slots id : ℕ) (step : Step ℕ) (me : Me ℕ View) → HasAllLogs me.0
    → Allows (MeetsRule limits) slots id me 0 (λ n. n) (Knows limits step me)
learns_rule limits slots id step me has s k homes at small =
    let n = k.0 in
    let v = me.0 in
    let same : set s.views id v ≡ s.views = set_again s.views id v at in
    let P : List ℕ → Type 0 = λ ws. (w : View) × (a : Act ℕ) × Valid s.homes me.1 a × MeetsRule limits (record { words = set ws 0 (slice_index ws 0); homes = homes_after s.homes me.1 a; views = set s.views id w }) × Knows limits step me (slice_index ws 0) (w, carried_after me.1 a) in
    subst P (sym k.2) (v, keeps, tt, (n, k.1, refl, subst (λ (vs : List View). IsConsistent limits n vs k.1) (sym same) k.3), (refl, whole limits n id v s k refl at has))

-- what a closed table tells
pub closes : (limits : Limits) (id : ℕ) (v : View) (words slots : List ℕ)
    → Final (Seen (MeetsRule limits) id v) words slots → HasAllLogs v → (count : ℕ) → get_elem? words 0 ≡ some count
    → IsRecord limits count (log_in v.harts) (bank_log_in v.banks)
closes limits id v words slots final has count word =
    let s = final.0 in
    let k = final.1.0 in
    let is : k.0 ≡ count = some-injective k.0 count (ap (λ (ws : List ℕ). get_elem? ws 0) (sym k.2) ∙ (ap (λ (ws : List ℕ). get_elem? ws 0) final.2 ∙ word)) in
    (whole limits count id v s k is final.1.1 has).logs

-- a view has the logs of all whom it lists where the passes that it stands for are those of all
pub has_all_logs : (id : TableId) (v : View) (all : AllPasses) → all_in_view id v ≡ all → v.founder ≡ true
    → EachHasPass all.harts all.passes → EachHasBankPass all.banks all.bank_passes → HasAllLogs v
has_all_logs id v all is founder each each_bank =
    let a : EachHasPass v.enrolled_harts (map (pass_of id) v.harts) = subst (λ (x : AllPasses). EachHasPass x.harts x.passes) (sym is) each in
    let b : EachHasBankPass v.enrolled_banks (map (bank_pass_of id) v.banks) = subst (λ (x : AllPasses). EachHasBankPass x.banks x.bank_passes) (sym is) each_bank in
    record {
      founder = founder;
      harts = λ h. let t = a h in let m = count_of-map (pass_of id) (λ (p : PassOfHart). p.hart.0) h v.harts in omega arith;
      banks = λ h. let t = b h in let m = count_of-map (bank_pass_of id) (λ (p : PassOfBank). p.bank) h v.banks in omega arith;
    }

-- a record of a view's logs is one of the logs of the passes that it stands for
pub record_of_passes : (limits : Limits) (n : ℕ) (id : TableId) (v : View) (all : AllPasses) → all_in_view id v ≡ all
    → IsRecord limits n (log_in v.harts) (bank_log_in v.banks)
    → IsRecord limits n (logs_of all.passes) (bank_logs_of all.bank_passes)
record_of_passes limits n id v all is r = subst (λ (x : AllPasses). IsRecord limits n (logs_of x.passes) (bank_logs_of x.bank_passes)) is
    (is_record-same limits n (log_in v.harts) (logs_of (map (pass_of id) v.harts)) (bank_log_in v.banks) (bank_logs_of (map (bank_pass_of id) v.banks))
    (λ h. sym (log_of-map (pass_of id) (λ (p : PassOfHart). p.hart.0) (λ (p : PassOfHart). p.log) h v.harts))
    (λ b. sym (log_of-map (bank_pass_of id) (λ (p : PassOfBank). p.bank) (λ (p : PassOfBank). p.log) b v.banks))
    r)
