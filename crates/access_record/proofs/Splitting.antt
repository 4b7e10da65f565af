-- The steps that change no log keep the rule: the beginning, joining two seats, splitting one, and enrolling.
use Rattle.std.proofs.Math.Nat.{max-le}
use Rattle.std.proofs.Common.{◌≡◌, ◌≢◌, ℕ, zero, suc, ◌+◌, ◌<◌, ◌≤◌, ◌==◌, true, false, List, [], ◌∷◌, ◌++◌, set, sym, refl, ap, ◌∙◌, subst, ⊎_elim, eq-eqb, arith}
use mathlib.Core.Option.{some, some-ne-none, some-injective}
use native.Mathlib.Decide.{ℕ_discrete}
use lib.ListN.{get_elem?}
use Rattle.atomic_table.specs.Table.{Splits, Joins}
use Rattle.atomic_table.proofs.Lists.{at_set, at_snoc}
use Rattle.flex_base.specs.declared.hart.HartId.{HartId}
use Rattle.access_record.specs.declared.limits.Limits.{Limits}
use Rattle.access_record.specs.declared.entry.LogEntry.{LogEntry}
use Rattle.access_record.specs.declared.view.HartView.{HartView}
use Rattle.access_record.specs.declared.view.BankView.{BankView}
use Rattle.access_record.specs.declared.view.View.{View}
use Rattle.access_record.specs.Logs.{on_bank, of_hart}
use Rattle.access_record.specs.Rule.{total, one_if, occurrences, hart_number, hart_log, hart_seen, bank_number, bank_log, bank_seen, hart_in, bank_in, founder_in, count_of, HaveLogs, HaveSeen, AllLogs, Fits, IsEnrolled, IsConsistent, MeetsRule, founder_alone, empty_view}
use Rattle.access_record.specs.Steps.{union, without_banks, banks_alone, both_seen, harts_shared, banks_shared, without_banks_shared, banks_alone_shared, with_hart, new_hart, with_bank, new_bank, without_first_hart, first_hart_alone, without_first_bank, first_bank_alone}
use Rattle.access_record.proofs.Totals.{total-append, total-two, total-joined, total-parted, total-cut, all-set, sum_below-none}
use Rattle.access_record.proofs.Having.{have_logs-append, have_logs-first, have_seen-append, have_seen-first, count_of-first, one_if-other}

abbrev no_logs : AllLogs
no_logs = record { harts = λ h. []; banks = λ b. []; enrolled_harts = []; enrolled_banks = [] }

matched-none : (hart bank : ℕ) → on_bank bank [] ≡ of_hart hart []
unfolding on_bank of_hart
matched-none hart bank = refl

enrolled-none : (most : ℕ) → IsEnrolled most [] (λ k. [])
enrolled-none most = record { once = λ k. omega arith; below = λ k le. refl; others = λ k none. refl }

consistent-begin : (limits : Limits) → IsConsistent limits 0 (founder_alone ∷ []) no_logs
consistent-begin limits = record {
  logs = record {
    hart_numbers = λ h. omega arith;
    bank_numbers = λ b. omega arith;
    own = λ h. tt;
    once = λ k lt. absurd (omega arith);
    matched = matched-none;
    room = λ h. omega arith;
    count = sym (sum_below-none limits.harts);
    no_hart = λ h le. refl;
    no_bank = λ b le. refl;
  };
  fits = only;
  harts_in_one = λ h. refl;
  banks_in_one = λ b. refl;
  one_founder = refl;
  harts = enrolled-none limits.harts;
  banks = enrolled-none limits.banks;
}
  where
    only : (seat : ℕ) (v : View) → get_elem? (founder_alone ∷ []) seat ≡ some v → Fits 0 no_logs v
    only zero v e = subst (Fits 0 no_logs) (some-injective founder_alone v e) (record { harts = tt; banks = tt; harts_seen = tt; banks_seen = tt; enrolment = λ f. (refl, refl) })
    only (suc seat) v e = absurd (some-ne-none v (sym e))

pub meets_rule-begin : (limits : Limits) → MeetsRule limits (record { words = 0 ∷ []; homes = []; views = founder_alone ∷ [] })
meets_rule-begin limits = (0, no_logs, refl, consistent-begin limits)

pub joins : (limits : Limits) (id : ℕ) (v : View) (other : ℕ) (w : View) → w.founder ≡ false
    → Joins (MeetsRule limits) id v other w (union v w) empty_view
joins limits id v other w plain s k at ne there =
    let all = k.1 in
    let kept = k.3 in
    let both = union v w in
    let was : get_elem? s.views other ≡ some w = ⊎_elim (λ (x : (other ≡ id) × (both ≡ w)). absurd (ne x.0)) (λ (x : (other ≢ id) × (get_elem? s.views other ≡ some w)). x.1) (at_set s.views id other both w there) in
    let fv = kept.fits id v at in
    let fw = kept.fits other w was in
    let both_fits : Fits k.0 all both = record {
      harts = have_logs-append hart_number hart_log all.harts w.harts v.harts fw.harts fv.harts;
      banks = have_logs-append bank_number bank_log all.banks w.banks v.banks fw.banks fv.banks;
      harts_seen = have_seen-append hart_seen k.0 w.harts v.harts fw.harts_seen fv.harts_seen;
      banks_seen = have_seen-append bank_seen k.0 w.banks v.banks fw.banks_seen fv.banks_seen;
      enrolment = fv.enrolment;
    } in
    let none_fits : Fits k.0 all empty_view = record { harts = tt; banks = tt; harts_seen = tt; banks_seen = tt; enrolment = λ f. absurd cc } in (
      k.0,
      all,
      k.2,
      record {
        logs = kept.logs;
        fits = all-set (Fits k.0 all) (set s.views id both) other empty_view none_fits (λ j u apart e. all-set (Fits k.0 all) s.views id both both_fits (λ i y other e'. kept.fits i y e') j u e);
        harts_in_one = λ h. total-joined (hart_in h) s.views id other v w both empty_view at there (total-append (λ (p : HartView). one_if (p.hart.0 == h)) w.harts v.harts) refl ∙ kept.harts_in_one h;
        banks_in_one = λ h. total-joined (bank_in h) s.views id other v w both empty_view at there (total-append (λ (p : BankView). one_if (p.bank == h)) w.banks v.banks) refl ∙ kept.banks_in_one h;
        one_founder = total-joined founder_in s.views id other v w both empty_view at there (let z : one_if w.founder ≡ 0 = ap one_if plain in omega arith) refl ∙ kept.one_founder;
        harts = kept.harts;
        banks = kept.banks;
      },
    )

-- what holds of each view, after one has changed and one is new
all-parted : (F : View → Type 0) (views : List View) (id : ℕ) (left right : View) → F left → F right
    → ((j : ℕ) (u : View) → j ≢ id → get_elem? views j ≡ some u → F u) → (j : ℕ) (u : View)
    → get_elem? (set views id left ++ right ∷ []) j ≡ some u → F u
all-parted F views id left right l r others j u e = ⊎_elim (λ (x : get_elem? (set views id left) j ≡ some u). all-set F views id left l others j u x) (λ (x : right ≡ u). subst F x r) (at_snoc (set views id left) right u j e)

-- a split that shares out the logs of a view: each part fits, and together they have each log as often as the view
splits : (limits : Limits) (id : ℕ) (v left right : View)
    → ((n : ℕ) (all : AllLogs) → Fits n all v → Fits n all left × Fits n all right)
    → ((h : ℕ) → hart_in h left + hart_in h right ≡ hart_in h v)
    → ((h : ℕ) → bank_in h left + bank_in h right ≡ bank_in h v)
    → founder_in left + founder_in right ≡ founder_in v
    → Splits (MeetsRule limits) id v left right
splits limits id v left right fit harts banks founder s k at =
    let all = k.1 in
    let kept = k.3 in
    let f = fit k.0 all (kept.fits id v at) in (
      k.0,
      all,
      k.2,
      record {
        logs = kept.logs;
        fits = all-parted (Fits k.0 all) s.views id left right f.0 f.1 (λ j u ne e. kept.fits j u e);
        harts_in_one = λ h. total-cut (hart_in h) s.views id v left right at (harts h) ∙ kept.harts_in_one h;
        banks_in_one = λ h. total-cut (bank_in h) s.views id v left right at (banks h) ∙ kept.banks_in_one h;
        one_founder = total-cut founder_in s.views id v left right at founder ∙ kept.one_founder;
        harts = kept.harts;
        banks = kept.banks;
      },
    )

-- the banks' logs go to a new seat
pub splits_banks : (limits : Limits) (id : ℕ) (v : View)
    → Splits (MeetsRule limits) id v (without_banks v) (banks_alone v)
splits_banks limits id v = splits limits id v (without_banks v) (banks_alone v)
    (λ n all f. (
      record { harts = f.harts; banks = tt; harts_seen = f.harts_seen; banks_seen = tt; enrolment = f.enrolment },
      record { harts = tt; banks = f.banks; harts_seen = tt; banks_seen = f.banks_seen; enrolment = λ x. absurd cc },
    ))
    (λ h. omega arith)
    (λ h. omega arith)
    (omega arith)

-- where the first hart and the first bank share what they have seen, each has its log still, and has seen no more than
-- is counted
shares : (n : ℕ) (logs bank_logs : ℕ → List LogEntry) (ps : List HartView) (ds : List BankView)
    → HaveLogs hart_number hart_log logs ps → HaveLogs bank_number bank_log bank_logs ds → HaveSeen hart_seen n ps
    → HaveSeen bank_seen n ds
    → (HaveLogs hart_number hart_log logs (harts_shared ps ds) × HaveSeen hart_seen n (harts_shared ps ds))
    × (HaveLogs bank_number bank_log bank_logs (banks_shared ps ds) × HaveSeen bank_seen n (banks_shared ps ds))
shares n logs bank_logs [] [] h b s t = ((tt, tt), (tt, tt))
shares n logs bank_logs [] (d ∷ ds) h b s t = ((tt, tt), (b, t))
shares n logs bank_logs (p ∷ ps) [] h b s t = ((h, s), (tt, tt))
shares n logs bank_logs (p ∷ ps) (d ∷ ds) h b s t = let most : both_seen p d ≤ n = max-le s.0 t.0 in ((h, (most, s.1)), (b, (most, t.1)))

-- and the same harts and banks are there
count_of-shared : (k : ℕ) (ps : List HartView) (ds : List BankView)
    → (count_of hart_number k (harts_shared ps ds) ≡ count_of hart_number k ps)
    × (count_of bank_number k (banks_shared ps ds) ≡ count_of bank_number k ds)
count_of-shared k [] [] = (refl, refl)
count_of-shared k [] (d ∷ ds) = (refl, refl)
count_of-shared k (p ∷ ps) [] = (refl, refl)
count_of-shared k (p ∷ ps) (d ∷ ds) = (refl, refl)

-- the banks' logs go to a new seat, and the first hart and the first bank share what they have seen
pub splits_banks_shared : (limits : Limits) (id : ℕ) (v : View)
    → Splits (MeetsRule limits) id v (without_banks_shared v) (banks_alone_shared v)
splits_banks_shared limits id v = splits limits id v (without_banks_shared v) (banks_alone_shared v)
    (λ n all f.
    let s = shares n all.harts all.banks v.harts v.banks f.harts f.banks f.harts_seen f.banks_seen in (
      record { harts = s.0.0; banks = tt; harts_seen = s.0.1; banks_seen = tt; enrolment = f.enrolment },
      record { harts = tt; banks = s.1.0; harts_seen = tt; banks_seen = s.1.1; enrolment = λ x. absurd cc },
    ))
    (λ h. let c = (count_of-shared h v.harts v.banks).0 in omega arith)
    (λ h. let c = (count_of-shared h v.harts v.banks).1 in omega arith)
    (omega arith)

-- the first hart's log goes to a new seat
pub splits_first_hart : (limits : Limits) (id : ℕ) (v : View)
    → Splits (MeetsRule limits) id v (without_first_hart v) (first_hart_alone v)
splits_first_hart limits id v = splits limits id v (without_first_hart v) (first_hart_alone v)
    (λ n all f.
    let h = have_logs-first hart_number hart_log all.harts v.harts f.harts in
    let s = have_seen-first hart_seen n v.harts f.harts_seen in (
      record { harts = h.0; banks = f.banks; harts_seen = s.0; banks_seen = f.banks_seen; enrolment = f.enrolment },
      record { harts = h.1; banks = tt; harts_seen = s.1; banks_seen = tt; enrolment = λ x. absurd cc },
    ))
    (λ h. count_of-first hart_number h v.harts)
    (λ h. omega arith)
    (omega arith)

-- the first bank's log goes to a new seat
pub splits_first_bank : (limits : Limits) (id : ℕ) (v : View)
    → Splits (MeetsRule limits) id v (without_first_bank v) (first_bank_alone v)
splits_first_bank limits id v = splits limits id v (without_first_bank v) (first_bank_alone v)
    (λ n all f.
    let h = have_logs-first bank_number bank_log all.banks v.banks f.banks in
    let s = have_seen-first bank_seen n v.banks f.banks_seen in (
      record { harts = f.harts; banks = h.0; harts_seen = f.harts_seen; banks_seen = s.0; enrolment = f.enrolment },
      record { harts = tt; banks = h.1; harts_seen = tt; banks_seen = s.1; enrolment = λ x. absurd cc },
    ))
    (λ h. omega arith)
    (λ h. count_of-first bank_number h v.banks)
    (omega arith)

-- a founder's view is the only one
founder-alone : (views : List View) (id : ℕ) (v : View) → total founder_in views ≡ 1 → v.founder ≡ true
    → get_elem? views id ≡ some v → (j : ℕ) (u : View) → j ≢ id → get_elem? views j ≡ some u → u.founder ≡ true → ⊥
founder-alone views id v one is at j u ne there too = let t = total-two founder_in views id j v u ne at there in let a : one_if v.founder ≡ 1 = ap one_if is in let c : one_if u.founder ≡ 1 = ap one_if too in absurd (omega arith)

-- one more is enrolled
enrolled-more : (most x : ℕ) (xs : List ℕ) (logs : ℕ → List LogEntry) → x < most → occurrences x xs ≡ 0
    → IsEnrolled most xs logs → IsEnrolled most (x ∷ xs) logs
enrolled-more most x xs logs lt free e = record {
  once = λ k. at k (ℕ_discrete x k);
  below = λ k le. let a = e.below k le in let c = one_if-other x k (λ (is : x ≡ k). omega arith) in omega arith;
  others = λ k none. e.others k (let t : one_if (x == k) + occurrences k xs ≡ 0 = none in omega arith);
}
  where
    at : (k : ℕ) → Dec (x ≡ k) → occurrences k (x ∷ xs) ≤ 1
    at k (yes is) = let a : occurrences k xs ≡ 0 = ap (λ (j : ℕ). occurrences j xs) (sym is) ∙ free in let c : one_if (x == k) ≡ 1 = ap one_if (eq-eqb x k is) in omega arith
    at k (no ne) = let a = e.once k in let c = one_if-other x k ne in omega arith

pub enrols_hart : (limits : Limits) (id : ℕ) (v : View) (hart : HartId) → v.founder ≡ true
    → occurrences hart.0 v.enrolled_harts ≡ 0 → hart.0 < limits.harts
    → Splits (MeetsRule limits) id v (with_hart hart v) (new_hart hart)
enrols_hart limits id v hart founder free below s k at =
    let all = k.1 in
    let kept = k.3 in
    let f = kept.fits id v at in
    let listed = f.enrolment founder in
    let free' : occurrences hart.0 all.enrolled_harts ≡ 0 = ap (occurrences hart.0) (sym listed.0) ∙ free in
    let now : AllLogs = record { harts = all.harts; banks = all.banks; enrolled_harts = hart.0 ∷ all.enrolled_harts; enrolled_banks = all.enrolled_banks } in (
      k.0,
      now,
      k.2,
      record {
        logs = kept.logs;
        fits = all-parted (Fits k.0 now) s.views id (with_hart hart v) (new_hart hart)
            (record { harts = f.harts; banks = f.banks; harts_seen = f.harts_seen; banks_seen = f.banks_seen; enrolment = λ x. (ap (λ (l : List ℕ). hart.0 ∷ l) listed.0, listed.1) })
            (record { harts = (sym (kept.harts.others hart.0 free'), tt); banks = tt; harts_seen = (omega arith, tt); banks_seen = tt; enrolment = λ x. absurd cc })
            (λ j u ne e. let g = kept.fits j u e in record { harts = g.harts; banks = g.banks; harts_seen = g.harts_seen; banks_seen = g.banks_seen; enrolment = λ too. absurd (founder-alone s.views id v kept.one_founder founder at j u ne e too) });
        harts_in_one = λ h. total-parted (hart_in h) s.views id v (with_hart hart v) (new_hart hart) (one_if (hart.0 == h)) at (omega arith) ∙ ap (λ (m : ℕ). one_if (hart.0 == h) + m) (kept.harts_in_one h);
        banks_in_one = λ h. total-cut (bank_in h) s.views id v (with_hart hart v) (new_hart hart) at (omega arith) ∙ kept.banks_in_one h;
        one_founder = total-cut founder_in s.views id v (with_hart hart v) (new_hart hart) at (omega arith) ∙ kept.one_founder;
        harts = enrolled-more limits.harts hart.0 all.enrolled_harts all.harts below free' kept.harts;
        banks = kept.banks;
      },
    )

pub enrols_bank : (limits : Limits) (id : ℕ) (v : View) (bank : ℕ) → v.founder ≡ true
    → occurrences bank v.enrolled_banks ≡ 0 → bank < limits.banks
    → Splits (MeetsRule limits) id v (with_bank bank v) (new_bank bank)
enrols_bank limits id v bank founder free below s k at =
    let all = k.1 in
    let kept = k.3 in
    let f = kept.fits id v at in
    let listed = f.enrolment founder in
    let free' : occurrences bank all.enrolled_banks ≡ 0 = ap (occurrences bank) (sym listed.1) ∙ free in
    let now : AllLogs = record { harts = all.harts; banks = all.banks; enrolled_harts = all.enrolled_harts; enrolled_banks = bank ∷ all.enrolled_banks } in (
      k.0,
      now,
      k.2,
      record {
        logs = kept.logs;
        fits = all-parted (Fits k.0 now) s.views id (with_bank bank v) (new_bank bank)
            (record { harts = f.harts; banks = f.banks; harts_seen = f.harts_seen; banks_seen = f.banks_seen; enrolment = λ x. (listed.0, ap (λ (l : List ℕ). bank ∷ l) listed.1) })
            (record { harts = tt; banks = (sym (kept.banks.others bank free'), tt); harts_seen = tt; banks_seen = (omega arith, tt); enrolment = λ x. absurd cc })
            (λ j u ne e. let g = kept.fits j u e in record { harts = g.harts; banks = g.banks; harts_seen = g.harts_seen; banks_seen = g.banks_seen; enrolment = λ too. absurd (founder-alone s.views id v kept.one_founder founder at j u ne e too) });
        harts_in_one = λ h. total-cut (hart_in h) s.views id v (with_bank bank v) (new_bank bank) at (omega arith) ∙ kept.harts_in_one h;
        banks_in_one = λ h. total-parted (bank_in h) s.views id v (with_bank bank v) (new_bank bank) (one_if (bank == h)) at (omega arith) ∙ ap (λ (m : ℕ). one_if (bank == h) + m) (kept.banks_in_one h);
        one_founder = total-cut founder_in s.views id v (with_bank bank v) (new_bank bank) at (omega arith) ∙ kept.one_founder;
        harts = kept.harts;
        banks = enrolled-more limits.banks bank all.enrolled_banks all.banks below free' kept.banks;
      },
    )
