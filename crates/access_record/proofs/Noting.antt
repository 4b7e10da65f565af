-- The steps on the record's word keep the rule: notes, looks, and learning the rule.
use Rattle.std.proofs.Math.Nat.{max-le}
use Rattle.std.proofs.Common.{◌≡◌, ◌≢◌, ℕ, suc, ◌+◌, ◌*◌, ◌%◌, ◌^◌, ◌<◌, ◌≤◌, lt_of_not-le, true, false, List, [], ◌∷◌, ◌++◌, length, set, sym, refl, ap, ◌∙◌, subst, arith, None, Some}
use mathlib.Core.Option.{some}
use lib.ListN.{get_elem?}
use Rattle.std.specs.Prelude.{slice_index}
use Rattle.atomic_table.specs.Table.{Me, Step, Act, keeps, Valid, homes_after, carried_after, Allows}
use Rattle.access_record.specs.declared.limits.Limits.{Limits}
use Rattle.access_record.specs.declared.entry.Entry.{Entry}
use Rattle.access_record.specs.declared.entry.LogEntry.{LogEntry}
use Rattle.access_record.specs.declared.view.HartView.{HartView}
use Rattle.access_record.specs.declared.view.BankView.{BankView}
use Rattle.access_record.specs.declared.view.View.{View}
use Rattle.access_record.specs.Logs.{is_access, Ascends, on_bank, of_hart, IsRecord, log_entry}
use Rattle.access_record.specs.Rule.{total, occurrences, hart_number, hart_log, hart_seen, bank_number, bank_log, bank_seen, hart_in, bank_in, founder_in, AllLogs, Fits, IsEnrolled, IsConsistent, MeetsRule, view_of}
use Rattle.access_record.specs.Steps.{with_entry, both_seen, with_look, AgreesAt, Enters, Looks}
use Rattle.access_record.proofs.Totals.{total-set, total-one, total-two, all-set, put, put-same, put-all, sum_below-most}
use Rattle.access_record.proofs.Having.{have_logs-put, have_seen-wider, one_if-same}
use Rattle.access_record.proofs.Logging.{record-access, record-own}

-- what is known where a view has the log of number k
record HasLog (most k : ℕ) (enrolled : List ℕ) (in_view : View → ℕ) (views : List View) (id : ℕ) : Type 0 where
  below : k < most
  enrolled_once : occurrences k enrolled ≡ 1
  none_else : (j : ℕ) (u : View) → j ≢ id → get_elem? views j ≡ some u → in_view u ≡ 0

has_log : (most k : ℕ) (enrolled : List ℕ) (logs : ℕ → List LogEntry) (in_view : View → ℕ) (views : List View)
    (id : ℕ) (v : View)
    → IsEnrolled most enrolled logs → total in_view views ≡ occurrences k enrolled → get_elem? views id ≡ some v
    → in_view v ≡ 1 → HasLog most k enrolled in_view views id
has_log most k enrolled logs in_view views id v e in_one at one =
    let once = e.once k in
    let here = total-one in_view views id v at in
    let is_one : occurrences k enrolled ≡ 1 = omega arith in record {
      below = lt_of_not-le (λ (le : most ≤ k). let z = e.below k le in absurd (omega arith));
      enrolled_once = is_one;
      none_else = λ j u ne there. let t = total-two in_view views id j v u ne at there in omega arith;
    }

has_hart : (limits : Limits) (n : ℕ) (views : List View) (all : AllLogs) (id : ℕ) (p : HartView) (ds : List BankView)
    → IsConsistent limits n views all → get_elem? views id ≡ some (view_of (p ∷ []) ds)
    → HasLog limits.harts p.hart.0 all.enrolled_harts (hart_in p.hart.0) views id
has_hart limits n views all id p ds kept at =
    has_log limits.harts p.hart.0 all.enrolled_harts all.harts (hart_in p.hart.0) views id (view_of (p ∷ []) ds) kept.harts (kept.harts_in_one p.hart.0) at (let c = one_if-same p.hart.0 in omega arith)

has_bank : (limits : Limits) (n : ℕ) (views : List View) (all : AllLogs) (id : ℕ) (ps : List HartView) (d : BankView)
    → IsConsistent limits n views all → get_elem? views id ≡ some (view_of ps (d ∷ []))
    → HasLog limits.banks d.bank all.enrolled_banks (bank_in d.bank) views id
has_bank limits n views all id ps d kept at =
    has_log limits.banks d.bank all.enrolled_banks all.banks (bank_in d.bank) views id (view_of ps (d ∷ [])) kept.banks (kept.banks_in_one d.bank) at (let c = one_if-same d.bank in omega arith)

-- an enrolled one's log may change
enrolled-put : (most : ℕ) (enrolled : List ℕ) (logs : ℕ → List LogEntry) (k : ℕ) (new : List LogEntry)
    → occurrences k enrolled ≡ 1 → IsEnrolled most enrolled logs → IsEnrolled most enrolled (put logs k new)
enrolled-put most enrolled logs k new one e = record {
  once = e.once;
  below = e.below;
  others = put-all (λ g l. occurrences g enrolled ≡ 0 → l ≡ []) logs k new (λ none. absurd (omega arith)) (λ g ne. e.others g);
}

-- an access is noted
consistent-access : (limits : Limits) (n : ℕ) (views : List View) (all : AllLogs) (id : ℕ) (entry : Entry)
    (p : HartView) (d : BankView)
    → IsConsistent limits n views all → get_elem? views id ≡ some (view_of (p ∷ []) (d ∷ []))
    → length p.log < limits.room → is_access entry.what ≡ true
    → (now : AllLogs) × IsConsistent limits (suc n) (set views id (with_entry entry n (p ∷ []) (d ∷ []))) now
consistent-access limits n views all id entry p d kept at room access =
    let v : View = view_of (p ∷ []) (d ∷ []) in
    let f = kept.fits id v at in
    let hh = has_hart limits n views all id p (d ∷ []) kept at in
    let hb = has_bank limits n views all id (p ∷ []) d kept at in
    let h = p.hart.0 in
    let e : LogEntry = log_entry entry p.hart (Some d.bank) n in
    let w : View = with_entry entry n (p ∷ []) (d ∷ []) in
    let to : List LogEntry = all.harts h ++ e ∷ [] in
    let onto : List LogEntry = all.banks d.bank ++ e ∷ [] in
    let now : AllLogs = record { harts = put all.harts h to; banks = put all.banks d.bank onto; enrolled_harts = all.enrolled_harts; enrolled_banks = all.enrolled_banks } in (
      now,
      record {
        logs = record-access limits n all.harts all.banks h d.bank e kept.logs hh.below hb.below (subst (λ (l : List LogEntry). length l < limits.room) f.harts.0 room) refl refl refl access;
        fits = all-set (Fits (suc n) now) views id w
            (record {
              harts = (ap (λ (l : List LogEntry). l ++ e ∷ []) f.harts.0 ∙ sym (put-same all.harts h to), tt);
              banks = (ap (λ (l : List LogEntry). l ++ e ∷ []) f.banks.0 ∙ sym (put-same all.banks d.bank onto), tt);
              harts_seen = (omega arith, tt);
              banks_seen = (omega arith, tt);
              enrolment = λ x. absurd cc;
            })
            (λ j u ne there. let g = kept.fits j u there in record {
              harts = have_logs-put hart_number hart_log all.harts h to u.harts (hh.none_else j u ne there) g.harts;
              banks = have_logs-put bank_number bank_log all.banks d.bank onto u.banks (hb.none_else j u ne there) g.banks;
              harts_seen = have_seen-wider hart_seen n (suc n) u.harts (omega arith) g.harts_seen;
              banks_seen = have_seen-wider bank_seen n (suc n) u.banks (omega arith) g.banks_seen;
              enrolment = g.enrolment;
            });
        harts_in_one = λ g. (let t = total-set (hart_in g) views id v w at in let c = kept.harts_in_one g in omega arith);
        banks_in_one = λ g. (let t = total-set (bank_in g) views id v w at in let c = kept.banks_in_one g in omega arith);
        one_founder = (let t = total-set founder_in views id v w at in let c = kept.one_founder in omega arith);
        harts = enrolled-put limits.harts all.enrolled_harts all.harts h to hh.enrolled_once kept.harts;
        banks = enrolled-put limits.banks all.enrolled_banks all.banks d.bank onto hb.enrolled_once kept.banks;
      },
    )

-- an end or a handover is noted
consistent-own : (limits : Limits) (n : ℕ) (views : List View) (all : AllLogs) (id : ℕ) (entry : Entry) (p : HartView)
    → IsConsistent limits n views all → get_elem? views id ≡ some (view_of (p ∷ []) []) → length p.log < limits.room
    → is_access entry.what ≡ false
    → (now : AllLogs) × IsConsistent limits (suc n) (set views id (with_entry entry n (p ∷ []) [])) now
consistent-own limits n views all id entry p kept at room own =
    let v : View = view_of (p ∷ []) [] in
    let f = kept.fits id v at in
    let hh = has_hart limits n views all id p [] kept at in
    let h = p.hart.0 in
    let e : LogEntry = log_entry entry p.hart None n in
    let w : View = with_entry entry n (p ∷ []) [] in
    let to : List LogEntry = all.harts h ++ e ∷ [] in
    let now : AllLogs = record { harts = put all.harts h to; banks = all.banks; enrolled_harts = all.enrolled_harts; enrolled_banks = all.enrolled_banks } in (
      now,
      record {
        logs = record-own limits n all.harts all.banks h e kept.logs hh.below (subst (λ (l : List LogEntry). length l < limits.room) f.harts.0 room) refl refl refl own;
        fits = all-set (Fits (suc n) now) views id w
            (record {
              harts = (ap (λ (l : List LogEntry). l ++ e ∷ []) f.harts.0 ∙ sym (put-same all.harts h to), tt);
              banks = tt;
              harts_seen = (omega arith, tt);
              banks_seen = tt;
              enrolment = λ x. absurd cc;
            })
            (λ j u ne there. let g = kept.fits j u there in record {
              harts = have_logs-put hart_number hart_log all.harts h to u.harts (hh.none_else j u ne there) g.harts;
              banks = g.banks;
              harts_seen = have_seen-wider hart_seen n (suc n) u.harts (omega arith) g.harts_seen;
              banks_seen = have_seen-wider bank_seen n (suc n) u.banks (omega arith) g.banks_seen;
              enrolment = g.enrolment;
            });
        harts_in_one = λ g. (let t = total-set (hart_in g) views id v w at in let c = kept.harts_in_one g in omega arith);
        banks_in_one = λ g. (let t = total-set (bank_in g) views id v w at in let c = kept.banks_in_one g in omega arith);
        one_founder = (let t = total-set founder_in views id v w at in let c = kept.one_founder in omega arith);
        harts = enrolled-put limits.harts all.enrolled_harts all.harts h to hh.enrolled_once kept.harts;
        banks = kept.banks;
      },
    )

-- a hart looks at the devices
consistent-look : (limits : Limits) (n : ℕ) (views : List View) (all : AllLogs) (id : ℕ) (p : HartView) (d : BankView)
    → IsConsistent limits n views all → get_elem? views id ≡ some (view_of (p ∷ []) (d ∷ []))
    → IsConsistent limits n (set views id (with_look (p ∷ []) (d ∷ []))) all
consistent-look limits n views all id p d kept at =
    let v : View = view_of (p ∷ []) (d ∷ []) in
    let w : View = with_look (p ∷ []) (d ∷ []) in
    let f = kept.fits id v at in
    let most : both_seen p d ≤ n = max-le f.harts_seen.0 f.banks_seen.0 in record {
      logs = kept.logs;
      fits = all-set (Fits n all) views id w
          (record { harts = f.harts; banks = f.banks; harts_seen = (most, tt); banks_seen = (most, tt); enrolment = λ x. absurd cc })
          (λ j u ne there. kept.fits j u there);
      harts_in_one = λ g. (let t = total-set (hart_in g) views id v w at in let c = kept.harts_in_one g in omega arith);
      banks_in_one = λ g. (let t = total-set (bank_in g) views id v w at in let c = kept.banks_in_one g in omega arith);
      one_founder = (let t = total-set founder_in views id v w at in let c = kept.one_founder in omega arith);
      harts = kept.harts;
      banks = kept.banks;
    }

-- what the rule tells a seat of its logs
agrees-both : (limits : Limits) (n : ℕ) (views : List View) (all : AllLogs) (id : ℕ) (p : HartView) (d : BankView)
    → IsConsistent limits n views all → get_elem? views id ≡ some (view_of (p ∷ []) (d ∷ []))
    → AgreesAt n (p ∷ []) (d ∷ [])
agrees-both limits n views all id p d kept at =
    let f = kept.fits id (view_of (p ∷ []) (d ∷ [])) at in (
      subst (Ascends 0 n) (sym f.harts.0) (kept.logs.hart_numbers p.hart.0),
      subst (Ascends 0 n) (sym f.banks.0) (kept.logs.bank_numbers d.bank),
      ap (on_bank d.bank) f.harts.0 ∙ (kept.logs.matched p.hart.0 d.bank ∙ ap (of_hart p.hart.0) (sym f.banks.0)),
      f.harts_seen.0,
      f.banks_seen.0,
    )

agrees-own : (limits : Limits) (n : ℕ) (views : List View) (all : AllLogs) (id : ℕ) (p : HartView)
    → IsConsistent limits n views all → get_elem? views id ≡ some (view_of (p ∷ []) []) → AgreesAt n (p ∷ []) []
agrees-own limits n views all id p kept at =
    let f = kept.fits id (view_of (p ∷ []) []) at in
    (subst (Ascends 0 n) (sym f.harts.0) (kept.logs.hart_numbers p.hart.0), f.harts_seen.0)

-- the number of events, and so the next number, doesn't wrap
counts : (limits : Limits) (n : ℕ) (harts banks : ℕ → List LogEntry) → IsRecord limits n harts banks
    → limits.harts * limits.room < 2 ^ 63 → (n + 1) % 2 ^ 64 ≡ suc n
counts limits n harts banks r most =
    let a = sum_below-most limits.harts (λ (h : ℕ). length (harts h)) limits.room r.room in
    let c = r.count in
    let lt : n < 2 ^ 63 = omega arith in grind arith

-- the step that notes an access may be made
pub notes_both : (limits : Limits) (slots id : ℕ) (step : Step ℕ) (entry : Entry) (p : HartView) (d : BankView)
    → limits.harts * limits.room < 2 ^ 63 → length p.log < limits.room → is_access entry.what ≡ true
    → Allows (MeetsRule limits) slots id (view_of (p ∷ []) (d ∷ []), []) 0 (λ n. (n + 1) % 2 ^ 64)
    (Enters entry step (view_of (p ∷ []) (d ∷ []), []))
notes_both limits slots id step entry p d most room access s k homes at small =
    let n = k.0 in
    let me : Me ℕ View = (view_of (p ∷ []) (d ∷ []), []) in
    let next = consistent-access limits n s.views k.1 id entry p d k.3 at room access in
    let P : List ℕ → Type 0 = λ ws. (w : View) × (a : Act ℕ) × Valid s.homes [] a × MeetsRule limits (record { words = set ws 0 ((slice_index ws 0 + 1) % 2 ^ 64); homes = homes_after s.homes [] a; views = set s.views id w }) × Enters entry step me (slice_index ws 0) (w, carried_after [] a) in
    subst P (sym k.2) (
      with_entry entry n (p ∷ []) (d ∷ []),
      keeps,
      tt,
      (suc n, next.0, ap (λ (m : ℕ). m ∷ []) (counts limits n k.1.harts k.1.banks k.3.logs most), next.1),
      (refl, agrees-both limits n s.views k.1 id p d k.3 at),
    )

-- the step that notes an end or a handover may be made
pub notes_own : (limits : Limits) (slots id : ℕ) (step : Step ℕ) (entry : Entry) (p : HartView)
    → limits.harts * limits.room < 2 ^ 63 → length p.log < limits.room → is_access entry.what ≡ false
    → Allows (MeetsRule limits) slots id (view_of (p ∷ []) [], []) 0 (λ n. (n + 1) % 2 ^ 64)
    (Enters entry step (view_of (p ∷ []) [], []))
notes_own limits slots id step entry p most room own s k homes at small =
    let n = k.0 in
    let me : Me ℕ View = (view_of (p ∷ []) [], []) in
    let next = consistent-own limits n s.views k.1 id entry p k.3 at room own in
    let P : List ℕ → Type 0 = λ ws. (w : View) × (a : Act ℕ) × Valid s.homes [] a × MeetsRule limits (record { words = set ws 0 ((slice_index ws 0 + 1) % 2 ^ 64); homes = homes_after s.homes [] a; views = set s.views id w }) × Enters entry step me (slice_index ws 0) (w, carried_after [] a) in
    subst P (sym k.2) (
      with_entry entry n (p ∷ []) [],
      keeps,
      tt,
      (suc n, next.0, ap (λ (m : ℕ). m ∷ []) (counts limits n k.1.harts k.1.banks k.3.logs most), next.1),
      (refl, agrees-own limits n s.views k.1 id p k.3 at),
    )

-- the step that looks may be made
pub looks : (limits : Limits) (slots id : ℕ) (step : Step ℕ) (p : HartView) (d : BankView)
    → Allows (MeetsRule limits) slots id (view_of (p ∷ []) (d ∷ []), []) 0 (λ n. n)
    (Looks step (view_of (p ∷ []) (d ∷ []), []))
looks limits slots id step p d s k homes at small =
    let n = k.0 in
    let me : Me ℕ View = (view_of (p ∷ []) (d ∷ []), []) in
    let P : List ℕ → Type 0 = λ ws. (w : View) × (a : Act ℕ) × Valid s.homes [] a × MeetsRule limits (record { words = set ws 0 (slice_index ws 0); homes = homes_after s.homes [] a; views = set s.views id w }) × Looks step me (slice_index ws 0) (w, carried_after [] a) in
    subst P (sym k.2) (
      with_look (p ∷ []) (d ∷ []),
      keeps,
      tt,
      (n, k.1, refl, consistent-look limits n s.views k.1 id p d k.3 at),
      (refl, agrees-both limits n s.views k.1 id p d k.3 at),
    )
