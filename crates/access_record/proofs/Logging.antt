-- A record stays a record when an event is noted.
use Rattle.std.proofs.Common.{◌≡◌, ◌≢◌, ℕ, suc, ◌+◌, ◌<◌, ◌≤◌, Bool, true, false, List, [], ◌∷◌, ◌++◌, length, sym, refl, ap, ◌∙◌, subst, inl, inr, ⊎_elim, eqb, eq-eqb, ne_eqb, arith, length-append, append-nil, None, Some}
use Rattle.std.specs.List.{filter}
use Rattle.std.proofs.lemmas.List.Elements.{filter-append}
use native.Mathlib.Decide.{ℕ_discrete}
use Rattle.access_record.specs.declared.limits.Limits.{Limits}
use Rattle.access_record.specs.declared.entry.LogEntry.{LogEntry}
use Rattle.access_record.specs.Logs.{is_access, is_bank, has_bank, names_bank, names_hart, on_bank, of_hart, Ascends, AreOfHart, HasNumber, IsInOneLog, sum_below, IsRecord}
use Rattle.access_record.proofs.Totals.{put, put-same, put-other, put-all, sum_below-put}

pub ascends-push : (low high : ℕ) (log : List LogEntry) (e : LogEntry) → Ascends low high log → e.event.number ≡ high
    → Ascends low (suc high) (log ++ e ∷ [])
ascends-push low high [] e a is = (omega arith, omega arith)
ascends-push low high (x ∷ xs) e a is = (a.0, ascends-push (suc x.event.number) high xs e a.1 is)

pub ascends-wider : (low high more : ℕ) (log : List LogEntry) → high ≤ more → Ascends low high log
    → Ascends low more log
ascends-wider low high more [] le a = omega arith
ascends-wider low high more (x ∷ xs) le a = (a.0, ascends-wider (suc x.event.number) high more xs le a.1)

pub has_number-below : (low high k : ℕ) (log : List LogEntry) → Ascends low high log → HasNumber k log → k < high
has_number-below low high k [] a s = absurd s
has_number-below low high k (x ∷ xs) a s = ⊎_elim (λ (is : x.event.number ≡ k). let h = within (suc x.event.number) high xs a.1 in omega arith) (λ (t : HasNumber k xs). has_number-below (suc x.event.number) high k xs a.1 t) s
  where
    within : (low high : ℕ) (log : List LogEntry) → Ascends low high log → low ≤ high
    within low high [] a = a
    within low high (y ∷ ys) a = let h = within (suc y.event.number) high ys a.1 in let g = a.0 in omega arith

pub has_number-push : (k : ℕ) (log : List LogEntry) (e : LogEntry) → e.event.number ≡ k → HasNumber k (log ++ e ∷ [])
has_number-push k [] e is = inl is
has_number-push k (x ∷ xs) e is = inr (has_number-push k xs e is)

pub has_number-longer : (k : ℕ) (log : List LogEntry) (e : LogEntry) → HasNumber k log → HasNumber k (log ++ e ∷ [])
has_number-longer k [] e s = absurd s
has_number-longer k (x ∷ xs) e s = ⊎_elim (λ is. inl is) (λ t. inr (has_number-longer k xs e t)) s

pub has_number-back : (k : ℕ) (log : List LogEntry) (e : LogEntry) → e.event.number ≢ k → HasNumber k (log ++ e ∷ [])
    → HasNumber k log
has_number-back k [] e ne s = ⊎_elim (λ is. absurd (ne is)) (λ t. absurd t) s
has_number-back k (x ∷ xs) e ne s = ⊎_elim (λ is. inl is) (λ t. inr (has_number-back k xs e ne t)) s

pub are_of_hart-push : (hart : ℕ) (log : List LogEntry) (e : LogEntry) → AreOfHart hart log
    → (e.event.hart.0 ≡ hart) × (is_access e.event.what ≡ has_bank e.bank) → AreOfHart hart (log ++ e ∷ [])
are_of_hart-push hart [] e a is = (is, tt)
are_of_hart-push hart (x ∷ xs) e a is = (a.0, are_of_hart-push hart xs e a.1 is)

-- what a filter keeps of a list and one entry more
filter-yes : (p : LogEntry → Bool) (log : List LogEntry) (e : LogEntry) → p e ≡ true
    → filter p (log ++ e ∷ []) ≡ filter p log ++ e ∷ []
filter-yes p log e is = filter-append p log (e ∷ []) ∙ ap (λ l. filter p log ++ l) (one p e is)
  where
    one : (p : LogEntry → Bool) (e : LogEntry) → p e ≡ true → filter p (e ∷ []) ≡ e ∷ []
    one p e is = rw is refl

filter-no : (p : LogEntry → Bool) (log : List LogEntry) (e : LogEntry) → p e ≡ false
    → filter p (log ++ e ∷ []) ≡ filter p log
filter-no p log e is = filter-append p log (e ∷ []) ∙ (ap (λ l. filter p log ++ l) (one p e is) ∙ append-nil (filter p log))
  where
    one : (p : LogEntry → Bool) (e : LogEntry) → p e ≡ false → filter p (e ∷ []) ≡ []
    one p e is = rw is refl

pub on_bank-yes : (bank : ℕ) (log : List LogEntry) (e : LogEntry) → names_bank bank e ≡ true
    → on_bank bank (log ++ e ∷ []) ≡ on_bank bank log ++ e ∷ []
unfolding on_bank
on_bank-yes bank log e is = filter-yes (names_bank bank) log e is

pub on_bank-no : (bank : ℕ) (log : List LogEntry) (e : LogEntry) → names_bank bank e ≡ false
    → on_bank bank (log ++ e ∷ []) ≡ on_bank bank log
unfolding on_bank
on_bank-no bank log e is = filter-no (names_bank bank) log e is

pub of_hart-yes : (hart : ℕ) (log : List LogEntry) (e : LogEntry) → names_hart hart e ≡ true
    → of_hart hart (log ++ e ∷ []) ≡ of_hart hart log ++ e ∷ []
unfolding of_hart
of_hart-yes hart log e is = filter-yes (names_hart hart) log e is

pub of_hart-no : (hart : ℕ) (log : List LogEntry) (e : LogEntry) → names_hart hart e ≡ false
    → of_hart hart (log ++ e ∷ []) ≡ of_hart hart log
unfolding of_hart
of_hart-no hart log e is = filter-no (names_hart hart) log e is

-- the new number stands once, and the others as before
in_one_log-push : (limits : Limits) (n : ℕ) (harts banks : ℕ → List LogEntry) (h : ℕ) (e : LogEntry)
    → IsRecord limits n harts banks → e.event.number ≡ n → (k : ℕ) → k < suc n
    → IsInOneLog (put harts h (harts h ++ e ∷ [])) k
in_one_log-push limits n harts banks h e r number k lt = by_test (ℕ_discrete k n)
  where
    by_test : Dec (k ≡ n) → IsInOneLog (put harts h (harts h ++ e ∷ [])) k
    by_test (yes is) = record {
      hart = h;
      here = subst (HasNumber k) (sym (put-same harts h (harts h ++ e ∷ []))) (has_number-push k (harts h) e (number ∙ sym is));
      alone = put-all (λ j l. HasNumber k l → j ≡ h) harts h (harts h ++ e ∷ []) (λ s. refl) (λ j ne s. absurd (let b = has_number-below 0 n k (harts j) (r.hart_numbers j) s in omega arith));
    }
    by_test (no ne) = let o = r.once k (omega arith) in
        let other : e.event.number ≢ k = λ same. ne (sym same ∙ number) in record {
          hart = o.hart;
          here = put-all (λ j l. HasNumber k (harts j) → HasNumber k l) harts h (harts h ++ e ∷ []) (has_number-longer k (harts h) e) (λ j apart s. s) o.hart o.here;
          alone = λ g s. o.alone g (put-all (λ j l. HasNumber k l → HasNumber k (harts j)) harts h (harts h ++ e ∷ []) (has_number-back k (harts h) e other) (λ j apart t. t) g s);
        }

sum_below-push : (limits : Limits) (n : ℕ) (harts banks : ℕ → List LogEntry) (h : ℕ) (e : LogEntry)
    → IsRecord limits n harts banks → h < limits.harts
    → suc n ≡ sum_below limits.harts (λ j. length (put harts h (harts h ++ e ∷ []) j))
sum_below-push limits n harts banks h e r h_in =
    let now = put harts h (harts h ++ e ∷ []) in
    let s = sum_below-put limits.harts (λ j. length (harts j)) (λ j. length (now j)) h h_in (λ j ne. ap length (sym (put-other harts h (harts h ++ e ∷ []) j ne))) in
    let l : length (now h) ≡ length (harts h) + 1 = ap length (put-same harts h (harts h ++ e ∷ [])) ∙ length-append (harts h) (e ∷ []) in
    let c = r.count in omega arith

-- an access of hart h at bank b
pub record-access : (limits : Limits) (n : ℕ) (harts banks : ℕ → List LogEntry) (h b : ℕ) (e : LogEntry)
    → IsRecord limits n harts banks → h < limits.harts → b < limits.banks → length (harts h) < limits.room
    → e.event.number ≡ n → e.event.hart.0 ≡ h → e.bank ≡ Some b → is_access e.event.what ≡ true
    → IsRecord limits (suc n) (put harts h (harts h ++ e ∷ [])) (put banks b (banks b ++ e ∷ []))
record-access limits n harts banks h b e r h_in b_in room number hart bank access =
    let to : List LogEntry = harts h ++ e ∷ [] in
    let at : List LogEntry = banks b ++ e ∷ [] in
    let named : (c : ℕ) → names_bank c e ≡ eqb b c = λ c. ap (λ p. is_bank p c) bank in
    let is_hart : (g : ℕ) → names_hart g e ≡ eqb h g = λ g. ap (λ k. eqb k g) hart in record {
      hart_numbers = put-all (λ j l. Ascends 0 (suc n) l) harts h to (ascends-push 0 n (harts h) e (r.hart_numbers h) number) (λ j ne. ascends-wider 0 n (suc n) (harts j) (omega arith) (r.hart_numbers j));
      bank_numbers = put-all (λ j l. Ascends 0 (suc n) l) banks b at (ascends-push 0 n (banks b) e (r.bank_numbers b) number) (λ j ne. ascends-wider 0 n (suc n) (banks j) (omega arith) (r.bank_numbers j));
      own = put-all AreOfHart harts h to (are_of_hart-push h (harts h) e (r.own h) (hart, access ∙ sym (ap has_bank bank))) (λ j ne. r.own j);
      once = in_one_log-push limits n harts banks h e r number;
      matched = put-all (λ g l. (c : ℕ) → on_bank c l ≡ of_hart g (put banks b at c)) harts h to
          (put-all (λ c l. on_bank c to ≡ of_hart h l) banks b at
          (on_bank-yes b (harts h) e (named b ∙ eq-eqb b b refl) ∙ (ap (λ l. l ++ e ∷ []) (r.matched h b) ∙ sym (of_hart-yes h (banks b) e (is_hart h ∙ eq-eqb h h refl))))
          (λ c ne. on_bank-no c (harts h) e (named c ∙ ne_eqb b c (λ s. ne (sym s))) ∙ r.matched h c))
          (λ g ne. put-all (λ c l. on_bank c (harts g) ≡ of_hart g l) banks b at
          (r.matched g b ∙ sym (of_hart-no g (banks b) e (is_hart g ∙ ne_eqb h g (λ s. ne (sym s)))))
          (λ c other. r.matched g c));
      room = put-all (λ j l. length l ≤ limits.room) harts h to (omega (arith, length-append (harts h) (e ∷ []))) (λ j ne. r.room j);
      count = sum_below-push limits n harts banks h e r h_in;
      no_hart = put-all (λ j l. limits.harts ≤ j → l ≡ []) harts h to (λ le. absurd (omega arith)) (λ j ne. r.no_hart j);
      no_bank = put-all (λ j l. limits.banks ≤ j → l ≡ []) banks b at (λ le. absurd (omega arith)) (λ j ne. r.no_bank j);
    }

-- an end or a handover of hart h
pub record-own : (limits : Limits) (n : ℕ) (harts banks : ℕ → List LogEntry) (h : ℕ) (e : LogEntry)
    → IsRecord limits n harts banks → h < limits.harts → length (harts h) < limits.room
    → e.event.number ≡ n → e.event.hart.0 ≡ h → e.bank ≡ None → is_access e.event.what ≡ false
    → IsRecord limits (suc n) (put harts h (harts h ++ e ∷ [])) banks
record-own limits n harts banks h e r h_in room number hart bank access =
    let to : List LogEntry = harts h ++ e ∷ [] in record {
      hart_numbers = put-all (λ j l. Ascends 0 (suc n) l) harts h to (ascends-push 0 n (harts h) e (r.hart_numbers h) number) (λ j ne. ascends-wider 0 n (suc n) (harts j) (omega arith) (r.hart_numbers j));
      bank_numbers = λ j. ascends-wider 0 n (suc n) (banks j) (omega arith) (r.bank_numbers j);
      own = put-all AreOfHart harts h to (are_of_hart-push h (harts h) e (r.own h) (hart, access ∙ sym (ap has_bank bank))) (λ j ne. r.own j);
      once = in_one_log-push limits n harts banks h e r number;
      matched = put-all (λ g l. (c : ℕ) → on_bank c l ≡ of_hart g (banks c)) harts h to (λ c. on_bank-no c (harts h) e (ap (λ p. is_bank p c) bank) ∙ r.matched h c) (λ g ne. r.matched g);
      room = put-all (λ j l. length l ≤ limits.room) harts h to (omega (arith, length-append (harts h) (e ∷ []))) (λ j ne. r.room j);
      count = sum_below-push limits n harts banks h e r h_in;
      no_hart = put-all (λ j l. limits.harts ≤ j → l ≡ []) harts h to (λ le. absurd (omega arith)) (λ j ne. r.no_hart j);
      no_bank = r.no_bank;
    }
