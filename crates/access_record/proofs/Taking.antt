-- How far one seat has taken in the logs of passes, which are taken from the end of their list.
use Rattle.std.proofs.Common.{◌≡◌, ℕ, suc, ◌+◌, ◌%◌, ◌<◌, ◌≤◌, true, List, [], ◌∷◌, ◌++◌, map, length, set, refl, sym, ap, ◌∙◌, subst, arith, append_assoc, length-append, Some}
use Rattle.std.specs.List.{All}
use Rattle.std.proofs.lemmas.List.{get_or-set_same, get_or-set_other, length-set}
use Rattle.std.proofs.lemmas.List.Elements.{All-pop, All-head, All-tail}
use Rattle.atomic_table.specs.Table.{Me}
use Rattle.atomic_table.specs.Seated.{TableId}
use Rattle.flex_base.specs.declared.hart.HartId.{HartId}
use Rattle.access_record.specs.declared.view.HartView.{HartView}
use Rattle.access_record.specs.declared.view.BankView.{BankView}
use Rattle.access_record.specs.declared.view.View.{View}
use Rattle.access_record.specs.Rule.{view_of, founder_with}
use Rattle.access_record.specs.Steps.{some_hart, union}
use Rattle.access_record.specs.Passes.{PassOfHart, PassOfBank, Enrolment, IsFounder, enrolment_in, pass_of, bank_pass_of, view_of_pass, view_of_bank_pass, with_passes, with_bank_passes}
use Rattle.access_record.specs.Gathered.{Lists, all_in_view, all_passes}

module _ {X N : Type 0} (name : X → N) (other : N) where
  lists-set : (names : List N) (at : ℕ) (new : N) (k : ℕ) (xs : List X) → at < k → Lists name other names k xs
      → Lists name other (set names at new) k xs
  lists-set names at new k [] lt l = tt
  lists-set names at new k (x ∷ xs) lt l = (get_or-set_other names at k new other (λ (is : k ≡ at). omega arith) ∙ l.0, lists-set names at new (suc k) xs (omega arith) l.1)

  lists-cons : (names : List N) (at : ℕ) (x : X) (xs : List X) → at < length names
      → Lists name other names (suc at) xs → Lists name other (set names at (name x)) at (x ∷ xs)
  lists-cons names at x xs lt l = (get_or-set_same names at (name x) other lt, lists-set names at (name x) (suc at) xs (omega arith) l)

-- Q: the passes; X: what a seat has of one; N: the name in it
pub record HasTaken {Q X N : Type 0} (id_of : Q → TableId) (view : Q → X) (name : X → N) (other : N) (with : List Q → View → View) (id : TableId) (all left : List Q) (was now : Me ℕ View) (names : List N) : Type 0 where
  pub done : List Q
  pub all_are : all ≡ left ++ done
  pub view_is : now ≡ (with done was.0, was.1)
  pub ids : All (λ (q : Q). id_of q ≡ id) left
  pub places : length names ≡ 256
  pub listed : length all ≤ 256 → Lists name other names (length left) (map view done)

module _ {Q X N : Type 0} (id_of : Q → TableId) (view : Q → X) (name : X → N) (other : N) (with : List Q → View → View) (alone : X → View) where
  -- one pass more is taken
  taken_more : ((q : Q) (done : List Q) (v : View) → union (with done v) (alone (view q)) ≡ with (q ∷ done) v)
      → (id : TableId) (all before left : List Q) (p : Q) (was now next : Me ℕ View) (names : List N) (x : X)
      (v : View) (at : ℕ) (n : N)
      → HasTaken id_of view name other with id all before was now names → before ≡ left ++ p ∷ [] → x ≡ view p
      → v ≡ alone x → name x ≡ n → next ≡ (union now.0 v, now.1) → at ≡ length left
      → HasTaken id_of view name other with id all left was next (set names (at % 256) n)
  taken_more adds id all before left p was now next names x v at n has is x_is v_is n_is next_is at_is =
      let done = has.done in
      let len : length before ≡ length left + 1 = ap length is ∙ length-append left (p ∷ []) in
      let whole : length all ≡ length before + length done = ap length has.all_are ∙ length-append before done in
      let space = has.places in record {
        done = p ∷ done;
        all_are = has.all_are ∙ (ap (λ (l : List Q). l ++ done) is ∙ append_assoc left (p ∷ []) done);
        view_is = next_is ∙ ((λ i. (union (has.view_is i).0 ((v_is ∙ ap alone x_is) i), (has.view_is i).1)) ∙ ap (λ (w : View). (w, was.1)) (adds p done was.0));
        ids = (All-pop (λ (q : Q). id_of q ≡ id) before left (Some p) is has.ids).0;
        places = length-set names (at % 256) n ∙ has.places;
        listed = λ few.
            let small : at % 256 ≡ length left = grind arith in
            let below : at % 256 < length names = omega arith in
            let here : Lists name other names (suc (at % 256)) (map view done) = subst (λ (k : ℕ). Lists name other names k (map view done)) (omega arith) (has.listed few) in
            let more : Lists name other (set names (at % 256) (name x)) (at % 256) (x ∷ map view done) = lists-cons name other names (at % 256) x (map view done) below here in
            subst (λ (k : ℕ × (N × X)). Lists name other (set names (at % 256) k.1.0) k.0 (k.1.1 ∷ map view done)) (λ i. (small i, (n_is i, x_is i))) more;
      }

-- how far the passes of harts are taken, and those of banks
abbrev pub HasTakenPasses : TableId → List PassOfHart → List PassOfHart → Me ℕ View → Me ℕ View → List HartId → Type 0
HasTakenPasses id all left was now names = HasTaken (λ (p : PassOfHart). p.id) view_of_pass (λ (p : HartView). p.hart) some_hart with_passes id all left was now names

abbrev pub HasTakenBankPasses : TableId → List PassOfBank → List PassOfBank → Me ℕ View → Me ℕ View → List ℕ → Type 0
HasTakenBankPasses id all left was now names = HasTaken (λ (p : PassOfBank). p.id) view_of_bank_pass (λ (p : BankView). p.bank) 0 with_bank_passes id all left was now names

pub takes_pass : (id : TableId) (all before left : List PassOfHart) (p : PassOfHart) (was now next : Me ℕ View)
    (names : List HartId) (x : HartView) (v : View) (at : ℕ) (hart : HartId)
    → HasTakenPasses id all before was now names → before ≡ left ++ p ∷ [] → x ≡ view_of_pass p
    → v ≡ view_of (x ∷ []) [] → x.hart ≡ hart → next ≡ (union now.0 v, now.1) → at ≡ length left
    → HasTakenPasses id all left was next (set names (at % 256) hart)
takes_pass = taken_more (λ (p : PassOfHart). p.id) view_of_pass (λ (p : HartView). p.hart) some_hart with_passes (λ (x : HartView). view_of (x ∷ []) []) (λ q done v. refl)

pub takes_bank_pass : (id : TableId) (all before left : List PassOfBank) (p : PassOfBank) (was now next : Me ℕ View)
    (names : List ℕ) (x : BankView) (v : View) (at : ℕ) (bank : ℕ)
    → HasTakenBankPasses id all before was now names → before ≡ left ++ p ∷ [] → x ≡ view_of_bank_pass p
    → v ≡ view_of [] (x ∷ []) → x.bank ≡ bank → next ≡ (union now.0 v, now.1) → at ≡ length left
    → HasTakenBankPasses id all left was next (set names (at % 256) bank)
takes_bank_pass = taken_more (λ (p : PassOfBank). p.id) view_of_bank_pass (λ (p : BankView). p.bank) 0 with_bank_passes (λ (x : BankView). view_of [] (x ∷ [])) (λ q done v. refl)

-- what a seat has of passes of one record are these passes
passes-back : {Q X : Type 0} (id_of : Q → TableId) (view : Q → X) (pass : TableId → X → Q)
    → ((q : Q) → pass (id_of q) (view q) ≡ q) → (id : TableId) (qs : List Q) → All (λ (q : Q). id_of q ≡ id) qs
    → map (pass id) (map view qs ++ []) ≡ qs
passes-back id_of view pass back id [] a = refl
passes-back {Q} id_of view pass back id (q ∷ qs) a =
    let e : id_of q ≡ id = All-head (λ (p : Q). id_of p ≡ id) q qs a in
    let rest = passes-back id_of view pass back id qs (All-tail (λ (p : Q). id_of p ≡ id) q qs a) in
    λ i. (ap (λ (t : TableId). pass t (view q)) (sym e) ∙ back q) i ∷ rest i

-- the founder's view with the logs of these passes
abbrev pub founder_and : Enrolment → List PassOfHart → List PassOfBank → View
founder_and r ps ds = with_bank_passes ds (with_passes ps (founder_with r.harts r.banks [] []))

pub all_in_view-back : (r : Enrolment) (ps : List PassOfHart) (ds : List PassOfBank)
    → All (λ (p : PassOfHart). p.id ≡ r.id) ps → All (λ (p : PassOfBank). p.id ≡ r.id) ds
    → all_in_view r.id (founder_and r ps ds) ≡ all_passes r ps ds
all_in_view-back r ps ds a b =
    let p = passes-back (λ (q : PassOfHart). q.id) view_of_pass pass_of (λ q. refl) r.id ps a in
    let d = passes-back (λ (q : PassOfBank). q.id) view_of_bank_pass bank_pass_of (λ q. refl) r.id ds b in
    λ i. record { id = r.id; harts = r.harts; banks = r.banks; passes = p i; bank_passes = d i }

-- the founder's seat has taken in all passes, which are of its record: it is the founder's still, and what it stands for
pub all_taken : (r : Enrolment) (id table : TableId) (me one two : Me ℕ View) (ps : List PassOfHart)
    (ds : List PassOfBank)
    → IsFounder me → enrolment_in table me.0 ≡ r → one ≡ (with_passes ps me.0, me.1)
    → two ≡ (with_bank_passes ds one.0, one.1)
    → r.id ≡ id → All (λ (p : PassOfHart). p.id ≡ id) ps → All (λ (p : PassOfBank). p.id ≡ id) ds
    → (two.0.founder ≡ true) × (all_in_view r.id two.0 ≡ all_passes r ps ds)
all_taken r id table me one two ps ds is listed one_is two_is same a b =
    let first : me.0 ≡ founder_with r.harts r.banks [] [] = ap (λ (m : Me ℕ View). m.0) is ∙ ap (λ (x : Enrolment). founder_with x.harts x.banks [] []) listed in
    let view : two.0 ≡ founder_and r ps ds = ap (λ (m : Me ℕ View). m.0) two_is ∙ (ap (λ (m : Me ℕ View). with_bank_passes ds m.0) one_is ∙ ap (λ (v : View). with_bank_passes ds (with_passes ps v)) first) in
    let ids = subst (λ (t : TableId). All (λ (p : PassOfHart). p.id ≡ t) ps) (sym same) a in
    let bank_ids = subst (λ (t : TableId). All (λ (p : PassOfBank). p.id ≡ t) ds) (sym same) b in
    (ap (λ (v : View). v.founder) view, ap (all_in_view r.id) view ∙ all_in_view-back r ps ds ids bank_ids)
