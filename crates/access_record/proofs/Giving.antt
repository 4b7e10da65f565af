-- How far the passes are made again of the logs that one seat has.
use Rattle.std.proofs.Common.{◌≡◌, ℕ, suc, ◌+◌, ◌<◌, ◌≤◌, List, [], ◌∷◌, ◌++◌, map, length, refl, sym, ap, ◌∙◌, subst, arith, append_assoc, append-nil, length-append}
use Rattle.std.specs.Prelude.{slice_index_or}
use Rattle.std.proofs.lemmas.List.{map-append}
use Rattle.atomic_table.specs.Table.{Me}
use Rattle.atomic_table.specs.Seated.{TableId}
use Rattle.flex_base.specs.declared.hart.HartId.{HartId}
use Rattle.access_record.specs.declared.view.HartView.{HartView}
use Rattle.access_record.specs.declared.view.BankView.{BankView}
use Rattle.access_record.specs.declared.view.View.{View}
use Rattle.access_record.specs.Rule.{view_of}
use Rattle.access_record.specs.Steps.{some_hart, first_of, without_first_hart, without_first_bank}
use Rattle.access_record.specs.Passes.{PassOfHart, PassOfBank, pass_of, bank_pass_of, first_hart, first_bank, IsPass, IsBankPass}
use Rattle.access_record.specs.Gathered.{Lists, ListsHarts, ListsBanks, with_hart_views, with_bank_views}

-- X: what a seat has of a pass; Q: the pass; N: its name
pub record HasGiven {X Q N : Type 0} (pass : TableId → X → Q) (name : X → N) (other : N) (with : View → List X → View) (id : TableId) (count : ℕ) (all : List X) (was now : Me ℕ View) (passes : List Q) (names : List N) : Type 0 where
  pub done : List X
  pub left : List X
  pub all_are : all ≡ done ++ left
  pub view_is : now ≡ (with was.0 left, was.1)
  pub passes_are : passes ≡ map (pass id) done
  pub listed : Lists name other names (length passes) left
  pub counted : length passes + length left ≡ count

none_left : {X : Type 0} (l : List X) → length l ≡ 0 → l ≡ []
none_left [] e = refl
none_left (x ∷ xs) e = absurd (omega arith)

module _ {X Q N : Type 0} (pass : TableId → X → Q) (name : X → N) (other : N) (with : View → List X → View) (first : N → List X → X) (rest : View → View) where
  -- one pass more is made
  given_more : ((n : N) (x : X) → first n (x ∷ []) ≡ x)
      → ((v : View) (x : X) (xs : List X) → rest (with v (x ∷ xs)) ≡ with v xs)
      → (id : TableId) (count : ℕ) (all : List X) (was now next : Me ℕ View) (passes : List Q) (names : List N)
      (n : N) (made : Q) (done left : List X)
      → all ≡ done ++ left → now ≡ (with was.0 left, was.1) → passes ≡ map (pass id) done
      → Lists name other names (length passes) left → length passes + length left ≡ count
      → length passes < count → next ≡ (rest now.0, now.1) → made ≡ pass id (first n (first_of left))
      → HasGiven pass name other with id count all was next (passes ++ made ∷ []) names
  given_more firsts rests id count all was now next passes names n made done [] all_are view_is passes_are listed counted lt next_is made_is = absurd (omega arith)
  given_more firsts rests id count all was now next passes names n made done (x ∷ xs) all_are view_is passes_are listed counted lt next_is made_is =
      let len : length (passes ++ made ∷ []) ≡ suc (length passes) = omega (arith, length-append passes (made ∷ [])) in record {
        done = done ++ x ∷ [];
        left = xs;
        all_are = all_are ∙ sym (append_assoc done (x ∷ []) xs);
        view_is = next_is ∙ (ap (λ (m : Me ℕ View). (rest m.0, m.1)) view_is ∙ ap (λ (v : View). (v, was.1)) (rests was.0 x xs));
        passes_are = (λ i. passes_are i ++ (made_is ∙ ap (pass id) (firsts n x)) i ∷ []) ∙ sym (map-append (pass id) done (x ∷ []));
        listed = subst (λ (k : ℕ). Lists name other names k xs) (sym len) listed.1;
        counted = omega arith;
      }

  -- all are made
  given_all : (id : TableId) (count : ℕ) (all : List X) (was now : Me ℕ View) (passes : List Q) (names : List N)
      → HasGiven pass name other with id count all was now passes names → count ≤ length passes
      → (now ≡ (with was.0 [], was.1)) × (passes ≡ map (pass id) all)
  given_all id count all was now passes names h le =
      let c = h.counted in
      let none : h.left ≡ [] = none_left h.left (omega arith) in
      (h.view_is ∙ ap (λ (l : List X). (with was.0 l, was.1)) none, h.passes_are ∙ ap (map (pass id)) (sym (h.all_are ∙ (ap (λ (l : List X). h.done ++ l) none ∙ append-nil h.done))))

abbrev pub HasGivenPasses : TableId → ℕ → Me ℕ View → Me ℕ View → List PassOfHart → List HartId → Type 0
HasGivenPasses id count was now passes names = HasGiven pass_of (λ (p : HartView). p.hart) some_hart with_hart_views id count was.0.harts was now passes names

abbrev pub HasGivenBankPasses : TableId → ℕ → Me ℕ View → Me ℕ View → List PassOfBank → List ℕ → Type 0
HasGivenBankPasses id count was now passes names = HasGiven bank_pass_of (λ (p : BankView). p.bank) 0 with_bank_views id count was.0.banks was now passes names

-- a new seat with the first log is a pass of the hart at this place
pub one_pass : (names : List HartId) (k : ℕ) (left : List HartView) (me : Me ℕ View) (hart : HartId)
    → ListsHarts names k left → 0 < length left → slice_index_or names k some_hart ≡ hart
    → me ≡ (view_of (first_of left) [], []) → IsPass hart me
one_pass names k [] me hart l some_left at is = absurd (omega arith)
one_pass names k (p ∷ ps) me hart l some_left at is = subst (IsPass hart) (sym is) (record { view_is = refl; hart_is = sym l.0 ∙ at })

pub one_bank_pass : (names : List ℕ) (k : ℕ) (left : List BankView) (me : Me ℕ View) (bank : ℕ)
    → ListsBanks names k left → 0 < length left → slice_index_or names k 0 ≡ bank
    → me ≡ (view_of [] (first_of left), []) → IsBankPass bank me
one_bank_pass names k [] me bank l some_left at is = absurd (omega arith)
one_bank_pass names k (p ∷ ps) me bank l some_left at is = subst (IsBankPass bank) (sym is) (record { view_is = refl; bank_is = sym l.0 ∙ at })

-- a pass made of a seat of this table with these logs
pub made_as : {X Q N : Type 0} (pass : TableId → X → Q) (first : N → List X → X) (id table : TableId) (n : N)
    (logs one : List X) (made : Q)
    → made ≡ pass table (first n logs) → table ≡ id → logs ≡ one → made ≡ pass id (first n one)
made_as pass first id table n logs one made is same at = is ∙ (λ i. pass (same i) (first n (at i)))

pub gives_pass : (id : TableId) (count : ℕ) (was now next : Me ℕ View) (passes : List PassOfHart)
    (names : List HartId) (hart : HartId) (made : PassOfHart) (done left : List HartView)
    → was.0.harts ≡ done ++ left → now ≡ (with_hart_views was.0 left, was.1) → passes ≡ map (pass_of id) done
    → ListsHarts names (length passes) left → length passes + length left ≡ count
    → length passes < count → next ≡ (without_first_hart now.0, now.1)
    → made ≡ pass_of id (first_hart hart (first_of left))
    → HasGivenPasses id count was next (passes ++ made ∷ []) names
gives_pass id count was = given_more pass_of (λ (p : HartView). p.hart) some_hart with_hart_views first_hart without_first_hart (λ n x. refl) (λ v x xs. refl) id count was.0.harts was

pub gives_bank_pass : (id : TableId) (count : ℕ) (was now next : Me ℕ View) (passes : List PassOfBank)
    (names : List ℕ) (bank : ℕ) (made : PassOfBank) (done left : List BankView)
    → was.0.banks ≡ done ++ left → now ≡ (with_bank_views was.0 left, was.1) → passes ≡ map (bank_pass_of id) done
    → ListsBanks names (length passes) left → length passes + length left ≡ count
    → length passes < count → next ≡ (without_first_bank now.0, now.1)
    → made ≡ bank_pass_of id (first_bank bank (first_of left))
    → HasGivenBankPasses id count was next (passes ++ made ∷ []) names
gives_bank_pass id count was = given_more bank_pass_of (λ (p : BankView). p.bank) 0 with_bank_views first_bank without_first_bank (λ n x. refl) (λ v x xs. refl) id count was.0.banks was

pub gave_passes : (id : TableId) (count : ℕ) (was now : Me ℕ View) (passes : List PassOfHart) (names : List HartId)
    → HasGivenPasses id count was now passes names → count ≤ length passes
    → (now ≡ (with_hart_views was.0 [], was.1)) × (passes ≡ map (pass_of id) was.0.harts)
gave_passes id count was = given_all pass_of (λ (p : HartView). p.hart) some_hart with_hart_views first_hart without_first_hart id count was.0.harts was

pub gave_bank_passes : (id : TableId) (count : ℕ) (was now : Me ℕ View) (passes : List PassOfBank) (names : List ℕ)
    → HasGivenBankPasses id count was now passes names → count ≤ length passes
    → (now ≡ (with_bank_views was.0 [], was.1)) × (passes ≡ map (bank_pass_of id) was.0.banks)
gave_bank_passes id count was = given_all bank_pass_of (λ (p : BankView). p.bank) 0 with_bank_views first_bank without_first_bank id count was.0.banks was
