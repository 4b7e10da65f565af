-- A run's order is that of its events: names without an event change nothing.
use Rattle.std.proofs.Common.{◌≡◌, ℕ, ◌+◌, ◌<◌, zero, suc, arith, false, List, [], ◌∷◌, ◌++◌, map, refl, ap, sym, ◌∙◌, append_assoc, append-nil}
use Rattle.std.specs.List.{range_with_len}
use Rattle.flex_base.specs.Setup.{Setup}
use Rattle.flex_base.specs.Unsplit.{Machine, Made, step, reach_from, does}
use Rattle.flex_base.specs.Journal.{is_handover}
use Rattle.flex_base.proofs.Machines.{StepsTo, Stays, Adds, step_steps, reach-cons, reach-none}

-- these are of so many harts, and none is a handover
pub data Plain (harts : ℕ) : List Made → Type 0 where
  None : Plain harts []
  More : (m : Made) (made : List Made) → is_handover m.what ≡ false → m.hart < harts → Plain harts made → Plain harts (m ∷ made)

abbrev pub harts_of : List Made → List ℕ
harts_of made = map (λ (m : Made). m.hart) made

-- the events that an order adds; taking their harts in order leads to the same state
pub record AddedBy (setup : Setup) (u : Machine) (order : List ℕ) : Type 0 where
  pub new : List Made
  pub events : (reach_from setup u order).events ≡ u.events ++ new
  pub leads : reach_from setup u (harts_of new) ≡ reach_from setup u order
  pub plain : Plain setup.harts new

added_none : (setup : Setup) (u : Machine) → AddedBy setup u []
added_none setup u = record {
  new = [];
  events = ap (λ (m : Machine). m.events) (reach-none setup u) ∙ sym (append-nil u.events);
  leads = refl;
  plain = None;
}

added_more : (setup : Setup) (u : Machine) (h : ℕ) (order : List ℕ) → AddedBy setup (step setup u h) order → StepsTo setup u h (step setup u h) → AddedBy setup u (h ∷ order)
added_more setup u h order added (Stays same) = record {
  new = added.new;
  events = ap (λ (m : Machine). m.events) (reach-cons setup u h order) ∙ added.events ∙ ap (λ (m : Machine). m.events ++ added.new) same;
  leads = ap (λ m. reach_from setup m (harts_of added.new)) (sym same) ∙ added.leads ∙ sym (reach-cons setup u h order);
  plain = added.plain;
}
added_more setup u h order added (Adds happened plain below events same) = record {
  new = does h happened ∷ added.new;
  events = ap (λ (m : Machine). m.events) (reach-cons setup u h order) ∙ added.events ∙ ap (λ es. es ++ added.new) events ∙ append_assoc u.events (does h happened ∷ []) added.new;
  leads = reach-cons setup u h (harts_of added.new) ∙ added.leads ∙ sym (reach-cons setup u h order);
  plain = More (does h happened) added.new plain below added.plain;
}

pub added : (setup : Setup) (u : Machine) (order : List ℕ) → AddedBy setup u order
added setup u [] = added_none setup u
added setup u (h ∷ order) = added_more setup u h order (added setup (step setup u h) order) (step_steps setup u h)

-- Numbers in order.

range_with_len-suc : (a n : ℕ) → range_with_len a (suc n) ≡ range_with_len a n ++ (a + n) ∷ []
range_with_len-suc a zero = let e : a ≡ a + 0 = omega arith in ap (λ (k : ℕ). k ∷ []) e
range_with_len-suc a (suc n) =
    let e : (a + 1) + n ≡ a + suc n = omega arith in
    ap (λ (ks : List ℕ). a ∷ ks) (range_with_len-suc (a + 1) n ∙ ap (λ (k : ℕ). range_with_len (a + 1) n ++ k ∷ []) e)

pub range_with_len_push : (n : ℕ) → range_with_len 0 (n + 1) ≡ range_with_len 0 n ++ n ∷ []
range_with_len_push n =
    let one : n + 1 ≡ suc n = omega arith in
    let start : 0 + n ≡ n = omega arith in
    ap (range_with_len 0) one ∙ range_with_len-suc 0 n ∙ ap (λ (k : ℕ). range_with_len 0 n ++ k ∷ []) start
