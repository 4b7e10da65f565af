-- The first fault of a table's members.
use Rattle.std.proofs.Common.{◌≡◌, ℕ, List, [], ◌∷◌, Option, Some, None, String, Global, Ordering, Less, Equal, Greater, string_bytes, nat_cmp, is_eq, refl, sym, ap, ◌∙◌}
use Rattle.std.proofs.lemmas.Option.{same_Some}
use Rattle.std.proofs.lemmas.Map.Text.{is_eq-slice_cmp}
use Rattle.std.proofs.lemmas.Slice.Eq.{bytes_eq-Decides}
use Rattle.std.specs.Cmp.Lexicographic.{slice_cmp}
use Rattle.std.specs.Ordering.{match_ordering}
use Rattle.std.specs.Option.{option_or}
use Rattle.toml.specs.Data.{Data, Members, no_members, member, get_member}
use Rattle.toml.specs.View.{view, members_view}
use Rattle.toml.specs.declared.value.Value.{Value}
use Rattle.transplant_plan.specs.Document.{with_member}
use Rattle.transplant_plan.specs.PlanFile.{first_fault}
use Rattle.transplant_plan.specs.declared.fault.PlanFault.{PlanFault}

-- a test of one member
abbrev pub Test : Type 0
Test = List ℕ → Data → Option PlanFault

-- the first member has a fault
pub first_fault-here : (test : Test) (es rest : List (String Global × Value)) (k : String Global) (v : Value) (f : PlanFault)
    → es ≡ (k, v) ∷ rest → test (string_bytes k) (view v) ≡ Some f → first_fault test (members_view es) ≡ Some f
unfolding first_fault
first_fault-here test es rest k v f is found = rw (is, found)

-- the first member has none
pub first_fault-later : (test : Test) (es rest : List (String Global × Value)) (k : String Global) (v : Value)
    → es ≡ (k, v) ∷ rest → test (string_bytes k) (view v) ≡ None → first_fault test (members_view es) ≡ first_fault test (members_view rest)
unfolding first_fault
first_fault-later test es rest k v is none = rw (is, none)

pub first_fault-none : (test : Test) (es : List (String Global × Value)) → es ≡ [] → first_fault test (members_view es) ≡ None
unfolding first_fault
first_fault-none test es is = rw is

option_or-none : (a b : Option PlanFault) → option_or a b ≡ None → (a ≡ None) × (b ≡ None)
option_or-none None b h = (refl, h)
option_or-none (Some f) b h = absurd cc

-- keys that tie are the same
same_by : (k l : List ℕ) → slice_cmp nat_cmp k l ≡ Equal → k ≡ l
same_by k l e = (bytes_eq-Decides k l).0 (sym (is_eq-slice_cmp k l) ∙ ap is_eq e)

found_sound : (test : Test) (o : Ordering) (k l : List ℕ) (d e : Data) (rest : Members) → o ≡ slice_cmp nat_cmp k l
    → match_ordering o (get_member k rest) (Some e) (get_member k rest) ≡ Some d → test l e ≡ None
    → (get_member k rest ≡ Some d → test k d ≡ None) → test k d ≡ None
found_sound test Less k l d e rest is found here later = later found
found_sound test Greater k l d e rest is found here later = later found
found_sound test Equal k l d e rest is found here later =
    let keys : l ≡ k = sym (same_by k l (sym is)) in
    let values : e ≡ d = same_Some e d found in
    ap (λ x. test x d) (sym keys) ∙ ap (test l) (sym values) ∙ here

-- where no member has a fault, what stands at a key has none
pub found_without : (test : Test) (members : Members) (k : List ℕ) (d : Data) → first_fault test members ≡ None
    → get_member k members ≡ Some d → test k d ≡ None
unfolding first_fault
found_without test no_members k d none found = absurd cc
found_without test (member l e rest) k d none found =
    let (here, later) = option_or-none (test l e) (first_fault test rest) none in
    found_sound test (slice_cmp nat_cmp k l) k l d e rest refl found here (found_without test rest k d later)

put_none : (test : Test) (o : Ordering) (k l : List ℕ) (d : Data) (before rest later : Members) → o ≡ slice_cmp nat_cmp k l → test k d ≡ None
    → first_fault test before ≡ None → first_fault test rest ≡ None → first_fault test later ≡ None
    → first_fault test (match_ordering o before (member l d rest) later) ≡ None
unfolding first_fault
put_none test Less k l d before rest later is one x y z = x
put_none test Equal k l d before rest later is one x y z = rw (ap (λ key. test key d) (sym (same_by k l (sym is))) ∙ one, y)
put_none test Greater k l d before rest later is one x y z = z

-- a member more that has no fault
pub with_member-none : (test : Test) (k : List ℕ) (d : Data) (members : Members) → test k d ≡ None → first_fault test members ≡ None
    → first_fault test (with_member k d members) ≡ None
unfolding first_fault
with_member-none test k d no_members one none = rw one
with_member-none test k d (member l e rest) one none =
    let (here, later) = option_or-none (test l e) (first_fault test rest) none in
    put_none test (slice_cmp nat_cmp k l) k l d (member k d (member l e rest)) rest (member l e (with_member k d rest)) refl one
    (rw (one, here, later)) later (rw (here, with_member-none test k d rest one later))

pub first_fault-empty : (test : Test) → first_fault test no_members ≡ None
unfolding first_fault
first_fault-empty test = refl
