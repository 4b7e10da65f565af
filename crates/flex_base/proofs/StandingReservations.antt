-- A reservation stands exactly where a load-reserved made it and nothing since then ended it.
use Rattle.std.proofs.Common.{◌≡◌, ℕ, Bool, true, false, not, ◌&&◌, ◌||◌, if◌then◌else◌, List, [], ◌∷◌, ◌==◌, fold, Option, None, Some, ◌⊎◌, inl, inr, refl, ap, sym, ◌∙◌, arith}
use Rattle.std.specs.Prelude.{◌↔◌}
use Rattle.std.specs.List.{list_all}
use Rattle.std.proofs.lemmas.Bool.{and_parts, or_cases}
use Rattle.std.proofs.lemmas.Bool.Decides.{nat_tests}
use Rattle.std.proofs.lemmas.List.Sums.{fold-append}
use Rattle.flex_base.specs.FlatMemory.{Done, reservation_set, reserved_after, reserved_by, is_reserved, stands}
use Rattle.flex_base.specs.Reservations.{reserves, spares, IsStanding}
use Rattle.flex_base.specs.declared.access.Access.{Access}
use Rattle.flex_base.specs.declared.access.Access.TheVariants as acc
use Rattle.flex_base.specs.declared.access.Reply.{Reply}

-- One access.

none_load : (own : Bool) (s set : ℕ) → is_reserved (if own then Some s else None) set ≡ (own && (s == set) || not own && false)
none_load true s set = elim (s == set) as (λ b. b ≡ (b || false)) [ true ↦ refl | false ↦ refl ]
none_load false s set = refl

some_load : (own : Bool) (s g set : ℕ) → is_reserved (if own then Some s else Some g) set ≡ (own && (s == set) || not own && (g == set))
some_load true s g set = elim (s == set) as (λ b. b ≡ (b || false)) [ true ↦ refl | false ↦ refl ]
some_load false s g set = refl

none_conditional : (own zero : Bool) (s set : ℕ) → is_reserved (if own then None else (if zero then None else None)) set ≡ (not own && not (zero && (s == set)) && false)
none_conditional own zero s set = grind arith

some_conditional : (own zero : Bool) (s g set : ℕ) → is_reserved (if own then None else (if zero then (if (s == g) && not own then None else Some g) else Some g)) set ≡ (not own && not (zero && (s == set)) && (g == set))
some_conditional true zero s g set = refl
some_conditional false false s g set = refl
some_conditional false true s g set = grind (arith, nat_tests)

none_write : (own : Bool) (s set : ℕ) → false ≡ ((own || not (s == set)) && false)
none_write own s set = grind arith

some_write : (own : Bool) (s g set : ℕ) → is_reserved (if (s == g) && not own then None else Some g) set ≡ ((own || not (s == set)) && (g == set))
some_write true s g set = grind (arith, nat_tests)
some_write false s g set = grind (arith, nat_tests)

same : (b : Bool) → b ≡ b
same b = refl

-- what is reserved after an access: what it reserves, or what was reserved where it spares that
after_one : (hart set : ℕ) (old : Option ℕ) (by : ℕ) (access : Access) (reply : Reply)
    → is_reserved (reserved_after hart old by access reply) set
    ≡ (reserves hart set by access || spares hart set by access reply && is_reserved old set)
after_one hart set None by (acc.Lr address width) reply = none_load (hart == by) (reservation_set address) set
after_one hart set (Some g) by (acc.Lr address width) reply = some_load (hart == by) (reservation_set address) g set
after_one hart set None by (acc.Sc address width value) reply = none_conditional (hart == by) (reply.value == 0) (reservation_set address) set
after_one hart set (Some g) by (acc.Sc address width value) reply = some_conditional (hart == by) (reply.value == 0) (reservation_set address) g set
after_one hart set None by (acc.Write address width value) reply = none_write (hart == by) (reservation_set address) set
after_one hart set (Some g) by (acc.Write address width value) reply = some_write (hart == by) (reservation_set address) g set
after_one hart set None by (acc.Amo does address width value) reply = none_write (hart == by) (reservation_set address) set
after_one hart set (Some g) by (acc.Amo does address width value) reply = some_write (hart == by) (reservation_set address) g set
after_one hart set old by other reply = same (is_reserved old set)

-- All accesses.

module _ (hart set : ℕ) where
  abbrev all_spare : List Done → Bool
  all_spare made = list_all (λ (d : Done). spares hart set d.hart d.access d.reply) made

  abbrev reserved_from : Option ℕ → List Done → Bool
  reserved_from old made = is_reserved (fold (reserved_by hart) old made) set

  -- what was reserved and is spared stays reserved
  stays : (old : Option ℕ) (made : List Done) → all_spare made ≡ true → is_reserved old set ≡ true → reserved_from old made ≡ true
  stays old [] spared reserved = reserved
  stays old (d ∷ made) spared reserved =
      let both = and_parts (spares hart set d.hart d.access d.reply) (all_spare made) spared in
      stays (reserved_by hart old d) made both.1
      (after_one hart set old d.hart d.access d.reply ∙ spared_on (reserves hart set d.hart d.access) _ _ both.0 reserved)
    where
      spared_on : (r s o : Bool) → s ≡ true → o ≡ true → (r || s && o) ≡ true
      spared_on r s o first second = grind (arith, first, second)

  standing_reserved : (made : List Done) → IsStanding made hart set → reserved_from None made ≡ true
  standing_reserved made standing =
      let old = fold (reserved_by hart) None standing.before in
      ap (λ (ds : List Done). is_reserved (fold (reserved_by hart) None ds) set) standing.all
      ∙ ap (λ o. is_reserved o set) (fold-append (reserved_by hart) None standing.before (standing.load ∷ standing.after))
      ∙ stays (reserved_by hart old standing.load) standing.after standing.spared
      (after_one hart set old standing.load.hart standing.load.access standing.load.reply
      ∙ ap (λ b. b || spares hart set standing.load.hart standing.load.access standing.load.reply && is_reserved old set) standing.reserved)

  -- what is reserved was so all along, or stands
  reserved_standing : (old : Option ℕ) (made : List Done) → reserved_from old made ≡ true
      → (all_spare made && is_reserved old set ≡ true) ⊎ IsStanding made hart set
  reserved_standing old [] e = inl e
  reserved_standing old (d ∷ made) e = elim (reserved_standing (reserved_by hart old d) made e) [
    | inl kept ↦
        let both = and_parts (all_spare made) (is_reserved (reserved_by hart old d) set) kept in
        elim (or_cases (reserves hart set d.hart d.access) _ (sym (after_one hart set old d.hart d.access d.reply) ∙ both.1)) [
          | inl here ↦ inr (record { before = []; load = d; after = made; all = refl; reserved = here; spared = both.0 })
          | inr spared ↦ inl (spared_too _ (all_spare made) _ spared both.0)
        ]
    | inr standing ↦ inr (record {
      before = d ∷ standing.before;
      load = standing.load;
      after = standing.after;
      all = ap (λ ds. d ∷ ds) standing.all;
      reserved = standing.reserved;
      spared = standing.spared;
    })
  ]
    where
      spared_too : (s r o : Bool) → (s && o) ≡ true → r ≡ true → ((s && r) && o) ≡ true
      spared_too s r o first second = grind (arith, first, second)

  pub stands_law : (made : List Done) → (stands made hart set ≡ true) ↔ IsStanding made hart set
  stands_law made = (to, standing_reserved made)
    where
      by : (all_spare made && false ≡ true) ⊎ IsStanding made hart set → IsStanding made hart set
      by (inl never) = absurd (no (all_spare made) never)
        where
          no : (c : Bool) → (c && false) ≡ true → ⊥
          no c f = grind (arith, f)
      by (inr standing) = standing

      to : stands made hart set ≡ true → IsStanding made hart set
      to e = by (reserved_standing None made e)
