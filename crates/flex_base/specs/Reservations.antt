-- Reservations by the accesses alone (Volume I, "Load-Reserved/Store-Conditional Instructions").
use Rattle.std.specs.Prelude.{◌≡◌, ℕ, Bool, true, false, not, ◌&&◌, ◌||◌, ◌==◌, if◌then◌else◌, List, [], ◌∷◌, ◌++◌, fold, Option, None, Some}
use Rattle.std.specs.List.{list_all}
use Rattle.flex_base.specs.FlatMemory.{Done, reservation_set}
use Rattle.flex_base.specs.StoryTree.{Want, Asks, Story, Says, Parks, after_one}
use Rattle.flex_base.specs.declared.access.Access.{Access}
use Rattle.flex_base.specs.declared.access.Access.TheVariants as acc
use Rattle.flex_base.specs.declared.access.Reply.{Reply}

-- What the hart itself reserved.

-- the set that a hart has reserved after an access of its own: a load-reserved reserves its set, and a store-conditional
-- gives it up
abbrev pub reserving : Option ℕ → Access → Option ℕ
reserving old (acc.Lr address width) = Some (reservation_set address)
reserving old (acc.Sc address width value) = None
reserving old other = old

-- and after an access of some hart; other harts' accesses count for nothing
abbrev pub own_after : ℕ → Option ℕ → ℕ → Access → Option ℕ
own_after hart old by access = if hart == by then reserving old access else old

-- the set of the hart's last load-reserved, where no store-conditional of its own came after it
abbrev pub own_reservation : List Done → ℕ → Option ℕ
own_reservation made hart = fold (λ old (d : Done). own_after hart old d.hart d.access) None made

-- where this is a reservation, it is the hart's own
abbrev pub IsOwn : Option ℕ → Option ℕ → Type 0
IsOwn own reservation = (set : ℕ) → reservation ≡ Some set → own ≡ Some set

-- the access that comes next, where one does
abbrev pub asked : Story → List Access
asked (Says access next) = access ∷ []
asked (Parks wakes) = acc.Pulse false ∷ []
asked other = []

-- the accesses to which these are the replies
abbrev pub accesses_in : Story → List Reply → List Access
accesses_in s [] = []
accesses_in s (reply ∷ replies) = asked s ++ accesses_in (after_one s reply) replies

-- a store-conditional is asked only where the hart's last load-reserved or store-conditional is a load-reserved of the same
-- 8 bytes
abbrev pub AsksReserved : List Done → ℕ → Want → Type 0
AsksReserved made hart (Asks (acc.Sc address width value)) = own_reservation made hart ≡ Some (reservation_set address)
AsksReserved made hart other = Unit {0}

-- What still stands of it.

-- the access is a load-reserved of this hart in this set
abbrev pub reserves : ℕ → ℕ → ℕ → Access → Bool
reserves hart set by (acc.Lr address width) = (hart == by) && (reservation_set address == set)
reserves hart set by other = false

-- the access leaves a reservation of this hart on this set standing: it is neither a load-reserved nor a store-conditional
-- of the hart, nor a write of another hart to the set; a store-conditional that fails writes nothing
abbrev pub spares : ℕ → ℕ → ℕ → Access → Reply → Bool
spares hart set by (acc.Lr address width) reply = not (hart == by)
spares hart set by (acc.Sc address width value) reply =
    not (hart == by) && not ((reply.value == 0) && (reservation_set address == set))
spares hart set by (acc.Write address width value) reply = (hart == by) || not (reservation_set address == set)
spares hart set by (acc.Amo does address width value) reply = (hart == by) || not (reservation_set address == set)
spares hart set by other reply = true

-- a reservation of the hart on the set stands: it made a load-reserved there, and all that came after spares it
pub record IsStanding (made : List Done) (hart set : ℕ) : Type 0 where
  pub before : List Done
  pub load : Done
  pub after : List Done
  pub all : made ≡ before ++ load ∷ after
  pub reserved : reserves hart set load.hart load.access ≡ true
  pub spared : list_all (λ (d : Done). spares hart set d.hart d.access d.reply) after ≡ true
