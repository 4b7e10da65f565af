-- One flat memory replies what the bank of the access replies: an access lies within one line, and so within one bank.
use Rattle.std.proofs.Common.{◌≡◌, ◌≢◌, ℕ, ◌+◌, ◌-◌, ◌/◌, ◌%◌, ◌<◌, Bool, true, false, not, ◌&&◌, ◌==◌, if◌then◌else◌, List, [], ◌∷◌, fold, Option, None, Some, inl, inr, refl, ap, sym, subst, ◌∙◌, arith, eq-eqb}
use Rattle.std.proofs.lemmas.Bool.{cases_eq, ne_eqb}
use Rattle.flex_base.specs.Setup.{Setup}
use Rattle.flex_base.specs.Loaded.{Loaded}
use Rattle.flex_base.specs.FlatMemory.{Done, is_ram_access, byte_at, put, left_by, image_byte, byte, reservation_set, broken, reserved_after, reserved_by, is_reserved, stands, reply_with, read_at, flat}
use Rattle.flex_base.specs.Arithmetic.{amo_of}
use Rattle.flex_base.specs.Forms.{IsPlaced, IsWidth, IsAtomicWidth, IsAlignedRam}
use Rattle.flex_base.specs.Banks.{bank_of, bank_of_access}
use Rattle.flex_base.specs.Reservations.{reserving, own_after, own_reservation}
use Rattle.flex_base.specs.declared.access.Access.{Access}
use Rattle.flex_base.specs.declared.access.Access.TheVariants as acc
use Rattle.flex_base.specs.declared.access.Reply.{Reply}
use Rattle.mem_lines.specs.Bank.{Bank}
use Rattle.mem_lines.specs.Steps.{IsSpan}
use Rattle.mem_lines.proofs.Covering.{cases_covers}
use Rattle.mem_lines.proofs.Dealing.{value_same, span_in}
use Rattle.mem_lines.proofs.Replays.{fixed_span, atomic_span}
use Rattle.solo.specs.Standing.{of_bank, ArePlaced}

module _ (ram banks : ℕ) where
  -- a bank of these numbers, whatever it holds
  abbrev some_bank : ℕ → Bank
  some_bank bank = record { ram = ram; banks = banks; bank = bank; bytes = []; places = [] }

  abbrev Spans : ℕ → ℕ → Type 0
  Spans address width = IsSpan (some_bank (bank_of banks address)) address width

  spans_fixed : (address width : ℕ) → IsWidth width → IsAlignedRam ram address width → Spans address width
  spans_fixed address width one placed = fixed_span (some_bank (bank_of banks address)) address width one placed refl

  spans_atomic : (address width : ℕ) → IsAtomicWidth width × IsAlignedRam ram address width → Spans address width
  spans_atomic address width placed = atomic_span (some_bank (bank_of banks address)) address width placed refl

  spans_bank : (address width j : ℕ) → Spans address width → j < width → bank_of banks (address + j) ≡ bank_of banks address
  spans_bank address width j span below = (span_in (some_bank (bank_of banks address)) address width j span below).bank

  -- Bytes.

  -- a write at another bank leaves the byte
  put_elsewhere : (a old address width value : ℕ) → Spans address width → bank_of banks address ≢ bank_of banks a → put a old address width value ≡ old
  put_elsewhere a old address width value span apart = elim (cases_covers address width a) [
    | inl here ↦
        let j = a - address in
        let there : address + j ≡ a = omega (arith, here.1.0) in
        absurd (apart (sym (spans_bank address width j span (omega (arith, here.1.0, here.1.1))) ∙ ap (bank_of banks) there))
    | inr away ↦ ap (λ b. if b then byte_at value (a - address) else old) away.0
  ]

  left_elsewhere : (harts a old : ℕ) (access : Access) (reply : Reply) → IsPlaced harts ram access → bank_of_access banks access ≢ bank_of banks a
      → left_by a old access reply ≡ old
  left_elsewhere harts a old (acc.Write address width value) reply placed apart = put_elsewhere a old address width value (spans_fixed address width placed.0 placed.1) apart
  left_elsewhere harts a old (acc.Sc address width value) reply placed apart = elim (reply.value == 0) as (λ b. (if b then put a old address width value else old) ≡ old)
      [ true ↦ put_elsewhere a old address width value (spans_atomic address width placed) apart | false ↦ refl ]
  left_elsewhere harts a old (acc.Amo op address width value) reply placed apart =
      put_elsewhere a old address width (amo_of op reply.value value width) (spans_atomic address width placed) apart
  left_elsewhere harts a old (acc.Fetch address) reply placed apart = refl
  left_elsewhere harts a old (acc.Pte address) reply placed apart = refl
  left_elsewhere harts a old (acc.Read address width) reply placed apart = refl
  left_elsewhere harts a old (acc.Lr address width) reply placed apart = refl
  left_elsewhere harts a old (acc.DevRead address width) reply placed apart = refl
  left_elsewhere harts a old (acc.DevWrite address width value) reply placed apart = refl
  left_elsewhere harts a old (acc.Pulse tick) reply placed apart = refl
  left_elsewhere harts a old (acc.Wait mie) reply placed apart = refl
  left_elsewhere harts a old acc.Retire reply placed apart = refl
  left_elsewhere harts a old acc.Time reply placed apart = refl

  -- Parts of the accesses.

  part_none : (bank : ℕ) → of_bank banks bank [] ≡ []
  unfolding of_bank
  part_none bank = refl

  part_here : (bank : ℕ) (d : Done) (made : List Done) → bank_of_access banks d.access ≡ bank → of_bank banks bank (d ∷ made) ≡ d ∷ of_bank banks bank made
  unfolding of_bank
  part_here bank d made here = ap (λ b. if b then d ∷ of_bank banks bank made else of_bank banks bank made) (eq-eqb (bank_of_access banks d.access) bank here)

  part_apart : (bank : ℕ) (d : Done) (made : List Done) → bank_of_access banks d.access ≢ bank → of_bank banks bank (d ∷ made) ≡ of_bank banks bank made
  unfolding of_bank
  part_apart bank d made apart = ap (λ b. if b then d ∷ of_bank banks bank made else of_bank banks bank made) (ne_eqb (bank_of_access banks d.access) bank apart)

  abbrev leaves : ℕ → ℕ → Done → ℕ
  leaves a old d = left_by a old d.access d.reply

  byte_part : (setup : Setup) (a old : ℕ) (made : List Done) → setup.ram ≡ ram → ArePlaced setup made
      → fold (leaves a) old made ≡ fold (leaves a) old (of_bank banks (bank_of banks a) made)
  byte_part setup a old [] same placed = ap (fold (leaves a) old) (sym (part_none (bank_of banks a)))
  byte_part setup a old (d ∷ made) same placed = elim (cases_eq (bank_of_access banks d.access) (bank_of banks a)) [
    | inl here ↦ byte_part setup a (leaves a old d) made same placed.1 ∙ ap (fold (leaves a) old) (sym (part_here (bank_of banks a) d made here))
    | inr apart ↦
        let In : ℕ → Type 0 = λ n. IsPlaced setup.harts n d.access in
        ap (λ x. fold (leaves a) x made) (left_elsewhere setup.harts a old d.access d.reply (subst In same placed.0) apart)
        ∙ byte_part setup a old made same placed.1
        ∙ ap (fold (leaves a) old) (sym (part_apart (bank_of banks a) d made apart))
  ]

  read_part : (setup : Setup) (image : Loaded) (made : List Done) (address width : ℕ) → setup.ram ≡ ram → ArePlaced setup made → Spans address width
      → read_at image made address width ≡ read_at image (of_bank banks (bank_of banks address) made) address width
  read_part setup image made address width same placed span =
      ap reply_with (value_same (byte image made) (byte image (of_bank banks (bank_of banks address) made)) address address width (λ j below.
      byte_part setup (address + j) (image_byte image (address + j)) made same placed
      ∙ ap (λ bank. byte image (of_bank banks bank made) (address + j)) (spans_bank address width j span below)))

  -- Reservations.

  -- the address and its set lie in one line
  set_bank : (address : ℕ) → bank_of banks (reservation_set address) ≡ bank_of banks address
  set_bank address =
      let line : (address - address % 8) / 64 ≡ address / 64 = omega arith in
      ap (λ l. l % banks) line

  abbrev broken_by : Bool → ℕ → Option ℕ → Option ℕ
  broken_by mine address None = None
  broken_by mine address (Some g) = if (reservation_set address == g) && not mine then None else Some g

  -- the reservation after an access, by whether it is the hart's own
  abbrev after_by : Bool → Option ℕ → Access → Reply → Option ℕ
  after_by mine old (acc.Lr address width) reply = if mine then Some (reservation_set address) else old
  after_by mine old (acc.Sc address width value) reply = if mine then None else (if reply.value == 0 then broken_by mine address old else old)
  after_by mine old (acc.Write address width value) reply = broken_by mine address old
  after_by mine old (acc.Amo op address width value) reply = broken_by mine address old
  after_by mine old other reply = old

  broken_is : (hart by address : ℕ) (old : Option ℕ) → broken hart by address old ≡ broken_by (hart == by) address old
  broken_is hart by address None = refl
  broken_is hart by address (Some g) = refl

  after_is : (hart by : ℕ) (old : Option ℕ) (access : Access) (reply : Reply) → reserved_after hart old by access reply ≡ after_by (hart == by) old access reply
  after_is hart by old (acc.Lr address width) reply = refl
  after_is hart by old (acc.Sc address width value) reply = ap (λ b. if hart == by then None else (if reply.value == 0 then b else old)) (broken_is hart by address old)
  after_is hart by old (acc.Write address width value) reply = broken_is hart by address old
  after_is hart by old (acc.Amo op address width value) reply = broken_is hart by address old
  after_is hart by old (acc.Fetch address) reply = refl
  after_is hart by old (acc.Pte address) reply = refl
  after_is hart by old (acc.Read address width) reply = refl
  after_is hart by old (acc.DevRead address width) reply = refl
  after_is hart by old (acc.DevWrite address width value) reply = refl
  after_is hart by old (acc.Pulse tick) reply = refl
  after_is hart by old (acc.Wait mie) reply = refl
  after_is hart by old acc.Retire reply = refl
  after_is hart by old acc.Time reply = refl

  abbrev own_by : Bool → Option ℕ → Access → Option ℕ
  own_by mine old access = if mine then reserving old access else old

  -- a reservation is the hart's own; and where that lies in this bank, the bank knows it
  pub record Knows (bank : ℕ) (own whole part : Option ℕ) : Type 0 where
    pub is_own : (g : ℕ) → whole ≡ Some g → own ≡ Some g
    pub knows : (g : ℕ) → own ≡ Some g → bank_of banks g ≡ bank → whole ≡ part

  abbrev Breaks : ℕ → Bool → ℕ → Option ℕ → Option ℕ → Option ℕ → Type 0
  Breaks bank mine address own whole part = Knows bank own (broken_by mine address whole) part

  some_by : (h g : ℕ) (b : Bool) → (if b then None else Some h) ≡ Some g → Some h ≡ Some g
  some_by h g true e = absurd cc
  some_by h g false e = e

  broken_some : (mine : Bool) (address g : ℕ) (old : Option ℕ) → broken_by mine address old ≡ Some g → old ≡ Some g
  broken_some mine address g None e = absurd cc
  broken_some mine address g (Some h) e = some_by h g ((reservation_set address == h) && not mine) e

  -- a write at the bank
  breaks_here : (bank : ℕ) (mine : Bool) (address : ℕ) (own whole part : Option ℕ) → Knows bank own whole part
      → Knows bank own (broken_by mine address whole) (broken_by mine address part)
  breaks_here bank mine address own whole part was = record {
    is_own = λ g some. was.is_own g (broken_some mine address g whole some);
    knows = λ g is in_bank. ap (broken_by mine address) (was.knows g is in_bank);
  }

  spared : (mine : Bool) (address g : ℕ) → reservation_set address ≢ g → broken_by mine address (Some g) ≡ Some g
  spared mine address g apart = ap (λ b. if b && not mine then None else Some g) (ne_eqb (reservation_set address) g apart)

  spares_by : (bank : ℕ) (mine : Bool) (address g : ℕ) (whole : Option ℕ) → bank_of banks address ≢ bank → ((h : ℕ) → whole ≡ Some h → bank_of banks h ≡ bank)
      → broken_by mine address whole ≡ whole
  spares_by bank mine address g None apart lies = refl
  spares_by bank mine address g (Some h) apart lies =
      spared mine address h (λ same. apart (sym (set_bank address) ∙ ap (bank_of banks) same ∙ lies h refl))

  some_is : (g h : ℕ) → Some g ≡ Some h → g ≡ h
  some_is g h e = cc

  -- a write elsewhere
  breaks_apart : (bank : ℕ) (mine : Bool) (address : ℕ) (own whole part : Option ℕ) → bank_of banks address ≢ bank → Knows bank own whole part
      → Knows bank own (broken_by mine address whole) part
  breaks_apart bank mine address own whole part apart was = record {
    is_own = λ g some. was.is_own g (broken_some mine address g whole some);
    knows = λ g is in_bank.
        spares_by bank mine address g whole apart (λ h some.
        let same : g ≡ h = some_is g h (sym is ∙ was.is_own h some) in
        ap (bank_of banks) (sym same) ∙ in_bank)
        ∙ was.knows g is in_bank;
  }

  own_none : (mine : Bool) (own : Option ℕ) → (if mine then own else own) ≡ own
  own_none true own = refl
  own_none false own = refl

  knows_own : (bank : ℕ) (own now whole part : Option ℕ) → own ≡ now → Knows bank now whole part → Knows bank own whole part
  knows_own bank own now whole part same was =
      let Is : Option ℕ → Type 0 = λ o. Knows bank o whole part in
      subst Is (sym same) was

  -- an access at the bank
  knows_here : (bank : ℕ) (mine : Bool) (own whole part : Option ℕ) (access : Access) (reply : Reply) → Knows bank own whole part
      → Knows bank (own_by mine own access) (after_by mine whole access reply) (after_by mine part access reply)
  knows_here bank true own whole part (acc.Lr address width) reply was = record { is_own = λ g some. some; knows = λ g is in_bank. refl }
  knows_here bank false own whole part (acc.Lr address width) reply was = was
  knows_here bank true own whole part (acc.Sc address width value) reply was = record { is_own = λ g some. some; knows = λ g is in_bank. refl }
  knows_here bank false own whole part (acc.Sc address width value) reply was =
      elim (reply.value == 0) as (λ b. Knows bank own (if b then broken_by false address whole else whole) (if b then broken_by false address part else part))
      [ true ↦ breaks_here bank false address own whole part was | false ↦ was ]
  knows_here bank mine own whole part (acc.Write address width value) reply was = knows_own bank _ own _ _ (own_none mine own) (breaks_here bank mine address own whole part was)
  knows_here bank mine own whole part (acc.Amo op address width value) reply was = knows_own bank _ own _ _ (own_none mine own) (breaks_here bank mine address own whole part was)
  knows_here bank mine own whole part (acc.Fetch address) reply was = knows_own bank _ own _ _ (own_none mine own) was
  knows_here bank mine own whole part (acc.Pte address) reply was = knows_own bank _ own _ _ (own_none mine own) was
  knows_here bank mine own whole part (acc.Read address width) reply was = knows_own bank _ own _ _ (own_none mine own) was
  knows_here bank mine own whole part (acc.DevRead address width) reply was = knows_own bank _ own _ _ (own_none mine own) was
  knows_here bank mine own whole part (acc.DevWrite address width value) reply was = knows_own bank _ own _ _ (own_none mine own) was
  knows_here bank mine own whole part (acc.Pulse tick) reply was = knows_own bank _ own _ _ (own_none mine own) was
  knows_here bank mine own whole part (acc.Wait mie) reply was = knows_own bank _ own _ _ (own_none mine own) was
  knows_here bank mine own whole part acc.Retire reply was = knows_own bank _ own _ _ (own_none mine own) was
  knows_here bank mine own whole part acc.Time reply was = knows_own bank _ own _ _ (own_none mine own) was

  -- an access elsewhere
  knows_apart : (bank : ℕ) (mine : Bool) (own whole part : Option ℕ) (access : Access) (reply : Reply) → bank_of_access banks access ≢ bank → Knows bank own whole part
      → Knows bank (own_by mine own access) (after_by mine whole access reply) part
  knows_apart bank true own whole part (acc.Lr address width) reply apart was = record {
    is_own = λ g some. some;
    knows = λ g is in_bank.
        let same : reservation_set address ≡ g = some_is (reservation_set address) g is in
        absurd (apart (sym (set_bank address) ∙ ap (bank_of banks) same ∙ in_bank));
  }
  knows_apart bank false own whole part (acc.Lr address width) reply apart was = was
  knows_apart bank true own whole part (acc.Sc address width value) reply apart was = record { is_own = λ g some. some; knows = λ g is in_bank. absurd cc }
  knows_apart bank false own whole part (acc.Sc address width value) reply apart was =
      elim (reply.value == 0) as (λ b. Knows bank own (if b then broken_by false address whole else whole) part)
      [ true ↦ breaks_apart bank false address own whole part apart was | false ↦ was ]
  knows_apart bank mine own whole part (acc.Write address width value) reply apart was = knows_own bank _ own _ _ (own_none mine own) (breaks_apart bank mine address own whole part apart was)
  knows_apart bank mine own whole part (acc.Amo op address width value) reply apart was = knows_own bank _ own _ _ (own_none mine own) (breaks_apart bank mine address own whole part apart was)
  knows_apart bank mine own whole part (acc.Fetch address) reply apart was = knows_own bank _ own _ _ (own_none mine own) was
  knows_apart bank mine own whole part (acc.Pte address) reply apart was = knows_own bank _ own _ _ (own_none mine own) was
  knows_apart bank mine own whole part (acc.Read address width) reply apart was = knows_own bank _ own _ _ (own_none mine own) was
  knows_apart bank mine own whole part (acc.DevRead address width) reply apart was = knows_own bank _ own _ _ (own_none mine own) was
  knows_apart bank mine own whole part (acc.DevWrite address width value) reply apart was = knows_own bank _ own _ _ (own_none mine own) was
  knows_apart bank mine own whole part (acc.Pulse tick) reply apart was = knows_own bank _ own _ _ (own_none mine own) was
  knows_apart bank mine own whole part (acc.Wait mie) reply apart was = knows_own bank _ own _ _ (own_none mine own) was
  knows_apart bank mine own whole part acc.Retire reply apart was = knows_own bank _ own _ _ (own_none mine own) was
  knows_apart bank mine own whole part acc.Time reply apart was = knows_own bank _ own _ _ (own_none mine own) was

  abbrev owns : ℕ → Option ℕ → Done → Option ℕ
  owns hart old d = own_after hart old d.hart d.access

  knows_all : (bank hart : ℕ) (own whole part : Option ℕ) (made : List Done) → Knows bank own whole part
      → Knows bank (fold (owns hart) own made) (fold (reserved_by hart) whole made) (fold (reserved_by hart) part (of_bank banks bank made))
  knows_all bank hart own whole part [] was =
      let Is : List Done → Type 0 = λ ds. Knows bank own whole (fold (reserved_by hart) part ds) in
      subst Is (sym (part_none bank)) was
  knows_all bank hart own whole part (d ∷ made) was = elim (cases_eq (bank_of_access banks d.access) bank) [
    | inl here ↦
        let Is : List Done → Type 0 = λ ds. Knows bank (fold (owns hart) (owns hart own d) made) (fold (reserved_by hart) (reserved_by hart whole d) made) (fold (reserved_by hart) part ds) in
        let Now : Option ℕ × Option ℕ → Type 0 = λ x. Knows bank (owns hart own d) x.0 x.1 in
        let now = subst Now (λ i. (sym (after_is hart d.hart whole d.access d.reply) i, sym (after_is hart d.hart part d.access d.reply) i))
        (knows_here bank (hart == d.hart) own whole part d.access d.reply was) in
        subst Is (sym (part_here bank d made here)) (knows_all bank hart (owns hart own d) (reserved_by hart whole d) (reserved_by hart part d) made now)
    | inr apart ↦
        let Is : List Done → Type 0 = λ ds. Knows bank (fold (owns hart) (owns hart own d) made) (fold (reserved_by hart) (reserved_by hart whole d) made) (fold (reserved_by hart) part ds) in
        let Now : Option ℕ → Type 0 = λ x. Knows bank (owns hart own d) x part in
        let now = subst Now (sym (after_is hart d.hart whole d.access d.reply)) (knows_apart bank (hart == d.hart) own whole part d.access d.reply apart was) in
        subst Is (sym (part_apart bank d made apart)) (knows_all bank hart (owns hart own d) (reserved_by hart whole d) part made now)
  ]

  -- what the hart reserved last and still may have, its bank knows
  stands_part : (made : List Done) (hart address : ℕ) → own_reservation made hart ≡ Some (reservation_set address)
      → stands made hart (reservation_set address) ≡ stands (of_bank banks (bank_of banks address) made) hart (reservation_set address)
  stands_part made hart address own =
      let bank = bank_of banks address in
      let none : Knows bank None None None = record { is_own = λ g some. absurd cc; knows = λ g is in_bank. refl } in
      let all = knows_all bank hart None None None made none in
      ap (λ r. is_reserved r (reservation_set address)) (all.knows (reservation_set address) own (set_bank address))

-- a store-conditional is asked only within the hart's own reservation
abbrev pub IsReserved : List Done → ℕ → Access → Type 0
IsReserved made hart (acc.Sc address width value) = own_reservation made hart ≡ Some (reservation_set address)
IsReserved made hart other = Unit {0}

pub flat_part : (setup : Setup) (image : Loaded) (banks : ℕ) (made : List Done) (hart : ℕ) (access : Access) → ArePlaced setup made
    → is_ram_access access ≡ true → IsPlaced setup.harts setup.ram access → IsReserved made hart access
    → flat image made hart access ≡ flat image (of_bank banks (bank_of_access banks access) made) hart access
flat_part setup image banks made hart (acc.Fetch address) are ram placed reserved = read_part setup.ram banks setup image made address 4 refl are (spans_fixed setup.ram banks address 4 refl placed)
flat_part setup image banks made hart (acc.Pte address) are ram placed reserved = read_part setup.ram banks setup image made address 8 refl are (spans_fixed setup.ram banks address 8 refl placed)
flat_part setup image banks made hart (acc.Read address width) are ram placed reserved = read_part setup.ram banks setup image made address width refl are (spans_fixed setup.ram banks address width placed.0 placed.1)
flat_part setup image banks made hart (acc.Lr address width) are ram placed reserved = read_part setup.ram banks setup image made address width refl are (spans_atomic setup.ram banks address width placed)
flat_part setup image banks made hart (acc.Amo op address width value) are ram placed reserved = read_part setup.ram banks setup image made address width refl are (spans_atomic setup.ram banks address width placed)
flat_part setup image banks made hart (acc.Sc address width value) are ram placed reserved =
    ap (λ b. reply_with (if b then 0 else 1)) (stands_part setup.ram banks made hart address reserved)
flat_part setup image banks made hart (acc.Write address width value) are ram placed reserved = refl
flat_part setup image banks made hart (acc.DevRead address width) are ram placed reserved = absurd cc
flat_part setup image banks made hart (acc.DevWrite address width value) are ram placed reserved = absurd cc
flat_part setup image banks made hart (acc.Pulse tick) are ram placed reserved = absurd cc
flat_part setup image banks made hart (acc.Wait mie) are ram placed reserved = absurd cc
flat_part setup image banks made hart acc.Retire are ram placed reserved = absurd cc
flat_part setup image banks made hart acc.Time are ram placed reserved = absurd cc

-- the byte of an address is that of its bank
pub byte_of_part : (setup : Setup) (image : Loaded) (banks : ℕ) (made : List Done) (a : ℕ) → ArePlaced setup made
    → byte image made a ≡ byte image (of_bank banks (bank_of banks a) made) a
byte_of_part setup image banks made a are = byte_part setup.ram banks setup a (image_byte image a) made refl are
