-- The memory of the machine after an access, and its reply.
use Rattle.std.proofs.Common.{◌≡◌, ◌≢◌, ℕ, ◌+◌, ◌/◌, ◌<◌, Bool, true, false, ◌==◌, if◌then◌else◌, List, [], ◌∷◌, ◌++◌, inl, inr, ap, sym, subst, ◌∙◌, arith, eq-eqb, append-nil}
use Rattle.std.proofs.Math.Nat.{mod-lt}
use Rattle.std.proofs.lemmas.Bool.{cases_eq, cases_Bool, ne_eqb}
use Rattle.std.proofs.lemmas.List.Elements.{filter-append}
use Rattle.flex_base.specs.Setup.{Setup}
use Rattle.flex_base.specs.FlatMemory.{Done, is_ram_access, flat}
use Rattle.flex_base.specs.Devices.{reply_after}
use Rattle.flex_base.specs.Forms.{IsPlaced}
use Rattle.flex_base.specs.StoryTree.{Want, Asks}
use Rattle.flex_base.specs.Banks.{bank_of, address_of, bank_of_access, reply_at}
use Rattle.flex_base.specs.Reservations.{AsksReserved}
use Rattle.flex_base.specs.Unsplit.{Machine, want_of, reply_to, with_access, makes}
use Rattle.flex_base.specs.declared.access.Access.{Access}
use Rattle.flex_base.specs.declared.access.Access.TheVariants as acc
use Rattle.flex_base.specs.declared.access.Reply.{Reply}
use Rattle.flex_base.proofs.OwnReservations.{all_asks_reserved}
use Rattle.access_record.specs.Buses.{Run, ram_banks, place_in}
use Rattle.mem_lines.specs.Bank.{is_bank_count}
use Rattle.mem_lines.proofs.Dealing.{some_banks}
use Rattle.mem_banks.specs.Plain.{Plain}
use Rattle.solo.specs.Solo.{done_at, bank_count}
use Rattle.solo.specs.Standing.{IsReached, of_bank, ArePlaced, Serves}
use Rattle.solo.proofs.Flat.{IsReserved, flat_part}

-- Parts.

part_push : (banks bank : ℕ) (made : List Done) (d : Done) → bank_of_access banks d.access ≡ bank → of_bank banks bank (made ++ d ∷ []) ≡ of_bank banks bank made ++ d ∷ []
unfolding of_bank
part_push banks bank made d here =
    filter-append (λ (x : Done). bank_of_access banks x.access == bank) made (d ∷ [])
    ∙ ap (λ b. of_bank banks bank made ++ (if b then d ∷ [] else [])) (eq-eqb (bank_of_access banks d.access) bank here)

part_push-other : (banks bank : ℕ) (made : List Done) (d : Done) → bank_of_access banks d.access ≢ bank → of_bank banks bank (made ++ d ∷ []) ≡ of_bank banks bank made
unfolding of_bank
part_push-other banks bank made d apart =
    filter-append (λ (x : Done). bank_of_access banks x.access == bank) made (d ∷ [])
    ∙ ap (λ b. of_bank banks bank made ++ (if b then d ∷ [] else [])) (ne_eqb (bank_of_access banks d.access) bank apart)
    ∙ append-nil (of_bank banks bank made)

placed_push : (setup : Setup) (made : List Done) (d : Done) → ArePlaced setup made → IsPlaced setup.harts setup.ram d.access → ArePlaced setup (made ++ d ∷ [])
placed_push setup [] d are one = (one, tt)
placed_push setup (x ∷ made) d are one = (are.0, placed_push setup made d are.1 one)

-- The access of a hart in the machine.

abbrev pub done : ℕ → Access → Reply → Done
done h access reply = record { hart = h; access = access; reply = reply }

module _ (setup : Setup) (u : Machine) (bus : Plain) (h : ℕ) (access : Access) (serves : Serves setup u bus) where
  abbrev banks : ℕ
  banks = ram_banks bus.run

  pub bank_below : is_ram_access access ≡ true → bank_of_access banks access < banks
  bank_below ram =
      let here : bank_of_access banks access ≡ bank_of banks (address_of access) = ap (λ b. if b then bank_of banks (address_of access) else banks) ram in
      let less : bank_of banks (address_of access) < banks = mod-lt (address_of access / 64) (some_banks banks serves.counted) in
      omega (arith, here, less)

  pub device_last : is_ram_access access ≡ false → bank_of_access banks access ≡ banks
  device_last device = ap (λ b. if b then bank_of banks (address_of access) else banks) device

  -- the bus replies as the machine
  pub told : (reply : Reply) → IsPlaced setup.harts setup.ram access → IsReserved u.ram h access
      → reply ≡ reply_at setup (done_at bus (place_in bus.run access)) h access → reply ≡ reply_to setup u h access
  told reply placed reserved is = elim (cases_Bool (is_ram_access access)) [
    | inl ram ↦
        let by : Bool → List Done → Reply = λ b made. if b then flat setup.image made h access else reply_after setup.harts setup.input made h access in
        is
        ∙ ap (λ b. by b (done_at bus (bank_of_access banks access))) ram
        ∙ ap (λ made. flat setup.image made h access) (serves.banks (bank_of_access banks access) (bank_below ram))
        ∙ sym (flat_part setup setup.image banks u.ram h access serves.placed ram placed reserved)
        ∙ ap (λ b. if b then flat setup.image u.ram h access else reply_after setup.harts setup.input u.devices h access) (sym ram)
    | inr device ↦
        let by : Bool → List Done → Reply = λ b made. if b then flat setup.image made h access else reply_after setup.harts setup.input made h access in
        is
        ∙ ap (λ b. by b (done_at bus (bank_of_access banks access))) device
        ∙ ap (λ n. reply_after setup.harts setup.input (done_at bus n) h access) (device_last device)
        ∙ ap (λ made. reply_after setup.harts setup.input made h access) serves.devices
        ∙ ap (λ b. if b then flat setup.image u.ram h access else reply_after setup.harts setup.input u.devices h access) (sym device)
  ]

  module _ (reply : Reply) (v : Machine) (next : Plain) (placed : IsPlaced setup.harts setup.ram access) (run_same : next.run ≡ bus.run)
      (counts : bank_count next ≡ bank_count bus) (v_is : v ≡ makes u h access reply)
      (own : done_at next (place_in bus.run access) ≡ done_at bus (place_in bus.run access) ++ done h access reply ∷ [])
      (others : (bank : ℕ) → bank ≢ place_in bus.run access → done_at next bank ≡ done_at bus bank) where
    abbrev d : Done
    d = done h access reply

    ram_if : (b : Bool) → is_ram_access access ≡ b → v.ram ≡ (if b then with_access u.ram h access reply else u.ram)
    ram_if b is = ap (λ (m : Machine). m.ram) v_is ∙ ap (λ b. if b then with_access u.ram h access reply else u.ram) is

    devices_if : (b : Bool) → is_ram_access access ≡ b → v.devices ≡ (if b then u.devices else with_access u.devices h access reply)
    devices_if b is = ap (λ (m : Machine). m.devices) v_is ∙ ap (λ b. if b then u.devices else with_access u.devices h access reply) is

    -- each bank has made what is its own
    bank_after : is_ram_access access ≡ true → (bank : ℕ) → bank < banks → done_at next bank ≡ of_bank banks bank (u.ram ++ d ∷ [])
    bank_after ram bank below = elim (cases_eq bank (bank_of_access banks access)) [
      | inl here ↦
          ap (done_at next) here ∙ own
          ∙ ap (λ n. done_at bus n ++ d ∷ []) (sym here)
          ∙ ap (λ (ds : List Done). ds ++ d ∷ []) (serves.banks bank below)
          ∙ sym (part_push banks bank u.ram d (sym here))
      | inr apart ↦ others bank apart ∙ serves.banks bank below ∙ sym (part_push-other banks bank u.ram d (λ same. apart (sym same)))
    ]

    serves_ram : is_ram_access access ≡ true → Serves setup v next
    serves_ram ram =
        let ram_is = ram_if true ram in
        let apart : banks ≢ place_in bus.run access = λ same. omega (arith, same, bank_below ram) in
        let At : Run → Type 0 = λ r. (bank : ℕ) → bank < ram_banks r → done_at next bank ≡ of_bank (ram_banks r) bank v.ram in
        let Last : Run → Type 0 = λ r. done_at next (ram_banks r) ≡ v.devices in
        let Placed : List Done → Type 0 = λ ds. ArePlaced setup ds in
        record {
          setup_is = ap (λ (r : Run). r.setup) run_same ∙ serves.setup_is;
          harts = ap (λ (r : Run). r.book.limits.harts) run_same ∙ serves.harts;
          room = ap (λ (r : Run). r.book.limits.room) run_same ∙ serves.room;
          counted = ap (λ (r : Run). is_bank_count (ram_banks r)) run_same ∙ serves.counted;
          whole = ap (λ (r : Run). ram_banks r + 1) run_same ∙ serves.whole ∙ sym (ap (λ (r : Run). r.book.limits.banks) run_same);
          all = counts ∙ serves.all ∙ sym (ap (λ (r : Run). r.book.limits.banks) run_same);
          banks = subst At (sym run_same) (λ bank below. bank_after ram bank below ∙ ap (of_bank banks bank) (sym ram_is));
          devices = subst Last (sym run_same) (others banks apart ∙ serves.devices ∙ sym (devices_if true ram));
          placed = subst Placed (sym ram_is) (placed_push setup u.ram d serves.placed placed);
        }

    serves_device : is_ram_access access ≡ false → Serves setup v next
    serves_device device =
        let ram_is = ram_if false device in
        let last = device_last device in
        let At : Run → Type 0 = λ r. (bank : ℕ) → bank < ram_banks r → done_at next bank ≡ of_bank (ram_banks r) bank v.ram in
        let Last : Run → Type 0 = λ r. done_at next (ram_banks r) ≡ v.devices in
        let Placed : List Done → Type 0 = λ ds. ArePlaced setup ds in
        record {
          setup_is = ap (λ (r : Run). r.setup) run_same ∙ serves.setup_is;
          harts = ap (λ (r : Run). r.book.limits.harts) run_same ∙ serves.harts;
          room = ap (λ (r : Run). r.book.limits.room) run_same ∙ serves.room;
          counted = ap (λ (r : Run). is_bank_count (ram_banks r)) run_same ∙ serves.counted;
          whole = ap (λ (r : Run). ram_banks r + 1) run_same ∙ serves.whole ∙ sym (ap (λ (r : Run). r.book.limits.banks) run_same);
          all = counts ∙ serves.all ∙ sym (ap (λ (r : Run). r.book.limits.banks) run_same);
          banks = subst At (sym run_same) (λ bank below.
              others bank (λ same. omega (arith, same, below, last)) ∙ serves.banks bank below ∙ ap (of_bank banks bank) (sym ram_is));
          devices = subst Last (sym run_same)
              (ap (done_at next) (sym last) ∙ own ∙ ap (λ n. done_at bus n ++ d ∷ []) last ∙ ap (λ (ds : List Done). ds ++ d ∷ []) serves.devices
              ∙ sym (devices_if false device));
          placed = subst Placed (sym ram_is) serves.placed;
        }

    pub serves_access : Serves setup v next
    serves_access = elim (cases_Bool (is_ram_access access)) [ inl ram ↦ serves_ram ram | inr device ↦ serves_device device ]

-- an event that is no access leaves the memory
pub serves_own : (setup : Setup) (u v : Machine) (bus next : Plain) → Serves setup u bus → next.run ≡ bus.run → bank_count next ≡ bank_count bus → v.ram ≡ u.ram → v.devices ≡ u.devices
    → ((bank : ℕ) → done_at next bank ≡ done_at bus bank) → Serves setup v next
serves_own setup u v bus next serves run_same counts ram devices same =
    let At : Run → Type 0 = λ r. (bank : ℕ) → bank < ram_banks r → done_at next bank ≡ of_bank (ram_banks r) bank v.ram in
    let Last : Run → Type 0 = λ r. done_at next (ram_banks r) ≡ v.devices in
    let Placed : List Done → Type 0 = λ ds. ArePlaced setup ds in
    record {
      setup_is = ap (λ (r : Run). r.setup) run_same ∙ serves.setup_is;
      harts = ap (λ (r : Run). r.book.limits.harts) run_same ∙ serves.harts;
      room = ap (λ (r : Run). r.book.limits.room) run_same ∙ serves.room;
      counted = ap (λ (r : Run). is_bank_count (ram_banks r)) run_same ∙ serves.counted;
      whole = ap (λ (r : Run). ram_banks r + 1) run_same ∙ serves.whole ∙ sym (ap (λ (r : Run). r.book.limits.banks) run_same);
      all = counts ∙ serves.all ∙ sym (ap (λ (r : Run). r.book.limits.banks) run_same);
      banks = subst At (sym run_same) (λ bank below. same bank ∙ serves.banks bank below ∙ ap (of_bank (ram_banks bus.run) bank) (sym ram));
      devices = subst Last (sym run_same) (same (ram_banks bus.run) ∙ serves.devices ∙ sym devices);
      placed = subst Placed (sym ram) serves.placed;
    }

-- A store-conditional that is asked.

reserved_by : (made : List Done) (h : ℕ) (w : Want) (access : Access) → w ≡ Asks access → AsksReserved made h w → IsReserved made h access
reserved_by made h w access asks reserved =
    let Is : Want → Type 0 = λ x. AsksReserved made h x in
    at access (subst Is asks reserved)
  where
    at : (a : Access) → AsksReserved made h (Asks a) → IsReserved made h a
    at (acc.Sc address width value) has = has
    at (acc.Fetch address) has = tt
    at (acc.Pte address) has = tt
    at (acc.Read address width) has = tt
    at (acc.Write address width value) has = tt
    at (acc.Lr address width) has = tt
    at (acc.Amo op address width value) has = tt
    at (acc.DevRead address width) has = tt
    at (acc.DevWrite address width value) has = tt
    at (acc.Pulse tick) has = tt
    at (acc.Wait mie) has = tt
    at acc.Retire has = tt
    at acc.Time has = tt

pub reserved_asked : (setup : Setup) (u : Machine) (h : ℕ) (access : Access) → IsReached setup u → h < setup.harts → want_of setup u h ≡ Asks access
    → IsReserved u.ram h access
reserved_asked setup u h access reached below asks =
    let At : Machine → Type 0 = λ m. AsksReserved m.ram h (want_of setup m h) in
    reserved_by u.ram h (want_of setup u h) access asks (subst At (sym reached.is) (all_asks_reserved setup reached.order h below))
