-- A bus of one thread: how it begins, and one bank changed.
use Rattle.std.proofs.Common.{◌≡◌, ◌≢◌, ℕ, zero, suc, ◌+◌, ◌/◌, ◌%◌, ◌*◌, ◌^◌, ◌<◌, ◌≤◌, Bool, true, false, ◌&&◌, nat_le, if◌then◌else◌, List, [], ◌∷◌, ◌++◌, length, set, sym, refl, ap, ◌∙◌, subst, Option, Some, None, arith, length-append, length-set, ne_eqb}
use Rattle.std.specs.Prelude.{slice_index_or}
use Rattle.std.proofs.lemmas.List.{get_or-set_same, get_or-set_other, get_or_append_left}
use Rattle.std.proofs.lemmas.List.FromFn.{get_or-map-range_with_len, length-map-range_with_len, map-range_with_len_more}
use Rattle.std.proofs.Math.Seq.{get_or-append_seam}
use Rattle.std.proofs.lemmas.Bool.{and_parts}
use Rattle.std.proofs.lemmas.Bool.Decides.{nat_tests}
use Rattle.std.proofs.Math.Nat.{min-eq_left}
use native.Mathlib.Decide.{ℕ_discrete}
use Rattle.flex_base.specs.Setup.{Setup}
use Rattle.flex_base.specs.Loaded.{Loaded}
use Rattle.flex_base.specs.FlatMemory.{is_ram_access}
use Rattle.flex_base.specs.Banks.{bank_of, address_of}
use Rattle.flex_base.specs.declared.access.Access.{Access}
use Rattle.flex_base.specs.declared.settings.Settings.{Settings}
use Rattle.flex_base.specs.Limits.{is_within, mebibyte, is_lawful}
use Rattle.flex_base.specs.Word.{is_multiple}
use Rattle.flex_base.specs.Following.{is_waiting}
use Rattle.flex_base.proofs.Following.{is_waiting-none}
use Rattle.flex_base.proofs.WaitingHarts.{waits-none}
use Rattle.mem_lines.specs.Bank.{Bank, is_bank_count, IsBank, IsReplay}
use Rattle.devices.specs.View.{DevicesView, room_for}
use Rattle.devices.specs.View as devices
use Rattle.access_record.specs.Rule.{one_if, occurrences}
use Rattle.access_record.specs.Passes.{RecordIdentity, PassOfHart, PassOfBank}
use Rattle.access_record.specs.Buses.{Run, ram_banks, place_in, events_of, bytes_sent}
use Rattle.access_record.specs.declared.entry.LogEntry.{LogEntry}
use Rattle.mem_banks.specs.Slots.{pass_of, log_in, seen_in, HasPass}
use Rattle.mem_banks.specs.Kept.{IsBankOf, IsBankAt, AreDevicesOf, AreDevicesAt, MayMake, MakesAt}
use Rattle.mem_banks.proofs.Bytes.{of_hart-none}
use Rattle.mem_banks.specs.Plain.{IsPlain, numbers_below, new_slots, IsOfImage, AreMade}

-- Where an access goes.

pub told_some : (b : Bool) (a n : ℕ) → (if b then Some a else None) ≡ Some n → (b ≡ true) × (a ≡ n)
told_some true a n is = (refl, cc is)
told_some false a n is = absurd (cc is)

pub told_none : (b : Bool) (a : ℕ) → (if b then Some a else None) ≡ None → b ≡ false
told_none true a is = absurd (cc is)
told_none false a is = refl

pub place_of_ram : (run : Run) (banks : ℕ) (access : Access) (address : ℕ) → banks ≡ ram_banks run
    → (if is_ram_access access then Some (address_of access) else None) ≡ Some address → place_in run access ≡ (address / 64) % banks
place_of_ram run banks access address counted is =
    let told = told_some (is_ram_access access) (address_of access) address is in
    ap (λ r. if r then bank_of (ram_banks run) (address_of access) else ram_banks run) told.0
    ∙ ap (λ (x : ℕ × ℕ). bank_of x.0 x.1) (λ i. (sym counted i, told.1 i))

pub place_of_device : (run : Run) (access : Access) → is_ram_access access ≡ false → place_in run access ≡ ram_banks run
place_of_device run access device = ap (λ r. if r then bank_of (ram_banks run) (address_of access) else ram_banks run) device

-- One bank changed, or the devices.

pub plain-bank : (run : Run) (lines : List Bank) (d : DevicesView) (slots : List (Option PassOfBank)) (k : ℕ) (b : Bank) (slot : Option PassOfBank)
    → IsPlain run lines d slots → k < length lines → IsBankAt run k b slot → IsPlain run (set lines k b) d (set slots k slot)
plain-bank run lines d slots k b slot plain below at = record {
  run_is = plain.run_is;
  some = subst (λ (n : ℕ). 0 < n) (sym (length-set lines k b)) plain.some;
  counted = length-set lines k b ∙ plain.counted;
  all = length-set slots k slot ∙ plain.all;
  banks = λ j c other less. by j c other (subst (λ (n : ℕ). j < n) (length-set lines k b) less) (ℕ_discrete j k);
  devices = λ other.
      let last : length (set lines k b) ≡ length lines = length-set lines k b in
      let apart : length lines ≢ k = λ (same : length lines ≡ k). omega (arith, same, below) in
      subst (λ (n : ℕ). AreDevicesAt run d (slice_index_or (set slots k slot) n other)) (sym last)
      (subst (AreDevicesAt run d) (sym (get_or-set_other slots k (length lines) slot other apart)) (plain.devices other));
}
  where
    within : k < length slots
    within = let p = plain.all in let q = plain.counted in let r = plain.run_is.some in omega (arith, p, q, r, below)

    by : (j : ℕ) (c : Bank) (other : Option PassOfBank) → j < length lines → Dec (j ≡ k)
        → IsBankAt run j (slice_index_or (set lines k b) j c) (slice_index_or (set slots k slot) j other)
    by j c other less (yes same) =
        subst (λ (n : ℕ). IsBankAt run n (slice_index_or (set lines k b) n c) (slice_index_or (set slots k slot) n other)) (sym same)
        (subst (λ (x : Bank × Option PassOfBank). IsBankAt run k x.0 x.1) (λ i. (sym (get_or-set_same lines k b c below) i, sym (get_or-set_same slots k slot other within) i)) at)
    by j c other less (no apart) =
        subst (λ (x : Bank × Option PassOfBank). IsBankAt run j x.0 x.1) (λ i. (sym (get_or-set_other lines k j b c apart) i, sym (get_or-set_other slots k j slot other apart) i))
        (plain.banks j c other less)

pub plain-devices : (run : Run) (lines : List Bank) (old new : DevicesView) (slots : List (Option PassOfBank)) (slot : Option PassOfBank)
    → IsPlain run lines old slots → AreDevicesAt run new slot → IsPlain run lines new (set slots (length lines) slot)
plain-devices run lines old new slots slot plain at = record {
  run_is = plain.run_is;
  some = plain.some;
  counted = plain.counted;
  all = length-set slots (length lines) slot ∙ plain.all;
  banks = λ j c other less.
      let apart : j ≢ length lines = λ (same : j ≡ length lines). omega (arith, same, less) in
      subst (λ (x : Option PassOfBank). IsBankAt run j (slice_index_or lines j c) x) (sym (get_or-set_other slots (length lines) j slot other apart)) (plain.banks j c other less);
  devices = λ other.
      let p = plain.all in let q = plain.counted in let r = plain.run_is.some in
      let within : length lines < length slots = omega (arith, p, q, r) in
      subst (AreDevicesAt run new) (sym (get_or-set_same slots (length lines) slot other within)) at;
}

-- What an access of a bank asks for.

pub makes_at : (run now : Run) (lines : List Bank) (d : DevicesView) (slots : List (Option PassOfBank)) (k : ℕ) (b : Bank) (slot : Option PassOfBank)
    (pass : PassOfHart) (access : Access) → IsPlain run lines d slots → run ≡ now → k < length lines → b ≡ slice_index_or lines k b
    → slot ≡ slice_index_or slots k slot → MayMake now pass access → is_ram_access access ≡ true → place_in now access ≡ k
    → MakesAt run run.book b slot pass access
makes_at run now lines d slots k b slot pass access plain same below line_at slot_at may ram here =
    let at = subst (λ x. IsBankAt run k x slot) (sym line_at) (subst (λ x. IsBankAt run k (slice_index_or lines k b) x) (sym slot_at) (plain.banks k b slot below)) in
    let bank_is : b.bank ≡ k = at.lines.is_bank.bank_is in
    record {
      book_is = refl;
      run_is = plain.run_is;
      kept = subst (λ n. IsBankAt run n b slot) (sym bank_is) at;
      may = subst (λ (r : Run). MayMake r pass access) (sym same) may;
      ram = ram;
      here = ap (λ (r : Run). place_in r access) same ∙ here ∙ sym bank_is;
    }

-- How it begins.

pub none_above : (k n : ℕ) → n ≤ k → occurrences k (numbers_below n) ≡ 0
none_above k zero below = refl
none_above k (suc n) below =
    let rest = none_above k n (omega (arith, below)) in
    let here = ap one_if (ne_eqb n k (λ (same : n ≡ k). omega (arith, same, below))) in
    omega (arith, here, rest)

pub numbers_more : (n : ℕ) → numbers_below (n + 1) ≡ n ∷ numbers_below n
numbers_more n = let e : n + 1 ≡ suc n = omega arith in ap numbers_below e

pub new_slots-more : (book : RecordIdentity) (n : ℕ) → new_slots book (n + 1) ≡ new_slots book n ++ Some (pass_of book n [] 0) ∷ []
new_slots-more book n = let e : 0 + n ≡ n = omega arith in map-range_with_len_more (λ bank. Some (pass_of book bank [] 0)) 0 n n e

pub length-new_slots : (book : RecordIdentity) (n : ℕ) → length (new_slots book n) ≡ n
length-new_slots book n = length-map-range_with_len (λ bank. Some (pass_of book bank [] 0)) 0 n

pub new_slot : (book : RecordIdentity) (n k : ℕ) (other : Option PassOfBank) → k < n → slice_index_or (new_slots book n) k other ≡ Some (pass_of book k [] 0)
new_slot book n k other below = let e : 0 + k ≡ k = omega arith in get_or-map-range_with_len (λ bank. Some (pass_of book bank [] 0)) 0 n k k other below e

-- one bank more of an image
pub made_push : (image : Loaded) (settings : Settings) (banks : ℕ) (lines more : List Bank) (x : Bank) → AreMade image settings banks lines
    → IsBank settings.ram banks (length lines) x → ((setup : Setup) → IsOfImage image settings setup → IsReplay setup [] x) → more ≡ lines ++ x ∷ [] → AreMade image settings banks more
made_push image settings banks lines more x all bank replay is = λ k b below.
    subst (Made k) (ap (λ (l : List Bank). slice_index_or l k b) (sym is)) (by k b (omega (arith, ap length is, length-append lines (x ∷ []), below)) (ℕ_discrete k (length lines)))
  where
    Made : ℕ → Bank → Type 0
    Made k b = IsBank settings.ram banks k b × ((setup : Setup) → IsOfImage image settings setup → IsReplay setup [] b)

    by : (k : ℕ) (b : Bank) → k < length lines + 1 → Dec (k ≡ length lines) → Made k (slice_index_or (lines ++ x ∷ []) k b)
    by k b below (yes same) = subst (λ (n : ℕ). Made n (slice_index_or (lines ++ x ∷ []) n b)) (sym same) (subst (Made (length lines)) (sym (get_or-append_seam lines x [] b)) (bank, replay))
    by k b below (no other) =
        let less : k < length lines = omega (arith, below, other) in
        subst (Made k) (sym (get_or_append_left lines (x ∷ []) b k less)) (all k b less)

few_harts : (settings : Settings) → is_lawful settings ≡ true → settings.harts ≤ 32
few_harts settings lawful =
    let a = and_parts (is_within 1 32 settings.harts && is_within mebibyte (256 * mebibyte) settings.ram && is_multiple settings.ram mebibyte) (is_within 1 (2 ^ 32) settings.budget) lawful in
    let b = and_parts (is_within 1 32 settings.harts && is_within mebibyte (256 * mebibyte) settings.ram) (is_multiple settings.ram mebibyte) a.0 in
    let d = and_parts (is_within 1 32 settings.harts) (is_within mebibyte (256 * mebibyte) settings.ram) b.0 in
    let e = and_parts (nat_le 1 settings.harts) (nat_le settings.harts 32) d.0 in
    grind (arith, nat_tests, e.1)

some_bank : (banks : ℕ) → is_bank_count banks ≡ true → 0 < banks
some_bank zero is = absurd (cc is)
some_bank (suc n) is = omega arith

new_pass : (book : RecordIdentity) (bank : ℕ) (slot : Option PassOfBank) → slot ≡ Some (pass_of book bank [] 0) → HasPass book bank slot
new_pass book bank slot is = is ∙ ap (λ (x : List LogEntry × ℕ). Some (pass_of book bank x.0 x.1)) (λ i. (sym (ap log_in is) i, sym (ap seen_in is) i))

pub plain-begins : (run : Run) (settings : Settings) (image : Loaded) (banks : ℕ) (lines : List Bank) (d : DevicesView) (slots : List (Option PassOfBank))
    → IsOfImage image settings run.setup → run.setup.harts ≡ settings.harts → run.setup.budget ≡ settings.budget → run.book.limits.banks ≡ banks + 1
    → is_lawful settings ≡ true → is_bank_count banks ≡ true → settings.harts * settings.budget ≤ 262144
    → length lines ≡ banks → AreMade image settings banks lines
    → devices.IsReplay run.setup.harts run.setup.input [] d → d.console.room ≡ room_for settings.harts settings.budget → d.console.keeps ≡ true
    → slots ≡ new_slots run.book (banks + 1) → IsPlain run lines d slots
plain-begins run settings image banks lines d slots of_image harts budget count lawful counted few all made replay room keeps slots_are =
    let some = some_bank banks counted in
    let ram : ram_banks run ≡ banks = omega (arith, count) in
    let slot_is : (k : ℕ) (slot : Option PassOfBank) → k < banks + 1 → slice_index_or slots k slot ≡ Some (pass_of run.book k [] 0) =
    λ k slot below. ap (λ (l : List (Option PassOfBank)). slice_index_or l k slot) slots_are ∙ new_slot run.book (banks + 1) k slot below in
    record {
      run_is = record { some = omega (arith, count); few = let f = few_harts settings lawful in omega (arith, harts, f) };
      some = omega (arith, all, some);
      counted = all ∙ sym ram;
      all = ap length slots_are ∙ length-new_slots run.book (banks + 1) ∙ sym count;
      banks = λ bank b slot below.
          let is = slot_is bank slot (omega (arith, below, all)) in
          let line = made bank b below in
          record {
            pass = new_pass run.book bank (slice_index_or slots bank slot) is;
            lines = subst (λ (log : List LogEntry). IsBankOf run bank (slice_index_or lines bank b) log) (sym (ap log_in is)) (record {
              is_bank = record { ram_is = line.0.ram_is ∙ sym of_image.ram; banks_are = line.0.banks_are ∙ sym ram; bank_is = line.0.bank_is };
              replay = line.1 run.setup of_image;
              banked = tt;
            });
          };
      devices = λ slot.
          let at : length lines ≡ ram_banks run = all ∙ sym ram in
          let is : slice_index_or slots (length lines) slot ≡ Some (pass_of run.book (ram_banks run) [] 0) =
          slot_is (length lines) slot (omega (arith, all)) ∙ ap (λ (k : ℕ). Some (pass_of run.book k [] 0)) at in
          record {
            pass = new_pass run.book (ram_banks run) (slice_index_or slots (length lines) slot) is;
            devices = subst (λ (log : List LogEntry). AreDevicesOf run d log) (sym (ap log_in is)) (record {
              replay = replay;
              banked = tt;
              harts = tt;
              bytes = λ h. let none = ap bytes_sent (of_hart-none h) in omega (arith, none);
              waiting = λ h. waits-none run.setup.harts h ∙ sym (ap (λ (l : List LogEntry). is_waiting (events_of l)) (of_hart-none h) ∙ is_waiting-none);
              room = room ∙ min-eq_left few ∙ ap (λ (x : ℕ × ℕ). x.0 * x.1) (λ i. (sym harts i, sym budget i));
              keeps = keeps;
            });
          };
    }
