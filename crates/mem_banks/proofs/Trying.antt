-- A hart of the tests with one access more.
use Rattle.std.proofs.Common.{◌≡◌, ℕ, ◌+◌, ◌<◌, ◌≤◌, ◌==◌, Bool, false, cond, List, [], ◌∷◌, ◌++◌, length, refl, sym, ap, ◌∙◌, subst, Some, arith, length-append}
use Rattle.flex_base.specs.Devices.{is_transmit}
use Rattle.flex_base.specs.Following.{waits_by, is_waiting}
use Rattle.flex_base.specs.declared.access.Access.{Access}
use Rattle.flex_base.specs.declared.access.Reply.{Reply}
use Rattle.flex_base.specs.declared.engine.Engine.{Engine}
use Rattle.flex_base.specs.declared.hart.HartId.{HartId}
use Rattle.access_record.specs.Rule.{one_if, count_of, occurrences}
use Rattle.access_record.specs.Passes.{PassOfHart, new_pass, EachHasPass}
use Rattle.flex_base.proofs.Following.{is_waiting-none}
use Rattle.access_record.specs.Buses.{Run, place_in, events_of, NamePlaces, bytes_sent, access_entry, Extends, HasLooked}
use Rattle.access_record.specs.declared.entry.LogEntry.{LogEntry}
use Rattle.access_record.proofs.Extending.{extends-waits, extends-places}
use Rattle.mem_banks.specs.Plain.{numbers_below}
use Rattle.mem_banks.specs.Tried.{IsTried, harts_of}
use Rattle.mem_banks.proofs.Plains.{numbers_more}
use Rattle.mem_banks.proofs.Bytes.{entry_of, bytes-append, one_sent}

pub tried_more : (run : Run) (old new : PassOfHart) (engine : Engine) (access : Access) (reply : Reply) (number : ℕ) (was now : Bool) (left more bytes after : ℕ)
    → IsTried run old was left bytes → Extends old new (access_entry engine access reply) (Some (place_in run access)) number
    → now ≡ waits_by was access reply → more + 1 ≡ left → after + cond (is_transmit access) 1 0 ≤ bytes → IsTried run new now more after
tried_more run old new engine access reply number was now left more bytes after tried x told one send =
    let e = entry_of old.hart engine access reply (place_in run access) number in
    let room = tried.room in
    let sent = tried.sent in
    let grown = ap length x.log ∙ length-append old.log (e ∷ []) in
    let bytes_are = ap bytes_sent x.log ∙ bytes-append old.log (e ∷ []) in
    let one_byte = one_sent old.hart engine access reply (place_in run access) number (is_transmit access) refl in
    record {
      book = x.id ∙ tried.book;
      hart = subst (λ (h : HartId). h.0 < run.setup.harts) (sym x.hart) tried.hart;
      room = omega (arith, grown, room, one);
      places = extends-places run old new (access_entry engine access reply) (Some (place_in run access)) number x tried.places refl;
      told = extends-waits run old new (access_entry engine access reply) (Some (place_in run access)) number x ∙ ap (λ w. waits_by w access reply) tried.told ∙ sym told;
      sent = omega (arith, bytes_are, one_byte, sent, send);
    }

-- a look changes nothing of it
pub tried_looked : (run : Run) (old new : PassOfHart) (waiting : Bool) (left bytes : ℕ) → IsTried run old waiting left bytes → HasLooked old new → IsTried run new waiting left bytes
tried_looked run old new waiting left bytes tried x = record {
  book = x.id ∙ tried.book;
  hart = subst (λ (h : HartId). h.0 < run.setup.harts) (sym x.hart) tried.hart;
  room = let same = ap length x.log in let room = tried.room in omega (arith, same, room);
  places = subst (NamePlaces run) (sym x.log) tried.places;
  told = ap (λ (l : List LogEntry). is_waiting (events_of l)) x.log ∙ tried.told;
  sent = let same = ap bytes_sent x.log in let sent = tried.sent in omega (arith, same, sent);
}

-- one that was just enrolled
pub tried_new : (run : Run) (hart : HartId) (left bytes : ℕ) → hart.0 < run.setup.harts → left ≤ run.book.limits.room → bytes ≤ run.setup.budget
    → IsTried run (new_pass run.book.id hart) false left bytes
tried_new run hart left bytes below room budget = record {
  book = refl;
  hart = below;
  room = omega (arith, room);
  places = tt;
  told = is_waiting-none;
  sent = omega (arith, budget);
}

-- passes of just the harts that are enrolled
pub each_has : (harts : List ℕ) (passes : List PassOfHart) → harts_of passes ≡ harts → EachHasPass harts passes
each_has harts passes are hart =
    let same = ap (occurrences hart) (sym are) ∙ counts_alike hart passes in
    omega (arith, same)
  where
    counts_alike : (hart : ℕ) (passes : List PassOfHart) → occurrences hart (harts_of passes) ≡ count_of (λ (p : PassOfHart). p.hart.0) hart passes
    counts_alike hart [] = refl
    counts_alike hart (p ∷ passes) = ap (λ n. one_if (p.hart.0 == hart) + n) (counts_alike hart passes)

-- the last hart's pass is put after those of the others
pub one_taken : (passes : List PassOfHart) (p : PassOfHart) (hart harts : ℕ) → hart + 1 ≡ harts → p.hart.0 ≡ hart
    → harts_of (passes ++ p ∷ []) ++ numbers_below hart ≡ harts_of passes ++ numbers_below harts
one_taken [] p hart harts more is = ap (λ (h : ℕ). h ∷ numbers_below hart) is ∙ sym (numbers_more hart) ∙ ap numbers_below more
one_taken (q ∷ passes) p hart harts more is = ap (λ (l : List ℕ). q.hart.0 ∷ l) (one_taken passes p hart harts more is)
