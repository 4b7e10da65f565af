-- The devices stay the replay of the accesses.
use Rattle.std.proofs.Common.{◌≡◌, ℕ, ◌<◌, Bool, true, false, not, ◌&&◌, ◌||◌, nat_lt, if◌then◌else◌, List, [], ◌∷◌, ◌++◌, map, length, drop, refl, ap, sym, ◌∙◌, append-nil, arith}
use Rattle.std.proofs.lemmas.Bool.Decides.{nat_tests}
use Rattle.std.specs.List.{filter}
use Rattle.std.proofs.lemmas.List.{length_push, map-append, drop-drop}
use Rattle.std.proofs.lemmas.List.Elements.{filter-append}
use Rattle.std.proofs.lemmas.List.Sums.{fold_push}
use Rattle.flex_base.specs.FlatMemory.{Done}
use Rattle.flex_base.specs.Devices.{devices, devices_start, device_step, reply_in, input_left, sent_bytes, is_receive, is_transmit, byte_of, reply_after}
use Rattle.flex_base.specs.declared.access.Access.{Access}
use Rattle.flex_base.specs.declared.access.Access.TheVariants as acc
use Rattle.flex_base.specs.declared.access.Reply.{Reply}
use Rattle.devices.specs.View.{DevicesView, IsReplay, has_room, HasRoom, left_after, kept_after}

abbrev pub done : ℕ → Access → Reply → Done
done h access reply = record { hart = h; access = access; reply = reply }

pub reply_after_is : (harts : ℕ) (input : List ℕ) (made : List Done) (d : DevicesView) (h : ℕ) (access : Access) → IsReplay harts input made d
    → reply_in d.state d.console.left h access ≡ reply_after harts input made h access
reply_after_is harts input made d h access replay =
    ap (λ s. reply_in s d.console.left h access) replay.state
    ∙ ap (λ left. reply_in (devices harts made) left h access) replay.left

state_push : (harts : ℕ) (made : List Done) (d : Done) → devices harts (made ++ d ∷ []) ≡ device_step (devices harts made) d.hart d.access
state_push harts made d = fold_push (λ s (e : Done). device_step s e.hart e.access) (devices_start harts) made d

takes : (b : Bool) (input : List ℕ) (taken : List Done) (d : Done) → drop (length (taken ++ (if b then d ∷ [] else []))) input ≡ (if b then drop 1 (drop (length taken) input) else drop (length taken) input)
takes true input taken d = ap (λ n. drop n input) (length_push taken d) ∙ sym (drop-drop 1 (length taken) input)
takes false input taken d = ap (λ (ds : List Done). drop (length ds) input) (append-nil taken)

left_push : (input : List ℕ) (made : List Done) (d : Done) → input_left input (made ++ d ∷ []) ≡ (if is_receive d.access then drop 1 (input_left input made) else input_left input made)
left_push input made d =
    let of = λ (e : Done). is_receive e.access in
    ap (λ (ds : List Done). drop (length ds) input) (filter-append of made (d ∷ []))
    ∙ takes (is_receive d.access) input (filter of made) d

sends : (b : Bool) (kept : List Done) (d : Done) → map (λ (e : Done). byte_of e.access) (kept ++ (if b then d ∷ [] else [])) ≡ (if b then map (λ (e : Done). byte_of e.access) kept ++ byte_of d.access ∷ [] else map (λ (e : Done). byte_of e.access) kept)
sends true kept d = map-append (λ (e : Done). byte_of e.access) kept (d ∷ [])
sends false kept d = ap (map (λ (e : Done). byte_of e.access)) (append-nil kept)

sent_push : (made : List Done) (d : Done) → sent_bytes (made ++ d ∷ []) ≡ (if is_transmit d.access then sent_bytes made ++ byte_of d.access ∷ [] else sent_bytes made)
sent_push made d =
    let of = λ (e : Done). is_transmit e.access in
    ap (map (λ (e : Done). byte_of e.access)) (filter-append of made (d ∷ []))
    ∙ sends (is_transmit d.access) (filter of made) d

-- while bytes are kept
kept_while : (b keeps : Bool) (kept : List ℕ) (byte : ℕ) → keeps ≡ true → (if b && keeps then kept ++ byte ∷ [] else kept) ≡ (if b then kept ++ byte ∷ [] else kept)
kept_while true keeps kept byte e = ap (λ k. if k then kept ++ byte ∷ [] else kept) e
kept_while false keeps kept byte e = refl

pub replay_push : (harts : ℕ) (input : List ℕ) (made : List Done) (old new : DevicesView) (h : ℕ) (access : Access) (reply : Reply)
    → new.state ≡ device_step old.state h access → new.console.left ≡ left_after old access → new.console.sent ≡ kept_after old access → new.console.keeps ≡ old.console.keeps
    → IsReplay harts input made old → IsReplay harts input (made ++ done h access reply ∷ []) new
replay_push harts input made old new h access reply steps left kept same replay =
    let d = done h access reply in
    record {
      state = steps ∙ ap (λ s. device_step s h access) replay.state ∙ sym (state_push harts made d);
      left = left ∙ ap (λ xs. if is_receive access then drop 1 xs else xs) replay.left ∙ sym (left_push input made d);
      sent = λ keeps.
          let kept_before = sym same ∙ keeps in
          kept
          ∙ kept_while (is_transmit access) old.console.keeps old.console.sent (byte_of access) kept_before
          ∙ ap (λ xs. if is_transmit access then xs ++ byte_of access ∷ [] else xs) (replay.sent kept_before)
          ∙ sym (sent_push made d);
    }

-- There is room.

room_by : (keeps : Bool) (held sent : List ℕ) (room : ℕ) → (keeps ≡ true → held ≡ sent) → length sent < room → (not keeps || nat_lt (length held) room) ≡ true
room_by false held sent room same few = refl
room_by true held sent room same few = grind (arith, nat_tests, ap length (same refl), few)

-- while fewer bytes were sent than there is room for
pub has_room-sent : (harts : ℕ) (input : List ℕ) (made : List Done) (d : DevicesView) → IsReplay harts input made d
    → length (sent_bytes made) < d.console.room → has_room d.console ≡ true
has_room-sent harts input made d replay few = room_by d.console.keeps d.console.sent (sent_bytes made) d.console.room replay.sent few

-- then each access may be made
pub may_act : (d : DevicesView) (access : Access) → has_room d.console ≡ true → HasRoom d access
may_act d (acc.DevWrite address width value) room = λ _. room
may_act d other room = tt
