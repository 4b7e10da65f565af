-- The bytes that harts have transmitted.
use Rattle.std.proofs.Common.{◌≡◌, ◌≢◌, ℕ, ◌+◌, ◌*◌, ◌<◌, ◌≤◌, Bool, true, false, cond, if◌then◌else◌, Some, List, [], ◌∷◌, ◌++◌, map, length, refl, sym, ap, ◌∙◌, subst, arith, length-append, eq-eqb, ne_eqb}
use Rattle.std.specs.List.{filter}
use Rattle.std.proofs.lemmas.List.{map-append}
use Rattle.std.proofs.lemmas.List.Elements.{filter-append}
use native.Mathlib.Decide.{ℕ_discrete}
use Rattle.flex_base.specs.FlatMemory.{Done}
use Rattle.flex_base.specs.Devices.{is_transmit, byte_of, sent_bytes}
use Rattle.flex_base.specs.Banks.{accesses_of}
use Rattle.flex_base.specs.declared.access.Access.{Access}
use Rattle.flex_base.specs.declared.access.Reply.{Reply}
use Rattle.flex_base.specs.declared.engine.Engine.{Engine}
use Rattle.flex_base.specs.declared.hart.HartId.{HartId}
use Rattle.flex_base.proofs.Banks.{accesses_of-append}
use Rattle.access_record.specs.declared.entry.LogEntry.{LogEntry}
use Rattle.access_record.specs.Logs.{names_hart, names_bank, of_hart, on_bank, log_entry, sum_below}
use Rattle.access_record.specs.Buses.{events_of, bytes_sent, access_entry}
use Rattle.access_record.proofs.Totals.{put, put-same, put-other, sum_below-put, sum_below-most, sum_below-none}
use Rattle.mem_banks.specs.Kept.{AreOfHarts}

bytes_of : List Done → ℕ
bytes_of made = length (sent_bytes made)

bytes_of-append : (made more : List Done) → bytes_of (made ++ more) ≡ bytes_of made + bytes_of more
unfolding bytes_of
bytes_of-append made more =
    let sends = λ (d : Done). is_transmit d.access in
    let byte = λ (d : Done). byte_of d.access in
    ap (λ (ds : List Done). length (map byte ds)) (filter-append sends made more)
    ∙ ap length (map-append byte (filter sends made) (filter sends more))
    ∙ length-append (map byte (filter sends made)) (map byte (filter sends more))

pub bytes-append : (log more : List LogEntry) → bytes_sent (log ++ more) ≡ bytes_sent log + bytes_sent more
unfolding bytes_of
bytes-append log more =
    let made = accesses_of (events_of log) in
    ap bytes_of (ap accesses_of (map-append (λ (e : LogEntry). e.event) log more) ∙ accesses_of-append (events_of log) (events_of more))
    ∙ bytes_of-append made (accesses_of (events_of more))

-- a part of a log has no more
pub fewer : (p : LogEntry → Bool) (log : List LogEntry) → bytes_sent (filter p log) ≤ bytes_sent log
fewer p [] = omega arith
fewer p (e ∷ log) = by (fewer p log) (p e) refl
  where
    by : bytes_sent (filter p log) ≤ bytes_sent log → (b : Bool) → p e ≡ b → bytes_sent (cond (p e) (e ∷ filter p log) (filter p log)) ≤ bytes_sent (e ∷ log)
    by rest true is =
        let both = bytes-append (e ∷ []) (filter p log) in
        let all = bytes-append (e ∷ []) log in
        let now : bytes_sent (cond (p e) (e ∷ filter p log) (filter p log)) ≡ bytes_sent (e ∷ filter p log) = ap (λ c. bytes_sent (cond c (e ∷ filter p log) (filter p log))) is in
        omega (arith, both, all, now, rest)
    by rest false is =
        let all = bytes-append (e ∷ []) log in
        let now : bytes_sent (cond (p e) (e ∷ filter p log) (filter p log)) ≡ bytes_sent (filter p log) = ap (λ c. bytes_sent (cond c (e ∷ filter p log) (filter p log))) is in
        omega (arith, all, now, rest)

pub fewer-on_bank : (bank : ℕ) (log : List LogEntry) → bytes_sent (on_bank bank log) ≤ bytes_sent log
unfolding on_bank
fewer-on_bank bank log = fewer (names_bank bank) log

-- Parts by hart.

pub of_hart-same : (h : ℕ) (e : LogEntry) (log more : List LogEntry) → e.event.hart.0 ≡ h → of_hart h (log ++ e ∷ more) ≡ of_hart h log ++ e ∷ of_hart h more
unfolding of_hart
of_hart-same h e log more same =
    filter-append (names_hart h) log (e ∷ more)
    ∙ ap (λ b. filter (names_hart h) log ++ cond b (e ∷ filter (names_hart h) more) (filter (names_hart h) more)) (eq-eqb e.event.hart.0 h same)

pub of_hart-other : (h : ℕ) (e : LogEntry) (log more : List LogEntry) → e.event.hart.0 ≢ h → of_hart h (log ++ e ∷ more) ≡ of_hart h log ++ of_hart h more
unfolding of_hart
of_hart-other h e log more other =
    filter-append (names_hart h) log (e ∷ more)
    ∙ ap (λ b. filter (names_hart h) log ++ cond b (e ∷ filter (names_hart h) more) (filter (names_hart h) more)) (ne_eqb e.event.hart.0 h other)

pub of_hart-none : (h : ℕ) → of_hart h [] ≡ []
unfolding of_hart
of_hart-none h = refl

-- all bytes are those of the harts
all_sent : (harts : ℕ) (log : List LogEntry) → AreOfHarts harts log → bytes_sent log ≡ sum_below harts (λ h. bytes_sent (of_hart h log))
unfolding of_hart
all_sent harts [] own = sym (sum_below-none harts)
all_sent harts (e ∷ log) own =
    let k = e.event.hart.0 in
    let old = λ (h : ℕ). bytes_sent (of_hart h log) in
    let new = λ (h : ℕ). bytes_sent (of_hart h (e ∷ log)) in
    let rest = all_sent harts log own.1 in
    let one = bytes-append (e ∷ []) log in
    let here : new k ≡ bytes_sent (e ∷ []) + old k = ap bytes_sent (of_hart-same k e [] log refl) ∙ bytes-append (e ∷ []) (of_hart k log) in
    let sum = sum_below-put harts old new k own.0 (λ j other. sym (ap bytes_sent (of_hart-other j e [] log (λ same. other (sym same))))) in
    omega (arith, rest, one, here, sum)

-- where no hart has sent more than its budget, and one has sent less, there is room for one byte more
pub some_room : (harts budget hart : ℕ) (log : List LogEntry) → AreOfHarts harts log → ((h : ℕ) → bytes_sent (of_hart h log) ≤ budget)
    → hart < harts → bytes_sent (of_hart hart log) < budget → bytes_sent log < harts * budget
some_room harts budget hart log own most below less =
    let f = λ (h : ℕ). bytes_sent (of_hart h log) in
    let full = put f hart budget in
    let all = all_sent harts log own in
    let sum = sum_below-put harts f full hart below (λ j other. sym (put-other f hart budget j other)) in
    let here : full hart ≡ budget = put-same f hart budget in
    let bound = sum_below-most harts full budget (λ j. by j (ℕ_discrete j hart)) in
    omega (arith, all, sum, here, bound, less)
  where
    by : (j : ℕ) → Dec (j ≡ hart) → put (λ (h : ℕ). bytes_sent (of_hart h log)) hart budget j ≤ budget
    by j (yes same) = let e : put (λ (h : ℕ). bytes_sent (of_hart h log)) hart budget j ≡ budget = ap (λ b. if b then budget else bytes_sent (of_hart j log)) (eq-eqb j hart same) in omega (arith, e)
    by j (no other) = let e = put-other (λ (h : ℕ). bytes_sent (of_hart h log)) hart budget j other in let m = most j in omega (arith, e, m)

-- One access more.

abbrev pub entry_of : HartId → Engine → Access → Reply → ℕ → ℕ → LogEntry
entry_of hart engine access reply bank number = log_entry (access_entry engine access reply) hart (Some bank) number

one_by : (b : Bool) (d : Done) → length (map (λ (x : Done). byte_of x.access) (cond b (d ∷ []) [])) ≡ cond b 1 0
one_by true d = refl
one_by false d = refl

pub one_sent : (hart : HartId) (engine : Engine) (access : Access) (reply : Reply) (bank number : ℕ) (b : Bool) → is_transmit access ≡ b
    → bytes_sent (entry_of hart engine access reply bank number ∷ []) ≡ cond b 1 0
one_sent hart engine access reply bank number b is =
    let d : Done = record { hart = hart.0; access = access; reply = reply } in
    one_by (is_transmit access) d ∙ ap (λ c. cond {A = ℕ} c 1 0) is

pub bytes-push : (budget : ℕ) (log : List LogEntry) (hart : HartId) (engine : Engine) (access : Access) (reply : Reply) (bank number : ℕ)
    → ((h : ℕ) → bytes_sent (of_hart h log) ≤ budget) → (is_transmit access ≡ true → bytes_sent (of_hart hart.0 log) < budget)
    → (h : ℕ) → bytes_sent (of_hart h (log ++ entry_of hart engine access reply bank number ∷ [])) ≤ budget
bytes-push budget log hart engine access reply bank number most room h = by (ℕ_discrete hart.0 h)
  where
    e : LogEntry
    e = entry_of hart engine access reply bank number

    grown : (b : Bool) → is_transmit access ≡ b → bytes_sent (of_hart hart.0 log) + bytes_sent (e ∷ []) ≤ budget
    grown true is = let one : bytes_sent (e ∷ []) ≡ 1 = one_sent hart engine access reply bank number true is in let r = room is in omega (arith, one, r)
    grown false is = let one : bytes_sent (e ∷ []) ≡ 0 = one_sent hart engine access reply bank number false is in let m = most hart.0 in omega (arith, one, m)

    by : Dec (hart.0 ≡ h) → bytes_sent (of_hart h (log ++ entry_of hart engine access reply bank number ∷ [])) ≤ budget
    by (yes same) =
        let all : of_hart hart.0 (log ++ e ∷ []) ≡ of_hart hart.0 log ++ e ∷ [] = of_hart-same hart.0 e log [] refl ∙ ap (λ (es : List LogEntry). of_hart hart.0 log ++ e ∷ es) (of_hart-none hart.0) in
        let sum = ap bytes_sent all ∙ bytes-append (of_hart hart.0 log) (e ∷ []) in
        let g = grown (is_transmit access) refl in
        let fits : bytes_sent (of_hart hart.0 (log ++ e ∷ [])) ≤ budget = omega (arith, sum, g) in
        subst (λ (k : ℕ). bytes_sent (of_hart k (log ++ entry_of hart engine access reply bank number ∷ [])) ≤ budget) same fits
    by (no other) =
        let all : of_hart h (log ++ e ∷ []) ≡ of_hart h log ++ [] = of_hart-other h e log [] other ∙ ap (λ (es : List LogEntry). of_hart h log ++ es) (of_hart-none h) in
        let sum = ap bytes_sent all ∙ bytes-append (of_hart h log) [] in
        let m = most h in
        omega (arith, sum, m)
