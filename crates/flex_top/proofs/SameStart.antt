-- The run of an image is that of each image with the same start.
use Rattle.std.proofs.Common.{◌≡◌, ℕ, ◌+◌, Bool, false, nat_lt, ◌&&◌, ◌==◌, if◌then◌else◌, List, [], ◌∷◌, ◌++◌, Option, None, Some, map, fold, refl, ap, sym, ◌∙◌}
use Rattle.std.specs.Prelude.{is_some}
use Rattle.std.specs.List.{list_all, range_with_len}
use Rattle.std.proofs.Math.Path.{fun_ext}
use Rattle.flex_base.specs.Causes.{instruction_access_fault}
use Rattle.flex_base.specs.Devices.{device_stop, reply_after, sent_bytes}
use Rattle.flex_base.specs.Ends.{traps}
use Rattle.flex_base.specs.FlatMemory.{Done, is_ram_access, byte, left_by, flat, read_at, reply_with, value_at}
use Rattle.flex_base.specs.Journal.{IsLegal, order_of}
use Rattle.flex_base.specs.Loaded.{Loaded}
use Rattle.flex_base.specs.Place.{in_ram, ram_base}
use Rattle.flex_base.specs.Rounds.{turn, turn_of, turns, repeated, most_rounds, names_played}
use Rattle.flex_base.specs.Setup.{Setup}
use Rattle.flex_base.specs.State.{State, start}
use Rattle.flex_base.specs.Decoding.{decoded}
use Rattle.flex_base.specs.Story.{works, fetches_at, interrupted_by, begins, after_pulse, pulses, story, is_tick}
use Rattle.flex_base.specs.StoryTree.{Want, Asks, Ends, IsOver, IsParked, Story, Says, Closes, StaysOver, Parks, goes, want}
use Rattle.flex_base.specs.Translating.{translates}
use Rattle.flex_base.specs.Traps.{takeable}
use Rattle.flex_base.specs.Unsplit.{Machine, instruction_from, instruction_at, begin, story_of, is_idle, is_woken_in, resumes, next_of, reply_to, makes, make, step, reach_from, reach, has_ended, hart_numbers}
use Rattle.flex_base.specs.declared.access.Access.{Access}
use Rattle.flex_base.specs.declared.access.Access.TheVariants as acc
use Rattle.flex_base.specs.declared.access.Reply.{Reply}
use Rattle.flex_base.specs.declared.event.Event.{Event}
use Rattle.flex_base.specs.declared.operation.Op.{Op}
use Rattle.flex_base.specs.declared.operation.Op.TheVariants as op
use Rattle.flex_base.specs.declared.settings.Settings.{Settings}
use Rattle.flex_base.specs.declared.translation.Kind.TheVariants as kind
use Rattle.image_loader.specs.Loading.{IsSameStart}
use Rattle.tracer.specs.Tail.{tail_lines}
use Rattle.tracer.specs.Trace.{ram_bytes, tail_of, whole_text}
use Rattle.tracer.specs.declared.tail_text.TailLine.{TailLine}
use Rattle.flex_top.specs.Answer.{setup_of, outcome_with}
use Rattle.flex_top.specs.Ended.{outcome_at}

module _ (one other : Loaded) (input : List ℕ) (settings : Settings) (same : IsSameStart one other) where
  abbrev here : Setup
  here = setup_of one input settings

  abbrev there : Setup
  there = setup_of other input settings

  -- The story of an instruction doesn't look at the image.

  works_same : (a : State) (word : ℕ) (o : Op) → works here a word o ≡ works there a word o
  works_same a word (op.Lui rd imm) = refl
  works_same a word (op.Auipc rd imm) = refl
  works_same a word (op.AluImm does rd rs1 imm) = refl
  works_same a word (op.AluReg does rd rs1 rs2) = refl
  works_same a word (op.Muldiv does rd rs1 rs2) = refl
  works_same a word (op.Jal rd imm) = refl
  works_same a word (op.Jalr rd rs1 imm) = refl
  works_same a word (op.Branch compares rs1 rs2 imm) = refl
  works_same a word (op.Load width signed rd rs1 imm) = refl
  works_same a word (op.Store width rs1 rs2 imm) = refl
  works_same a word (op.Lr width rd rs1 aq rl) = refl
  works_same a word (op.Sc width rd rs1 rs2 aq rl) = refl
  works_same a word (op.Amo does width rd rs1 rs2 aq rl) = refl
  works_same a word (op.Fence free) = refl
  works_same a word (op.FenceI free) = refl
  works_same a word (op.Csr does rd rs1 number) = refl
  works_same a word op.Ecall = refl
  works_same a word op.Ebreak = refl
  works_same a word op.Mret = refl
  works_same a word op.Sret = refl
  works_same a word op.Wfi = refl
  works_same a word (op.SfenceVma rs1 rs2) = refl
  works_same a word (op.Illegal whole) = refl

  fetches_at_same : (a : State) (address : ℕ) → fetches_at here a address ≡ fetches_at there a address
  fetches_at_same a address =
      ap (λ (next : Reply → Story). if in_ram settings.ram address 4 then Says (acc.Fetch address) next else traps a instruction_access_fault a.pc)
      (fun_ext (λ (reply : Reply). works_same a reply.value (decoded reply.value)))

  interrupted_by_same : (a : State) (cause : Option ℕ) → interrupted_by here a cause ≡ interrupted_by there a cause
  interrupted_by_same a None = ap (translates settings.ram a kind.Fetch a.pc) (fun_ext (λ (b : State). fun_ext (λ (address : ℕ). fetches_at_same b address)))
  interrupted_by_same a (Some cause) = refl

  begins_same : (a : State) → begins here a ≡ begins there a
  begins_same a = interrupted_by_same a (takeable a.csrs a.lines a.mode)

  after_pulse_same : (a : State) (reply : Reply) → after_pulse here a reply ≡ after_pulse there a reply
  after_pulse_same a reply = ap (λ (s : Story). if reply.stop then StaysOver else s) (begins_same (record a { lines = reply.lines }))

  pulses_same : (a : State) → pulses here a ≡ pulses there a
  pulses_same a =
      ap (λ (next : Reply → Story). if a.due then Says (acc.Pulse (is_tick a)) next else begins here a) (fun_ext (λ (reply : Reply). after_pulse_same a reply))
      ∙ ap (λ (s : Story). if a.due then Says (acc.Pulse (is_tick a)) (after_pulse there a) else s) (begins_same a)

  story_same : (a : State) → story here a ≡ story there a
  story_same a = ap (λ (s : Story). if a.ends == settings.budget then Says acc.Retire (λ reply. StaysOver) else s) (pulses_same a)

  -- Memory's replies are those of the same bytes.

  byte_same : (made : List Done) → byte one made ≡ byte other made
  byte_same made = fun_ext (λ (a : ℕ). ap (λ first. fold (λ old (d : Done). left_by a old d.access d.reply) first made) (same.bytes a))

  read_same : (made : List Done) (address width : ℕ) → read_at one made address width ≡ read_at other made address width
  read_same made address width = ap (λ (f : ℕ → ℕ). reply_with (value_at f address width)) (byte_same made)

  flat_same : (made : List Done) (h : ℕ) (access : Access) → flat one made h access ≡ flat other made h access
  flat_same made h (acc.Fetch address) = read_same made address 4
  flat_same made h (acc.Pte address) = read_same made address 8
  flat_same made h (acc.Read address width) = read_same made address width
  flat_same made h (acc.Lr address width) = read_same made address width
  flat_same made h (acc.Amo does address width value) = read_same made address width
  flat_same made h (acc.Sc address width value) = refl
  flat_same made h other = refl

  reply_same : (u : Machine) (h : ℕ) (access : Access) → reply_to here u h access ≡ reply_to there u h access
  reply_same u h access = ap (λ (r : Reply). if is_ram_access access then r else reply_after settings.harts input u.devices h access) (flat_same u.ram h access)

  -- Steps and orders.

  story_of_same : (u : Machine) (h : ℕ) → story_of here u h ≡ story_of there u h
  story_of_same u h = ap (λ (s : Story). goes s (instruction_at u h).replies) (story_same (instruction_at u h).state)

  next_same : (u : Machine) (h : ℕ) → next_of here u h ≡ next_of there u h
  next_same u h = ap (λ (s : Story). resumes (want s) (is_woken_in here u h)) (story_of_same u h)

  make_same : (u : Machine) (h : ℕ) (w : Want) → make here u h w ≡ make there u h w
  make_same u h (Asks access) = ap (makes u h access) (reply_same u h access)
  make_same u h (Ends part next) = refl
  make_same u h IsOver = refl
  make_same u h IsParked = refl

  step_same : (u : Machine) (h : ℕ) → step here u h ≡ step there u h
  step_same u h = ap (λ (m : Machine). if nat_lt h settings.harts then m else u) (make_same u h (next_of here u h) ∙ ap (make there u h) (next_same u h))

  reach_from_same : (u : Machine) (order : List ℕ) → reach_from here u order ≡ reach_from there u order
  unfolding reach_from
  reach_from_same u order = ap (λ (f : Machine → ℕ → Machine). fold f u order) (fun_ext (λ (m : Machine). fun_ext (λ (h : ℕ). step_same m h)))

  begin_same : begin here ≡ begin there
  begin_same =
      let From : ℕ → Machine = λ entry. record { harts = map (λ h. instruction_from (start h entry)) (range_with_len 0 settings.harts); ram = []; devices = []; events = [] } in
      ap From same.entry

  pub reach_same : (order : List ℕ) → reach here order ≡ reach there order
  reach_same order = reach_from_same (begin here) order ∙ ap (λ (u : Machine). reach_from there u order) begin_same

  -- Turns and rounds.

  turn_same : (u : Machine) (h : ℕ) (s : Story) → turn here u h s ≡ turn there u h s
  turn_same u h (Says access next) =
      let reply = reply_to here u h access in
      ap (λ (ns : List ℕ). h ∷ ns)
      (turn_same (step here u h) h (next reply)
      ∙ ap (λ (m : Machine). turn there m h (next reply)) (step_same u h)
      ∙ ap (λ (r : Reply). turn there (step there u h) h (next r)) (reply_same u h access))
  turn_same u h (Closes part after) = refl
  turn_same u h StaysOver = refl
  turn_same u h (Parks wakes) =
      let reply = reply_to here u h (acc.Pulse false) in
      ap (λ (ns : List ℕ). if is_woken_in here u h then h ∷ (if reply.stop then [] else ns) else [])
      (turn_same (step here u h) h (wakes reply.lines) ∙ ap (λ (m : Machine). turn there m h (wakes reply.lines)) (step_same u h))

  turn_of_same : (u : Machine) (h : ℕ) → turn_of here u h ≡ turn_of there u h
  turn_of_same u h = turn_same u h (story_of here u h) ∙ ap (turn there u h) (story_of_same u h)

  pub ended_same : (u : Machine) → has_ended here u ≡ has_ended there u
  ended_same u =
      ap (λ (idle : ℕ → Bool). is_some (device_stop settings.harts u.devices) && list_all idle (range_with_len 0 settings.harts))
      (fun_ext (λ (h : ℕ). ap (λ (s : Story). is_idle (want s)) (story_of_same u h)))

  turns_same : (u : Machine) (harts : List ℕ) → turns here u harts ≡ turns there u harts
  turns_same u [] = refl
  turns_same u (h ∷ harts) =
      let first = turn_of here u h in
      let rest = turns here (reach_from here u first) harts in
      let same_rest = turns_same (reach_from here u first) harts ∙ ap (λ (m : Machine). turns there m harts) (reach_from_same u first ∙ ap (reach_from there u) (turn_of_same u h)) in
      ap (λ b. if b then [] else first ++ rest) (ended_same u)
      ∙ ap (λ (ns : List ℕ). if has_ended there u then [] else ns ++ rest) (turn_of_same u h)
      ∙ ap (λ (ns : List ℕ). if has_ended there u then [] else turn_of there u h ++ ns) same_rest

  names_same : (order : List ℕ) → names_played here order ≡ names_played there order
  names_same order =
      let harts = repeated (most_rounds here) (hart_numbers here) in
      ap (λ (ns : List ℕ). order ++ ns) (turns_same (reach here order) harts ∙ ap (λ (m : Machine). turns there m harts) (reach_same order))

  pub played_same : (order : List ℕ) → reach here (names_played here order) ≡ reach there (names_played there order)
  played_same order = reach_same (names_played here order) ∙ ap (reach there) (names_same order)

  -- a legal journal of the one is legal of the other
  pub legal_same : (journal : List Event) → IsLegal there journal → IsLegal here journal
  legal_same journal legal = record {
    numbers = legal.numbers;
    events = legal.events ∙ sym (ap (λ (u : Machine). u.events) (reach_same (order_of journal)));
  }

  -- What is left.

  tail_same : (u : Machine) → tail_of here u ≡ tail_of there u
  unfolding ram_bytes
  tail_same u =
      ap (λ (f : ℕ → ℕ). tail_lines (device_stop settings.harts u.devices) settings.harts (λ h. (instruction_at u h).state) (map (λ i. f (ram_base + i)) (range_with_len 0 settings.ram)))
      (byte_same u.ram)

  -- what is left in a state, with a journal that the state tells
  pub outcome_same : (journal : Machine → List Event) (u v : Machine) (name : List ℕ) → u ≡ v → outcome_at (journal u) here u name ≡ outcome_at (journal v) there v name
  outcome_same journal u v name same_state =
      ap (λ (tail : List TailLine). outcome_with (sent_bytes u.devices) name (whole_text settings (journal u) tail)) (tail_same u)
      ∙ ap (λ (m : Machine). outcome_at (journal m) there m name) same_state
