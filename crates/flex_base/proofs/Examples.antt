-- What the definitions say of some small programs, by computing.
use Rattle.std.proofs.Common.{◌≡◌, ℕ, zero, suc, true, false, List, [], ◌∷◌, Some, refl}
use Rattle.std.specs.Prelude.{slice_index_or}
use Rattle.flex_base.specs.Setup.{Setup}
use Rattle.flex_base.specs.Decoding.{imm_i, imm_s, imm_b, imm_u, imm_j, rows, decoded}
use Rattle.flex_base.specs.Csrs as csrs
use Rattle.flex_base.specs.Csrs.{row_of, csr_read, csr_write}
use Rattle.flex_base.specs.Traps.{trap, count, takeable}
use Rattle.flex_base.specs.Translating.{walks, translates}
use Rattle.flex_base.specs.Devices.{device_stop}
use Rattle.flex_base.specs.Unsplit.{Made, does, instruction_at, reach, reach_from, has_ended, unsplit}
use Rattle.flex_base.specs.Rounds.{repeated, names_played}
use Rattle.flex_base.specs.Journal.{sent}
use Rattle.flex_base.specs.declared.access.Access.{Access}
use Rattle.flex_base.specs.declared.access.Access.TheVariants as acc
use Rattle.flex_base.specs.declared.event.Stop.TheVariants as stop
use Rattle.flex_base.specs.declared.event.What.TheVariants as what

-- a run of so many harts with these bytes at the start of 1 MiB of RAM
abbrev setup_of : ℕ → ℕ → List ℕ → List ℕ → Setup
setup_of harts budget input bytes = record {
  image = record { entry = 2147483648; parts = (2147483648, bytes) ∷ [] };
  harts = harts;
  ram = 1048576;
  budget = budget;
  input = input;
}

-- the same name, so many times
abbrev times : ℕ → ℕ → List ℕ
times zero h = []
times (suc n) h = h ∷ times n h

-- an access of hart 0, and what it is told
abbrev told : Access → ℕ → ℕ → Made
told access value lines = does 0 (what.Acc access (record { value = value; lines = lines; stop = false }))

-- the event of this number in the rounds
abbrev event_at : Setup → ℕ → Made
event_at setup n = slice_index_or (unsplit setup (names_played setup [])) n (told acc.Time 0 0)

-- A hart that waits for its timer, which has no compare value: nothing can wake it.
abbrev waits_for_ever : Setup
waits_for_ever = setup_of 1 6 [] (
    147 ∷ 3 ∷ 0 ∷ 8  -- li t2, 0x80
    ∷ 115 ∷ 144 ∷ 67 ∷ 48  -- csrw mie, t2
    ∷ 115 ∷ 0 ∷ 80 ∷ 16  -- wfi
    ∷ []
    )

waits_for_ever_is : (names_played waits_for_ever [] ≡ times 7 0)
    × (event_at waits_for_ever 6
    ≡ does 0 (what.Acc (acc.Wait 128) (record { value = 1; lines = 0; stop = true })))
    × (device_stop 1 (reach waits_for_ever (times 7 0)).devices ≡ Some stop.Idle)
unfolding reach_from repeated imm_i imm_s imm_b imm_u imm_j rows decoded csrs.rows row_of csr_read csr_write trap count takeable walks translates sent
waits_for_ever_is = (refl, refl, refl)

-- With a compare value time jumps there, and the wait is told the line at once.
abbrev waits_for_timer : Setup
waits_for_timer = setup_of 1 6 [] (
    183 ∷ 66 ∷ 0 ∷ 2  -- lui t0, 0x2004
    ∷ 19 ∷ 3 ∷ 128 ∷ 62  -- li t1, 1000
    ∷ 35 ∷ 176 ∷ 98 ∷ 0  -- sd t1, 0(t0)
    ∷ 147 ∷ 3 ∷ 0 ∷ 8  -- li t2, 0x80
    ∷ 115 ∷ 144 ∷ 67 ∷ 48  -- csrw mie, t2
    ∷ 115 ∷ 0 ∷ 80 ∷ 16  -- wfi
    ∷ []
    )

waits_for_timer_is : (names_played waits_for_timer [] ≡ times 17 0)
    × (event_at waits_for_timer 5 ≡ told (acc.DevWrite 0x02004000 8 1000) 0 0)
    × (event_at waits_for_timer 14 ≡ told (acc.Wait 128) 0 128)
    × (event_at waits_for_timer 16 ≡ told acc.Retire 0 0)
    × ((instruction_at (reach waits_for_timer (times 16 0)) 0).state.lines ≡ 128)
    × (device_stop 1 (reach waits_for_timer (times 17 0)).devices ≡ Some stop.Budget)
unfolding reach_from repeated imm_i imm_s imm_b imm_u imm_j rows decoded csrs.rows row_of csr_read csr_write trap count takeable walks translates sent
waits_for_timer_is = (refl, refl, refl, refl, refl, refl)

-- Hart 0 waits until hart 1 wakes it by its software interrupt bit; then hart 1 waits for ever.
abbrev wakes_another : Setup
wakes_another = setup_of 2 6 [] (
    115 ∷ 80 ∷ 68 ∷ 48  -- csrwi mie, 8
    ∷ 99 ∷ 8 ∷ 5 ∷ 0  -- beqz a0, 16
    ∷ 183 ∷ 2 ∷ 0 ∷ 2  -- lui t0, 0x2000
    ∷ 19 ∷ 3 ∷ 16 ∷ 0  -- li t1, 1
    ∷ 35 ∷ 160 ∷ 98 ∷ 0  -- sw t1, 0(t0)
    ∷ 115 ∷ 0 ∷ 80 ∷ 16  -- wfi
    ∷ []
    )

wakes_another_is : (names_played wakes_another []
    ≡ 0 ∷ 0 ∷ 1 ∷ 1 ∷ 0 ∷ 0 ∷ 0 ∷ 1 ∷ 1 ∷ 1 ∷ 0 ∷ 0 ∷ 1 ∷ 1 ∷ 1 ∷ 1 ∷ 1 ∷ 1 ∷ 1 ∷ 0 ∷ 0 ∷ 1 ∷ 1 ∷ 1 ∷ 0 ∷ 0 ∷ 0 ∷ 0 ∷ 0 ∷ [])
    × (event_at wakes_another 11 ≡ told (acc.Wait 8) 1 0)
    × (event_at wakes_another 19 ≡ told (acc.Pulse false) 0 8)
    × (has_ended wakes_another (reach wakes_another (names_played wakes_another [])) ≡ true)
    × (device_stop 2 (reach wakes_another (names_played wakes_another [])).devices ≡ Some stop.Idle)
unfolding reach_from repeated imm_i imm_s imm_b imm_u imm_j rows decoded csrs.rows row_of csr_read csr_write trap count takeable walks translates sent
wakes_another_is = (refl, refl, refl, refl, refl)

-- A hart that sends what it is sent, and turns the power off.
abbrev echoes : Setup
echoes = setup_of 1 20 (72 ∷ 105 ∷ []) (
    183 ∷ 2 ∷ 0 ∷ 16  -- lui t0, 0x10000
    ∷ 3 ∷ 195 ∷ 2 ∷ 0  -- lbu t1, 0(t0)
    ∷ 35 ∷ 128 ∷ 98 ∷ 0  -- sb t1, 0(t0)
    ∷ 183 ∷ 3 ∷ 16 ∷ 0  -- lui t2, 0x100
    ∷ 55 ∷ 94 ∷ 0 ∷ 0  -- lui t3, 5
    ∷ 19 ∷ 14 ∷ 94 ∷ 85  -- addi t3, t3, 0x555
    ∷ 35 ∷ 160 ∷ 195 ∷ 1  -- sw t3, 0(t2)
    ∷ []
    )

echoes_is : (names_played echoes [] ≡ times 20 0)
    × (sent (unsplit echoes (times 20 0)) ≡ 72 ∷ [])
    × (device_stop 1 (reach echoes (times 20 0)).devices ≡ Some (stop.Off 0))
unfolding reach_from repeated imm_i imm_s imm_b imm_u imm_j rows decoded csrs.rows row_of csr_read csr_write trap count takeable walks translates sent
echoes_is = (refl, refl, refl)
