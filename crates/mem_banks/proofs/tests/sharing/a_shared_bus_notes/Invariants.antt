use Rattle.mem_banks.proofs.tests.sharing.a_shared_bus_notes.Given as goal

-- the run of the bus that was made
abbrev pub ghosts-count_named : goal.ghosts-count_named
ghosts-count_named g a = record { run = a.plain.run }
