use Rattle.host_sim.proofs.tests.threads.count.Given as goal

-- the run of the bus that was made
abbrev pub ghosts-run_named : goal.ghosts-run_named
ghosts-run_named g a = record { run = a.plain.run }
