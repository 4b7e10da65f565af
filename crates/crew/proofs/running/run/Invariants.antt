use Rattle.crew.proofs.running.run.Given as goal

-- the run of the bus that was handed in
abbrev pub ghosts-run_named : goal.ghosts-run_named
ghosts-run_named g a = record { run = a.bus.run }
