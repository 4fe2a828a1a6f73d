use Rattle.bench_trials.proofs.soak.serving.serve.Given as goal

abbrev pub ghosts-soak_with-T-Ledger : goal.ghosts-soak_with-T-Ledger
ghosts-soak_with-T-Ledger g a = record { name = a.taken.name; parts = a.taken.parts }

abbrev pub ghosts-soak_with-C-Ledger : goal.ghosts-soak_with-C-Ledger
ghosts-soak_with-C-Ledger g a = record { name = a.completed.name; parts = a.completed.parts }

abbrev pub ghosts-soak_with-F-Ledger : goal.ghosts-soak_with-F-Ledger
ghosts-soak_with-F-Ledger g a = record { name = a.failed.name; parts = a.failed.parts }
