use Rattle.wh_poll.proofs.hosting.run_host.Given as goal

abbrev pub ghosts-run_with-T-Ledger : goal.ghosts-run_with-T-Ledger
ghosts-run_with-T-Ledger g a = record { name = a.taken.name; parts = a.taken.parts }

abbrev pub ghosts-run_with-C-Ledger : goal.ghosts-run_with-C-Ledger
ghosts-run_with-C-Ledger g a = record { name = a.completed.name; parts = a.completed.parts }

abbrev pub ghosts-run_with-F-Ledger : goal.ghosts-run_with-F-Ledger
ghosts-run_with-F-Ledger g a = record { name = a.failed.name; parts = a.failed.parts }
