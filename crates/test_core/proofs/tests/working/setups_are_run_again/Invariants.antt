use Rattle.test_core.proofs.tests.working.setups_are_run_again.Given as goal

abbrev pub ghosts-counts_of_both-T-Ledger : goal.ghosts-counts_of_both-T-Ledger
ghosts-counts_of_both-T-Ledger g a = record { name = a.taken.name; parts = a.taken.parts }

abbrev pub ghosts-counts_of_both-C-Ledger : goal.ghosts-counts_of_both-C-Ledger
ghosts-counts_of_both-C-Ledger g a = record { name = a.completed.name; parts = a.completed.parts }

abbrev pub ghosts-counts_of_both-F-Ledger : goal.ghosts-counts_of_both-F-Ledger
ghosts-counts_of_both-F-Ledger g a = record { name = a.failed.name; parts = a.failed.parts }
