use Rattle.test_core.proofs.tests.working.crew_works.Given as goal

abbrev pub ghosts-counts_of-T-Ledger : goal.ghosts-counts_of-T-Ledger
ghosts-counts_of-T-Ledger g a = record { name = a.taken.name; parts = a.taken.parts }

abbrev pub ghosts-counts_of-C-Ledger : goal.ghosts-counts_of-C-Ledger
ghosts-counts_of-C-Ledger g a = record { name = a.completed.name; parts = a.completed.parts }

abbrev pub ghosts-counts_of-F-Ledger : goal.ghosts-counts_of-F-Ledger
ghosts-counts_of-F-Ledger g a = record { name = a.failed.name; parts = a.failed.parts }
