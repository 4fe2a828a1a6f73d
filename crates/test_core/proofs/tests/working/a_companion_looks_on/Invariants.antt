use Rattle.test_core.proofs.tests.working.a_companion_looks_on.Given as goal

abbrev pub ghosts-counts_beside-T-Ledger : goal.ghosts-counts_beside-T-Ledger
ghosts-counts_beside-T-Ledger g a = record { name = a.taken.name; parts = a.taken.parts }

abbrev pub ghosts-counts_beside-C-Ledger : goal.ghosts-counts_beside-C-Ledger
ghosts-counts_beside-C-Ledger g a = record { name = a.completed.name; parts = a.completed.parts }

abbrev pub ghosts-counts_beside-F-Ledger : goal.ghosts-counts_beside-F-Ledger
ghosts-counts_beside-F-Ledger g a = record { name = a.failed.name; parts = a.failed.parts }
