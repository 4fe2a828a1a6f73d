use Rattle.test_core.proofs.tests.hosting.spent.Given as goal

abbrev pub ghosts-spend-T-Ledger : goal.ghosts-spend-T-Ledger
ghosts-spend-T-Ledger g a = record { name = a.taken.name; parts = a.taken.parts }

abbrev pub ghosts-spend-C-Ledger : goal.ghosts-spend-C-Ledger
ghosts-spend-C-Ledger g a = record { name = a.completed.name; parts = a.completed.parts }

abbrev pub ghosts-spend-F-Ledger : goal.ghosts-spend-F-Ledger
ghosts-spend-F-Ledger g a = record { name = a.failed.name; parts = a.failed.parts }
