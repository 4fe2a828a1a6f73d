use Rattle.test_core.proofs.tests.ledger.totals_are_sums.Given as goal

abbrev pub ghosts-day-T-Ledger : goal.ghosts-day-T-Ledger
ghosts-day-T-Ledger g a = record { name = a.taken.name; parts = a.taken.parts }

abbrev pub ghosts-day-C-Ledger : goal.ghosts-day-C-Ledger
ghosts-day-C-Ledger g a = record { name = a.completed.name; parts = a.completed.parts }

abbrev pub ghosts-day-F-Ledger : goal.ghosts-day-F-Ledger
ghosts-day-F-Ledger g a = record { name = a.failed.name; parts = a.failed.parts }
