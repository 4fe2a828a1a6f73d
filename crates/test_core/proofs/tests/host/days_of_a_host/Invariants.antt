use Rattle.test_core.proofs.tests.host.days_of_a_host.Given as goal

abbrev pub ghosts-day_text-T-Ledger : goal.ghosts-day_text-T-Ledger
ghosts-day_text-T-Ledger g a = record { name = a.taken.name; parts = a.taken.parts }

abbrev pub ghosts-day_text-C-Ledger : goal.ghosts-day_text-C-Ledger
ghosts-day_text-C-Ledger g a = record { name = a.completed.name; parts = a.completed.parts }

abbrev pub ghosts-day_text-F-Ledger : goal.ghosts-day_text-F-Ledger
ghosts-day_text-F-Ledger g a = record { name = a.failed.name; parts = a.failed.parts }
