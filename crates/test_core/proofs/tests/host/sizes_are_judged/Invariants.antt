use Rattle.test_core.proofs.tests.host.sizes_are_judged.Given as goal

abbrev pub ghosts-fault_of-T-Ledger : goal.ghosts-fault_of-T-Ledger
ghosts-fault_of-T-Ledger g a = record { name = a.taken.name; parts = a.taken.parts }

abbrev pub ghosts-fault_of-C-Ledger : goal.ghosts-fault_of-C-Ledger
ghosts-fault_of-C-Ledger g a = record { name = a.completed.name; parts = a.completed.parts }

abbrev pub ghosts-fault_of-F-Ledger : goal.ghosts-fault_of-F-Ledger
ghosts-fault_of-F-Ledger g a = record { name = a.failed.name; parts = a.failed.parts }
