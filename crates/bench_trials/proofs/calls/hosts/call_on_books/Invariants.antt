use Rattle.bench_trials.proofs.calls.hosts.call_on_books.Given as goal

abbrev pub ghosts-call_over-T-Ledger : goal.ghosts-call_over-T-Ledger
ghosts-call_over-T-Ledger g a = record { name = a.taken.name; parts = a.taken.parts }

abbrev pub ghosts-call_over-C-Ledger : goal.ghosts-call_over-C-Ledger
ghosts-call_over-C-Ledger g a = record { name = a.completed.name; parts = a.completed.parts }

abbrev pub ghosts-call_over-F-Ledger : goal.ghosts-call_over-F-Ledger
ghosts-call_over-F-Ledger g a = record { name = a.failed.name; parts = a.failed.parts }
