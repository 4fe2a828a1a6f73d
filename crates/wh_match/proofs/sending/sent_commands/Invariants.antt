use Rattle.std.proofs.Common.{◌≡◌, ◌++◌, take, drop}
use Rattle.wh_match.specs.Issuing.{sent_by, reduced_by}
use Rattle.wh_match.proofs.sending.sent_commands.Given as goal

abbrev pub invariant-loop-place : goal.invariant-loop-place
invariant-loop-place l = l.sent.items ++ sent_by (take l.place l.issued) (drop l.place l.late) (drop l.place l.issued) ≡ reduced_by l.late l.issued
