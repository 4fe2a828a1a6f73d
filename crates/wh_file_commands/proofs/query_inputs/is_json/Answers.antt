use Rattle.std.proofs.Common.{sym, ap}
use Rattle.std.specs.Prelude.{is_some}
use Rattle.wh_file_faults.proofs.Documents.{document-text, document-none}
use Rattle.wh_file_commands.proofs.query_inputs.is_json.Goals as goal

-- what was read is the value of the bytes
pub returns-in_default : goal.returns-in_default
returns-in_default c = sym (ap is_some (document-text _ _ c.in_default.ensures.ok.0 c.in_default.ensures.ok.1))

-- memory was not at fault, so the bytes have no value
pub returns-in_default-classify : goal.returns-in_default-classify
returns-in_default-classify c = sym (ap is_some (document-none _ (c.in-Err.ensures.err (λ memory. c.in_default-classify.not-Memory (c.classify.ensures.memory.1 memory)))))
