use Rattle.std.proofs.Common.{◌≡◌, ◌++◌, drop}
use Rattle.std.specs.Prelude.{string_bytes}
use Rattle.wh_author_tools.specs.CommandTexts.{payloads_text}
use Rattle.wh_author_tools.proofs.texts.add_payloads.Given as goal

-- the text so far and that of the rest
abbrev pub invariant-loop-payload : goal.invariant-loop-payload
invariant-loop-payload l =
    string_bytes l.text ++ payloads_text (drop l.payload-index l.payloads)
    ≡ string_bytes l.initial.text ++ payloads_text l.payloads
