use Rattle.std.proofs.Common.{◌≡◌, ◌∙◌, ℕ, List, Some, ap, rules, string_bytes}
use Rattle.std.specs.Prelude.{IsUtf8}
use Rattle.std.proofs.lemmas.Str.{is_utf8-from_IsUtf8, IsUtf8-had}
use Rattle.serde_json.specs.Data.{Data}
use Rattle.serde_json.specs.Read.{read}
use Rattle.wh_author_tools.specs.Values.{document}
use Rattle.wh_author_tools.proofs.json_writing.value_payload.Goals as goal

document_of : (bytes : List ℕ) (d : Data) → IsUtf8 bytes → read bytes ≡ Some d → document bytes ≡ Some d
unfolding document
document_of bytes d text is = rw (is_utf8-from_IsUtf8 bytes text) is

-- the text that was written reads as the value
pub returns-clause-read : goal.returns-clause-read
returns-clause-read c =
    let content = c.in_ok-content.content in
    let same : c.new-2.result ≡ string_bytes content = search rules in
    λ shallow. ap document same ∙ document_of (string_bytes content) _ (IsUtf8-had (string_bytes content) content.ok) (c.in_ok-content.ensures.reads_back shallow)
