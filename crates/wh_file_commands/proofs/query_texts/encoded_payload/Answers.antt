use Rattle.std.proofs.Common.{refl}
use Rattle.wh_file_commands.proofs.query_texts.encoded_payload.Goals as goal

-- the text, with the base64 of the encoding and of the content in it
pub returns : goal.returns
returns c =
    let encoding = c.in_ok-encoding.ensures.text in
    let content = c.in_ok-content.ensures.text in
    let written = c.in_ok-format.ensures.ok in
    let first = c.get.ensures in
    let second = c.get-2.ensures in
    rw (written, content, encoding, first, second) refl
