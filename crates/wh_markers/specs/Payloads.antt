-- Payloads as text.
use Rattle.std.specs.Prelude.{ℕ, List, [], ◌∷◌, ◌++◌, length, codes, decimal, nat_eq, Bool, Option, Some, None, option_and_then, option_map, unwrap_or, if◌then◌else◌}
use Rattle.std.specs.List.{starts_with}
use Rattle.std.specs.Result.{result_ok}
use Rattle.std.specs.Str.{is_utf8}
use Rattle.base64.specs.Engines.{standard}
use Rattle.base64.specs.GeneralPurpose.{decode_of}
use Rattle.serde_json.specs.Data.{Data}
use Rattle.serde_json.specs.Find.{as_str}
use Rattle.wh_json.specs.Fields.{field, list_in}

-- the bytes, if they are UTF-8
abbrev pub if_text : List ℕ → Option (List ℕ)
if_text bytes = if is_utf8 bytes then Some bytes else None

-- the text that is encoded in base64 (RFC 4648, section 4, with padding), if there is one
abbrev pub decoded : List ℕ → Option (List ℕ)
decoded content = option_and_then if_text (result_ok (decode_of standard content))

-- the content of a payload, if it is a text
abbrev pub decoded_text : Data → Option (List ℕ)
decoded_text d = option_and_then decoded (option_and_then as_str (field (codes "data") (Some d)))

-- the text of a member of a payload's metadata; empty if absent, or no text
abbrev pub metadata_text : Data → List ℕ → List ℕ
metadata_text d name =
    unwrap_or (option_and_then decoded (option_and_then as_str (field name (field (codes "metadata") (Some d))))) []

-- the encoding is of bytes that are no text
abbrev pub is_binary : List ℕ → Bool
is_binary encoding = starts_with nat_eq encoding (codes "binary/")

-- how many bytes are encoded in base64; none if that is absent
abbrev pub size_in : Option Data → Option ℕ
size_in None = Some 0
size_in (Some d) =
    option_and_then (λ content. option_map length (result_ok (decode_of standard content))) (as_str d)

-- a text after a space; nothing if it is empty
abbrev pub spaced : List ℕ → List ℕ
spaced [] = []
spaced (c ∷ cs) = codes " " ++ (c ∷ cs)

-- a payload of bytes: its encoding, the type of its message, and its size
abbrev pub binary_text : List ℕ → List ℕ → ℕ → List ℕ
binary_text encoding message_type size =
    encoding ++ (spaced message_type ++ (codes ", " ++ (decimal size ++ codes " bytes")))

-- a payload as text: its content if that is a text, or else what its bytes are; nothing if it is no payload
abbrev pub payload_text : Data → Option (List ℕ)
payload_text d =
    if is_binary (metadata_text d (codes "encoding"))
    then option_map (binary_text (metadata_text d (codes "encoding")) (metadata_text d (codes "messageType")))
    (size_in (field (codes "data") (Some d)))
    else decoded_text d

-- the list `payloads` of an object
abbrev pub payload_list : Data → Option (List Data)
payload_list d = option_and_then list_in (field (codes "payloads") (Some d))
