-- Payloads as text.
use Rattle.std.specs.Prelude.{◌≡◌, ◌≢◌, ℕ, Bool, true, false, List, [], ◌∷◌, ◌++◌, bytes_eq, codes, IsUtf8, if◌then◌else◌}
use Rattle.std.specs.List.{flat_map}
use Rattle.std.specs.Str.{is_utf8}
use Rattle.base64.specs.Engines.{standard}
use Rattle.base64.specs.GeneralPurpose.{encode_of}
use Rattle.wh_events.specs.declared.event.Payload.{Payload}

-- bytes as a text: themselves, if they are one in UTF-8, and else their base64
abbrev pub bytes_text : List ℕ → List ℕ
bytes_text bytes = if is_utf8 bytes then bytes else encode_of standard bytes

-- an encoding after the content that has it
abbrev pub encoding_text : List ℕ → List ℕ
encoding_text [] = codes " (no encoding)"
encoding_text (c ∷ cs) = codes " (" ++ (bytes_text (c ∷ cs) ++ codes ")")

-- the content of a payload, and its encoding if encodings are shown
abbrev pub payload_text : (encoded : Bool) → Payload → List ℕ
payload_text true payload = bytes_text payload.content ++ encoding_text payload.encoding
payload_text false payload = bytes_text payload.content

-- a payload after others
abbrev pub after_comma : (encoded : Bool) → Payload → List ℕ
after_comma encoded payload = codes ", " ++ payload_text encoded payload

-- payloads with commas between them, and `nothing` if there is none
abbrev pub side_text : (encoded : Bool) → List Payload → List ℕ
side_text encoded [] = codes "nothing"
side_text encoded (first ∷ others) = payload_text encoded first ++ flat_map (after_comma encoded) others

-- the payloads of two sides have one text if no encoding is shown
abbrev pub look_alike : (one other : List Payload) → Bool
look_alike one other = bytes_eq (side_text false one) (side_text false other)

-- ---- Laws

-- a payload names its encoding by a text
abbrev pub IsNamed : Payload → Type 0
IsNamed payload = (payload.encoding ≢ []) × IsUtf8 payload.encoding

-- sides of one payload each that differ in its encoding alone look alike, and have different texts with their encodings
abbrev pub EncodingsAreShown : Type 0
EncodingsAreShown =
    (one other : Payload) → one.content ≡ other.content → one.encoding ≢ other.encoding → IsNamed one → IsNamed other
    → (look_alike (one ∷ []) (other ∷ []) ≡ true)
    × (side_text true (one ∷ []) ≢ side_text true (other ∷ []))
