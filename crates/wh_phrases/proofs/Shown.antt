-- Sides that are shown with their encodings.
use Rattle.std.proofs.Common.{◌≡◌, ◌∙◌, ◌++◌, ℕ, true, false, cond, List, [], ◌∷◌, ap, codes, refl, sym}
use Rattle.std.specs.Prelude.{◌≢◌, IsUtf8, bytes_eq}
use Rattle.std.proofs.lemmas.List.{append-nil, append_cancel_left, append_cancel_right}
use Rattle.std.proofs.lemmas.Slice.Eq.{bytes_eq-Decides}
use Rattle.std.proofs.lemmas.Str.{is_utf8-from_IsUtf8}
use Rattle.base64.specs.Engines.{standard}
use Rattle.base64.specs.GeneralPurpose.{encode_of}
use Rattle.wh_phrases.specs.ValueSides.{EncodingsAreShown, bytes_text, encoding_text, payload_text, side_text}

-- a text is shown as it is
text_shown : (bytes : List ℕ) → IsUtf8 bytes → bytes_text bytes ≡ bytes
text_shown bytes is = ap (λ b. cond b bytes (encode_of standard bytes)) (is_utf8-from_IsUtf8 bytes is)

-- encodings that are shown alike are the same
same_encoding : (one other : List ℕ) → one ≢ [] → other ≢ [] → IsUtf8 one → IsUtf8 other → encoding_text one ≡ encoding_text other → one ≡ other
same_encoding [] other some more is too h = absurd (some refl)
same_encoding (c ∷ cs) [] some more is too h = absurd (more refl)
same_encoding (c ∷ cs) (d ∷ ds) some more is too h =
    let inner = append_cancel_left (codes " (") (bytes_text (c ∷ cs) ++ codes ")") (bytes_text (d ∷ ds) ++ codes ")") h in
    sym (text_shown (c ∷ cs) is) ∙ append_cancel_right (bytes_text (c ∷ cs)) (bytes_text (d ∷ ds)) (codes ")") inner ∙ text_shown (d ∷ ds) too

same_text : (one other : List ℕ) → one ≡ other → bytes_eq one other ≡ true
same_text one other is = (bytes_eq-Decides one other).1 is

pub encodings_shown : EncodingsAreShown
encodings_shown one other same differ named too =
    let content = ap bytes_text same in (
      same_text (side_text false (one ∷ [])) (side_text false (other ∷ [])) (ap (λ (l : List ℕ). l ++ []) content),
      (λ shown.
          let own = sym (append-nil (payload_text true one)) ∙ shown ∙ append-nil (payload_text true other) in
          let moved : bytes_text other.content ++ encoding_text one.encoding ≡ bytes_text other.content ++ encoding_text other.encoding
          = ap (λ (l : List ℕ). l ++ encoding_text one.encoding) (sym content) ∙ own in
          differ (same_encoding one.encoding other.encoding named.0 too.0 named.1 too.1
          (append_cancel_left (bytes_text other.content) (encoding_text one.encoding) (encoding_text other.encoding) moved))),
    )
