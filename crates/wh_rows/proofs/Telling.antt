-- The answer to a query reads as the name of the state.
use Rattle.std.proofs.Common.{◌≡◌, ℕ, List, [], Option, Some, refl, sym, ap, ◌∙◌, arith, append-nil}
use Rattle.std.specs.Prelude.{option_and_then}
use Rattle.json.specs.Json.{Json, value, if_last}
use Rattle.json.specs.Lex.{tokens}
use Rattle.json.specs.Print.{ArePrintable}
use Rattle.json.specs.Token.{Token}
use Rattle.json.proofs.Printed.Tokens.{tokens-print}
use Rattle.json.proofs.Printed.Trees.{value-json_tokens}
use Rattle.serde_json.specs.Data.{Data, string}
use Rattle.serde_json.specs.Read.{of_json, read, max_depth}
use Rattle.serde_json.specs.Written.{compact_text, outline}
use Rattle.serde_json.proofs.Texts.{print-outline}
use Rattle.wh_rows.specs.Queries.{TellsItsState, state_json}

-- the value of all tokens of a text
abbrev whole : Option (Json × List Token) → Option Data
whole read = option_and_then of_json (option_and_then (λ parts. if_last parts.0 parts.1) read)

-- the text of a string reads as the string
read_string : (s : List ℕ) → read (compact_text (string s)) ≡ Some (string s)
unfolding ArePrintable
read_string s =
    ap (λ ts. whole (value max_depth ts))
    (ap tokens (sym (print-outline (string s))) ∙ tokens-print _ (tt, tt) ∙ sym (append-nil _))
    ∙ ap whole (value-json_tokens (outline (string s)) max_depth [] (omega arith))

pub tells_its_state : TellsItsState
tells_its_state state input = (state_json state, refl, read_string state.at)
