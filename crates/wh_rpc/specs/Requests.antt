-- Requests of JSON-RPC 2.0, and texts that are one line.
use Rattle.std.specs.Prelude.{ℕ, ◌≤◌, List, [], ◌∷◌, codes}
use Rattle.serde_json.specs.Data.{Data, number, unsigned, string, object, member, no_members}

-- a request, its members in the order of their keys
abbrev pub request_data : ℕ → List ℕ → Data → Data
request_data id method params =
    object (member (codes "id") (number (unsigned id)) (member (codes "jsonrpc") (string (codes "2.0"))
    (member (codes "method") (string method) (member (codes "params") params no_members))))

-- no byte is a control character, so none ends a line
abbrev pub IsOneLine : List ℕ → Type 0
IsOneLine [] = Unit {0}
IsOneLine (byte ∷ bytes) = (32 ≤ byte) × IsOneLine bytes
