-- How JSON-RPC 2.0 writes what the bridge says.
use Rattle.std.specs.Prelude.{◌≡◌, ℕ, ◌<◌, ◌≤◌, ◌^◌, ℤ, pos, negsuc, List, length, codes, Some, Ok, ⊤, IsUtf8}
use Rattle.serde_json.specs.Data.{Data, number, unsigned, string, object, member, no_members}
use Rattle.serde_json.specs.Find.{of_integer}
use Rattle.serde_json.specs.Read.{read}
use Rattle.wh_rpc.specs.Responses.{Meaning, answers, shutdown, given, refused, meaning, longest}

abbrev pub error_data : ℤ → List ℕ → Data
error_data code message =
    object (member (codes "code") (number (of_integer code)) (member (codes "message") (string message) no_members))

-- a response or a shutdown, its members in the order of their keys
abbrev pub written : Meaning → Data
written (answers id (given result)) =
    object (member (codes "id") (number (unsigned id)) (member (codes "jsonrpc") (string (codes "2.0"))
    (member (codes "result") result no_members)))
written (answers id (refused code message)) =
    object (member (codes "error") (error_data code message) (member (codes "id") (number (unsigned id))
    (member (codes "jsonrpc") (string (codes "2.0")) no_members)))
written shutdown =
    object (member (codes "jsonrpc") (string (codes "2.0"))
    (member (codes "method") (string (codes "shutdown")) no_members))

-- the number fits in 64 bits, signed
abbrev pub IsShort : ℤ → Type 0
IsShort (pos n) = n < 2 ^ 63
IsShort (negsuc n) = n < 2 ^ 63

-- the code of an error fits in 64 bits
abbrev pub HasShortCode : Meaning → Type 0
HasShortCode (answers id (given result)) = ⊤
HasShortCode (answers id (refused code message)) = IsShort code
HasShortCode shutdown = ⊤

-- a text that parses as a written response or shutdown means that response or shutdown
abbrev pub WrittenLinesReadBack : Type 0
WrittenLinesReadBack =
    (said : Meaning) (bytes : List ℕ) → HasShortCode said → length bytes ≤ longest → IsUtf8 bytes
    → read bytes ≡ Some (written said) → meaning bytes ≡ Ok said
