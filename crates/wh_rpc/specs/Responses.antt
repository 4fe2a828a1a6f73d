-- What the lines of the bridge say.
use Rattle.std.specs.Prelude.{◌≡◌, ◌≢◌, ℕ, ℤ, ◌&&◌, List, Bool, true, false, codes, Option, Some, None, Result, Ok, Err, nat_lt, length, is_some, option_and_then, string_bytes, if◌then◌else◌}
use Rattle.std.specs.Option.{ok_or}
use Rattle.std.specs.Str.{bytes_eq, is_utf8}
use Rattle.json.specs.Json as json
use Rattle.json.specs.Lex.{tokens}
use Rattle.serde_json.specs.Data.{Data}
use Rattle.serde_json.specs.Find.{get, as_number, as_u64, as_i64, as_str, as_object}
use Rattle.serde_json.specs.Read.{max_depth, read}
use Rattle.serde_json.specs.View.{view}
use Rattle.wh_rpc.specs.declared.bad_line.BadLine.{BadLine}
use Rattle.wh_rpc.specs.declared.bad_line.BadLine.TheVariants as bad
use Rattle.wh_rpc.specs.declared.response.CallResult.{CallResult}
use Rattle.wh_rpc.specs.declared.response.CallResult.TheVariants.{Given, Refused}
use Rattle.wh_rpc.specs.declared.response.Response.{Response}
use Rattle.wh_rpc.specs.declared.response.RpcMessage.{RpcMessage}
use Rattle.wh_rpc.specs.declared.response.RpcMessage.TheVariants as lines

-- ---- Lines as data

-- the outcome of a response
pub data Answer : Type 0 where
  given : Data → Answer
  refused : ℤ → List ℕ → Answer

-- what a line says: the answer to the call of an id, or that the bridge shuts down
pub data Meaning : Type 0 where
  answers : ℕ → Answer → Meaning
  shutdown : Meaning

abbrev pub answer_seen : CallResult → Answer
answer_seen (Given value) = given (view value)
answer_seen (Refused code message) = refused code (string_bytes message)

abbrev pub response_seen : Response → Meaning
response_seen response = answers response.id (answer_seen response.outcome)

abbrev pub line_seen : RpcMessage → Meaning
line_seen (lines.Response response) = response_seen response
line_seen lines.Shutdown = shutdown

-- ---- Reading

-- continue with the value, or stop with the fault
infixl 10 ◌>>=◌
abbrev pub ◌>>=◌ : {A B : Type 0} → Result A BadLine → (A → Result B BadLine) → Result B BadLine
(Ok x) >>= f = f x
(Err e) >>= f = Err e

-- the function's result, seen by view, is what reading yields, unless memory ran out
abbrev pub Gives : {X Y : Type 0} → (X → Y) → Result X BadLine → Result Y BadLine → Type 0
Gives view (Ok x) read = read ≡ Ok (view x)
Gives view (Err e) read = e ≢ bad.OutOfMemory → read ≡ Err e

-- the code of an error: a signed 64-bit number
abbrev pub code_of : Data → Option ℤ
code_of error = option_and_then as_i64 (option_and_then as_number (get (codes "code") error))

abbrev pub message_of : Data → Option (List ℕ)
message_of error = option_and_then as_str (get (codes "message") error)

-- an error has a code and a message
unfoldable pub refusal_of : Data → Result Answer BadLine
refusal_of error = do
  code ← ok_or (code_of error) bad.BadError
  message ← ok_or (message_of error) bad.BadError
  Ok (refused code message)

abbrev pub id_of : Data → Option ℕ
id_of d = option_and_then as_u64 (option_and_then as_number (get (codes "id") d))

-- the error, or else the result
abbrev pub outcome_by : Option Data → Option Data → Result Answer BadLine
outcome_by (Some error) result = refusal_of error
outcome_by None (Some result) = Ok (given result)
outcome_by None None = Err bad.NoOutcome

unfoldable pub outcome_of : Data → Result Answer BadLine
outcome_of d = outcome_by (get (codes "error") d) (get (codes "result") d)

-- both a result and an error
abbrev pub has_two : Data → Bool
has_two d = is_some (get (codes "result") d) && is_some (get (codes "error") d)

-- a response has an id, and a result or an error
unfoldable pub response_of : Data → Result Meaning BadLine
response_of d =
    if has_two d then Err bad.TwoOutcomes
    else (ok_or (id_of d) bad.BadId >>= (λ id. outcome_of d >>= (λ answer. Ok (answers id answer))))

-- the only method is that of a shutdown
abbrev pub notice_by : Option (List ℕ) → Result Meaning BadLine
notice_by None = Err bad.NotResponse
notice_by (Some name) = if bytes_eq name (codes "shutdown") then Ok shutdown else Err bad.NotResponse

abbrev pub notice_or_response : Option Data → Data → Result Meaning BadLine
notice_or_response None d = response_of d
notice_or_response (Some method) d = notice_by (as_str method)

-- what a value says
unfoldable pub said_by : Data → Result Meaning BadLine
said_by d = if is_some (as_object d) then notice_or_response (get (codes "method") d) d else Err bad.NotObject

-- bytes that are text in UTF-8
abbrev pub text_of : List ℕ → Result (List ℕ) BadLine
text_of bytes = if is_utf8 bytes then Ok bytes else Err bad.NotUtf8

-- a text as JSON, in which each number is a text
abbrev pub json_of : List ℕ → Option json.Json
json_of text = option_and_then (λ p. json.if_last p.0 p.1) (json.value max_depth (tokens text))

-- JSON without a value has a number that is out of range
abbrev pub value_by : Option Data → (is_json : Bool) → Result Data BadLine
value_by (Some d) is_json = Ok d
value_by None true = Err bad.NumberOutOfRange
value_by None false = Err bad.NotJson

-- the value of a text
abbrev pub value_of : List ℕ → Result Data BadLine
value_of text = value_by (read text) (is_some (json_of text))

-- the maximum length of a line in bytes
abbrev pub longest : ℕ
longest = 134217728

-- what a line says
unfoldable pub meaning : List ℕ → Result Meaning BadLine
meaning bytes =
    if nat_lt longest (length bytes) then Err bad.TooLong
    else (text_of bytes >>= (λ text. value_of text >>= said_by))
