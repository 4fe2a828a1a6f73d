-- What is written of a query.
use Rattle.std.specs.Prelude.{◌==◌, ℕ, Bool, ◌&&◌, List, [], ◌∷◌, ◌++◌, codes, bytes_eq, is_some, not, if◌then◌else◌}
use Rattle.std.specs.List.{flat_map, list_any}
use Rattle.base64.specs.Engines.{standard}
use Rattle.base64.specs.GeneralPurpose.{encode_of}
use Rattle.wh_console.specs.declared.format.Format.{Format}
use Rattle.wh_console.specs.declared.format.Format.TheVariants as formats
use Rattle.wh_events.specs.declared.event.Payload.{Payload}
use Rattle.wh_json.specs.Fields.{document}
use Rattle.wh_report.specs.Reports.{json_record}
use Rattle.wh_report.specs.declared.records.Record.{Record}
use Rattle.wh_tester.specs.Json.{escaped}
use Rattle.wh_tester.specs.Report.{line_text, shown}
use Rattle.wh_workflow.specs.declared.queryable.QueryResult.{QueryResult}
use Rattle.wh_workflow.specs.declared.queryable.QueryResult.TheVariants.{Answered, Failed}
use Rattle.wh_file_commands.specs.declared.queried.Queried.{Queried}

-- the text is on one line: no byte of it is a line feed
abbrev pub is_on_one_line : List ℕ → Bool
is_on_one_line text = not (list_any (λ byte. byte == 10) text)

-- the payload is a JSON text under the encoding json/plain, on one line
abbrev pub is_plain : Payload → Bool
is_plain payload =
    bytes_eq payload.encoding (codes "json/plain")
    && (is_on_one_line payload.content && is_some (document payload.content))

-- an object with the encoding and the content of a payload in base64
abbrev pub encoded_payload : Payload → List ℕ
encoded_payload payload =
    codes "{\"data\":\"" ++ (encode_of standard payload.content ++ (codes "\",\"metadata\":{\"encoding\":\""
    ++ (encode_of standard payload.encoding ++ codes "\"}}")))

-- a payload as JSON
abbrev pub payload_text : Payload → List ℕ
payload_text payload = if is_plain payload then payload.content else encoded_payload payload

-- payloads on a line each
abbrev pub payload_lines : List Payload → List ℕ
payload_lines payloads = flat_map (λ payload. payload_text payload ++ 10 ∷ []) payloads

-- payloads with a comma in front of each
abbrev pub after_commas : List Payload → List ℕ
after_commas payloads = flat_map (λ payload. 44 ∷ payload_text payload) payloads

-- payloads with a comma between them
abbrev pub payload_list : List Payload → List ℕ
payload_list [] = []
payload_list (first ∷ others) = payload_text first ++ after_commas others

-- the result of a query, as text, or as an object on a line
abbrev pub result_as : Format → QueryResult → List ℕ
result_as formats.Text (Answered payloads) = payload_lines payloads
result_as formats.Text (Failed reason) = codes "query failed, " ++ (shown reason ++ codes "\n")
result_as formats.Json (Answered payloads) = codes "{\"queryResult\":[" ++ (payload_list payloads ++ codes "]}\n")
result_as formats.Json (Failed reason) = codes "{\"queryFailed\":\"" ++ (escaped (shown reason) ++ codes "\"}\n")

-- what the report of replay has of a file, as text or as JSON
abbrev pub record_as : Format → Record → List ℕ
record_as formats.Text own = line_text own.line
record_as formats.Json own = json_record own

-- what is written of a query: what the report of replay has of the file, and then the result
abbrev pub queried_as : Format → Queried → List ℕ
queried_as format queried = record_as format queried.own ++ result_as format queried.given
