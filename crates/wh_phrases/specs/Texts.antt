-- The text of a value that differs, and its object in JSON.
use Rattle.std.specs.Prelude.{ℕ, List, ◌++◌, codes, decimal}
use Rattle.wh_tester.specs.Json.{escaped}
use Rattle.wh_tester.specs.Report.{shown}
use Rattle.wh_phrases.specs.declared.comparing.OtherValue.{OtherValue}
use Rattle.wh_phrases.specs.declared.comparing.ValueKind.{ValueKind}
use Rattle.wh_phrases.specs.declared.comparing.ValueKind.TheVariants as kinds

-- what a value is
abbrev pub kind_word : ValueKind → List ℕ
kind_word kinds.Input = codes "input"
kind_word kinds.Result = codes "result"
kind_word kinds.Duration = codes "duration"
kind_word kinds.Failure = codes "failure"

-- `event NUMBER: KIND: sends SENT, recorded RECORDED`, both shown as names in reports are
unfoldable pub value_text : OtherValue → List ℕ
value_text value =
    codes "event " ++ (decimal value.event ++ (codes ": " ++ (kind_word value.kind
    ++ (codes ": sends " ++ (shown value.sent ++ (codes ", recorded " ++ shown value.recorded))))))

-- `{"event":NUMBER,"kind":"KIND","sent":"SENT","recorded":"RECORDED"}`
unfoldable pub value_object : OtherValue → List ℕ
value_object value =
    codes "{\"event\":" ++ (decimal value.event ++ (codes ",\"kind\":\"" ++ (kind_word value.kind
    ++ (codes "\",\"sent\":\"" ++ (escaped (shown value.sent)
    ++ (codes "\",\"recorded\":\"" ++ (escaped (shown value.recorded) ++ codes "\"}")))))))
