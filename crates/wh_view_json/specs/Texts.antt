-- Members of JSON with texts and lengths of time.
use Rattle.std.specs.Prelude.{ℕ, ◌/◌, ◌%◌, ◌==◌, ◌||◌, List, [], ◌∷◌, ◌++◌, take, codes, decimal, encode_utf8, Option, Some, None, if◌then◌else◌}
use Rattle.std.specs.List.{flat_map}
use Rattle.std.specs.Str.{chars}
use Rattle.wh_html.specs.Times.{stamp_text}
use Rattle.wh_view_report.specs.Cut.{shown_char}

-- a character in a string of JSON, as the text of a view shows it: `"` and `\` come after a `\`
abbrev pub escaped : ℕ → List ℕ
escaped c = if c == 34 || c == 92 then codes "\\" ++ encode_utf8 c else encode_utf8 c

abbrev pub json_char : ℕ → List ℕ
json_char c = escaped (shown_char c)

-- the first thousand characters of a text within a string of JSON
unfoldable pub json_text : List ℕ → List ℕ
json_text text = flat_map json_char (take 1_000 (chars text))

-- a text, as a further member of an object; nothing if it is empty
abbrev pub text_member : List ℕ → List ℕ → List ℕ
text_member key [] = []
text_member key (c ∷ cs) = codes ",\"" ++ (key ++ (codes "\":\"" ++ (json_text (c ∷ cs) ++ codes "\"")))

-- a length of time in milliseconds, as a further member of an object in seconds
abbrev pub seconds_member : List ℕ → Option ℕ → List ℕ
seconds_member key None = []
seconds_member key (Some millis) =
    codes ",\"" ++ (key ++ (codes "\":" ++ (decimal (millis / 1_000) ++ (codes "."
    ++ (decimal (millis % 1_000 / 100) ++ (decimal (millis % 100 / 10) ++ decimal (millis % 10)))))))

-- when something is due, as a further member of an object
abbrev pub until_member : Option ℕ → List ℕ
until_member None = []
until_member (Some millis) = codes ",\"until\":\"" ++ (stamp_text millis ++ codes "\"")
