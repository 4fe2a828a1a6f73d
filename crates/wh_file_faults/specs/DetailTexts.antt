-- The detail of a fault, as text and as JSON.
use Rattle.std.specs.Prelude.{ℕ, List, [], ◌∷◌, ◌++◌, codes, decimal, Option, Some, None}
use Rattle.wh_tester.specs.Json.{plain_member, text_member}
use Rattle.wh_tester.specs.Report.{no_code_text, shown}
use Rattle.wh_tester.specs.UnknownTypes.{unregistered_type}
use Rattle.wh_tester.specs.declared.line.Line.{Line}
use Rattle.wh_file_faults.specs.declared.detail.FaultDetail.{FaultDetail}
use Rattle.wh_file_faults.specs.declared.detail.FaultDetail.TheVariants.{NotJson, Lacks, Follows, Refers, Names}
use Rattle.wh_file_faults.specs.declared.position.EncodingMark.{EncodingMark}
use Rattle.wh_file_faults.specs.declared.position.EncodingMark.TheVariants.{ByteOrderMark, Utf16}

-- what a file begins with, after its place
abbrev pub mark_text : Option EncodingMark → List ℕ
mark_text None = []
mark_text (Some ByteOrderMark) = codes ": it begins with a byte order mark"
mark_text (Some Utf16) = codes ": it is UTF-16, and has to be UTF-8"

-- `event <place> `
abbrev pub event_at : ℕ → List ℕ → List ℕ
event_at at words = codes "event " ++ (decimal at ++ words)

-- `not JSON at line <line> column <column>` and what it begins with, `event <place> lacks <field>`,
-- `.. follows event <number>, which closes the run`, `.. refers to event <number>`, or
-- `.. refers to the child <workflow id>`
abbrev pub detail_text : FaultDetail → List ℕ
detail_text (NotJson position mark) =
    codes "not JSON at line " ++ (decimal position.line
    ++ (codes " column " ++ (decimal position.column ++ mark_text mark)))
detail_text (Lacks at field) = event_at at (codes " lacks " ++ shown field)
detail_text (Follows at close) =
    event_at at (codes " follows event " ++ (decimal close ++ codes ", which closes the run"))
detail_text (Refers at number) = event_at at (codes " refers to event " ++ decimal number)
detail_text (Names at workflow_id) = event_at at (codes " refers to the child " ++ shown workflow_id)

-- the members of a detail: `"line"` and `"column"`, or `"field"`, `"closedBy"`, `"refersTo"` or `"workflowId"`
abbrev pub members_of : FaultDetail → List (List ℕ)
members_of (NotJson position mark) =
    plain_member (codes "line") (decimal position.line) ∷ plain_member (codes "column") (decimal position.column) ∷ []
members_of (Lacks at field) = text_member (codes "field") (shown field) ∷ []
members_of (Follows at close) = plain_member (codes "closedBy") (decimal close) ∷ []
members_of (Refers at number) = plain_member (codes "refersTo") (decimal number) ∷ []
members_of (Names at workflow_id) = text_member (codes "workflowId") (shown workflow_id) ∷ []

-- the members of a detail, if there is one
abbrev pub detail_members : Option FaultDetail → List (List ℕ)
detail_members None = []
detail_members (Some detail) = members_of detail

-- `<name>: <file>: <the detail of its fault>`, with the name by which a program was called
abbrev pub detail_line : (file : List ℕ) → FaultDetail → (name : List ℕ) → List ℕ
detail_line file detail name =
    shown name ++ (codes ": " ++ (shown file ++ (codes ": " ++ (detail_text detail ++ codes "\n"))))

-- that line, if there is a detail
abbrev pub detail_lines : (file : List ℕ) → Option FaultDetail → (name : List ℕ) → List ℕ
detail_lines file None name = []
detail_lines file (Some detail) name = detail_line file detail name

-- the member of a workflow type that there is no code for, if there is one: `"workflowType"`
abbrev pub type_members : Option (List ℕ) → List (List ℕ)
type_members None = []
type_members (Some kind) = text_member (codes "workflowType") (shown kind) ∷ []

-- `<name>: <file>: no code for the workflow type <type>`, if there is one
abbrev pub type_lines : (file : List ℕ) → Option (List ℕ) → (name : List ℕ) → List ℕ
type_lines file None name = []
type_lines file (Some kind) name =
    shown name ++ (codes ": " ++ (shown file ++ (codes ": " ++ (no_code_text kind ++ codes "\n"))))

-- the lines that say what the line of a file omits: the workflow type that there is no code for, and the detail of its
-- fault
abbrev pub omitted_lines : Line → Option FaultDetail → (name : List ℕ) → List ℕ
omitted_lines line detail name =
    type_lines line.name (unregistered_type line.verdict) name ++ detail_lines line.name detail name
