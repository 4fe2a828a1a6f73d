-- What holds for each run that gets its table with its input.
use Rattle.std.specs.Prelude.{◌≡◌, ℕ, ◌≤◌, Bool, true, false, not, ◌&&◌, List, [], ◌∷◌, map, length, leb, Option, Some, None, Result, Ok, Err, option_map, refl, if◌then◌else◌}
use Rattle.std.proofs.Common.{ap, sym, subst, ◌∙◌, arith}
use Rattle.wh_events.specs.declared.event.Payload.{Payload}
use Rattle.wh_workflow.specs.declared.job.Job.{Job}
use Rattle.wh_workflow.specs.declared.job.Job.TheVariants as jobs
use Rattle.wh_workflow.specs.declared.command.Command.{Command}
use Rattle.wh_workflow.specs.declared.command.Command.TheVariants as commands
use Rattle.wh_workflow.specs.Law.{Program, IsAnswer, asks_last, records_none}
use Rattle.wh_rows.specs.Rows as rows
use Rattle.wh_rows.specs.Rows.{is_start}
use Rattle.wh_rows.specs.Courses.{goes_on}
use Rattle.wh_rows.specs.Rules as rules
use Rattle.wh_rows.specs.Lawful.{rows_lawful}
use Rattle.wh_rows.specs.declared.row.RowsState.{RowsState}
use Rattle.wh_row_rules.specs.declared.owned.OwnedTable.{OwnedTable}
use Rattle.wh_row_rules.specs.Broken.{broken, definition}
use Rattle.wh_table_text.specs.declared.fault.TableFault.{TableFault}
use Rattle.wh_row_rules.specs.Outcome.{faultless, ◌>>=◌}
use Rattle.wh_table_text.specs.Reading.{table_of, shape_of, of_rows, rules_fault, or_not_json}
use Rattle.wh_table_text.specs.Texts.{fault_text}
use Rattle.wh_json.specs.Events.{document_within}
use Rattle.serde_json.specs.Data.{Data}
use Rattle.wh_table.specs.declared.state.TableState.{TableState}
use Rattle.wh_table.specs.Carrying.{is_answer, with_table, held}
use Rattle.wh_table.specs.Program.{front, tail, table_in, no_table, begun, failed, followed, given, after, gives, program}

-- the commands that a run gives to each of these jobs, one job after another
abbrev pub given_to_each : {S : Type 0} → Program S → S → List Job → List (List Command)
given_to_each code state [] = []
given_to_each code state (job ∷ later) = code.gives state job ∷ given_to_each code (code.after state job) later

-- If its first payload reads as a table, a run gives at its start and at every later job, none of which starts it, the
-- commands that the rows of that table, as a table of the program, give to a run with the other payloads as its input.
-- If they continue as a new run of the table, that gets the table too.
abbrev pub FollowsItsTable : Type 0
FollowsItsTable =
    (state : TableState) (kind : List ℕ) (input : List Payload) (later : List Job) (table : OwnedTable)
    → table_in input ≡ Ok table → goes_on later ≡ true
    → given_to_each program state (jobs.Start kind input ∷ later)
    ≡ map (map (with_table kind (front input)))
    (given_to_each (rows.program (definition table))
    (rows.initial (definition table)) (jobs.Start kind (tail input) ∷ later))

-- if its first payload is not a table, a run fails at its start, with the reason, and gives no commands to later jobs,
-- none of which starts it
abbrev pub FailsWithoutTable : Type 0
FailsWithoutTable =
    (state : TableState) (kind : List ℕ) (input : List Payload) (later : List Job) (fault : TableFault)
    → table_in input ≡ Err fault → goes_on later ≡ true
    → given_to_each program state (jobs.Start kind input ∷ later)
    ≡ (commands.Fail (fault_text fault) ∷ []) ∷ map (λ job. []) later

-- ---- Proofs

first_holds : (a b : Bool) → (a && b) ≡ true → a ≡ true
first_holds true b holds = refl
first_holds false b holds = holds

second_holds : (a b : Bool) → (a && b) ≡ true → b ≡ true
second_holds true b holds = holds
second_holds false b holds = cc

is_false : (test : Bool) → not test ≡ true → test ≡ false
is_false true is = sym is
is_false false is = refl

both : (a b : Bool) → a ≡ true → b ≡ true → (a && b) ≡ true
both true b first second = second
both false b first second = first

few : (count : ℕ) → count ≤ 64 → leb count 64 ≡ true
few count small = grind arith

-- commands that a step may return pass the test
passes : (commands : List Command) → IsAnswer commands → is_answer commands ≡ true
passes commands answer =
    both (leb (length commands) 64) (asks_last commands && records_none commands) (few (length commands) answer.few)
    (both (asks_last commands) (records_none commands) answer.asks answer.records)

-- commands of rows that break no rule are all returned
not_held : (kind : List ℕ) (payload : List Payload) (table : OwnedTable) (run : RowsState) (job : Job)
    → rules.table_fault (definition table) ≡ None
    → held kind payload (rows.gives (definition table) run job)
    ≡ map (with_table kind payload) (rows.gives (definition table) run job)
not_held kind payload table run job none =
    ap (λ test. if test then map (with_table kind payload) (rows.gives (definition table) run job) else [])
    (passes (rows.gives (definition table) run job) (rows_lawful (definition table) none run job))

no_fault : (table read : OwnedTable) (fault : Option TableFault)
    → (faultless fault >>= (λ _. Ok table)) ≡ Ok read
    → fault ≡ None
no_fault table read None is = refl
no_fault table read (Some fault) is = cc

same_table : (table read : OwnedTable) (fault : Option TableFault)
    → (faultless fault >>= (λ _. Ok table)) ≡ Ok read
    → table ≡ read
same_table table read None is = cc
same_table table read (Some fault) is = cc

unbroken : (fault : Option rules.TableFault) → option_map of_rows (option_map broken fault) ≡ None → fault ≡ None
unbroken None is = refl
unbroken (Some fault) is = cc

judged : (shape : Result OwnedTable TableFault) (read : OwnedTable)
    → (shape >>= (λ table. faultless (rules_fault table) >>= (λ _. Ok table))) ≡ Ok read → rules_fault read ≡ None
judged (Ok table) read is =
    subst (λ t. rules_fault t ≡ None) (same_table table read (rules_fault table) is)
    (no_fault table read (rules_fault table) is)
judged (Err fault) read is = cc

in_document : (d : Result Data TableFault) (read : OwnedTable)
    → (d >>= (λ d. shape_of d >>= (λ table. faultless (rules_fault table) >>= (λ _. Ok table)))) ≡ Ok read
    → rules_fault read ≡ None
in_document (Ok d) read is = judged (shape_of d) read is
in_document (Err fault) read is = cc

-- a table that was read breaks no rule
pub read_breaks_none : (bytes : List ℕ) (table : OwnedTable)
    → table_of bytes ≡ Ok table
    → rules.table_fault (definition table) ≡ None
unfolding table_of
read_breaks_none bytes table is =
    unbroken (rules.table_fault (definition table)) (in_document (or_not_json (document_within bytes)) table is)

brought_breaks_none : (input : List Payload) (table : OwnedTable) → table_in input ≡ Ok table
    → rules.table_fault (definition table) ≡ None
brought_breaks_none [] table is = cc
brought_breaks_none (first ∷ others) table is = read_breaks_none first.content table is

-- a job that is no start gives what the rows give
later_gives : (state : TableState) (job : Job) → is_start job ≡ false → gives state job ≡ given state job
later_gives state (jobs.Start _ _) is = cc
later_gives state job is = refl

later_goes : (state : TableState) (job : Job) → is_start job ≡ false → after state job ≡ followed state job
later_goes state (jobs.Start _ _) is = cc
later_goes state job is = refl

-- a run of a table
abbrev running : List ℕ → List Payload → OwnedTable → RowsState → TableState
running kind payload table run = record { kind = kind; payload = payload; table = table; run = run }

cons : {A : Type 0} (x y : A) (xs ys : List A) → x ≡ y → xs ≡ ys → x ∷ xs ≡ y ∷ ys
cons x y xs ys first rest = ap (λ z. z ∷ xs) first ∙ ap (λ zs. y ∷ zs) rest

goes_along : (kind : List ℕ) (payload : List Payload) (table : OwnedTable) (run : RowsState) (later : List Job)
    → rules.table_fault (definition table) ≡ None → goes_on later ≡ true
    → given_to_each program (running kind payload table run) later
    ≡ map (map (with_table kind payload)) (given_to_each (rows.program (definition table)) run later)
goes_along kind payload table run [] none starts = refl
goes_along kind payload table run (job ∷ later) none starts =
    let other : is_start job ≡ false =
    is_false (is_start job) (first_holds (not (is_start job)) (goes_on later) starts) in
    cons (gives (running kind payload table run) job)
    (map (with_table kind payload) (rows.gives (definition table) run job))
    (given_to_each program (after (running kind payload table run) job) later)
    (map (map (with_table kind payload))
    (given_to_each (rows.program (definition table)) (rows.after (definition table) run job) later))
    (later_gives (running kind payload table run) job other ∙ not_held kind payload table run job none)
    (ap (λ state. given_to_each program state later) (later_goes (running kind payload table run) job other)
    ∙ goes_along kind payload table (rows.after (definition table) run job) later none
    (second_holds (not (is_start job)) (goes_on later) starts))

pub follows_its_table : FollowsItsTable
follows_its_table state kind input later table is starts =
    let none : rules.table_fault (definition table) ≡ None = brought_breaks_none input table is in
    rw is (cons (given (begun kind (front input) table) (jobs.Start kind (tail input)))
    (map (with_table kind (front input))
    (rows.gives (definition table) (rows.initial (definition table)) (jobs.Start kind (tail input))))
    (given_to_each program (followed (begun kind (front input) table) (jobs.Start kind (tail input))) later)
    (map (map (with_table kind (front input)))
    (given_to_each (rows.program (definition table))
    (rows.after (definition table) (rows.initial (definition table))
    (jobs.Start kind (tail input))) later))
    (not_held kind (front input) table (rows.initial (definition table)) (jobs.Start kind (tail input)) none)
    (goes_along kind (front input) table
    (rows.after (definition table) (rows.initial (definition table))
    (jobs.Start kind (tail input))) later none starts))

nothing_held : (kind : List ℕ) (payload : List Payload) (run : RowsState) (job : Job)
    → given (running kind payload no_table run) job ≡ []
unfolding rows.row_for
nothing_held kind payload run job = refl

stays_closed : (kind : List ℕ) (payload : List Payload) (run : RowsState) (later : List Job) → goes_on later ≡ true
    → given_to_each program (running kind payload no_table run) later ≡ map (λ job. []) later
stays_closed kind payload run [] starts = refl
stays_closed kind payload run (job ∷ later) starts =
    let other : is_start job ≡ false =
    is_false (is_start job) (first_holds (not (is_start job)) (goes_on later) starts) in
    cons (gives (running kind payload no_table run) job) []
    (given_to_each program (after (running kind payload no_table run) job) later)
    (map (λ job. []) later)
    (later_gives (running kind payload no_table run) job other ∙ nothing_held kind payload run job)
    (ap (λ state. given_to_each program state later) (later_goes (running kind payload no_table run) job other)
    ∙ stays_closed kind payload (rows.after (definition no_table) run job) later
    (second_holds (not (is_start job)) (goes_on later) starts))

pub fails_without_table : FailsWithoutTable
fails_without_table state kind input later fault is starts =
    rw is (ap (λ rest. (commands.Fail (fault_text fault) ∷ []) ∷ rest)
    (stays_closed kind (front input) (failed kind (front input)).run later starts))
