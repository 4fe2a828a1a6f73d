-- What is written of promises.
use Rattle.std.specs.Prelude.{ℕ, ◌+◌, Bool, true, false, List, [], ◌∷◌, ◌++◌, ◌-◌, length, take, leb, nat_eq, codes, decimal, if◌then◌else◌}
use Rattle.std.specs.List.{flat_map}
use Rattle.wh_tester.specs.Json.{escaped}
use Rattle.wh_tester.specs.Report.{shown}
use Rattle.wh_row_rules.specs.declared.promises.WayStep.{WayStep}
use Rattle.wh_row_rules.specs.declared.promises.Breach.{Breach}
use Rattle.wh_row_rules.specs.declared.promises.Doubt.{Doubt}
use Rattle.wh_row_rules.specs.declared.promises.Doubt.TheVariants as doubts
use Rattle.wh_row_rules.specs.declared.promises.PromiseVerdict.{PromiseVerdict}
use Rattle.wh_row_rules.specs.declared.promises.PromiseVerdict.TheVariants as verdicts
use Rattle.wh_row_rules.specs.declared.promises.PhraseFinding.{PhraseFinding}
use Rattle.wh_row_rules.specs.declared.promises.PhraseFinding.TheVariants as outcomes
use Rattle.wh_row_rules.specs.declared.promises.PromiseFinding.{PromiseFinding}
use Rattle.wh_row_rules.specs.declared.promises.PromiseFindings.{PromiseFindings}
use Rattle.wh_row_rules.specs.declared.promises.PromiseFindings.TheVariants as found

-- ---- As text

-- jobs, with a semicolon in front of each
abbrev pub later_jobs : List WayStep → List ℕ
later_jobs steps = flat_map (λ step. codes "; " ++ step.job) steps

-- the steps of a path that a text shows
abbrev pub shown_steps : List WayStep → List WayStep
shown_steps way = take 100 way

-- the jobs of steps, with a semicolon between each and the next
abbrev pub jobs_in : List WayStep → List ℕ
jobs_in [] = []
jobs_in (first ∷ others) = first.job ++ later_jobs others

-- how many of so many steps are not shown, behind those that are; nothing if all are
abbrev pub more_jobs : ℕ → List ℕ
more_jobs steps = if leb steps 100 then [] else codes "; and " ++ (decimal (steps - 100) ++ codes " more")

-- the jobs of a path that a text shows, and how many more there are
abbrev pub jobs_text : List WayStep → List ℕ
jobs_text way = jobs_in (shown_steps way) ++ more_jobs (length way)

-- why a promise is not decided
abbrev pub doubt_text : Doubt → List ℕ
doubt_text doubts.TooMany = codes "more than 200000 configurations"
doubt_text doubts.ByName = codes "it may depend on the name of the run"

-- that a promise is broken, and whether fewer jobs may do it too
abbrev pub broken_text : Bool → List ℕ
broken_text true = codes "broken by: "
broken_text false = codes "broken, perhaps by fewer jobs too, by: "

-- what is said of a verdict
abbrev pub verdict_text : PromiseVerdict → List ℕ
verdict_text verdicts.Kept = codes "kept"
verdict_text (verdicts.Broken breach) = broken_text breach.is_shortest ++ jobs_text breach.way.items
verdict_text (verdicts.NotDecided doubt) = codes "not decided: " ++ doubt_text doubt

-- what is said of a phrase
abbrev pub outcome_text : PhraseFinding → List ℕ
outcome_text outcomes.NoPromise = codes "no promise is written so"
outcome_text (outcomes.Decided verdict) = verdict_text verdict

-- the line of a promise of this number in the table of a file
abbrev pub promise_line : List ℕ → ℕ → PromiseFinding → List ℕ
promise_line name number finding =
    shown name ++ (codes ": promise " ++ (decimal number ++ (codes ", " ++ (shown finding.phrase ++ (codes ": "
    ++ (outcome_text finding.outcome ++ codes "\n"))))))

-- a line of a scenario
abbrev pub step_line : WayStep → List ℕ
step_line step = codes "  " ++ (step.job ++ (codes " => " ++ (step.gives ++ codes "\n")))

-- the lines of a scenario
abbrev pub step_lines : List WayStep → List ℕ
step_lines way = flat_map step_line way

-- the line that says how many of so many steps are not shown; nothing if all are
abbrev pub more_line : ℕ → List ℕ
more_line steps =
    if leb steps 100 then [] else codes "  and " ++ (decimal (steps - 100) ++ codes " more, which --json lists\n")

-- the lines of a scenario that a text shows, and how many more there are
abbrev pub scenario_lines : List WayStep → List ℕ
scenario_lines way = step_lines (shown_steps way) ++ more_line (length way)

-- the scenario below the line of a promise, if it is broken
abbrev pub way_lines : PhraseFinding → List ℕ
way_lines (outcomes.Decided (verdicts.Broken breach)) = scenario_lines breach.way.items
way_lines _ = []

-- the lines of a promise
abbrev pub promise_lines : List ℕ → ℕ → PromiseFinding → List ℕ
promise_lines name number finding = promise_line name number finding ++ way_lines finding.outcome

-- the lines of promises, of which the first has this number
abbrev pub each_text : List ℕ → ℕ → List PromiseFinding → List ℕ
each_text name number [] = []
each_text name number (finding ∷ list) = promise_lines name number finding ++ each_text name (number + 1) list

-- why no promise of a table is read; nothing if they are a list
abbrev pub list_words : PromiseFindings → List ℕ
list_words found.NoPhrases = codes "they are neither a text nor a list of texts"
list_words found.TooMany = codes "there are more than 50"
list_words (found.Each list) = []

-- the line that says why no promise of the table in a file is read
abbrev pub list_line : List ℕ → PromiseFindings → List ℕ
list_line name findings = shown name ++ (codes ": promises: " ++ (list_words findings ++ codes "\n"))

-- what is found of the promises of the table in a file
abbrev pub findings_text : List ℕ → PromiseFindings → List ℕ
findings_text name (found.Each list) = each_text name 1 list
findings_text name findings = list_line name findings

-- ---- On a page

-- whether fewer jobs may break a promise too
abbrev pub breach_detail : Bool → List ℕ
breach_detail true = codes "by these jobs, and by no fewer:"
breach_detail false = codes "by these jobs, perhaps by fewer too:"

-- what is said of a phrase, beside whether its promise is kept
abbrev pub outcome_detail : PhraseFinding → List ℕ
outcome_detail outcomes.NoPromise = codes "no promise is written so"
outcome_detail (outcomes.Decided verdicts.Kept) = []
outcome_detail (outcomes.Decided (verdicts.Broken breach)) = breach_detail breach.is_shortest
outcome_detail (outcomes.Decided (verdicts.NotDecided doubt)) = doubt_text doubt

-- ---- As JSON

-- a line of a scenario
abbrev pub step_json : WayStep → List ℕ
step_json step =
    codes "{\"job\":\"" ++ (escaped (shown step.job) ++ (codes "\",\"gives\":\"" ++ (escaped (shown step.gives) ++ codes "\"}")))

-- the same with a comma in front
abbrev pub later_step : WayStep → List ℕ
later_step step = codes "," ++ step_json step

-- lines of a scenario, with a comma in front of each
abbrev pub later_steps : List WayStep → List ℕ
later_steps [] = []
later_steps (step ∷ steps) = later_step step ++ later_steps steps

-- lines of a scenario, with a comma between them
abbrev pub steps_json : List WayStep → List ℕ
steps_json [] = []
steps_json (first ∷ others) = step_json first ++ later_steps others

-- whether a scenario is a shortest one
abbrev pub shortest_json : Bool → List ℕ
shortest_json true = codes "true"
shortest_json false = codes "false"

-- the verdict on a phrase
abbrev pub outcome_word : PhraseFinding → List ℕ
outcome_word outcomes.NoPromise = codes "no promise"
outcome_word (outcomes.Decided verdicts.Kept) = codes "kept"
outcome_word (outcomes.Decided (verdicts.Broken breach)) = codes "broken"
outcome_word (outcomes.Decided (verdicts.NotDecided doubt)) = codes "not decided"

-- the members that say how a promise is broken, with a comma in front of each
abbrev pub breach_members : Breach → List ℕ
breach_members breach =
    codes ",\"shortest\":" ++ (shortest_json breach.is_shortest ++ (codes ",\"scenario\":["
    ++ (steps_json breach.way.items ++ codes "]")))

-- the members that say more of a verdict, with a comma in front of each
abbrev pub detail_members : PhraseFinding → List ℕ
detail_members (outcomes.Decided (verdicts.Broken breach)) = breach_members breach
detail_members (outcomes.Decided (verdicts.NotDecided doubt)) = codes ",\"reason\":\"" ++ (doubt_text doubt ++ codes "\"")
detail_members _ = []

-- the members that say what is found of a phrase
unfoldable pub outcome_members : PhraseFinding → List ℕ
outcome_members outcome =
    codes "\"verdict\":\"" ++ (outcome_word outcome ++ (codes "\"" ++ detail_members outcome))

-- the object of a promise of this number
abbrev pub finding_json : ℕ → PromiseFinding → List ℕ
finding_json number finding =
    codes "{\"promise\":" ++ (decimal number ++ (codes ",\"text\":\"" ++ (escaped (shown finding.phrase)
    ++ (codes "\"," ++ (outcome_members finding.outcome ++ codes "}")))))

-- the same with a comma in front
abbrev pub later_finding : ℕ → PromiseFinding → List ℕ
later_finding number finding = codes "," ++ finding_json number finding

-- objects, of which the first has this number, with a comma in front of each
abbrev pub later_findings : ℕ → List PromiseFinding → List ℕ
later_findings number [] = []
later_findings number (finding ∷ list) = later_finding number finding ++ later_findings (number + 1) list

-- the objects of promises, with a comma between them
abbrev pub each_json : List PromiseFinding → List ℕ
each_json [] = []
each_json (first ∷ others) = finding_json 1 first ++ later_findings 2 others

-- what is found of the promises of a table
abbrev pub findings_json : PromiseFindings → List ℕ
findings_json (found.Each list) = codes "[" ++ (each_json list ++ codes "]")
findings_json findings = codes "\"" ++ (list_words findings ++ codes "\"")

-- there is no promise
abbrev pub has_none : PromiseFindings → Bool
has_none (found.Each list) = nat_eq (length list) 0
has_none _ = false

-- the member of a table's object that says what is found, with a comma in front; nothing if there is no promise
abbrev pub promises_member : PromiseFindings → List ℕ
promises_member findings = if has_none findings then [] else codes ",\"promises\":" ++ findings_json findings
