-- The meaning of the phrases of a table.
use Rattle.std.specs.Prelude.{ℕ, List, bytes_eq, codes, Option, Some, None, option_map, option_and_then, if◌then◌else◌}
use Rattle.std.proofs.Common.{Bor}
use Rattle.wh_json.specs.Fields.{number_in}
use Rattle.wh_rows.specs.Tables.{JobPattern, CommandTemplate, Naming, pattern_by, template_by, naming_by}
use Rattle.wh_rows.specs.declared.row.JobPattern.{JobPattern as JobPatternOf}
use Rattle.wh_rows.specs.declared.row.JobPattern.TheVariants as patterns
use Rattle.wh_rows.specs.declared.row.CommandTemplate.{CommandTemplate as CommandTemplateOf}
use Rattle.wh_rows.specs.declared.row.CommandTemplate.TheVariants as templates
use Rattle.wh_rows.specs.declared.row.Naming.{Naming as NamingOf}
use Rattle.wh_rows.specs.declared.row.Naming.TheVariants as namings
use Rattle.wh_rows.specs.declared.row.Counter.{Counter}
use Rattle.wh_rows.specs.declared.row.Condition.{Condition}
use Rattle.wh_rows.specs.declared.row.Condition.TheVariants as conditions
use Rattle.wh_rows.specs.declared.row.RowEffect.{RowEffect}
use Rattle.wh_rows.specs.declared.row.RowEffect.TheVariants as effects
use Rattle.wh_table_text.specs.declared.verbs.JobVerb.{JobVerb}
use Rattle.wh_table_text.specs.declared.verbs.JobVerb.TheVariants as job
use Rattle.wh_table_text.specs.declared.verbs.CommandVerb.{CommandVerb}
use Rattle.wh_table_text.specs.declared.verbs.CommandVerb.TheVariants as command
use Rattle.wh_table_text.specs.declared.counters.NamedCounter.{NamedCounter}
use Rattle.wh_table_text.specs.Words.{Words, has_none, has_two, has_pair, has_kind, name_of}
use Rattle.wh_table_text.specs.Verbs.{source_of}
use Rattle.wh_table_text.specs.Numbers.{below, seconds_in, version_in}
use Rattle.wh_table_text.specs.Counters.{named_from}

-- patterns, commands and namings whose texts are borrowed, as those with texts as bytes
abbrev pub pattern_shown : JobPatternOf (Bor (List ℕ)) → JobPattern
pattern_shown pattern = pattern_by (λ text. text.now) pattern

abbrev pub template_shown : CommandTemplateOf (Bor (List ℕ)) → CommandTemplate
template_shown template = template_by (λ text. text.now) template

abbrev pub naming_shown : NamingOf (Bor (List ℕ)) → Naming
naming_shown naming = naming_by (λ text. text.now) naming

-- the jobs that a phrase describes
abbrev pub pattern_of : JobVerb → Words → Option JobPattern
pattern_of job.Start p = if has_none p then Some patterns.Start else None
pattern_of job.Cancel p = if has_none p then Some patterns.CancelRequested else None
pattern_of job.Signal p = option_map patterns.Signal (name_of p)
pattern_of job.Done p = option_map patterns.Done (name_of p)
pattern_of job.Failed p = option_map patterns.NotDone (name_of p)
pattern_of job.Fired p = option_map patterns.Fired (name_of p)
pattern_of job.ChildStarted p = option_map patterns.ChildStarted (name_of p)
pattern_of job.ChildDone p = option_map patterns.ChildDone (name_of p)
pattern_of job.ChildCanceled p = option_map patterns.ChildCanceled (name_of p)
pattern_of job.ChildFailed p = option_map patterns.ChildNotDone (name_of p)
pattern_of job.Version p = if has_pair p then option_map (patterns.Version p.first) (version_in p.second)
    else option_map patterns.AnyVersion (name_of p)

-- the command that a phrase describes
abbrev pub template_of : CommandVerb → Words → Option CommandTemplate
template_of command.CancelActivity p = option_map templates.CancelActivity (name_of p)
template_of command.CancelTimer p = option_map templates.CancelTimer (name_of p)
template_of command.CancelChild p = option_map templates.CancelChild (name_of p)
template_of command.Fail p = Some (templates.Fail p.after)
template_of command.Cancel p = if has_none p then Some templates.Cancel else None
template_of command.Complete p = option_map templates.Complete (source_of p.after)
template_of command.Again p = option_map (templates.ContinueAsNew (codes "")) (source_of p.after)
template_of command.Continue p =
    if has_kind p then option_map (templates.ContinueAsNew p.first) (source_of p.second) else None
template_of command.Activity p =
    if has_two p then option_map (templates.StartActivity p.first p.second) (source_of p.third) else None
template_of command.Child p =
    if has_two p then option_map (templates.StartChild p.first p.second) (source_of p.third) else None
template_of command.Signal p =
    if has_two p then option_map (templates.SignalExternal p.first p.second) (source_of p.third) else None
template_of command.Timer p =
    if has_pair p then option_map (templates.StartTimer p.first) (seconds_in p.second) else None
template_of command.Ask p = if has_two p
    then option_and_then (λ low. option_map (templates.Ask p.first low) (version_in p.third)) (version_in p.second)
    else None

-- the condition on a counter with this sign and number
abbrev pub compared : Counter → List ℕ → ℕ → Option Condition
compared counter sign number = if bytes_eq sign (codes "<") then Some (conditions.Below counter number)
    else if bytes_eq sign (codes ">=") then Some (conditions.AtLeast counter number)
    else None

-- the condition that a phrase describes
abbrev pub condition_of : List NamedCounter → Words → Option Condition
condition_of names p = if has_pair p
    then option_and_then (λ counter. option_and_then (compared counter p.first) (number_in p.second))
    (named_from 0 names p.verb)
    else None

-- the mark that a phrase describes
abbrev pub effect_of : List NamedCounter → Words → Option RowEffect
effect_of names p = if bytes_eq p.verb (codes "keep") then (if has_none p then Some effects.Keep else None)
    else if bytes_eq p.verb (codes "up") then option_map effects.Up (option_and_then (named_from 0 names) (name_of p))
    else if bytes_eq p.verb (codes "zero") then option_map effects.Zero
    (option_and_then (named_from 0 names) (name_of p))
    else None

-- the naming of runs that a phrase describes
abbrev pub naming_of : Words → Option Naming
naming_of p = if bytes_eq p.verb (codes "payload")
    then option_map (λ number. namings.ByPayload number p.second p.third) (below 65536 (number_in p.first))
    else None
