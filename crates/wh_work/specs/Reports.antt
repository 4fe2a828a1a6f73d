-- What is reported of live tasks that were served, and the status.
use Rattle.std.specs.Prelude.{ℕ, List, ◌++◌, codes, decimal, if◌then◌else◌, eqb}
use Rattle.wh_console.specs.declared.format.Format.{Format}
use Rattle.wh_console.specs.declared.format.Format.TheVariants as formats
use Rattle.wh_crew.specs.declared.serving.LiveEnd.{LiveEnd}
use Rattle.wh_host.specs.Texts.{totals_text}
use Rattle.wh_host.specs.declared.reply.Totals.{Totals}
use Rattle.wh_metrics.specs.Lines.{member, next}
use Rattle.wh_notes.specs.Untaken.{refused_of}
use Rattle.wh_work.specs.Untaken.{settled}
use Rattle.wh_work.specs.declared.report.LiveReport.{LiveReport}

-- `polls <polls>, empty polls <empty>, answers not found <not found>, answers refused <refused>`
abbrev pub calls_text : LiveEnd → List ℕ
calls_text end =
    codes "polls " ++ (decimal end.sources.polls
    ++ (codes ", empty polls " ++ (decimal end.sources.empty_polls
    ++ (codes ", answers not found " ++ (decimal end.sources.untaken.not_found
    ++ (codes ", answers refused " ++ (decimal (refused_of end.sources.untaken) ++ codes "\n")))))))

-- the totals as `serve` has them, but without the answers that were not taken; and then the polls and those answers
abbrev pub live_text : LiveEnd → List ℕ
live_text end = (totals_text (settled end.totals end.sources.untaken) ++ codes "\n") ++ calls_text end

-- the totals as the first members of an object of JSON
abbrev pub json_totals_text : Totals → List ℕ
json_totals_text totals =
    codes "{" ++ (member (codes "taken") (decimal totals.taken)
    ++ (next (codes "completed") (decimal totals.completed)
    ++ (next (codes "failed") (decimal totals.failed) ++ next (codes "inHand") (decimal totals.in_hand))))

-- and the polls and the answers that were not taken as the last
abbrev pub json_calls_text : LiveEnd → List ℕ
json_calls_text end =
    next (codes "polls") (decimal end.sources.polls)
    ++ (next (codes "emptyPolls") (decimal end.sources.empty_polls)
    ++ (next (codes "answersNotFound") (decimal end.sources.untaken.not_found)
    ++ (next (codes "answersRefused") (decimal (refused_of end.sources.untaken)) ++ codes "}\n")))

-- both, as an object of JSON on a line
abbrev pub json_live_text : LiveEnd → List ℕ
json_live_text end = json_totals_text (settled end.totals end.sources.untaken) ++ json_calls_text end

-- how live tasks ended, in a form
abbrev pub live_as : Format → LiveEnd → List ℕ
live_as formats.Text end = live_text end
live_as formats.Json end = json_live_text end

-- the report, which is the same under every name of the program
abbrev pub report_text : LiveReport → (name : List ℕ) → List ℕ
report_text report name = live_as report.format report.end

-- 0 if no call of a source failed while its connection was open, and else 1
abbrev pub live_status : LiveEnd → ℕ
live_status end = if eqb end.tally.faults 0 then 0 else 1
