-- The statuses with which the program ends.
use Rattle.std.proofs.Common.{◌≡◌, ◌≤◌, ℕ, Bool, true, false, List, Option, inl, inr, arith}
use Rattle.wh_cli.specs.Private.Commands.{IsUndone, Obeys}
use Rattle.wh_command_line.specs.declared.command_line.Plan.{Plan}
use Rattle.wh_command_line.specs.declared.command_line.Plan.TheVariants.{Replay, Explain, Page, View, Query, Check, Picture, Try, Serve, Work, Help}
use Rattle.wh_console.specs.Consoles.{ConsoleView}
use Rattle.wh_console.specs.Inputs.{IsReadFrom}
use Rattle.wh_console.specs.declared.files.Input.{Input}
use Rattle.wh_console.specs.declared.format.Format.{Format}
use Rattle.wh_console.specs.declared.selection.Selection.{Selection}
use Rattle.wh_diagnostics.specs.Files.{HasCarriedOut}
use Rattle.wh_diagnostics.specs.Listings.{is_by_path}
use Rattle.wh_diagnostics.specs.Readings.{Gives}
use Rattle.wh_file_commands.specs.Pages.{HasPaged}
use Rattle.wh_file_commands.specs.Recorded.{HasShown}
use Rattle.wh_diagnostics.specs.Answers.{Answers}
use Rattle.wh_workflow.specs.Queries.{Queries}
use Rattle.wh_work.specs.Plans.{LivesBy}
use Rattle.wh_workflow.specs.Law.{Program}

paged : {S : Type 0} (program : Program S) (only_recorded : Bool) (path : List ℕ) (old new : ConsoleView) (status : ℕ) → HasCarriedOut IsReadFrom (HasPaged program only_recorded) path old new status → status ≤ 3
paged program true path old new status h = (let is = h.done.paged.shows.found.1 in omega arith)
paged program false path old new status h = (let is = h.done.paged.shows.found.ends in grind arith)

viewed : (gives : Gives) (by_path : Bool) (selection : Option Selection) (format : Format) (inputs : List Input) (left_out : Bool) (old new : ConsoleView) (status : ℕ)
    → HasShown gives by_path selection format inputs left_out old new status → status ≤ 3
viewed gives by_path selection format inputs left_out old new status (inl h) = (let is = h.2.2.printed.ends in omega arith)
viewed gives by_path selection format inputs left_out old new status (inr h) = (let is = h.1.1.ended.ends in grind arith)

-- what a plan asks for gives one of the documented statuses
obeyed : {S : Type 0} (program : Program S) (queries : Queries S) (lives : LivesBy) (types : List ℕ) (plan : Plan) (old new : ConsoleView) (status : ℕ)
    → Obeys program queries lives types plan old new status → status ≤ 3
obeyed program queries lives types (Replay dir more options) old new status h = (let is = h.done.1.reported.ends in grind arith)
obeyed program queries lives types (Explain file selection format) old new status h = (let is = h.done.ends in grind arith)
obeyed program queries lives types (Page file only_recorded) old new status h = paged program only_recorded file old new status h
obeyed program queries lives types (View file more selection format) old new status h =
    viewed IsReadFrom (is_by_path more.items) selection format h.inputs h.left_out h.between new status h.done
obeyed program queries lives types (Query file query_type input format) old new status h = (let is = h.done.ends in grind arith)
obeyed program queries lives types (Check file more format) old new status h = (let is = h.done.ended.ends in grind arith)
obeyed program queries lives types (Picture file) old new status h = (let is = h.done.printed.ends in grind arith)
obeyed program queries lives types (Try file more scenario format) old new status h = (let is = h.done.ended.ends in grind arith)
obeyed program queries lives types (Serve dir options required progress) old new status h =
    (let is = h.done.1.ends in let own = h.done.1.served.ends in grind arith)
obeyed program queries lives types (Work options) old new status h = (let is = h.ends in grind arith)
obeyed program queries lives types (Help text) old new status h = (let is = h.ends in omega arith)

-- so does each answer
pub documented : {S : Type 0} (program : Program S) (queries : Queries S) (lives : LivesBy) (types : List ℕ) (words : List (List ℕ)) (old new : ConsoleView) (status : ℕ)
    → Answers (Obeys program queries lives types) (IsUndone program) words old new status → status ≤ 3
documented program queries lives types words old new status (inl h) = obeyed program queries lives types h.plan old new status h.obeys
documented program queries lives types words old new status (inr h) = (let is = h.failed.ends in omega arith)
