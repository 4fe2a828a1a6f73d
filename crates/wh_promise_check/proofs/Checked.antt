-- If each promise of a table is found kept, the table keeps it.
use Rattle.std.proofs.Common.{◌≡◌, ℕ, true, List, [], ◌∷◌, Option, Some, None, ap, ◌∙◌}
use Rattle.std.proofs.lemmas.Bool.{and_parts}
use Rattle.wh_rows.specs.Tables.{Definition}
use Rattle.wh_row_rules.specs.Broken.{definition}
use Rattle.wh_table.specs.Program.{table_in}
use Rattle.wh_rows.specs.Promises.{PromisesAll}
use Rattle.wh_table_promises.specs.declared.promise.TablePromise.{TablePromise}
use Rattle.wh_row_rules.specs.declared.promises.PromiseVerdict.TheVariants as verdicts
use Rattle.wh_row_rules.specs.declared.promises.PhraseFinding.{PhraseFinding}
use Rattle.wh_row_rules.specs.declared.promises.PhraseFinding.TheVariants as outcomes
use Rattle.wh_row_rules.specs.declared.promises.PromiseFinding.{PromiseFinding}
use Rattle.wh_row_rules.specs.declared.promises.PromiseFindings.{PromiseFindings}
use Rattle.wh_row_rules.specs.declared.promises.PromiseFindings.TheVariants as found
use Rattle.wh_promise_check.specs.Phrases.{promise_in}
use Rattle.wh_promise_check.specs.Findings.{phrases_in, IsOutcome, AreFound, AreDecided}
use Rattle.wh_row_rules.specs.Promises.{is_kept_by, is_kept, all_kept, are_kept}
use Rattle.wh_promise_check.specs.BroughtTables.{with_promise, promises_said, promises_by, CheckedTablesKeep}
use Rattle.wh_promise_check.proofs.Brought.{brought_keep}

module _ (table : Definition) where
  -- a promise that is found kept is kept, and so are those after it
  outcome_keeps : (promise : Option TablePromise) (outcome : PhraseFinding) (others : List (List ℕ)) → IsOutcome table promise outcome
      → is_kept_by outcome ≡ true → PromisesAll table (promises_said others)
      → PromisesAll table (with_promise promise (promises_said others))
  outcome_keeps None outcome others right kept behind = behind
  outcome_keeps (Some promise) (outcomes.Decided verdicts.Kept) others right kept behind = (right, behind)
  outcome_keeps (Some promise) _ others right kept behind = cc

  each_keeps : (phrases : List (List ℕ)) (list : List PromiseFinding) → AreFound table phrases list → all_kept list ≡ true
      → PromisesAll table (promises_said phrases)
  each_keeps [] list right kept = tt
  each_keeps (phrase ∷ phrases) [] right kept = absurd right
  each_keeps (phrase ∷ phrases) (finding ∷ list) right kept =
      let parts : (is_kept finding ≡ true) × (all_kept list ≡ true) = and_parts (is_kept finding) (all_kept list) kept in
      outcome_keeps (promise_in phrase) finding.outcome phrases right.0.1 parts.0 (each_keeps phrases list right.1 parts.1)

  -- so the promises of a table are kept
  all_keep : (phrases : Option (List (List ℕ))) (findings : PromiseFindings) → AreDecided table phrases findings
      → are_kept findings ≡ true → PromisesAll table (promises_by phrases)
  all_keep None findings right kept = tt
  all_keep (Some phrases) found.NoPhrases right kept = absurd right
  all_keep (Some phrases) found.TooMany right kept = cc
  all_keep (Some phrases) (found.Each list) right kept = each_keeps phrases list right.1 kept

pub checked_keep : CheckedTablesKeep
checked_keep events left ok first others are table is findings right kept list told =
    brought_keep events left ok table (ap table_in are ∙ is) (promises_by (phrases_in first.content))
    (all_keep (definition table) (phrases_in first.content) findings right kept) list told
