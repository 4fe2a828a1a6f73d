-- Whether promises are found kept.
use Rattle.std.specs.Prelude.{Bool, true, false, ◌&&◌, List, [], ◌∷◌}
use Rattle.wh_row_rules.specs.declared.promises.PromiseVerdict.TheVariants as verdicts
use Rattle.wh_row_rules.specs.declared.promises.PhraseFinding.{PhraseFinding}
use Rattle.wh_row_rules.specs.declared.promises.PhraseFinding.TheVariants as outcomes
use Rattle.wh_row_rules.specs.declared.promises.PromiseFinding.{PromiseFinding}
use Rattle.wh_row_rules.specs.declared.promises.PromiseFindings.{PromiseFindings}
use Rattle.wh_row_rules.specs.declared.promises.PromiseFindings.TheVariants as found

-- a phrase says a promise that is kept
abbrev pub is_kept_by : PhraseFinding → Bool
is_kept_by (outcomes.Decided verdicts.Kept) = true
is_kept_by _ = false

-- a promise is kept
abbrev pub is_kept : PromiseFinding → Bool
is_kept finding = is_kept_by finding.outcome

-- each of these is
abbrev pub all_kept : List PromiseFinding → Bool
all_kept [] = true
all_kept (finding ∷ list) = is_kept finding && all_kept list

-- each promise of a table is kept
abbrev pub are_kept : PromiseFindings → Bool
are_kept (found.Each list) = all_kept list
are_kept _ = false
