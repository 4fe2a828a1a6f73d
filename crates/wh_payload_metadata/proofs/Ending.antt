-- What tasks come to, and what it leaves of runs.
use Rattle.std.proofs.Common.{◌≡◌, ℕ, List, Bool, true, false, ◌&&◌, cond, codes, refl, ap, ◌∙◌}
use Rattle.std.specs.Prelude.{option_and_then, String}
use Rattle.std.specs.declared.alloc.Global.{Global}
use Rattle.wh_json.specs.Fields.{field, list_in, text_of}
use Rattle.wh_payload_metadata.specs.Kept.{runs_after}
use Rattle.wh_payload_metadata.specs.Laws.{OpenRunsStay, RunsStayUntilTaken, FailuresEndNoRun}
use Rattle.wh_payload_metadata.specs.Messages.{closes, last, closes_run, end_after, end_by, is_taken, responds}
use Rattle.wh_payload_metadata.specs.declared.ends.TaskEnd.TheVariants.{GoesOn}
use Rattle.wh_payload_metadata.specs.declared.seen.SeenPayloads.{SeenPayloads}

after_open : (b : Bool) (name : List ℕ) (runs : List (String Global × SeenPayloads))
    → runs_after (cond b (end_by false) GoesOn) name runs ≡ runs
after_open true name runs = refl
after_open false name runs = refl

pub open_stay : OpenRunsStay
open_stay method name params response runs goes_on =
    ap (λ b. runs_after (end_after method b response) name runs) goes_on ∙ after_open (responds method && is_taken response) name runs

after_untaken : (b closes : Bool) (name : List ℕ) (runs : List (String Global × SeenPayloads))
    → runs_after (cond (b && false) (end_by closes) GoesOn) name runs ≡ runs
after_untaken true closes name runs = refl
after_untaken false closes name runs = refl

pub stay_until_taken : RunsStayUntilTaken
stay_until_taken method name closes response runs untaken =
    ap (λ b. runs_after (cond (responds method && b) (end_by closes) GoesOn) name runs) untaken ∙ after_untaken (responds method) closes name runs

pub failures_end : FailuresEndNoRun
unfolding closes field
failures_end params none =
    ap (λ found. closes (text_of (field (codes "commandType") (option_and_then last (option_and_then list_in found))))) none
