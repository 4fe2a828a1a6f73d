-- The numbers of the runs, written one after the other.
use Rattle.std.proofs.Common.{◌≡◌, ℕ, List, [], ◌∷◌, append-nil, subst, sym}
use Rattle.std.proofs.KnownBytes.{Appends-trans}
use Rattle.std.specs.Io.KnownBytes.{Appends}
use Rattle.std.specs.Prelude.{Option}
use Rattle.wh_view.specs.declared.view.RunStatus.{RunStatus}
use Rattle.wh_explain_report.specs.RunCounts.{count_of, count_text, counts_text, separator_after}

-- one number is written, and then the others
pub counted : (separator next phrase : List ℕ) (phrases : List (List ℕ)) (statuses : List (Option RunStatus)) (a b c : Option (List ℕ))
    → Appends a b (count_text separator (count_of phrase statuses) phrase)
    → next ≡ separator_after separator (count_of phrase statuses)
    → Appends b c (counts_text next phrases statuses)
    → Appends a c (counts_text separator (phrase ∷ phrases) statuses)
counted separator next phrase phrases statuses a b c first is others =
    Appends-trans a b c (count_text separator (count_of phrase statuses) phrase) (counts_text (separator_after separator (count_of phrase statuses)) phrases statuses)
    first (subst (λ s. Appends b c (counts_text s phrases statuses)) is others)

-- the last number is written
pub counted_last : (separator phrase : List ℕ) (statuses : List (Option RunStatus)) (a b : Option (List ℕ))
    → Appends a b (count_text separator (count_of phrase statuses) phrase)
    → Appends a b (counts_text separator (phrase ∷ []) statuses)
counted_last separator phrase statuses a b last =
    subst (Appends a b) (sym (append-nil (count_text separator (count_of phrase statuses) phrase))) last
