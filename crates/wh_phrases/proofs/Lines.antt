-- The object of a file.
use Rattle.std.proofs.Common.{◌≡◌, ◌∙◌, ℕ, List, ◌∷◌, ◌++◌, ap, sym, codes, append_assoc}
use Rattle.std.proofs.lemmas.Grind.{flat_map-append}
use Rattle.wh_tester.specs.Json.{following, open_line, text_member, verdict_members}
use Rattle.wh_tester.specs.Report.{shown}
use Rattle.wh_tester.specs.declared.line.Line.{Line}
use Rattle.wh_phrases.specs.Json.{json_line_with}

-- an object that members follow, and its end
pub open_and_closed : (line : Line) (more : List (List ℕ)) → open_line line ++ (following more ++ codes "}\n") ≡ json_line_with line more
open_and_closed line more =
    let first = text_member (codes "file") (shown line.name) in
    let own = verdict_members line.verdict in
    ap (λ l. 123 ∷ l)
    (append_assoc first (following own) (following more ++ codes "}\n")
    ∙ ap (λ l. first ++ l)
    (sym (append_assoc (following own) (following more) (codes "}\n"))
    ∙ ap (λ l. l ++ codes "}\n") (sym (flat_map-append (λ member. codes "," ++ member) own more))))
