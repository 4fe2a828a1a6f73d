use Rattle.std.proofs.Common.{◌≡◌, ◌+◌, false, [], ◌∷◌, codes, ap, subst, sym, ◌∙◌}
use Rattle.std.specs.Prelude.{if◌then◌else◌}
use Rattle.wh_table_check.specs.Findings.{finding_at}
use Rattle.wh_table_check.specs.Warnings.{goes_on}
use Rattle.wh_table_check.proofs.warning.stuck_warning.Goals as goal

-- the warning, since the state has no way out
pub returns : goal.returns
returns c =
    let row = c.args.row.now in
    let on : goes_on c.args.place c.args.rows.now row ≡ false = sym c.goes_on.ensures ∙ c.if-goes_on.false in
    subst (λ test. (c.in_ok-finding_at.field-0 ∷ [])
    ≡ (if test then [] else finding_at (c.args.place + 1) (codes "no row leads on from the state ") row.state ∷ [])) (sym on)
    (ap (λ one. one ∷ [])
    (c.in_ok-finding_at.ensures
    ∙ ap (finding_at (c.args.place + 1) (codes "no row leads on from the state ")) c.get.ensures))
