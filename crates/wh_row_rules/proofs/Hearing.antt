-- Versions are checked one after another.
use Rattle.std.proofs.Common.{◌≡◌, ℕ, suc, ◌+◌, ◌-◌, ◌<◌, ◌≤◌, true, false, ◌&&◌, List, ap, sym, ◌∙◌, arith}
use Rattle.wh_rows.specs.declared.row.JobPattern.TheVariants as patterns
use Rattle.wh_rows.specs.Tables.{Row}
use Rattle.wh_rows.specs.Rules.{hears, hears_each, version_at}

one_more : (end place : ℕ) → place < end → end - place ≡ suc (end - suc place)
one_more end place below = omega arith

none_more : (end place : ℕ) → end ≤ place → end - place ≡ 0
none_more end place past = omega arith

plus_one : (n : ℕ) → n + 1 ≡ suc n
plus_one n = omega arith

-- a version that is covered leaves the later ones
pub hears_next : (change name : List ℕ) (rows : List Row) (end place : ℕ) → place < end
    → hears (patterns.Version change (version_at place)) name rows ≡ true
    → hears_each change (end - place) place name rows ≡ hears_each change (end - (place + 1)) (place + 1) name rows
hears_next change name rows end place below heard =
    ap (λ more. hears_each change more place name rows) (one_more end place below)
    ∙ ap (λ test. test && hears_each change (end - suc place) (suc place) name rows) heard
    ∙ ap (λ next. hears_each change (end - next) next name rows) (sym (plus_one place))

-- one that is not covered decides
pub hears_stops : (change name : List ℕ) (rows : List Row) (end place : ℕ) → place < end
    → hears (patterns.Version change (version_at place)) name rows ≡ false
    → hears_each change (end - place) place name rows ≡ false
hears_stops change name rows end place below unheard =
    ap (λ more. hears_each change more place name rows) (one_more end place below)
    ∙ ap (λ test. test && hears_each change (end - suc place) (suc place) name rows) unheard

-- all are covered once none is left
pub hears_all : (change name : List ℕ) (rows : List Row) (end place : ℕ) → end ≤ place
    → hears_each change (end - place) place name rows ≡ true
hears_all change name rows end place past = ap (λ more. hears_each change more place name rows) (none_more end place past)
