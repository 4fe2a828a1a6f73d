-- The first rule that rows break, and the first row that hides another.
use Rattle.std.proofs.Common.{◌≡◌, ℕ, zero, suc, ◌-◌, ◌+◌, ◌<◌, ◌≤◌, ◌≢◌, Bool, true, false, List, [], length, get_or, drop, refl, ap, sym, ◌∙◌, drop_of_length-le, Option, Some, None, arith}
use Rattle.std.specs.Prelude.{option_map}
use Rattle.std.proofs.Math.Seq.{drop-cons}
use Rattle.wh_events.specs.Machines.{or_else}
use Rattle.wh_rows.specs.Tables.{Row, Definition}
use Rattle.wh_rows.specs.Rules.{Rule, TableFault, in_row, row_rule, rows_fault, hides, hidden_from, HiddenBy}
use Rattle.wh_row_rules.specs.declared.fault.BrokenRule.{BrokenRule}
use Rattle.wh_row_rules.specs.declared.fault.RowsFault.TheVariants as faults
use Rattle.wh_row_rules.specs.Broken.{broken_rule, broken}

-- a row that breaks a rule is the fault
pub first_broken : (number : ℕ) (found : Option Rule) (rule : BrokenRule) (rest : Option TableFault)
    → option_map broken_rule found ≡ Some rule
    → option_map broken (or_else (in_row number found) rest) ≡ Some (faults.InRow number rule)
first_broken number None rule rest is = cc
first_broken number (Some one) rule rest is = cc

-- after a row that breaks no rule, the later rows decide
pub later_broken : (number : ℕ) (found : Option Rule) (rest : Option TableFault)
    → option_map broken_rule found ≡ None → or_else (in_row number found) rest ≡ rest
later_broken number None rest is = refl
later_broken number (Some one) rest is = cc

-- so many more rows are one and the rest
one_more : (before i : ℕ) → i < before → before - i ≡ suc (before - suc i)
one_more before i below = omega arith

step : (test : Bool) (number : ℕ) (later : Option Rule) → test ≡ false
    → (elim test [ true ↦ Some (HiddenBy number) | false ↦ later ]) ≡ later
step true number later is = cc
step false number later is = refl

hit : (test : Bool) (number : ℕ) (later : Option Rule) → test ≡ true
    → (elim test [ true ↦ Some (HiddenBy number) | false ↦ later ]) ≡ Some (HiddenBy number)
hit true number later is = refl
hit false number later is = cc

none_left : (number more : ℕ) (row : Row) → hidden_from number more [] row ≡ None
none_left number zero row = refl
none_left number (suc more) row = refl

plus_one : (n : ℕ) → n + 1 ≡ suc n
plus_one n = omega arith

-- the rows from a place on, if one more comes before them
opened : (rows : List Row) (before i : ℕ) (earlier row : Row) → i < before → i < length rows → earlier ≡ get_or rows i earlier
    → hidden_from (suc i) (before - i) (drop i rows) row
    ≡ (elim (hides earlier row) [ true ↦ Some (HiddenBy (suc i)) | false ↦ hidden_from (suc (suc i)) (before - suc i) (drop (suc i) rows) row ])
opened rows before i earlier row below within is =
    ap (λ more. hidden_from (suc i) more (drop i rows) row) (one_more before i below)
    ∙ ap (λ rest. hidden_from (suc i) (suc (before - suc i)) rest row) (drop-cons rows i earlier within)
    ∙ ap (λ one. elim (hides one row) [ true ↦ Some (HiddenBy (suc i)) | false ↦ hidden_from (suc (suc i)) (before - suc i) (drop (suc i) rows) row ]) (sym is)

-- a row that does not hide leaves the later ones
pub hides_not : (rows : List Row) (before i : ℕ) (earlier row : Row) → i < before → i < length rows → earlier ≡ get_or rows i earlier
    → hides earlier row ≡ false
    → hidden_from (suc i) (before - i) (drop i rows) row ≡ hidden_from (suc (i + 1)) (before - (i + 1)) (drop (i + 1) rows) row
hides_not rows before i earlier row below within is not_hides =
    opened rows before i earlier row below within is
    ∙ step (hides earlier row) (suc i) (hidden_from (suc (suc i)) (before - suc i) (drop (suc i) rows) row) not_hides
    ∙ ap (λ next. hidden_from (suc next) (before - next) (drop next rows) row) (sym (plus_one i))

-- one that hides decides
pub hides_one : (rows : List Row) (before i : ℕ) (earlier row : Row) → i < before → i < length rows → earlier ≡ get_or rows i earlier
    → hides earlier row ≡ true
    → hidden_from (suc i) (before - i) (drop i rows) row ≡ Some (HiddenBy (i + 1))
hides_one rows before i earlier row below within is it_hides =
    opened rows before i earlier row below within is
    ∙ hit (hides earlier row) (suc i) (hidden_from (suc (suc i)) (before - suc i) (drop (suc i) rows) row) it_hides
    ∙ ap (λ next. Some (HiddenBy next)) (sym (plus_one i))

-- no row hides it if no row is left
pub hides_none : (rows : List Row) (number more i : ℕ) (row : Row) → length rows ≤ i → hidden_from number more (drop i rows) row ≡ None
hides_none rows number more i row past =
    ap (λ rest. hidden_from number more rest row) (drop_of_length-le rows past) ∙ none_left number more row

-- the first rule that a row breaks, before the later rows
row_first : (table : Definition) (rows : List Row) (i : ℕ) (row : Row) → i < length rows → row ≡ get_or rows i row
    → rows_fault table i (drop i rows) ≡ or_else (in_row (suc i) (row_rule table i row)) (rows_fault table (suc i) (drop (suc i) rows))
row_first table rows i row within is =
    ap (rows_fault table i) (drop-cons rows i row within)
    ∙ ap (λ one. or_else (in_row (suc i) (row_rule table i one)) (rows_fault table (suc i) (drop (suc i) rows))) (sym is)

-- a row that breaks a rule decides
pub row_breaks : (table : Definition) (rows : List Row) (i : ℕ) (row : Row) (rule : BrokenRule) → i < length rows
    → row ≡ get_or rows i row → option_map broken_rule (row_rule table i row) ≡ Some rule
    → option_map broken (rows_fault table i (drop i rows)) ≡ Some (faults.InRow (i + 1) rule)
row_breaks table rows i row rule within is breaks =
    ap (option_map broken) (row_first table rows i row within is)
    ∙ first_broken (suc i) (row_rule table i row) rule (rows_fault table (suc i) (drop (suc i) rows)) breaks
    ∙ ap (λ number. Some (faults.InRow number rule)) (sym (plus_one i))

-- one that breaks none leaves the later ones
pub row_keeps : (table : Definition) (rows : List Row) (i : ℕ) (row : Row) → i < length rows → row ≡ get_or rows i row
    → option_map broken_rule (row_rule table i row) ≡ None
    → rows_fault table i (drop i rows) ≡ rows_fault table (i + 1) (drop (i + 1) rows)
row_keeps table rows i row within is keeps =
    row_first table rows i row within is
    ∙ later_broken (suc i) (row_rule table i row) (rows_fault table (suc i) (drop (suc i) rows)) keeps
    ∙ ap (λ next. rows_fault table next (drop next rows)) (sym (plus_one i))

-- what is not the bound is below it
pub below_both : (i before : ℕ) → i ≤ before → i ≢ before → i < before
below_both i before within other = omega arith
