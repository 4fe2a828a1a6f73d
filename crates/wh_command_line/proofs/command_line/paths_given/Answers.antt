use Rattle.std.proofs.Common.{◌≡◌, ◌∙◌, ◌<◌, ◌≤◌, refl, List, [], ◌∷◌, ap, ap₂, sym, Option, Some, None, Bor, arith, codes, drop, find, get_or, length, map}
use Rattle.std.proofs.lemmas.List.{take_rest}
use Rattle.std.specs.Prelude.{option_map, option_and_then, slice_get, bytes_eq}
use Rattle.clap.specs.Words.{Row, Text, found_of, rows_of}
use Rattle.clap.proofs.WalkLemmas.{raw_values-rows}
use Rattle.wh_command_line.specs.Given.{GivesPaths}
use Rattle.wh_command_line.proofs.Reasons.{if_bad}
use Rattle.wh_command_line.proofs.command_line.paths_given.Goals as goal

-- the first of all values of a row is its first value
first_among : (found : Option Row) (first : Text) (others : List Text) → option_map (λ (r : Row). r.values) found ≡ Some (first ∷ others)
    → option_and_then (λ (r : Row). slice_get r.values 0) found ≡ Some first
first_among None first others all = cc
first_among (Some r) first others all =
    let same : r.values ≡ first ∷ others = cc in
    ap (λ (values : List Text). slice_get values 0) same

-- the values are the first, and those after it
all_values : (values : List (Bor Text)) (default : Bor Text) (first : Text) (more : List Text) → 1 ≤ length values
    → first ≡ (get_or values 0 default).now → more ≡ map (λ v. v.now) (drop 1 values) → map (λ v. v.now) values ≡ first ∷ more
all_values [] default first more long is_first are_more = absurd (omega arith)
all_values (v ∷ vs) default first more long is_first are_more = ap₂ (λ (a : Text) (b : List Text). a ∷ b) (sym is_first) (sym are_more)

-- rows that give all values give the first
paths_by : (rows : List Row) (first : Text) (more : List Text)
    → option_map (λ (r : Row). r.values) (find (λ (r : Row). bytes_eq r.id (codes "DIR")) rows) ≡ Some (first ∷ more) → GivesPaths rows first more
paths_by rows first more all =
    record { gives_folder = first_among (find (λ (r : Row). bytes_eq r.id (codes "DIR")) rows) first more all; gives_all = all }

-- where there is no row, there is no first value
no_row : (found : Option Row) → option_map (λ (r : Row). r.values) found ≡ None → option_and_then (λ (r : Row). slice_get r.values 0) found ≡ None
no_row None none = refl
no_row (Some r) none = absurd cc

-- nor where the row has no value
no_first : (found : Option Row) (values : List (Bor Text)) → length values < 1
    → option_map (λ (r : Row). r.values) found ≡ Some (map (λ v. v.now) values) → option_and_then (λ (r : Row). slice_get r.values 0) found ≡ None
no_first found (v ∷ vs) short all = absurd (omega arith)
no_first None [] short all = absurd cc
no_first (Some r) [] short all =
    let same : r.values ≡ [] = cc in
    ap (λ (values : List Text). slice_get values 0) same

pub returns-clause-given : goal.returns-clause-given
returns-clause-given c =
    let more = c.in_ok-more.ensures.ok ∙ ap (λ (vs : List (Bor Text)). map (λ v. v.now) vs) (take_rest c.in-Some.paths.now 1) in
    let same = all_values c.in-Some.paths.now _ _ _ c.in-len1-up.len_at_least c.in_ok-text_copy.ensures.ok more in
    paths_by _ _ _ (sym (raw_values-rows (found_of c.args.given.now) (codes "DIR")) ∙ sym c.in-Some.ensures ∙ ap Some same)

pub returns-in_default-clause-bad : goal.returns-in_default-clause-bad
returns-in_default-clause-bad c =
    let none = sym (raw_values-rows (found_of c.args.given.now) (codes "DIR")) ∙ sym c.in_default.ensures in
    if_bad _ c.no_path.result (no_row (find (λ (r : Row). bytes_eq r.id (codes "DIR")) (rows_of (found_of c.args.given.now))) none)

pub returns-in_default-paths-clause-bad : goal.returns-in_default-paths-clause-bad
returns-in_default-paths-clause-bad c =
    let all = sym (raw_values-rows (found_of c.args.given.now) (codes "DIR")) ∙ sym c.in-Some.ensures in
    let none = no_first (find (λ (r : Row). bytes_eq r.id (codes "DIR")) (rows_of (found_of c.args.given.now))) c.in-Some.paths.now c.in_default-paths.len_below all in
    if_bad _ c.no_path-in_default-paths.result none
