-- A scenario without a fault is one whose lines are answered.
use Rattle.std.specs.Prelude.{◌≡◌, ℕ, suc, Bool, true, false, List, [], ◌∷◌, ◌++◌, length, Option, Some, None, bytes_eq, nat_eq, refl, if◌then◌else◌}
use Rattle.std.specs.Str.{trim}
use Rattle.std.specs.Str.Lines.{lines}
use Rattle.std.proofs.Common.{ap, sym, subst}
use Rattle.std.proofs.lemmas.Slice.Eq.{bytes_eq-Decides}
use Rattle.wh_workflow.specs.Law.{Program}
use Rattle.wh_author_tools.specs.declared.fault.ScenarioFault.{ScenarioFault}
use Rattle.wh_author_tools.specs.declared.fault.ScenarioFault.TheVariants.{UnknownWorkflow, Differs}
use Rattle.wh_author_tools.specs.CommandTexts.{commands_text}
use Rattle.wh_author_tools.specs.Scenarios.{at_arrow, parts_of, jobs_of, no_job_in, given_to, difference, or_difference, sides_fault, line_fault, after_line, or_fault, lines_fault, scenario_fault, after_lines, IsAnswered, EachAnswered}

first_none : (first second : Option ScenarioFault) → or_fault first second ≡ None → first ≡ None
first_none None second none = refl
first_none (Some fault) second none = none

second_none : (first second : Option ScenarioFault) → or_fault first second ≡ None → second ≡ None
second_none None second none = none
second_none (Some fault) second none = cc

both_none : (first second : Option ScenarioFault) → first ≡ None → second ≡ None → or_fault first second ≡ None
both_none None second one other = other
both_none (Some fault) second one other = cc

-- no difference is the same text
same_text : (number : ℕ) (given wanted : List ℕ) → difference number given wanted ≡ None → given ≡ wanted
same_text number given wanted none = by_test (bytes_eq given wanted) refl none
  where
    by_test : (test : Bool) → bytes_eq given wanted ≡ test
        → (if test then None else Some (Differs number given wanted)) ≡ None → given ≡ wanted
    by_test true same none = (bytes_eq-Decides given wanted).0 same
    by_test false other none = cc

no_difference : (number : ℕ) (given wanted : List ℕ) → given ≡ wanted → difference number given wanted ≡ None
no_difference number given wanted same =
    ap (λ test. if test then None else Some (Differs number given wanted)) ((bytes_eq-Decides given wanted).1 same)

all_known : (number : ℕ) (unknown : Option (List ℕ)) (differs : Option ScenarioFault) → or_difference number unknown differs ≡ None
    → (unknown ≡ None) × (differs ≡ None)
all_known number None differs none = (refl, none)
all_known number (Some words) differs none = cc

none_wrong : (number : ℕ) (unknown : Option (List ℕ)) (differs : Option ScenarioFault) → unknown ≡ None → differs ≡ None
    → or_difference number unknown differs ≡ None
none_wrong number None differs known same = same
none_wrong number (Some words) differs known same = cc

module _ {S : Type 0} (program : Program S) (kind : List ℕ) where
  -- a line without a fault is answered
  answered : (state : S) (number : ℕ) (line : List ℕ) → line_fault program kind state number line ≡ None
      → nat_eq (length (trim line)) 0 ≡ false → IsAnswered program kind state line
  answered state number line none words =
      by_arrow (at_arrow line) refl
      (subst (λ test. (if test then None else sides_fault program kind state number (at_arrow line)) ≡ None) words none)
    where
      by_arrow : (sides : Option (List ℕ × List ℕ)) → at_arrow line ≡ sides
          → sides_fault program kind state number sides ≡ None → IsAnswered program kind state line
      by_arrow None arrow none = cc
      by_arrow (Some sides) arrow none =
          let parts = all_known number (no_job_in kind (parts_of sides.0)) _ none in record {
            jobs = sides.0;
            wanted = sides.1;
            arrow = arrow;
            known = parts.0;
            given = same_text number _ (trim sides.1) parts.1;
          }

  -- a line that is answered has no fault
  faultless : (state : S) (number : ℕ) (line : List ℕ)
      → (nat_eq (length (trim line)) 0 ≡ false → IsAnswered program kind state line)
      → line_fault program kind state number line ≡ None
  faultless state number line answers = by_words (nat_eq (length (trim line)) 0) refl
    where
      by_words : (test : Bool) → nat_eq (length (trim line)) 0 ≡ test
          → (if test then None else sides_fault program kind state number (at_arrow line)) ≡ None
      by_words true blank = refl
      by_words false words =
          let one : IsAnswered program kind state line = answers words in
          subst (λ sides. sides_fault program kind state number sides ≡ None) (sym one.arrow)
          (none_wrong number (no_job_in kind (parts_of one.jobs)) _ one.known
          (no_difference number (commands_text (given_to program state (jobs_of kind (parts_of one.jobs)))) (trim one.wanted) one.given))

  each_answered : (before : List (List ℕ)) (state : S) (number : ℕ) (line : List ℕ) (behind : List (List ℕ))
      → lines_fault program kind state number (before ++ line ∷ behind) ≡ None → nat_eq (length (trim line)) 0 ≡ false
      → IsAnswered program kind (after_lines program kind state before) line
  each_answered [] state number line behind none words =
      answered state number line
      (first_none (line_fault program kind state number line)
      (lines_fault program kind (after_line program kind state line) (suc number) behind) none)
      words
  each_answered (one ∷ before) state number line behind none words =
      each_answered before (after_line program kind state one) (suc number) line behind
      (second_none (line_fault program kind state number one)
      (lines_fault program kind (after_line program kind state one) (suc number) (before ++ line ∷ behind)) none)
      words

  none_faulty : (list : List (List ℕ)) (state : S) (number : ℕ) → EachAnswered program kind state list
      → lines_fault program kind state number list ≡ None
  none_faulty [] state number each = refl
  none_faulty (line ∷ rest) state number each =
      both_none (line_fault program kind state number line)
      (lines_fault program kind (after_line program kind state line) (suc number) rest)
      (faultless state number line (each [] line rest refl))
      (none_faulty rest (after_line program kind state line) (suc number)
      (λ before one behind split. each (line ∷ before) one behind (ap (λ list. line ∷ list) split)))

  known : (test : Bool) (fault : Option ScenarioFault) → (if test then fault else Some UnknownWorkflow) ≡ None
      → (test ≡ true) × (fault ≡ None)
  known true fault none = (refl, none)
  known false fault none = cc

  pub each_line : (scenario : List ℕ)
      → ((scenario_fault program kind scenario ≡ None)
      → ((program.knows kind ≡ true) × EachAnswered program kind (program.initial kind) (lines scenario)))
      × (((program.knows kind ≡ true) × EachAnswered program kind (program.initial kind) (lines scenario))
      → scenario_fault program kind scenario ≡ None)
  each_line scenario = (
    λ none. let parts = known (program.knows kind) (lines_fault program kind (program.initial kind) 1 (lines scenario)) none in (
      parts.0,
      λ before line behind split words. each_answered before (program.initial kind) 1 line behind
          (subst (λ list. lines_fault program kind (program.initial kind) 1 list ≡ None) split parts.1) words,
    ),
    λ good. subst (λ test. (if test then lines_fault program kind (program.initial kind) 1 (lines scenario) else Some UnknownWorkflow) ≡ None)
        (sym good.0)
        (none_faulty (lines scenario) (program.initial kind) 1 good.1),
  )
