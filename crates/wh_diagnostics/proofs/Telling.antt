-- What was reported between batches, one line after the other.
use Rattle.std.proofs.Common.{◌≡◌, ◌∙◌, ℕ, zero, suc, ◌*◌, ◌≤◌, ◌<◌, ◌-◌, ◌/◌, List, ◌++◌, length, None, Some, refl, sym, ap, ap₂, subst, arith}
use Rattle.std.specs.Prelude.{Bool, Option}
use Rattle.std.specs.Io.KnownBytes.{append_known, Appends}
use Rattle.std.proofs.lemmas.List.{append_assoc, take-append-le, take_all}
use Rattle.std.proofs.Math.Nat.{div-mul-le_self, mul-le-mul_right}
use Rattle.wh_console.specs.Consoles.{ConsoleView, Reported}
use Rattle.wh_diagnostics.specs.Batches.{batch_size, reports_after, reported_batches, reports_of}
use Rattle.wh_diagnostics.specs.ProgressLines.{end_text, line_text, progress_of}
use Rattle.wh_diagnostics.specs.declared.progress_modes.ProgressMode.{ProgressMode}
use Rattle.wh_diagnostics.specs.declared.progress_modes.ProgressMode.TheVariants.{Hidden, Lines, InPlace}

-- what was written twice
written_both : (a b c : Option (List ℕ)) (first second : List ℕ) → Appends a b first → Appends b c second → Appends a c (first ++ second)
written_both None b c first second p q = tt
written_both (Some x) None c first second p q = absurd p
written_both (Some x) (Some y) None first second p q = absurd q
written_both (Some x) (Some y) (Some z) first second p q = q ∙ ap (λ l. l ++ second) p ∙ append_assoc x first second

-- what was reported twice
pub reported_both : (a b c : ConsoleView) (first second : List ℕ → List ℕ) → Reported a b first → Reported b c second → Reported a c (λ name. first name ++ second name)
reported_both a b c first second p q = record {
  named = q.named ∙ p.named;
  output = q.output ∙ p.output;
  closed = q.closed ∙ p.closed;
  told = λ whole.
      let later = q.told whole in
      let before = p.told later.0 in (
        before.0,
        written_both a.errors b.errors c.errors (first a.name) (second a.name) before.1
            (subst (λ name. Appends b.errors c.errors (second name)) p.named later.1),
      );
}

-- a text is put after what is known
put_after : (known : Option (List ℕ)) (text : List ℕ) → Appends known (append_known known text) text
put_after None text = tt
put_after (Some x) text = refl

-- what was written at once was written one after the other
written_apart : (a c : Option (List ℕ)) (first second : List ℕ) → Appends a c (first ++ second) → Appends (append_known a first) c second
written_apart None c first second p = tt
written_apart (Some x) None first second p = absurd p
written_apart (Some x) (Some y) first second p = p ∙ sym (append_assoc x first second)

-- a console to which the first part of a text was reported
abbrev told_first : (a c : ConsoleView) → (first : List ℕ → List ℕ) → ConsoleView
told_first a c first =
    record { name = a.name; output = a.output; closed = a.closed; errors = append_known a.errors (first a.name); whole = c.whole }

-- what was reported at once was reported one after the other
pub reported_apart : (a c : ConsoleView) (first second : List ℕ → List ℕ) → Reported a c (λ name. first name ++ second name)
    → (b : ConsoleView) × Reported a b first × Reported b c second
reported_apart a c first second p = (
  told_first a c first,
  record { named = refl; output = refl; closed = refl; told = λ whole. ((p.told whole).0, put_after a.errors (first a.name)) },
  record {
    named = p.named;
    output = p.output;
    closed = p.closed;
    told = λ whole. (whole, written_apart a.errors c.errors (first a.name) (second a.name) (p.told whole).1);
  },
)

-- a text that is the same under the program's name
pub reported_as : (a b : ConsoleView) (one other : List ℕ → List ℕ) → one a.name ≡ other a.name → Reported a b one → Reported a b other
reported_as a b one other same p = record {
  named = p.named;
  output = p.output;
  closed = p.closed;
  told = λ whole. ((p.told whole).0, subst (λ text. Appends a.errors b.errors text) same (p.told whole).1);
}

-- one batch fewer has no more files
fewer_fit : (batches size files : ℕ) → suc batches * size ≤ files → batches * size ≤ files
fewer_fit batches size files fits = omega arith

-- what is reported after the first batches says nothing of later files
pub reports_front : (mode : ProgressMode) (total : ℕ) (done later : List Bool) (batches : ℕ) (name : List ℕ)
    → batches * batch_size total ≤ length done
    → reports_after mode total done batches name ≡ reports_after mode total (done ++ later) batches name
reports_front mode total done later zero name fits = refl
reports_front mode total done later (suc batches) name fits =
    ap₂ (λ before faulty. before ++ line_text mode (progress_of total faulty) name)
    (reports_front mode total done later batches name (fewer_fit batches (batch_size total) (length done) fits))
    (sym (take-append-le (suc batches * batch_size total) done later fits))

-- a batch that is reported is within the files
within : (size total batches : ℕ) → batches < (total - 1) / size → suc batches * size ≤ total
within size total batches less =
    let whole = div-mul-le_self (total - 1) size in
    let here = mul-le-mul_right {m = suc batches} {n = (total - 1) / size} size less in
    omega (arith, whole, here)

pub batch_fits : (mode : ProgressMode) (total batches : ℕ) → batches < reported_batches mode total → suc batches * batch_size total ≤ total
batch_fits Hidden total batches less = absurd (omega (arith, less))
batch_fits Lines total batches less = within (batch_size total) total batches less
batch_fits InPlace total batches less = within (batch_size total) total batches less

-- one batch more was reported
pub told_more : (mode : ProgressMode) (total : ℕ) (done more : List Bool) (batches : ℕ) (a b c : ConsoleView)
    → length done ≡ batches * batch_size total → length (done ++ more) ≡ suc batches * batch_size total
    → Reported a b (reports_after mode total done batches)
    → Reported b c (line_text mode (progress_of total (done ++ more)))
    → Reported a c (reports_after mode total (done ++ more) (suc batches))
told_more mode total done more batches a b c so_far now before after =
    reported_as a c
    (λ name. reports_after mode total done batches name ++ line_text mode (progress_of total (done ++ more)) name)
    (reports_after mode total (done ++ more) (suc batches))
    (ap₂ (λ front faulty. front ++ line_text mode (progress_of total faulty) a.name)
    (reports_front mode total done more batches a.name (omega (arith, so_far)))
    (sym (take_all (suc batches * batch_size total) (done ++ more) (omega (arith, now)))))
    (reported_both a b c _ _ before after)

-- the last batch is not reported
pub told_before_last : (mode : ProgressMode) (total : ℕ) (done more : List Bool) (batches : ℕ) (a b : ConsoleView)
    → length done ≡ batches * batch_size total
    → Reported a b (reports_after mode total done batches)
    → Reported a b (reports_after mode total (done ++ more) batches)
told_before_last mode total done more batches a b so_far before =
    reported_as a b (reports_after mode total done batches) (reports_after mode total (done ++ more) batches)
    (reports_front mode total done more batches a.name (omega (arith, so_far))) before

-- all that is reported of files was reported
pub told_all : (mode : ProgressMode) (total : ℕ) (faulty : List Bool) (a b c : ConsoleView) → total ≡ length faulty
    → Reported a b (reports_after mode total faulty (reported_batches mode total))
    → Reported b c (end_text mode (reported_batches mode total))
    → Reported a c (reports_of mode faulty)
told_all mode total faulty a b c same before after =
    subst (λ n. Reported a c (λ name. reports_after mode n faulty (reported_batches mode n) name ++ end_text mode (reported_batches mode n) name)) same
    (reported_both a b c _ _ before after)
