-- What a console has received, one step after the other.
use Rattle.std.proofs.Common.{◌≡◌, ◌∙◌, ℕ, List, [], None, Some, refl, sym, append-nil}
use Rattle.std.specs.Prelude.{Option}
use Rattle.std.specs.Io.KnownBytes.{Appends, Keeps}
use Rattle.wh_console.specs.Consoles.{ConsoleView, IsQuiet, Printed, Reported}

-- what was written stays
pub written_kept : (a b c : Option (List ℕ)) (text : List ℕ) → Appends a b text → Keeps b c → Appends a c text
written_kept None b c text p q = tt
written_kept (Some x) None c text p q = absurd p
written_kept (Some x) (Some y) None text p q = absurd q
written_kept (Some x) (Some y) (Some z) text p q = q ∙ p

-- nothing was reported, twice
pub quiet_twice : (a b c : ConsoleView) → IsQuiet a b → IsQuiet b c → IsQuiet a c
quiet_twice a b c p q = record { named = q.named ∙ p.named; errors = q.errors ∙ p.errors; whole = q.whole ∙ p.whole }

-- what was printed stays
pub printed_kept : (a b c : ConsoleView) (text : List ℕ) → Printed a b text → IsQuiet b c → Keeps b.output c.output → Printed a c text
printed_kept a b c text p q kept = record {
  quiet = quiet_twice a b c p.quiet q;
  taken = written_kept a.output b.output c.output text p.taken kept;
}

appends_nothing : (known : Option (List ℕ)) → Appends known known []
appends_nothing None = tt
appends_nothing (Some bytes) = sym (append-nil bytes)

-- nothing was reported, and the console is as it was
pub nothing_reported : (a : ConsoleView) → Reported a a (λ name. [])
nothing_reported a = record { named = refl; output = refl; closed = refl; told = λ whole. (whole, appends_nothing a.errors) }
