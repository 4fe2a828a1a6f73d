-- What the result of a write says of the reader.
use Rattle.std.specs.Prelude.{◌≡◌, MatchResult, Result}
use Rattle.std.specs.IoError.{error_kind}
use Rattle.std.specs.declared.io.Error.{Error}
use Rattle.std.specs.declared.io.ErrorKind.TheVariants.{BrokenPipe}

-- the result says that the reader closed the writer
abbrev pub SaysClosed : {T : Type 0} → Result T Error → Type 0
SaysClosed answer = MatchResult answer (λ _. ⊥) (λ error. error_kind error ≡ BrokenPipe)
