-- What was written is read.
use Rattle.std.proofs.Common.{◌≡◌, ℤ, pos, negsuc, Some, Ok, ap, refl}
use Rattle.std.specs.Prelude.{length}
use Rattle.std.specs.Option.{ok_or}
use Rattle.std.proofs.lemmas.Bool.{lt-ltb, le-ltb}
use Rattle.std.proofs.lemmas.Str.{is_utf8-from_IsUtf8}
use Rattle.serde_json.specs.Find.{of_integer, as_i64}
use Rattle.wh_rpc.specs.declared.bad_line.BadLine.TheVariants.{BadError}
use Rattle.wh_rpc.specs.Responses.{Meaning, answers, shutdown, given, refused, meaning, longest, said_by, response_of, outcome_of, refusal_of, ◌>>=◌}
use Rattle.wh_rpc.specs.WrittenLines.{written, IsShort, HasShortCode, WrittenLinesReadBack}

code_back : (code : ℤ) → IsShort code → as_i64 (of_integer code) ≡ Some code
code_back (pos n) h = rw (lt-ltb n 9223372036854775808 h) refl
code_back (negsuc n) h = refl

said-written : (said : Meaning) → HasShortCode said → said_by (written said) ≡ Ok said
unfolding said_by response_of outcome_of refusal_of
said-written (answers id (given result)) h = refl
said-written (answers id (refused code message)) h =
    ap (λ found. (ok_or found BadError >>= (λ code. Ok (refused code message))) >>= (λ answer. Ok (answers id answer))) (code_back code h)
said-written shutdown h = refl

pub read_back : WrittenLinesReadBack
unfolding meaning
read_back said bytes short fits text is =
    rw (le-ltb longest (length bytes) fits, is_utf8-from_IsUtf8 bytes text, is) (said-written said short)
