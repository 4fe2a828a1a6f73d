use Rattle.std.proofs.Common.{option_map, nat_cmp, string_bytes, ap}
use mathlib.Core.Path.{fun_ext}
use Rattle.std.specs.BTreeMap.{is_at}
use Rattle.std.specs.Cmp.Lexicographic.{slice_cmp}
use Rattle.std.specs.Map.{lookup}
use Rattle.wh_payload_metadata.specs.Header.{no_fields, set_in, fields_of}
use Rattle.wh_payload_metadata.proofs.header.Header.new.Goals as goal

pub returns : goal.returns
unfolding no_fields fields_of
returns c = fun_ext (λ name. ap (λ es. option_map set_in (lookup (is_at (λ k. slice_cmp nat_cmp name (string_bytes k))) es)) c.new.ensures.empty)
