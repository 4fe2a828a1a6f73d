use Rattle.std.proofs.Common.{◌-◌, length, map, option_map, sym, ap, ◌∙◌}
use Rattle.std.specs.Prelude.{slice_get}
use Rattle.std.proofs.lemmas.List.{length-map}
use Rattle.std.proofs.lemmas.Option.{slice_get-map}
use Rattle.serde_json.specs.View.{view}
use Rattle.serde_json.proofs.Views.{view_of_ref}
use Rattle.wh_payload_metadata.specs.Messages.{last}
use Rattle.wh_payload_metadata.proofs.messages.last_in.Goals as goal

pub returns : goal.returns
unfolding last
returns c =
    let values = c.args.values.now in
    view_of_ref c.last.result ∙ ap (option_map view) c.last.ensures.value
    ∙ sym (slice_get-map view values (length values - 1))
    ∙ ap (λ n. slice_get (map view values) (n - 1)) (sym (length-map values view))
