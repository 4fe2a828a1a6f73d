use Rattle.std.proofs.Common.{refl}
use Rattle.wh_json.specs.Fields.{field, list_in}
use Rattle.wh_markers.specs.Forms.{form_for}
use Rattle.wh_markers.specs.Markers.{marker_of}
use Rattle.wh_markers.proofs.laws.markers_are_read.Goals as goal

pub returns : goal.returns
unfolding field list_in form_for marker_of
returns c = record {
  go_version = λ change. refl;
  java_version = λ change. refl;
  go_side_effect = λ value. refl;
  java_side_effect = λ value. refl;
  go_mutable_side_effect = λ id value. refl;
  java_mutable_side_effect = λ id value. refl;
  go_local_activity = λ type result. refl;
  java_local_activity = λ type result. refl;
  core_local_activity = λ type result. refl;
  patch = λ id deprecated. refl;
}
