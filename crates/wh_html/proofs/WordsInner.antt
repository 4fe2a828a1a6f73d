-- The words of a page have neither `<` nor `>`.
use Rattle.std.proofs.Common.{◌≡◌, Bool, true, false, refl}
use Rattle.std.specs.List.{list_all}
use Rattle.wh_html.proofs.Alike.{is_inner}
use Rattle.wh_html.specs.declared.page.Kind.{Kind}
use Rattle.wh_html.specs.declared.page.Kind.TheVariants.{Activity, Timer, Child, Signal, Request, Marker}
use Rattle.wh_html.specs.declared.page.ThingOutcome.{ThingOutcome}
use Rattle.wh_html.specs.declared.page.ThingOutcome.TheVariants.{Open, Done, Failed, Canceled}
use Rattle.wh_html.specs.declared.page.Side.{Side}
use Rattle.wh_html.specs.declared.page.Side.TheVariants.{Told, Gives, Recorded, Fault, Note}
use Rattle.wh_html.specs.Words.{kind_word, outcome_class, side_word}
use Rattle.wh_html.specs.Lanes.{hit_class}

pub kind-inner : (kind : Kind) → list_all is_inner (kind_word kind) ≡ true
kind-inner Activity = refl
kind-inner Timer = refl
kind-inner Child = refl
kind-inner Signal = refl
kind-inner Request = refl
kind-inner Marker = refl

pub outcome-inner : (outcome : ThingOutcome) → list_all is_inner (outcome_class outcome) ≡ true
outcome-inner Open = refl
outcome-inner Done = refl
outcome-inner Failed = refl
outcome-inner Canceled = refl

pub side-inner : (side : Side) → list_all is_inner (side_word side) ≡ true
side-inner Told = refl
side-inner Gives = refl
side-inner Recorded = refl
side-inner Fault = refl
side-inner Note = refl

pub hit-inner : (hit : Bool) → list_all is_inner (hit_class hit) ≡ true
hit-inner true = refl
hit-inner false = refl
