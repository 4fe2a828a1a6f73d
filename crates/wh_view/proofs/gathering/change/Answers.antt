use Rattle.std.proofs.Common.{◌≡◌, ℕ, ◌<◌, List, length, get_or, ap, sym, ◌∙◌, Some, arith}
use Rattle.std.specs.Prelude.{slice_get, slice_set}
use Rattle.std.proofs.lemmas.Option.{slice_get-get_or}
use Rattle.wh_view.specs.declared.view.ViewedThing.{ViewedThing}
use Rattle.wh_view.specs.Things.{last_from}
use Rattle.wh_view.proofs.Indices.{last_changed}
use Rattle.wh_view.proofs.gathering.change.Goals as goal

there : (things items : List ViewedThing) (index : ℕ) (thing : ViewedThing) → things ≡ items → index < length things
    → thing ≡ get_or things index thing → slice_get items index ≡ Some thing
there things items index thing same below is =
    ap (λ xs. slice_get xs index) (sym same) ∙ slice_get-get_or things index thing below ∙ ap Some (sym is)

pub returns-in-Some-clause-same : goal.returns-in-Some-clause-same
returns-in-Some-clause-same c = λ number.
    let found = c.in-Some.ensures.lookup in
    ap (λ new. last_from number 0 (slice_set c.args.list.now.items c.args.index new)) c.with_effect-changed.ensures
    ∙ last_changed number 0 c.args.list.now.items c.args.index c.args.effect c.args.at c.in-Some.thing.now
    (there c.deref.result.now c.args.list.now.items c.args.index c.in-Some.thing.now c.deref.ensures.value found.3.0 found.1)
