-- What the things of a view come to rests on its events and its things alone.
use Rattle.std.proofs.Common.{◌≡◌, List, refl}
use Rattle.wh_times.specs.declared.sums.TypeSum.{TypeSum}
use Rattle.wh_view.specs.Sums.{typed_things}
use Rattle.wh_view.specs.declared.view.View.{View}

pub typed_same : (view : View) (sums : List TypeSum) → typed_things (record view { sums = sums }) ≡ typed_things view
unfolding typed_things
typed_same view sums = refl
