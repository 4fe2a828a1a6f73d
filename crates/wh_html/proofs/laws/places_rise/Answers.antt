use Rattle.wh_html.proofs.Rising.{places_rise, places_end}
use Rattle.wh_html.proofs.laws.places_rise.Goals as goal

pub returns-clause-rise : goal.returns-clause-rise
returns-clause-rise c = places_rise

pub returns-clause-end : goal.returns-clause-end
returns-clause-end c = places_end
