use Rattle.wh_html.proofs.Labels.{labels_fit, short_ids_are_whole}
use Rattle.wh_html.proofs.laws.labels_fit.Goals as goal

pub returns-clause-fit : goal.returns-clause-fit
returns-clause-fit c = labels_fit

pub returns-clause-whole : goal.returns-clause-whole
returns-clause-whole c = short_ids_are_whole
