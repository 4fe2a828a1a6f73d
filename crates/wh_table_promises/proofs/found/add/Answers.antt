use Rattle.wh_table_promises.proofs.Fewer.{goes_one}
use Rattle.wh_table_promises.proofs.found.add.Goals as goal

pub returns-then-not-is_empty : goal.returns-then-not-is_empty
returns-then-not-is_empty c = goes_one c.args.found.now.configs.items c.push.new.self.items c.args.one c.in_ok-push.ensures.items

pub returns-else-not-is_empty : goal.returns-else-not-is_empty
returns-else-not-is_empty c = goes_one c.args.found.now.configs.items c.push.new.self.items c.args.one c.in_ok-push.ensures.items
