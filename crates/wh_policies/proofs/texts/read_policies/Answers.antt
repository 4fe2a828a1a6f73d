use Rattle.wh_policies.proofs.texts.read_policies.Goals as goal

pub returns-clause-refused : goal.returns-clause-refused
returns-clause-refused c = c.policies_of_text.ensures.refused c.args.bytes.now
