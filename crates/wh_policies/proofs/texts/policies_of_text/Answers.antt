use Rattle.wh_policies.proofs.texts.policies_of_text.Goals as goal

pub returns-in-Err-clause-refused : goal.returns-in-Err-clause-refused
returns-in-Err-clause-refused c text = c.first_fault.ensures text
