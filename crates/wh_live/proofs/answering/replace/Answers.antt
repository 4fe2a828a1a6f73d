use Rattle.std.proofs.Common.{inl, inr, refl}
use Rattle.wh_client.specs.declared.codes.Receipt.TheVariants.{NoMemory}
use Rattle.wh_live.proofs.answering.replace.Goals as goal

-- without memory for the reason nothing is sent, and nothing noted
pub returns-in_default-clause-noted : goal.returns-in_default-clause-noted
returns-in_default-clause-noted g c =
    record { failure = NoMemory; replaces = inr (refl, refl); noted = inl (inr (refl, refl)) }
