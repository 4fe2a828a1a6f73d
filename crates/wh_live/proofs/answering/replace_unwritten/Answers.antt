use Rattle.std.proofs.Common.{inl, inr, refl}
use Rattle.wh_client.specs.declared.codes.Receipt.TheVariants.{NoMemory}
use Rattle.wh_live.proofs.answering.replace_unwritten.Goals as goal

-- without memory nothing is sent, and nothing noted
pub returns-in-OutOfMemory-clause-noted : goal.returns-in-OutOfMemory-clause-noted
returns-in-OutOfMemory-clause-noted g c =
    record { failure = NoMemory; replaces = inr (refl, refl); noted = inl (inr (refl, refl)) }
