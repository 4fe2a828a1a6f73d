use Rattle.std.proofs.Common.{◌≡◌, ℕ, List, ap, ◌∙◌}
use Rattle.wh_json.specs.Fields.{text_of}
use Rattle.wh_view.specs.Details.{first_text}
use Rattle.wh_view.proofs.details.failure_of.Goals as goal

chain : (d m b l a r k m' l' r' k' : List ℕ) → d ≡ first_text m b → b ≡ first_text l a → a ≡ first_text r k
    → m ≡ m' → l ≡ l' → r ≡ r' → k ≡ k' → d ≡ first_text m' (first_text l' (first_text r' k'))
chain d m b l a r k m' l' r' k' h1 h2 h3 e1 e2 e3 e4 = cc

pub returns : goal.returns
returns c =
    chain _ _ _ _ _ _ _ _ _ _ _ c.first_text-3.ensures c.first_text-2.ensures c.first_text.ensures
    c.message_of-message.ensures c.message_of-last.ensures
    (c.text_of-reason.ensures ∙ ap text_of c.field.ensures) (c.text_of-cause.ensures ∙ ap text_of c.field-2.ensures)
