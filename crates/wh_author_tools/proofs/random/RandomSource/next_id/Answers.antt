use Rattle.std.proofs.Common.{◌≡◌, ◌∙◌, ℕ, ◌+◌, ◌*◌, ◌^◌, List, rules}
use Rattle.std.specs.Int.{w128, to_be_bytes}
use Rattle.rand_xoshiro.specs.SplitMix64.{mix_u64}
use Rattle.uuid.specs.Parts.{with_variant, with_version}
use Rattle.uuid.specs.Text.{hyphenated_text, lower}
use Rattle.uuid.specs.declared.Variant.TheVariants.{RFC4122}
use Rattle.uuid.specs.declared.Version.TheVariants.{Random}
use Rattle.wh_author_tools.proofs.random.RandomSource.next_id.Goals as goal

-- the text of the bytes of two numbers, one drawn after the other
made : (draw : ℕ → ℕ × ℕ) (join : ℕ → ℕ → List ℕ) (mark shown : List ℕ → List ℕ) (first high low next : ℕ) (drawn id : List ℕ)
    → high ≡ (draw first).0 → next ≡ (draw first).1 → low ≡ (draw next).0 → drawn ≡ join high low → id ≡ mark drawn
    → shown id ≡ shown (mark (join (draw first).0 (draw (draw first).1).0))
made draw join mark shown first high low next drawn id e f g h i = cc

pub returns-clause-id : goal.returns-clause-id
returns-clause-id c =
    let text : c.new.result ≡ c.encode_lower-text.result.now = search rules in
    let id : c.hyphenated.result ≡ with_version (with_variant c.as_bytes.result.now RFC4122) Random =
    c.hyphenated.ensures ∙ c.into_uuid-id.ensures ∙ c.from_random_bytes.ensures.value in
    text ∙ c.encode_lower-text.ensures.text
    ∙ made mix_u64 (λ (h l : ℕ). to_be_bytes w128 (h * 2 ^ 64 + l)) (λ bytes. with_version (with_variant bytes RFC4122) Random)
    (hyphenated_text lower) c.args.self.now c.next_number-high.result c.next_number-low.result c.next_number-high.new.self
    c.as_bytes.result.now c.hyphenated.result c.next_number-high.ensures.number c.next_number-high.ensures.left
    c.next_number-low.ensures.number (c.as_bytes.ensures ∙ c.from_u64_pair-drawn.ensures) id
