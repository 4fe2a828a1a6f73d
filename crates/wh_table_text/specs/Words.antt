-- Phrases, whose words are separated by single spaces.
use Rattle.std.specs.Prelude.{ℕ, ◌==◌, List, [], ◌∷◌, Bool, true, false, not, ◌&&◌, Option, Some, None, if◌then◌else◌}
use Rattle.std.specs.List.{before_first, after_first}
use Rattle.wh_table_text.specs.declared.words.PhraseWords.{PhraseWords as PhraseSeen}

-- the first word of a text
unfoldable pub word : List ℕ → List ℕ
word text = before_first (λ b. b == 32) text

-- the text after the first word
unfoldable pub rest : List ℕ → List ℕ
rest text = after_first (λ b. b == 32) text

-- the words of a phrase: the first, all after it, the second, the third, and all after that
pub record Words : Type 0 where
  pub verb : List ℕ
  pub after : List ℕ
  pub first : List ℕ
  pub second : List ℕ
  pub third : List ℕ

-- a text split into the words of a phrase
abbrev pub phrase : List ℕ → Words
phrase text = record {
  verb = word text;
  after = rest text;
  first = word (rest text);
  second = word (rest (rest text));
  third = rest (rest (rest text));
}

-- a phrase of the program, with its texts as bytes
abbrev pub phrase_seen : PhraseSeen → Words
phrase_seen p = record {
  verb = p.verb.now;
  after = p.after.now;
  first = p.first.now;
  second = p.second.now;
  third = p.third.now;
}

-- a word is missing
abbrev pub is_none : List ℕ → Bool
is_none [] = true
is_none (c ∷ cs) = false

-- there is only the first word
abbrev pub has_none : Words → Bool
has_none p = is_none p.after

-- exactly one word follows the first one
abbrev pub has_one : Words → Bool
has_one p = not (is_none p.first) && is_none p.second && is_none p.third

-- at least two words follow the first one
abbrev pub has_two : Words → Bool
has_two p = not (is_none p.first) && not (is_none p.second)

-- the word after the first one, if it is the only other one
abbrev pub name_of : Words → Option (List ℕ)
name_of p = if has_one p then Some p.first else None

-- exactly two words follow the first one
abbrev pub has_pair : Words → Bool
has_pair p = has_two p && is_none p.third

-- one or two words follow the first one
abbrev pub has_kind : Words → Bool
has_kind p = not (is_none p.first) && is_none p.third

-- there are exactly two words, the first of them not empty
abbrev pub is_named : Words → Bool
is_named p = not (is_none p.verb) && has_one p
