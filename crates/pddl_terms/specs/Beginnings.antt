-- Believed: lists that go alike up to a place.
use Rattle.std.specs.Prelude.{◌≡◌, ◌⊎◌, ℕ, Bool, true, false}
use Rattle.pddl_terms.specs.declared.grammar.Line.{Line}
use Rattle.pddl_terms.specs.declared.grammar.Line.TheVariants.{Term, Number, VariableList, DurationName, Name, Keyword, Domain}
use Rattle.pddl_terms.specs.declared.grammar.Rest.{Rest}
use Rattle.pddl_terms.specs.declared.grammar.Rest.TheVariants.{Whole}
use Rattle.pddl_terms.specs.Content.{Content, End, Word, Inner}
use Rattle.pddl_terms.specs.Domains.{domain_has_lists}
use Rattle.pddl_terms.specs.Shape.{kind_ahead, word_ahead}

-- The second list has the tokens that the first has before the place.
abbrev pub SameBefore : ℕ → Content → Content → Type 0
SameBefore place (End close) y = close ≡ place
SameBefore place (Word w more) y = (w.at ≡ place) ⊎ ((next : Content) × (y ≡ Word w next) × SameBefore place more next)
SameBefore place (Inner at inner more) y =
    (at ≡ place)
    ⊎ ((held : Content) × (next : Content) × (y ≡ Inner at held next)
    × (SameBefore place inner held ⊎ ((held ≡ inner) × SameBefore place more next)))

-- The second list has the tokens that the first has up to the place and at it, and behind it a token of the same kind,
-- or in a list that opens there the same word.
abbrev pub SameThrough : ℕ → Content → Content → Type 0
SameThrough place (End close) y = (close ≡ place) × (y ≡ End close)
SameThrough place (Word w more) y =
    (next : Content) × (y ≡ Word w next) × (((w.at ≡ place) × (kind_ahead next ≡ kind_ahead more)) ⊎ SameThrough place more next)
SameThrough place (Inner at inner more) y =
    (held : Content) × (next : Content) × (y ≡ Inner at held next)
    × (((at ≡ place) × (word_ahead held ≡ word_ahead inner)) ⊎ (SameThrough place inner held ⊎ ((held ≡ inner) × SameThrough place more next)))

-- whether a list may be one of the line
abbrev pub has_lists : Line → Bool
has_lists Term = false
has_lists Number = false
has_lists VariableList = false
has_lists DurationName = false
has_lists Name = false
has_lists Keyword = false
has_lists (Domain l) = domain_has_lists l
has_lists l = true

-- Whether some list goes on so. What may follow behind a token always does; only the whole of a line without lists,
-- which never comes, does not.
abbrev pub may_go_on : Rest → Bool
may_go_on (Whole l) = has_lists l
may_go_on r = true
