-- The first place of the wrong shape, one item after the other.
use Rattle.std.proofs.Common.{◌≡◌, ℕ, ◌≤◌, List, [], ◌∷◌, ◌++◌, sym, ap, ◌∙◌, Option, Some, None, true, false, if◌then◌else◌}
use Rattle.std.specs.Prelude.{MatchOption}
use Rattle.sexpr_text.specs.declared.token.TokenKind.{TokenKind}
use Rattle.sexpr_text.specs.Forms.{Lexed}
use Rattle.pddl_terms.specs.declared.grammar.Line.{Line}
use Rattle.pddl_terms.specs.declared.grammar.Rest.{Rest}
use Rattle.pddl_terms.specs.Content.{Content, End, Word, Inner, Lexeme, content_at}
use Rattle.pddl_terms.specs.Lines.{stands, inside}
use Rattle.pddl_terms.specs.Shape.{may_end, takes, enters, leaves, kind_ahead, word_ahead, or_here, wrong, wrong_item, IsFirst}

-- The list goes on from one place of it to another, and up to there nothing is wrong.
pub record Reaches (forms : Lexed) (from : ℕ) (r : Rest) (at : ℕ) (left : Rest) : Type 0 where
  pub above : from ≤ at
  pub same : wrong r (content_at forms from) ≡ wrong left (content_at forms at)

-- what the code found to follow is what the table says
pub taken : (left : Rest) (kind : TokenKind) {w word : List ℕ} {a ahead : TokenKind} {r o : Option Rest} → w ≡ word → a ≡ ahead → r ≡ takes left w kind a → r ≡ o
    → takes left word kind ahead ≡ o
taken left kind {w} {word} {a} {ahead} e f g h = ap (λ v. takes left v kind ahead) (sym e) ∙ ap (takes left w kind) (sym f) ∙ sym g ∙ h

pub entered : (left : Rest) {w word : List ℕ} {r o : Option Rest} → w ≡ word → r ≡ enters left w → r ≡ o → enters left word ≡ o
entered left e g h = ap (enters left) (sym e) ∙ sym g ∙ h

-- an answer for the whole, from what is wrong there and in the rest
module _ (all : List ℕ) (x : Content) (left : Rest) (same : all ≡ wrong left x) where
  pub ends : (close : ℕ) → x ≡ End close → may_end left ≡ true → all ≡ []
  unfolding wrong
  ends close e f = same ∙ ap (wrong left) e ∙ ap (λ b. if b then [] else close ∷ []) f

  pub stops-end : (close : ℕ) → x ≡ End close → may_end left ≡ false → IsFirst close all
  unfolding wrong
  stops-end close e f = ([], same ∙ ap (wrong left) e ∙ ap (λ b. if b then [] else close ∷ []) f)

  module _ (w : Lexeme) (more : Content) (e : x ≡ Word w more) where
    word : (o : Option Rest) → takes left w.bytes w.kind (kind_ahead more) ≡ o → all ≡ or_here w.at o (λ s. wrong s more)
    unfolding wrong
    word o f = same ∙ ap (wrong left) e ∙ ap (λ p. or_here w.at p (λ s. wrong s more)) f

    pub goes-word : (next : Rest) → takes left w.bytes w.kind (kind_ahead more) ≡ Some next → all ≡ wrong next more
    goes-word next f = word (Some next) f

    pub stops-word : takes left w.bytes w.kind (kind_ahead more) ≡ None → IsFirst w.at all
    stops-word f = ([], word None f)

  module _ (at : ℕ) (y more : Content) (e : x ≡ Inner at y more) where
    list : (o : Option Rest) → enters left (word_ahead y) ≡ o → all ≡ or_here at o (λ s. wrong s y ++ wrong (leaves left (word_ahead y)) more)
    unfolding wrong
    list o f = same ∙ ap (wrong left) e ∙ ap (λ p. or_here at p (λ s. wrong s y ++ wrong (leaves left (word_ahead y)) more)) f

    pub stops-list : enters left (word_ahead y) ≡ None → IsFirst at all
    stops-list f = ([], list None f)

    pub goes-list : (inner : Rest) → enters left (word_ahead y) ≡ Some inner → wrong inner y ≡ [] → all ≡ wrong (leaves left (word_ahead y)) more
    goes-list inner f none = list (Some inner) f ∙ ap (λ l. l ++ wrong (leaves left (word_ahead y)) more) none

    pub stops-inside : (inner : Rest) → enters left (word_ahead y) ≡ Some inner → (place : ℕ) → IsFirst place (wrong inner y) → IsFirst place all
    stops-inside inner f place first = (first.0 ++ wrong (leaves left (word_ahead y)) more, list (Some inner) f ∙ ap (λ l. l ++ wrong (leaves left (word_ahead y)) more) first.1)

-- the same of what stands next, where a line is wanted
module _ (l : Line) (x : Content) where
  pub item-ends : (close : ℕ) → x ≡ End close → IsFirst close (wrong_item l x)
  unfolding wrong_item
  item-ends close e = ([], ap (wrong_item l) e)

  module _ (w : Lexeme) (more : Content) (e : x ≡ Word w more) where
    pub item-stands : stands l w.bytes w.kind ≡ true → wrong_item l x ≡ []
    unfolding wrong_item
    item-stands f = ap (wrong_item l) e ∙ ap (λ b. if b then [] else w.at ∷ []) f

    pub item-stops : stands l w.bytes w.kind ≡ false → IsFirst w.at (wrong_item l x)
    unfolding wrong_item
    item-stops f = ([], ap (wrong_item l) e ∙ ap (λ b. if b then [] else w.at ∷ []) f)

  module _ (at : ℕ) (y more : Content) (e : x ≡ Inner at y more) where
    pub item-inside : (o : Option Rest) → inside l ≡ o → wrong_item l x ≡ or_here at o (λ s. wrong s y)
    unfolding wrong_item
    item-inside o f = ap (wrong_item l) e ∙ ap (λ p. or_here at p (λ s. wrong s y)) f

    pub item-none : inside l ≡ None → IsFirst at (wrong_item l x)
    item-none f = ([], item-inside None f)

    -- the answer for what the list holds is the answer for it
    pub item-answer : (r : Rest) → inside l ≡ Some r → (result : Option ℕ)
        → MatchOption result (wrong r y ≡ []) (λ place. IsFirst place (wrong r y))
        → MatchOption result (wrong_item l x ≡ []) (λ place. IsFirst place (wrong_item l x))
    item-answer r f None a = item-inside (Some r) f ∙ a
    item-answer r f (Some place) a = (a.0, item-inside (Some r) f ∙ a.1)
