-- No list that goes alike through the first wrong place is right.
use Rattle.std.proofs.Common.{◌≡◌, ◌⊎◌, ℕ, suc, ◌+◌, ◌≤◌, ◌<◌, List, ◌++◌, length, slice_index_or, Option, Some, None, refl, sym, ap, subst, arith, inl, inr}
use Rattle.sexpr_text.specs.declared.token.Token.{Token}
use Rattle.sexpr_text.specs.declared.token.TokenKind.TheVariants.{Open}
use Rattle.sexpr_text.specs.Forms.{Lexed, MatesAreBehind}
use Rattle.sexpr_text.specs.Token.{AreTokens}
use Rattle.sexpr_text.proofs.Spans.{spans_within}
use Rattle.sexpr_text.proofs.Joining.{get_from_read}
use Rattle.pddl_terms.specs.declared.grammar.Line.{Line}
use Rattle.pddl_terms.specs.declared.grammar.Rest.{Rest}
use Rattle.pddl_terms.specs.Content.{Content, End, Word, Inner, content_at}
use Rattle.pddl_terms.specs.Lines.{inside}
use Rattle.pddl_terms.specs.Shape.{takes, enters, leaves, kind_ahead, word_ahead, or_here, wrong, wrong_item, IsFirst}
use Rattle.pddl_terms.specs.Order.{close_of, Ascends}
use Rattle.pddl_terms.specs.Beginnings.{SameThrough}
use Rattle.pddl_terms.proofs.Contents.{at-open}
use Rattle.pddl_terms.proofs.Ascending.{content_ascends}
use Rattle.pddl_terms.proofs.Least.{ascends-close, first-within}
use Rattle.pddl_terms.proofs.GoingOn.{split-first}

kind-same : (place : ℕ) (x y : Content) → SameThrough place x y → kind_ahead y ≡ kind_ahead x
kind-same place (End close) y s = ap kind_ahead s.1
kind-same place (Word w more) y s = ap kind_ahead s.1
kind-same place (Inner at inner more) y s = ap kind_ahead s.2

word-same : (place : ℕ) (x y : Content) → SameThrough place x y → word_ahead y ≡ word_ahead x
word-same place (End close) y s = ap word_ahead s.1
word-same place (Word w more) y s = ap word_ahead s.1
word-same place (Inner at inner more) y s = ap word_ahead s.2

-- the place lies in the list
pub through-within : (low place : ℕ) (x y : Content) → Ascends low x → SameThrough place x y → place ≤ close_of x
through-within low place (End close) y a s = omega (arith, s.0)
through-within low place (Word w more) y a s = by_part s.2 (λ t. through-within (suc w.at) place more s.0 a.1 t)
  where
    by_part : ((w.at ≡ place) × (kind_ahead s.0 ≡ kind_ahead more)) ⊎ SameThrough place more s.0 → (SameThrough place more s.0 → place ≤ close_of more) → place ≤ close_of more
    by_part (inl h) ih = let end = ascends-close (suc w.at) more a.1 in omega (arith, end, h.0)
    by_part (inr t) ih = ih t
through-within low place (Inner at inner more) y a s =
    by_part s.3 (λ t. through-within (suc at) place inner s.0 a.1 t) (λ t. through-within (suc (close_of inner)) place more s.1 a.2 t)
  where
    by_part : ((at ≡ place) × (word_ahead s.0 ≡ word_ahead inner)) ⊎ (SameThrough place inner s.0 ⊎ ((s.0 ≡ inner) × SameThrough place more s.1))
        → (SameThrough place inner s.0 → place ≤ close_of inner) → (SameThrough place more s.1 → place ≤ close_of more) → place ≤ close_of more
    by_part (inl h) held next =
        let inner_end = ascends-close (suc at) inner a.1 in
        let end = ascends-close (suc (close_of inner)) more a.2 in
        omega (arith, inner_end, end, h.0)
    by_part (inr (inl t)) held next = let end = ascends-close (suc (close_of inner)) more a.2 in omega (arith, end, held t)
    by_part (inr (inr t)) held next = next t.1

pub first-append : (xs ys : List ℕ) (place : ℕ) → IsFirst place xs → IsFirst place (xs ++ ys)
first-append xs ys place f = (f.0 ++ ys, ap (λ l. l ++ ys) f.1)

pub stops : (x : Content) (r : Rest) (low place : ℕ) (y : Content) → Ascends low x → IsFirst place (wrong r x) → SameThrough place x y → IsFirst place (wrong r y)
unfolding wrong
stops (End close) r low place y a f s = subst (λ (z : Content). IsFirst place (wrong r z)) (sym s.1) f
stops (Word w more) r low place y a f s =
    subst (λ (z : Content). IsFirst place (wrong r z)) (sym s.1) (by_part s.2 (λ n t g. stops more n (suc w.at) place s.0 a.1 g t))
  where
    alike : kind_ahead s.0 ≡ kind_ahead more → takes r w.bytes w.kind (kind_ahead s.0) ≡ takes r w.bytes w.kind (kind_ahead more)
    alike h = ap (takes r w.bytes w.kind) h

    by_takes : (o : Option Rest) → takes r w.bytes w.kind (kind_ahead s.0) ≡ o → IsFirst place (or_here w.at o (λ n. wrong n more))
        → ((n : Rest) → IsFirst place (wrong n more) → IsFirst place (wrong n s.0)) → IsFirst place (or_here w.at (takes r w.bytes w.kind (kind_ahead s.0)) (λ n. wrong n s.0))
    by_takes None e g go = subst (λ (o : Option Rest). IsFirst place (or_here w.at o (λ n. wrong n s.0))) (sym e) g
    by_takes (Some n) e g go = subst (λ (o : Option Rest). IsFirst place (or_here w.at o (λ n. wrong n s.0))) (sym e) (go n g)

    by_part : ((w.at ≡ place) × (kind_ahead s.0 ≡ kind_ahead more)) ⊎ SameThrough place more s.0
        → ((n : Rest) → SameThrough place more s.0 → IsFirst place (wrong n more) → IsFirst place (wrong n s.0))
        → IsFirst place (or_here w.at (takes r w.bytes w.kind (kind_ahead s.0)) (λ n. wrong n s.0))
    by_part (inl h) ih = by_takes (takes r w.bytes w.kind (kind_ahead more)) (alike h.1) f
        (λ n g. let within = first-within (suc w.at) more n place a.1 g in absurd (omega (arith, within.0, h.0)))
    by_part (inr t) ih = by_takes (takes r w.bytes w.kind (kind_ahead more)) (alike (kind-same place more s.0 t)) f (λ n g. ih n t g)
stops (Inner at inner more) r low place y a f s =
    subst (λ (z : Content). IsFirst place (wrong r z)) (sym s.2)
    (by_part s.3 (λ n t g. stops inner n (suc at) place s.0 a.1 g t) (λ n t g. stops more n (suc (close_of inner)) place s.1 a.2 g t))
  where
    alike : word_ahead s.0 ≡ word_ahead inner → enters r (word_ahead s.0) ≡ enters r (word_ahead inner)
    alike h = ap (enters r) h

    by_enters : (o : Option Rest) → enters r (word_ahead s.0) ≡ o → IsFirst place (or_here at o (λ n. wrong n inner ++ wrong (leaves r (word_ahead inner)) more))
        → ((n : Rest) → IsFirst place (wrong n inner ++ wrong (leaves r (word_ahead inner)) more) → IsFirst place (wrong n s.0 ++ wrong (leaves r (word_ahead s.0)) s.1))
        → IsFirst place (or_here at (enters r (word_ahead s.0)) (λ n. wrong n s.0 ++ wrong (leaves r (word_ahead s.0)) s.1))
    by_enters None e g go = subst (λ (o : Option Rest). IsFirst place (or_here at o (λ n. wrong n s.0 ++ wrong (leaves r (word_ahead s.0)) s.1))) (sym e) g
    by_enters (Some n) e g go = subst (λ (o : Option Rest). IsFirst place (or_here at o (λ n. wrong n s.0 ++ wrong (leaves r (word_ahead s.0)) s.1))) (sym e) (go n g)

    at_first : at ≡ place → (n : Rest) → IsFirst place (wrong n inner ++ wrong (leaves r (word_ahead inner)) more) → IsFirst place (wrong n s.0 ++ wrong (leaves r (word_ahead s.0)) s.1)
    at_first h n g = elim (split-first (wrong n inner) (wrong (leaves r (word_ahead inner)) more) place g) [
      | inl within ↦ let low = first-within (suc at) inner n place a.1 within in absurd (omega (arith, low.0, h))
      | inr behind ↦
          let low = first-within (suc (close_of inner)) more (leaves r (word_ahead inner)) place a.2 behind.1 in
          let inner_end = ascends-close (suc at) inner a.1 in
          absurd (omega (arith, low.0, inner_end, h))
    ]

    in_held : SameThrough place inner s.0 → (n : Rest) → (IsFirst place (wrong n inner) → IsFirst place (wrong n s.0))
        → IsFirst place (wrong n inner ++ wrong (leaves r (word_ahead inner)) more) → IsFirst place (wrong n s.0 ++ wrong (leaves r (word_ahead s.0)) s.1)
    in_held t n ih g = elim (split-first (wrong n inner) (wrong (leaves r (word_ahead inner)) more) place g) [
      | inl within ↦ first-append (wrong n s.0) (wrong (leaves r (word_ahead s.0)) s.1) place (ih within)
      | inr behind ↦
          let low = first-within (suc (close_of inner)) more (leaves r (word_ahead inner)) place a.2 behind.1 in
          let high = through-within (suc at) place inner s.0 a.1 t in
          absurd (omega (arith, low.0, high))
    ]

    in_next : s.0 ≡ inner → (n : Rest) → (IsFirst place (wrong (leaves r (word_ahead inner)) more) → IsFirst place (wrong (leaves r (word_ahead inner)) s.1))
        → IsFirst place (wrong n inner ++ wrong (leaves r (word_ahead inner)) more) → IsFirst place (wrong n s.0 ++ wrong (leaves r (word_ahead s.0)) s.1)
    in_next e n ih g = subst (λ (z : Content). IsFirst place (wrong n z ++ wrong (leaves r (word_ahead z)) s.1)) (sym e) (elim (split-first (wrong n inner) (wrong (leaves r (word_ahead inner)) more) place g) [
      | inl within ↦ first-append (wrong n inner) (wrong (leaves r (word_ahead inner)) s.1) place within
      | inr behind ↦ subst (λ (xs : List ℕ). IsFirst place (xs ++ wrong (leaves r (word_ahead inner)) s.1)) (sym behind.0) (ih behind.1)
    ])

    by_part : ((at ≡ place) × (word_ahead s.0 ≡ word_ahead inner)) ⊎ (SameThrough place inner s.0 ⊎ ((s.0 ≡ inner) × SameThrough place more s.1))
        → ((n : Rest) → SameThrough place inner s.0 → IsFirst place (wrong n inner) → IsFirst place (wrong n s.0))
        → ((n : Rest) → SameThrough place more s.1 → IsFirst place (wrong n more) → IsFirst place (wrong n s.1))
        → IsFirst place (or_here at (enters r (word_ahead s.0)) (λ n. wrong n s.0 ++ wrong (leaves r (word_ahead s.0)) s.1))
    by_part (inl h) held next = by_enters (enters r (word_ahead inner)) (alike h.1) f (at_first h.0)
    by_part (inr (inl t)) held next = by_enters (enters r (word_ahead inner)) (alike (word-same place inner s.0 t)) f (λ n g. in_held t n (held n t) g)
    by_part (inr (inr t)) held next = by_enters (enters r (word_ahead inner)) (alike (ap word_ahead t.0)) f (λ n g. in_next t.0 n (next (leaves r (word_ahead inner)) t.1) g)

pub token-some : (l : Lexed) (i : ℕ) (d : Token) → AreTokens l.text l.tokens → i < length l.tokens → (slice_index_or l.tokens i d).at < (slice_index_or l.tokens i d).end
token-some l i d a h = (spans_within l.text 0 (length l.text) l.tokens a.spans i (slice_index_or l.tokens i d) (get_from_read l.tokens i d h)).1

-- the same of what stands at a token of a text, where a line is wanted
pub item_stops : (l : Lexed) (at : ℕ) (line : Line) (place : ℕ) (y : Content) → AreTokens l.text l.tokens → MatesAreBehind l.tokens → at < length l.tokens
    → IsFirst place (wrong_item line (content_at l at)) → SameThrough place (content_at l at) y → IsFirst place (wrong_item line y)
unfolding wrong_item
item_stops l at line place y a b h first s = by_content (content_at l at) refl first s
  where
    d : Token
    d = record { kind = Open; at = 0; end = 0; mate = 0 }

    by_inside : (v low : ℕ) (inner held more next : Content) → Ascends low inner → v < low → (o : Option Rest) → IsFirst place (or_here v o (λ r. wrong r inner))
        → ((v ≡ place) × (word_ahead held ≡ word_ahead inner)) ⊎ (SameThrough place inner held ⊎ ((held ≡ inner) × SameThrough place more next))
        → IsFirst place (or_here v o (λ r. wrong r held))
    by_inside v low inner held more next asc lt None f t = f
    by_inside v low inner held more next asc lt (Some r) f (inl t) = let within = first-within low inner r place asc f in absurd (omega (arith, within.0, lt, t.0))
    by_inside v low inner held more next asc lt (Some r) f (inr (inl t)) = stops inner r low place held asc f t
    by_inside v low inner held more next asc lt (Some r) f (inr (inr t)) = subst (λ (z : Content). IsFirst place (wrong r z)) (sym t.0) f

    by_content : (x : Content) → content_at l at ≡ x → IsFirst place (wrong_item line x) → SameThrough place x y → IsFirst place (wrong_item line y)
    by_content (End c) e f t = subst (λ (z : Content). IsFirst place (wrong_item line z)) (sym t.1) f
    by_content (Word w more) e f t = subst (λ (z : Content). IsFirst place (wrong_item line z)) (sym t.1) f
    by_content (Inner v inner more) e f t =
        let found = at-open l at d h v inner more e in
        let asc : Ascends (slice_index_or l.tokens at d).end (content_at l (at + 1)) = content_ascends l a b at d h found.0 in
        let here : Ascends (slice_index_or l.tokens at d).end inner = subst (Ascends (slice_index_or l.tokens at d).end) found.1 asc in
        let some : (slice_index_or l.tokens at d).at < (slice_index_or l.tokens at d).end = token-some l at d a h in
        let begins : v < (slice_index_or l.tokens at d).end = omega (arith, some, found.2) in
        subst (λ (z : Content). IsFirst place (wrong_item line z)) (sym t.2)
        (by_inside v (slice_index_or l.tokens at d).end inner t.0 more t.1 here begins (inside line) f t.3)
