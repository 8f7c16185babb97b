-- In the tokens of a file, too, the first place of the wrong shape is the least: what stands behind the one list of a
-- file comes later than what that list holds.
use Rattle.std.proofs.Common.{◌≡◌, ◌⊎◌, ℕ, suc, ◌+◌, ◌≤◌, ◌<◌, Bool, true, false, List, [], ◌∷◌, ◌++◌, drop, length, Option, Some, None, refl, sym, ap, ◌∙◌, subst, arith, inl, inr}
use Rattle.std.specs.Prelude.{slice_get, slice_index_or}
use Rattle.std.specs.List.{AllByRecursion}
use Rattle.sexpr_text.specs.declared.token.Token.{Token}
use Rattle.sexpr_text.specs.declared.token.TokenKind.{TokenKind}
use Rattle.sexpr_text.specs.declared.token.TokenKind.TheVariants.{Open, Close}
use Rattle.sexpr_text.specs.Forms.{Lexed}
use Rattle.sexpr_text.specs.Token.{AreSpans, AreTokens}
use Rattle.sexpr_text.proofs.Joining.{get_from_read}
use Rattle.sexpr_text.proofs.Spans.{span_some}
use Rattle.sexpr_text.proofs.Unique.{mates_lead_back, mates_are_behind}
use Rattle.pddl_terms.specs.declared.grammar.Line.{Line}
use Rattle.pddl_terms.specs.declared.grammar.Rest.{Rest}
use Rattle.pddl_terms.specs.declared.grammar.Rest.TheVariants as rest
use Rattle.pddl_terms.specs.Content.{Content, End, Word, Inner, top, level, levels, content_at}
use Rattle.pddl_terms.specs.Grammar.{only_if}
use Rattle.pddl_terms.specs.Lines.{stands, inside}
use Rattle.pddl_terms.specs.Shape.{takes, enters, leaves, word_ahead, or_here, wrong, IsFirst}
use Rattle.pddl_terms.specs.Beginnings.{SameThrough}
use Rattle.pddl_terms.specs.Order.{close_of, Ascends, IsLeast}
use Rattle.pddl_terms.proofs.Contents.{at-open, item-end, item-list, encloses}
use Rattle.pddl_terms.proofs.Ascending.{content_ascends, single}
use Rattle.pddl_terms.proofs.Endings.{ends-at_mate}
use Rattle.pddl_terms.proofs.GoingOn.{split-first}
use Rattle.pddl_terms.proofs.Least.{ascends-close, first_is_least, first-within}
use Rattle.pddl_terms.proofs.Stopping.{through-within, first-append, stops, token-some}
use Rattle.pddl_terms.proofs.Mates.{spans-drop}

-- what stands next comes at the place or later, if anything does
FirstAbove : ℕ → Content → Type 0
FirstAbove low (End close) = Unit {0}
FirstAbove low (Word w more) = low ≤ w.at
FirstAbove low (Inner at inner more) = low ≤ at

-- the first of the tokens, if there is one
HeadAbove : ℕ → List Token → Type 0
HeadAbove low [] = Unit {0}
HeadAbove low (t ∷ ts) = low ≤ t.at

head-first : (text : List ℕ) (low : ℕ) (ts : List Token) → HeadAbove low ts → FirstAbove low (top (levels text ts))
unfolding HeadAbove FirstAbove levels
head-first text low [] h = tt
head-first text low (t ∷ ts) h = by_kind t.kind
  where
    by_kind : (k : TokenKind) → FirstAbove low (top (level text k t (levels text ts)))
    by_kind Open = h
    by_kind Close = tt
    by_kind other = h

spans-head : (text : List ℕ) (from to low : ℕ) (ts : List Token) → low ≤ from → AreSpans text from to ts → HeadAbove low ts
unfolding HeadAbove
spans-head text from to low [] h s = tt
spans-head text from to low (t ∷ ts) h s = omega (arith, s.0)

-- behind a list stands what comes later than its end
behind-above : (l : Lexed) (i : ℕ) (d : Token) → AreTokens l.text l.tokens → i < length l.tokens → (slice_index_or l.tokens i d).kind ≡ Open
    → FirstAbove (suc (close_of (content_at l (i + 1)))) (content_at l ((slice_index_or l.tokens i d).mate + 1))
unfolding content_at
behind-above l i d a h k =
    let m : ℕ = (slice_index_or l.tokens i d).mate in
    let c : Token = slice_index_or l.tokens m d in
    let mates = encloses l l.tokens refl i d h a (mates_are_behind l.text l.tokens a) (mates_lead_back l.text l.tokens a) k in
    let got : slice_get l.tokens m ≡ Some c = get_from_read l.tokens m d mates.within in
    let rest = spans-drop l.text 0 (length l.text) l.tokens m c a.spans got in
    let some : c.at < c.end = span_some l.text c.at c.end c.kind rest.1 in
    let close : close_of (content_at l (i + 1)) ≡ c.at = ends-at_mate l a i d h k in
    let next : suc m ≡ m + 1 = omega arith in
    let low : ℕ = suc (close_of (content_at l (i + 1))) in
    subst (λ (j : ℕ). FirstAbove low (content_at l j)) next
    (head-first l.text low (drop (suc m) l.tokens) (spans-head l.text c.end (length l.text) low (drop (suc m) l.tokens) (omega (arith, some, close)) rest.0))

-- behind the one list of a file, the next token is wrong
nothing-least : (x : Content) (place : ℕ) → IsFirst place (wrong rest.Nothing x) → IsLeast place (wrong rest.Nothing x)
unfolding wrong takes enters
nothing-least (End close) place f = tt
nothing-least (Word w more) place f = single w.at place _ refl f
nothing-least (Inner at inner more) place f = single at place _ refl f

nothing-above : (x : Content) (low : ℕ) → FirstAbove low x → IsLeast low (wrong rest.Nothing x)
unfolding wrong takes enters FirstAbove
nothing-above (End close) low f = tt
nothing-above (Word w more) low f = (f, tt)
nothing-above (Inner at inner more) low f = (f, tt)

least-lower : (low lower : ℕ) (xs : List ℕ) → lower ≤ low → IsLeast low xs → IsLeast lower xs
least-lower low lower [] h f = tt
least-lower low lower (x ∷ xs) h f = (omega (arith, f.0), least-lower low lower xs h f.1)

least-append : (place : ℕ) (xs ys : List ℕ) → IsLeast place xs → IsLeast place ys → IsLeast place (xs ++ ys)
least-append place [] ys f g = g
least-append place (x ∷ xs) ys f g = (f.0, least-append place xs ys f.1 g)

some-tokens : (l : Lexed) (d : Token) (v : ℕ) (inner more : Content) → content_at l 0 ≡ Inner v inner more → 0 < length l.tokens
some-tokens l d v inner more e = by_tokens l.tokens refl
  where
    by_tokens : (ts : List Token) → l.tokens ≡ ts → 0 < length ts
    by_tokens [] f =
        let empty : length l.tokens ≤ 0 = subst (λ (ts : List Token). length ts ≤ 0) (sym f) (omega arith) in
        let none : End 0 ≡ Inner v inner more = sym (item-end l l.tokens refl 0 d empty) ∙ e in
        absurd cc
    by_tokens (t ∷ ts) f = omega arith

-- the one list of a file: from where on its tokens stand, and that what stands behind it comes later than its end
record ListParts (v : ℕ) (inner more : Content) : Type 0 where
  pub from : ℕ
  pub begins : v < from
  pub ascends : Ascends from inner
  pub above : FirstAbove (suc (close_of inner)) more

list-parts : (l : Lexed) (d : Token) → AreTokens l.text l.tokens → (v : ℕ) (inner more : Content) → content_at l 0 ≡ Inner v inner more → ListParts v inner more
list-parts l d a v inner more e =
    let h : 0 < length l.tokens = some-tokens l d v inner more e in
    let t : Token = slice_index_or l.tokens 0 d in
    let found = at-open l 0 d h v inner more e in
    let behind_mates = mates_are_behind l.text l.tokens a in
    let mates = encloses l l.tokens refl 0 d h a behind_mates (mates_lead_back l.text l.tokens a) found.0 in
    let whole : Inner v inner more ≡ Inner t.at (content_at l (0 + 1)) (content_at l (t.mate + 1)) = sym e ∙ item-list l l.tokens refl 0 d h found.0 mates in
    let behind : content_at l (t.mate + 1) ≡ more = cc in
    let some : t.at < t.end = token-some l 0 d a h in
    record {
      from = t.end;
      begins = omega (arith, some, found.2);
      ascends = subst (Ascends t.end) found.1 (content_ascends l a behind_mates 0 d h found.0);
      above = subst (FirstAbove (suc (close_of inner))) behind (subst (λ (x : Content). FirstAbove (suc (close_of x)) (content_at l (t.mate + 1))) found.1 (behind-above l 0 d a h found.0));
    }

pub file_is_least : (l : Lexed) (line : Line) (place : ℕ) → AreTokens l.text l.tokens
    → IsFirst place (wrong (rest.One line) (content_at l 0)) → IsLeast place (wrong (rest.One line) (content_at l 0))
unfolding wrong takes enters leaves
file_is_least l line place a first = by_content (content_at l 0) refl first
  where
    d : Token
    d = record { kind = Open; at = 0; end = 0; mate = 0 }

    at_word : (v : ℕ) (more : Content) (b : Bool) → IsFirst place (or_here v (only_if b rest.Nothing) (λ s. wrong s more)) → IsLeast place (or_here v (only_if b rest.Nothing) (λ s. wrong s more))
    at_word v more true f = nothing-least more place f
    at_word v more false f = single v place _ refl f

    at_list : (v : ℕ) (inner more : Content) (low : ℕ) → Ascends low inner → FirstAbove (suc (close_of inner)) more → (o : Option Rest)
        → IsFirst place (or_here v o (λ s. wrong s inner ++ wrong rest.Nothing more)) → IsLeast place (or_here v o (λ s. wrong s inner ++ wrong rest.Nothing more))
    at_list v inner more low asc above None f = single v place _ refl f
    at_list v inner more low asc above (Some s) f = elim (split-first (wrong s inner) (wrong rest.Nothing more) place f) [
      | inl within ↦
          let inside = first-within low inner s place asc within in
          least-append place (wrong s inner) (wrong rest.Nothing more) (first_is_least low inner s place asc within)
          (least-lower (suc (close_of inner)) place (wrong rest.Nothing more) (omega (arith, inside.1)) (nothing-above more (suc (close_of inner)) above))
      | inr behind ↦ subst (λ (xs : List ℕ). IsLeast place (xs ++ wrong rest.Nothing more)) (sym behind.0) (nothing-least more place behind.1)
    ]

    by_content : (x : Content) → content_at l 0 ≡ x → IsFirst place (wrong (rest.One line) x) → IsLeast place (wrong (rest.One line) x)
    by_content (End c) e f = single c place _ refl f
    by_content (Word w more) e f = at_word w.at more (stands line w.bytes w.kind) f
    by_content (Inner v inner more) e f =
        let parts = list-parts l d a v inner more e in
        at_list v inner more parts.from parts.ascends parts.above (inside line) f

-- Nothing may stand behind the one list of a file, so what goes alike there is as wrong.
nothing-alike : (x y : Content) (place : ℕ) → IsFirst place (wrong rest.Nothing x) → SameThrough place x y → IsFirst place (wrong rest.Nothing y)
unfolding wrong takes enters
nothing-alike (End close) y place f s = absurd (cc (f.1))
nothing-alike (Word w more) y place f s = subst (λ (z : Content). IsFirst place (wrong rest.Nothing z)) (sym s.1) f
nothing-alike (Inner at inner more) y place f s = subst (λ (z : Content). IsFirst place (wrong rest.Nothing z)) (sym s.2) f

-- where the first wrong place is that of what stands next behind the list, it comes behind the list
nothing-later : (x : Content) (low place : ℕ) → FirstAbove low x → IsFirst place (wrong rest.Nothing x) → low ≤ place
unfolding wrong takes enters FirstAbove
nothing-later (End close) low place a f = absurd (cc (f.1))
nothing-later (Word w more) low place a f = let same : w.at ≡ place = cc (f.1) in omega (arith, a, same)
nothing-later (Inner at inner more) low place a f = let same : at ≡ place = cc (f.1) in omega (arith, a, same)

-- no file has the right shape that goes on alike through the first wrong place
pub file_stops : (l : Lexed) (line : Line) (place : ℕ) (y : Content) → ((word : List ℕ) (kind : TokenKind) → stands line word kind ≡ false) → AreTokens l.text l.tokens
    → IsFirst place (wrong (rest.One line) (content_at l 0)) → SameThrough place (content_at l 0) y → IsFirst place (wrong (rest.One line) y)
unfolding wrong takes enters leaves
file_stops l line place y no_words a first same = by_content (content_at l 0) refl first same
  where
    d : Token
    d = record { kind = Open; at = 0; end = 0; mate = 0 }

    at_word : (v : ℕ) (more next : Content) (b : Bool) → b ≡ false → IsFirst place (or_here v (only_if b rest.Nothing) (λ s. wrong s more)) → IsFirst place (or_here v (only_if b rest.Nothing) (λ s. wrong s next))
    at_word v more next true e f = absurd cc
    at_word v more next false e f = f

    at_list : (v : ℕ) (inner more held next : Content) (low : ℕ) → v < low → Ascends low inner → FirstAbove (suc (close_of inner)) more → (o : Option Rest)
        → ((v ≡ place) × (word_ahead held ≡ word_ahead inner)) ⊎ (SameThrough place inner held ⊎ ((held ≡ inner) × SameThrough place more next))
        → IsFirst place (or_here v o (λ s. wrong s inner ++ wrong rest.Nothing more)) → IsFirst place (or_here v o (λ s. wrong s held ++ wrong rest.Nothing next))
    at_list v inner more held next low lt asc above None t f = f
    at_list v inner more held next low lt asc above (Some s) t f = elim (split-first (wrong s inner) (wrong rest.Nothing more) place f) [
      | inl within ↦ in_list t within
      | inr behind ↦ behind_list t behind.0 behind.1
    ]
      where
        in_list : ((v ≡ place) × (word_ahead held ≡ word_ahead inner)) ⊎ (SameThrough place inner held ⊎ ((held ≡ inner) × SameThrough place more next))
            → IsFirst place (wrong s inner) → IsFirst place (wrong s held ++ wrong rest.Nothing next)
        in_list (inl h) g = let here = first-within low inner s place asc g in absurd (omega (arith, here.0, lt, h.0))
        in_list (inr (inl h)) g = first-append (wrong s held) (wrong rest.Nothing next) place (stops inner s low place held asc g h)
        in_list (inr (inr h)) g = first-append (wrong s held) (wrong rest.Nothing next) place (subst (λ (z : Content). IsFirst place (wrong s z)) (sym h.0) g)

        behind_list : ((v ≡ place) × (word_ahead held ≡ word_ahead inner)) ⊎ (SameThrough place inner held ⊎ ((held ≡ inner) × SameThrough place more next))
            → wrong s inner ≡ [] → IsFirst place (wrong rest.Nothing more) → IsFirst place (wrong s held ++ wrong rest.Nothing next)
        behind_list (inl h) none g =
            let later = nothing-later more (suc (close_of inner)) place above g in
            let end = ascends-close low inner asc in
            absurd (omega (arith, later, end, lt, h.0))
        behind_list (inr (inl h)) none g =
            let later = nothing-later more (suc (close_of inner)) place above g in
            let high = through-within low place inner held asc h in
            absurd (omega (arith, later, high))
        behind_list (inr (inr h)) none g =
            subst (λ (xs : List ℕ). IsFirst place (xs ++ wrong rest.Nothing next)) (sym (ap (wrong s) h.0 ∙ none)) (nothing-alike more next place g h.1)

    by_content : (x : Content) → content_at l 0 ≡ x → IsFirst place (wrong (rest.One line) x) → SameThrough place x y → IsFirst place (wrong (rest.One line) y)
    by_content (End c) e f t = subst (λ (z : Content). IsFirst place (wrong (rest.One line) z)) (sym t.1) f
    by_content (Word w more) e f t = subst (λ (z : Content). IsFirst place (wrong (rest.One line) z)) (sym t.1) (at_word w.at more t.0 (stands line w.bytes w.kind) (no_words w.bytes w.kind) f)
    by_content (Inner v inner more) e f t =
        let parts = list-parts l d a v inner more e in
        subst (λ (z : Content). IsFirst place (wrong (rest.One line) z)) (sym t.2) (at_list v inner more t.0 t.1 parts.from parts.begins parts.ascends parts.above (inside line) t.3 f)
