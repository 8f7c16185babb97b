-- In a list of a text the tokens stand in order.
use Rattle.std.proofs.Common.{◌≡◌, ℕ, zero, suc, ◌+◌, ◌-◌, ◌≤◌, ◌<◌, List, [], ◌∷◌, drop, length, refl, sym, ap, ◌∙◌, subst, arith, Some, None, Option, Bool, true, false, if◌then◌else◌}
use Rattle.std.specs.Prelude.{slice_get, slice_index_or}
use Rattle.sexpr_text.specs.declared.token.Token.{Token}
use Rattle.sexpr_text.specs.declared.token.TokenKind.{TokenKind}
use Rattle.sexpr_text.specs.declared.token.TokenKind.TheVariants.{Open, Close}
use Rattle.sexpr_text.specs.Token.{IsSpan, AreSpans, AreTokens, IsMate}
use Rattle.sexpr_text.specs.Lists.{opened, closed, Matches}
use Rattle.sexpr_text.specs.Forms.{Lexed, MatesAreBehind}
use Rattle.sexpr_text.proofs.Heights.{step_open, step_close, nothing_no_parentheses, run_no_parentheses}
use Rattle.sexpr_text.proofs.Spans.{spans_within, span_some, span_open}
use Rattle.sexpr_text.proofs.Joining.{get_from_read}
use Rattle.pddl_terms.specs.Content.{Content, End, Word, Inner, lexeme, top, level, levels, content_at}
use Rattle.pddl_terms.specs.Order.{close_of, Ascends, IsLeast}
use Rattle.pddl_terms.specs.declared.grammar.Line.{Line}
use Rattle.pddl_terms.specs.declared.grammar.Rest.{Rest}
use Rattle.pddl_terms.specs.Lines.{stands, inside}
use Rattle.pddl_terms.specs.Shape.{wrong, wrong_item, or_here, IsFirst}
use Rattle.pddl_terms.proofs.Contents.{at-open}
use Rattle.pddl_terms.proofs.Least.{first_is_least}
use Rattle.pddl_terms.proofs.Mates.{Falls, over, enters, spans-drop, get-drop, closing}

ascends-lower : (low lower : ℕ) (x : Content) → lower ≤ low → Ascends low x → Ascends lower x
ascends-lower low lower (End close) h a = omega (arith, a)
ascends-lower low lower (Word w more) h a = (omega (arith, a.0), a.1)
ascends-lower low lower (Inner at inner more) h a = (omega (arith, a.0), a.1, a.2)

-- the innermost list and h lists around it ascend, one behind the other
Stacked : ℕ → ℕ → List Content → Type 0
Stacked zero low xs = Ascends low (top xs)
Stacked (suc h) low xs = Ascends low (top xs) × Stacked h (suc (close_of (top xs))) (drop 1 xs)

stacked-first : (h low : ℕ) (xs : List Content) → Stacked h low xs → Ascends low (top xs)
unfolding Stacked
stacked-first zero low xs s = s
stacked-first (suc h) low xs s = s.0

-- another first content, with the same end
stacked-replace : (h low next : ℕ) (x : Content) (xs : List Content) → Ascends next x → close_of x ≡ close_of (top xs) → Stacked h low xs → Stacked h next (x ∷ drop 1 xs)
unfolding Stacked
stacked-replace zero low next x xs a e s = a
stacked-replace (suc h) low next x xs a e s = (a, subst (λ (c : ℕ). Stacked h (suc c) (drop 1 xs)) (sym e) s.1)

drop-again : (xs : List Content) → drop 1 (drop 1 xs) ≡ drop 2 xs
drop-again [] = refl
drop-again (x ∷ xs) = refl

stacked-open : (h from : ℕ) (t : Token) (xs : List Content) → from ≤ t.at → Stacked (suc h) (suc t.at) xs → Stacked h from (Inner t.at (top xs) (top (drop 1 xs)) ∷ drop 2 xs)
unfolding Stacked
stacked-open h from t xs le s =
    let first = stacked-first h (suc (close_of (top xs))) (drop 1 xs) s.1 in
    subst (λ (l : List Content). Stacked h from (Inner t.at (top xs) (top (drop 1 xs)) ∷ l)) (drop-again xs)
    (stacked-replace h (suc (close_of (top xs))) from (Inner t.at (top xs) (top (drop 1 xs))) (drop 1 xs) (le, s.0, first) refl s.1)

Goal : List ℕ → List Token → ℕ → ℕ → Type 0
Goal text ts h low = Stacked h low (levels text ts)

module _ (text : List ℕ) (to n : ℕ) where
  step : (t : Token) (ts : List Token) (from h : ℕ) (kind : TokenKind) → t.kind ≡ kind → IsSpan text t.at t.end kind → t.at < t.end → t.end ≤ n
      → opened text t.at ≡ opened text from → closed text t.at ≡ closed text from → from ≤ t.at → Falls text from n h
      → ((h : ℕ) → Falls text t.end n h → Goal text ts h t.end) → Goal text (t ∷ ts) h from
  unfolding Goal levels Stacked
  step t ts from h Open e s lt le o c low f ih =
      let at = step_open text t.at s.0 in
      let oe = ap (opened text) s.1 in
      let ce = ap (closed text) s.1 in
      let inner = ih (suc h) (record { counted = omega (arith, f.counted); never = λ q a b. f.never q (omega arith) b }) in
      subst (λ (x : TokenKind). Stacked h from (level text x t (levels text ts))) (sym e) (stacked-open h from t (levels text ts) low (subst (λ (i : ℕ). Stacked (suc h) i (levels text ts)) s.1 inner))
  step t ts from zero Close e s lt le o c low f ih =
      let at = step_close text t.at s.0 in
      let oe = ap (opened text) s.1 in
      let ce = ap (closed text) s.1 in
      absurd (omega (arith, f.counted, f.never t.end (omega arith) le))
  step t ts from (suc h) Close e s lt le o c low f ih =
      let at = step_close text t.at s.0 in
      let oe = ap (opened text) s.1 in
      let ce = ap (closed text) s.1 in
      let outer = ih h (record { counted = omega (arith, f.counted); never = λ q a b. f.never q (omega arith) b }) in
      subst (λ (x : TokenKind). Stacked (suc h) from (level text x t (levels text ts))) (sym e) (low, subst (λ (i : ℕ). Stacked h i (levels text ts)) s.1 outer)
  step t ts from h kind e s lt le o c low f ih =
      let same = over text t.at t.end (omega arith) (run_no_parentheses text t.at t.end s.0) in
      let rest = ih h (record { counted = omega (arith, f.counted); never = λ q a b. f.never q (omega arith) b }) in
      subst (λ (x : TokenKind). Stacked h from (level text x t (levels text ts))) (sym e)
      (stacked-replace h t.end from (Word (lexeme text t) (top (levels text ts))) (levels text ts) (low, ascends-lower t.end (suc t.at) (top (levels text ts)) lt (stacked-first h t.end (levels text ts) rest)) refl rest)

  stacked : (ts : List Token) (from h k : ℕ) (c : Token) → AreSpans text from to ts → slice_get ts k ≡ Some c → c.kind ≡ Close → c.at ≡ n → Falls text from n h → Goal text ts h from
  unfolding Goal levels Stacked
  stacked [] from h k c s g e a f = absurd cc
  stacked (t ∷ ts) from h zero c s g e a f =
      let same : t ≡ c = cc in
      let gap = over text from t.at s.0 (nothing_no_parentheses text from t.at s.1) in
      let at : t.at ≡ n = ap (λ (u : Token). u.at) same ∙ a in
      let on = ap (opened text) at in
      let cn = ap (closed text) at in
      let none : h ≡ 0 = omega (arith, f.counted) in
      let kind : t.kind ≡ Close = ap (λ (u : Token). u.kind) same ∙ e in
      subst (λ (i : ℕ). Stacked i from (level text t.kind t (levels text ts))) (sym none) (subst (λ (x : TokenKind). Ascends from (top (level text x t (levels text ts)))) (sym kind) s.0)
  stacked (t ∷ ts) from h (suc k) c s g e a f =
      let gap = over text from t.at s.0 (nothing_no_parentheses text from t.at s.1) in
      let in_rest = spans_within text t.end to ts s.3 k c g in
      step t ts from h t.kind refl s.2 (span_some text t.at t.end t.kind s.2) (omega (arith, in_rest.0)) gap.0 gap.1 s.0 f (λ h' f'. stacked ts t.end h' k c s.3 g e a f')

pub content_ascends : (l : Lexed) → AreTokens l.text l.tokens → MatesAreBehind l.tokens → (i : ℕ) (d : Token) → i < length l.tokens → (slice_index_or l.tokens i d).kind ≡ Open
    → Ascends (slice_index_or l.tokens i d).end (content_at l (i + 1))
unfolding Goal Stacked content_at
content_ascends l a b i d h k =
    let text : List ℕ = l.text in
    let ts : List Token = l.tokens in
    let t : Token = slice_index_or ts i d in
    let got : slice_get ts i ≡ Some t = get_from_read ts i d h in
    let mate : IsMate text ts i t.at Open t.mate = subst (λ (x : TokenKind). IsMate text ts i t.at x t.mate) k (a.mates i t got) in
    let c : Token = mate.1.0 in
    let later : i < t.mate = (b i d h k).0 in
    let close : c.kind ≡ Close = subst (λ (u : Token). u.kind ≡ Close) (closing ts t.mate c d mate.1.1) (b i d h k).1 in
    let rest = spans-drop text 0 (length text) ts i t a.spans got in
    let ends = span_open text t.at t.end t.kind rest.1 k in
    let m : Matches text t.at mate.0 = mate.2 in
    let falls : Falls text t.end c.at 0 = enters text t.at t.end mate.0 c.at ends.1 mate.1.2 m.balanced in
    let e : suc i + (t.mate - suc i) ≡ t.mate = omega arith in
    let f : suc i ≡ i + 1 = omega arith in
    let found : slice_get (drop (suc i) ts) (t.mate - suc i) ≡ Some c = get-drop ts (suc i) (t.mate - suc i) ∙ ap (slice_get ts) e ∙ mate.1.1 in
    subst (λ (j : ℕ). Ascends t.end (content_at l j)) f (stacked text (length text) c.at (drop (suc i) ts) t.end 0 (t.mate - suc i) c rest.0 found close refl falls)

pub single : (u place : ℕ) (xs : List ℕ) → xs ≡ u ∷ [] → IsFirst place xs → IsLeast place xs
single u place xs e f =
    let both : ◌≡◌ {A = List ℕ} (u ∷ []) (place ∷ f.0) = sym e ∙ f.1 in
    let same : u ≡ place = cc in
    subst (IsLeast place) (sym e) (omega (arith, same), tt)

-- of what stands at a token of a text, the first wrong place is the least
pub item_is_least : (l : Lexed) (at : ℕ) (line : Line) (place : ℕ) → AreTokens l.text l.tokens → MatesAreBehind l.tokens → at < length l.tokens
    → IsFirst place (wrong_item line (content_at l at)) → IsLeast place (wrong_item line (content_at l at))
unfolding wrong_item
item_is_least l at line place a b h first = by_content (content_at l at) refl first
  where
    d : Token
    d = record { kind = Open; at = 0; end = 0; mate = 0 }

    at_word : (v : ℕ) (p : Bool) → IsFirst place (if p then [] else v ∷ []) → IsLeast place (if p then [] else v ∷ [])
    at_word v true f = tt
    at_word v false f = single v place _ refl f

    at_list : (v : ℕ) (inner : Content) (low : ℕ) → Ascends low inner → (o : Option Rest) → IsFirst place (or_here v o (λ s. wrong s inner)) → IsLeast place (or_here v o (λ s. wrong s inner))
    at_list v inner low asc None f = single v place _ refl f
    at_list v inner low asc (Some s) f = first_is_least low inner s place asc f

    by_content : (x : Content) → content_at l at ≡ x → IsFirst place (wrong_item line x) → IsLeast place (wrong_item line x)
    by_content (End c) e f = single c place _ refl f
    by_content (Word w more) e f = at_word w.at (stands line w.bytes w.kind) f
    by_content (Inner v inner more) e f =
        let found = at-open l at d h v inner more e in
        let asc : Ascends (slice_index_or l.tokens at d).end (content_at l (at + 1)) = content_ascends l a b at d h found.0 in
        at_list v inner (slice_index_or l.tokens at d).end (subst (Ascends (slice_index_or l.tokens at d).end) found.1 asc) (inside line) f
