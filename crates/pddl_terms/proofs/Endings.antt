-- The list that a parenthesis opens ends at its mate, so what stands behind it comes later.
use Rattle.std.proofs.Common.{◌≡◌, ℕ, zero, suc, ◌+◌, ◌-◌, ◌≤◌, ◌<◌, List, [], ◌∷◌, drop, length, refl, sym, ap, ◌∙◌, subst, arith, Some}
use Rattle.std.specs.Prelude.{slice_get, slice_index_or}
use Rattle.sexpr_text.specs.declared.token.Token.{Token}
use Rattle.sexpr_text.specs.declared.token.TokenKind.{TokenKind}
use Rattle.sexpr_text.specs.declared.token.TokenKind.TheVariants.{Open, Close}
use Rattle.sexpr_text.specs.Token.{IsSpan, AreSpans, AreTokens, IsMate}
use Rattle.sexpr_text.specs.Lists.{opened, closed, Matches}
use Rattle.sexpr_text.specs.Forms.{Lexed}
use Rattle.sexpr_text.proofs.Heights.{step_open, step_close, nothing_no_parentheses, run_no_parentheses}
use Rattle.sexpr_text.proofs.Spans.{spans_within, span_some, span_open}
use Rattle.sexpr_text.proofs.Joining.{get_from_read}
use Rattle.sexpr_text.proofs.Unique.{mates_are_behind}
use Rattle.pddl_terms.specs.Content.{Content, top, level, levels, content_at}
use Rattle.pddl_terms.specs.Order.{close_of}
use Rattle.pddl_terms.proofs.Mates.{Falls, over, enters, spans-drop, get-drop, closing, drop-one, drop-two}

-- so many lists further out, the list ends at the place
Goal : List ℕ → List Token → ℕ → ℕ → Type 0
Goal text ts h n = close_of (top (drop h (levels text ts))) ≡ n

module _ (text : List ℕ) (to n : ℕ) where
  step : (t : Token) (ts : List Token) (from h : ℕ) (kind : TokenKind) → t.kind ≡ kind → IsSpan text t.at t.end kind → t.at < t.end → t.end ≤ n
      → opened text t.at ≡ opened text from → closed text t.at ≡ closed text from → from ≤ t.at → Falls text from n h
      → ((h : ℕ) → Falls text t.end n h → Goal text ts h n) → Goal text (t ∷ ts) h n
  unfolding Goal levels
  step t ts from h Open e s lt le o c low f ih =
      let at = step_open text t.at s.0 in
      let oe = ap (opened text) s.1 in
      let ce = ap (closed text) s.1 in
      let out = ih (suc h) (record { counted = omega (arith, f.counted); never = λ q a b. f.never q (omega arith) b }) in
      ap (λ (x : TokenKind). close_of (top (drop h (level text x t (levels text ts))))) e ∙ by_height h out
    where
      by_height : (h : ℕ) → close_of (top (drop (suc h) (levels text ts))) ≡ n → close_of (top (drop h (level text Open t (levels text ts)))) ≡ n
      by_height zero g = g
      by_height (suc h) g = ap (λ (x : List Content). close_of (top x)) (drop-two h (levels text ts)) ∙ g
  step t ts from zero Close e s lt le o c low f ih =
      let at = step_close text t.at s.0 in
      let oe = ap (opened text) s.1 in
      let ce = ap (closed text) s.1 in
      absurd (omega (arith, f.counted, f.never t.end (omega arith) le))
  step t ts from (suc h) Close e s lt le o c low f ih =
      let at = step_close text t.at s.0 in
      let oe = ap (opened text) s.1 in
      let ce = ap (closed text) s.1 in
      ap (λ (x : TokenKind). close_of (top (drop (suc h) (level text x t (levels text ts))))) e ∙ ih h (record { counted = omega (arith, f.counted); never = λ q a b. f.never q (omega arith) b })
  step t ts from h kind e s lt le o c low f ih =
      let same = over text t.at t.end (omega arith) (run_no_parentheses text t.at t.end s.0) in
      let rest = ih h (record { counted = omega (arith, f.counted); never = λ q a b. f.never q (omega arith) b }) in
      ap (λ (x : TokenKind). close_of (top (drop h (level text x t (levels text ts))))) e ∙ by_height h rest
    where
      by_height : (h : ℕ) → close_of (top (drop h (levels text ts))) ≡ n → close_of (top (drop h (level text kind t (levels text ts)))) ≡ n
      by_height zero g = g
      by_height (suc h) g = ap (λ (x : List Content). close_of (top x)) (drop-one h (levels text ts)) ∙ g

  ends : (ts : List Token) (from h k : ℕ) (c : Token) → AreSpans text from to ts → slice_get ts k ≡ Some c → c.kind ≡ Close → c.at ≡ n → Falls text from n h → Goal text ts h n
  unfolding Goal levels
  ends [] from h k c s g e a f = absurd cc
  ends (t ∷ ts) from h zero c s g e a f =
      let same : t ≡ c = cc in
      let gap = over text from t.at s.0 (nothing_no_parentheses text from t.at s.1) in
      let at : t.at ≡ n = ap (λ (u : Token). u.at) same ∙ a in
      let on = ap (opened text) at in
      let cn = ap (closed text) at in
      let none : h ≡ 0 = omega (arith, f.counted) in
      let kind : t.kind ≡ Close = ap (λ (u : Token). u.kind) same ∙ e in
      ap (λ (i : ℕ). close_of (top (drop i (level text t.kind t (levels text ts))))) none ∙ ap (λ (x : TokenKind). close_of (top (level text x t (levels text ts)))) kind ∙ at
  ends (t ∷ ts) from h (suc k) c s g e a f =
      let gap = over text from t.at s.0 (nothing_no_parentheses text from t.at s.1) in
      let in_rest = spans_within text t.end to ts s.3 k c g in
      step t ts from h t.kind refl s.2 (span_some text t.at t.end t.kind s.2) (omega (arith, in_rest.0)) gap.0 gap.1 s.0 f (λ h' f'. ends ts t.end h' k c s.3 g e a f')

-- the list that the token opens ends at the token's mate
pub ends-at_mate : (l : Lexed) → AreTokens l.text l.tokens → (i : ℕ) (d : Token) → i < length l.tokens → (slice_index_or l.tokens i d).kind ≡ Open
    → close_of (content_at l (i + 1)) ≡ (slice_index_or l.tokens (slice_index_or l.tokens i d).mate d).at
unfolding Goal content_at
ends-at_mate l a i d h k =
    let text : List ℕ = l.text in
    let ts : List Token = l.tokens in
    let b = mates_are_behind text ts a in
    let t : Token = slice_index_or ts i d in
    let got : slice_get ts i ≡ Some t = get_from_read ts i d h in
    let mate : IsMate text ts i t.at Open t.mate = subst (λ (x : TokenKind). IsMate text ts i t.at x t.mate) k (a.mates i t got) in
    let c : Token = mate.1.0 in
    let later : i < t.mate = (b i d h k).0 in
    let same : slice_index_or ts t.mate d ≡ c = closing ts t.mate c d mate.1.1 in
    let close : c.kind ≡ Close = subst (λ (u : Token). u.kind ≡ Close) same (b i d h k).1 in
    let rest = spans-drop text 0 (length text) ts i t a.spans got in
    let open_end = span_open text t.at t.end t.kind rest.1 k in
    let m : Matches text t.at mate.0 = mate.2 in
    let falls : Falls text t.end c.at 0 = enters text t.at t.end mate.0 c.at open_end.1 mate.1.2 m.balanced in
    let e : suc i + (t.mate - suc i) ≡ t.mate = omega arith in
    let f : suc i ≡ i + 1 = omega arith in
    let found : slice_get (drop (suc i) ts) (t.mate - suc i) ≡ Some c = get-drop ts (suc i) (t.mate - suc i) ∙ ap (slice_get ts) e ∙ mate.1.1 in
    subst (λ (j : ℕ). close_of (content_at l j) ≡ (slice_index_or ts t.mate d).at) f
    (ends text (length text) c.at (drop (suc i) ts) t.end 0 (t.mate - suc i) c rest.0 found close refl falls ∙ sym (ap (λ (u : Token). u.at) same))
