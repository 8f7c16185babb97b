-- The mate of a parenthesis that opens a list ends that list.
use Rattle.std.proofs.Common.{◌≡◌, ℕ, zero, suc, ◌+◌, ◌-◌, ◌≤◌, ◌<◌, List, [], ◌∷◌, drop, length, refl, sym, ap, ◌∙◌, subst, arith, Some}
use Rattle.std.specs.Prelude.{slice_get, slice_index_or}
use Rattle.sexpr_text.specs.declared.token.Token.{Token}
use Rattle.sexpr_text.specs.declared.token.TokenKind.{TokenKind}
use Rattle.sexpr_text.specs.declared.token.TokenKind.TheVariants.{Open, Close}
use Rattle.sexpr_text.specs.Token.{IsSpan, AreSpans, AreTokens, IsMate}
use Rattle.sexpr_text.specs.Forms.{MatesAreBehind, MatesLeadBack}
use Rattle.sexpr_text.specs.Lists.{opened, closed, Matches, IsBalanced}
use Rattle.sexpr_text.proofs.Heights.{step_open, step_close, step_level, NoParentheses, nothing_no_parentheses, run_no_parentheses}
use Rattle.sexpr_text.proofs.Spans.{spans_within, span_some, span_open}
use Rattle.sexpr_text.proofs.Joining.{get_from_read, still_far}
use Rattle.pddl_terms.specs.Content.{Content, level, levels}

drop-nil : (n : ℕ) → ◌≡◌ {A = List Content} (drop n []) []
drop-nil zero = refl
drop-nil (suc n) = refl

pub drop-one : (n : ℕ) (xs : List Content) → drop n (drop 1 xs) ≡ drop (suc n) xs
drop-one n [] = drop-nil n
drop-one n (x ∷ xs) = refl

pub drop-two : (n : ℕ) (xs : List Content) → drop n (drop 2 xs) ≡ drop (suc (suc n)) xs
drop-two n [] = drop-nil n
drop-two n (x ∷ []) = drop-nil n
drop-two n (x ∷ y ∷ xs) = refl

-- where no parenthesis stands, the counts stay
pub over : (text : List ℕ) (from to : ℕ) → from ≤ to → NoParentheses text from to → (opened text to ≡ opened text from) × (closed text to ≡ closed text from)
over text from to le none =
    let e : from + (to - from) ≡ to = omega arith in
    let all = still_far text from (to - from) (λ k low high. none k low (omega arith)) in
    (ap (opened text) (sym e) ∙ all.0, ap (closed text) (sym e) ∙ all.1)

-- from the place up to n as many more lists close as h says, and never more open than close from a place on
pub record Falls (text : List ℕ) (from n h : ℕ) : Type 0 where
  pub counted : h + opened text n + closed text from ≡ closed text n + opened text from
  pub never : (q : ℕ) → from ≤ q → q ≤ n → opened text n + closed text q ≤ closed text n + opened text q

-- behind the token with the number, that many lists are left
Goal : List ℕ → List Token → ℕ → ℕ → Type 0
Goal text ts h k = drop (suc h) (levels text ts) ≡ levels text (drop (suc k) ts)

-- the token with the second number is the first behind the list in which the one with the first number stands
abbrev pub IsBehind : List ℕ → List Token → ℕ → ℕ → Type 0
IsBehind text ts at end = levels text (drop end ts) ≡ drop 1 (levels text (drop at ts))

-- the mate of a parenthesis that opens a list is the last token of that list
pub record Encloses (text : List ℕ) (ts : List Token) (at : ℕ) (t : Token) : Type 0 where
  pub later : at < t.mate
  pub within : t.mate < length ts
  pub behind : IsBehind text ts (at + 1) (t.mate + 1)

module _ (text : List ℕ) (to n : ℕ) where
  step : (t : Token) (ts : List Token) (from h k : ℕ) (kind : TokenKind) → t.kind ≡ kind → IsSpan text t.at t.end kind → t.at < t.end → t.end ≤ n
      → opened text t.at ≡ opened text from → closed text t.at ≡ closed text from → from ≤ t.at → Falls text from n h
      → ((h : ℕ) → Falls text t.end n h → Goal text ts h k) → Goal text (t ∷ ts) h (suc k)
  unfolding Goal levels
  step t ts from h k Open e s lt le o c low f ih =
      let at = step_open text t.at s.0 in
      let oe = ap (opened text) s.1 in
      let ce = ap (closed text) s.1 in
      ap (λ (x : TokenKind). drop (suc h) (level text x t (levels text ts))) e ∙ drop-two h (levels text ts) ∙ ih (suc h) (record { counted = omega (arith, f.counted); never = λ q a b. f.never q (omega arith) b })
  step t ts from zero k Close e s lt le o c low f ih =
      let at = step_close text t.at s.0 in
      let oe = ap (opened text) s.1 in
      let ce = ap (closed text) s.1 in
      absurd (omega (arith, f.counted, f.never t.end (omega arith) le))
  step t ts from (suc h) k Close e s lt le o c low f ih =
      let at = step_close text t.at s.0 in
      let oe = ap (opened text) s.1 in
      let ce = ap (closed text) s.1 in
      ap (λ (x : TokenKind). drop (suc (suc h)) (level text x t (levels text ts))) e ∙ ih h (record { counted = omega (arith, f.counted); never = λ q a b. f.never q (omega arith) b })
  step t ts from h k kind e s lt le o c low f ih =
      let same = over text t.at t.end (omega arith) (run_no_parentheses text t.at t.end s.0) in
      ap (λ (x : TokenKind). drop (suc h) (level text x t (levels text ts))) e ∙ drop-one h (levels text ts) ∙ ih h (record { counted = omega (arith, f.counted); never = λ q a b. f.never q (omega arith) b })

  behind : (ts : List Token) (from h k : ℕ) (c : Token) → AreSpans text from to ts → slice_get ts k ≡ Some c → c.kind ≡ Close → c.at ≡ n → Falls text from n h → Goal text ts h k
  unfolding Goal levels
  behind [] from h k c s g e a f = absurd cc
  behind (t ∷ ts) from h zero c s g e a f =
      let same : t ≡ c = cc in
      let gap = over text from t.at s.0 (nothing_no_parentheses text from t.at s.1) in
      let at : t.at ≡ n = ap (λ (u : Token). u.at) same ∙ a in
      let on = ap (opened text) at in
      let cn = ap (closed text) at in
      let none : h ≡ 0 = omega (arith, f.counted) in
      ap (λ (i : ℕ). drop (suc i) (level text t.kind t (levels text ts))) none ∙ ap (λ (x : TokenKind). drop 1 (level text x t (levels text ts))) (ap (λ (u : Token). u.kind) same ∙ e)
  behind (t ∷ ts) from h (suc k) c s g e a f =
      let gap = over text from t.at s.0 (nothing_no_parentheses text from t.at s.1) in
      let in_rest = spans_within text t.end to ts s.3 k c g in
      step t ts from h k t.kind refl s.2 (span_lt t s.2) (omega (arith, in_rest.0)) gap.0 gap.1 s.0 f (λ h' f'. behind ts t.end h' k c s.3 g e a f')
    where
      span_lt : (t : Token) → IsSpan text t.at t.end t.kind → t.at < t.end
      span_lt t s = span_some text t.at t.end t.kind s

pub spans-drop : (text : List ℕ) (from to : ℕ) (ts : List Token) (i : ℕ) (t : Token) → AreSpans text from to ts → slice_get ts i ≡ Some t → AreSpans text t.end to (drop (suc i) ts) × IsSpan text t.at t.end t.kind
spans-drop text from to [] i t s g = absurd cc
spans-drop text from to (u ∷ us) zero t s g =
    let same : u ≡ t = cc in
    subst (λ (v : Token). AreSpans text v.end to us × IsSpan text v.at v.end v.kind) same (s.3, s.2)
spans-drop text from to (u ∷ us) (suc i) t s g = spans-drop text u.end to us i t s.3 g

pub get-drop : (ts : List Token) (i k : ℕ) → slice_get (drop i ts) k ≡ slice_get ts (i + k)
get-drop ts zero k = let e : 0 + k ≡ k = omega arith in rw e refl
get-drop [] (suc i) k = refl
get-drop (t ∷ ts) (suc i) k = let e : suc i + k ≡ suc (i + k) = omega arith in rw e (get-drop ts i k)

drop-drop : (ts : List Token) (i k : ℕ) → drop k (drop i ts) ≡ drop (i + k) ts
drop-drop ts zero k = let e : 0 + k ≡ k = omega arith in rw e refl
drop-drop [] (suc i) k = drop-none k ∙ sym (drop-none (suc i + k))
  where
    drop-none : (k : ℕ) → ◌≡◌ {A = List Token} (drop k []) []
    drop-none zero = refl
    drop-none (suc k) = refl
drop-drop (t ∷ ts) (suc i) k = let e : suc i + k ≡ suc (i + k) = omega arith in rw e (drop-drop ts i k)

pub closing : (ts : List Token) (m : ℕ) (c d : Token) → slice_get ts m ≡ Some c → slice_index_or ts m d ≡ c
closing [] m c d g = absurd cc
closing (t ∷ ts) zero c d g = cc
closing (t ∷ ts) (suc m) c d g = closing ts m c d g

pub enters : (text : List ℕ) (at end place n : ℕ) → end ≡ suc at → n ≡ place → IsBalanced text (suc at) place → Falls text end n 0
enters text at end place n e f bal =
    let oe = ap (opened text) e in
    let ce = ap (closed text) e in
    let on = ap (opened text) f in
    let cn = ap (closed text) f in
    record {
      counted = omega (arith, bal.even);
      never = λ q x y. omega (arith, bal.even, bal.never_below q (omega arith) (omega arith));
    }

encloses : (text : List ℕ) (ts : List Token) (i m : ℕ) → i < m → Goal text (drop (suc i) ts) 0 (m - suc i) → IsBehind text ts (i + 1) (m + 1)
unfolding Goal
encloses text ts i m h g =
    let e : suc i + suc (m - suc i) ≡ m + 1 = omega arith in
    let f : i + 1 ≡ suc i = omega arith in
    rw f (sym (g ∙ ap (levels text) (drop-drop ts (suc i) (suc (m - suc i)) ∙ ap (λ (n : ℕ). drop n ts) e)))

pub mates_enclose : (text : List ℕ) (ts : List Token) → AreTokens text ts → MatesAreBehind ts → MatesLeadBack ts
    → (i : ℕ) (d : Token) → i < length ts → (slice_index_or ts i d).kind ≡ Open → Encloses text ts i (slice_index_or ts i d)
mates_enclose text ts a b l i d h k =
    let t : Token = slice_index_or ts i d in
    let got : slice_get ts i ≡ Some t = get_from_read ts i d h in
    let mate : IsMate text ts i t.at Open t.mate = subst (λ (x : TokenKind). IsMate text ts i t.at x t.mate) k (a.mates i t got) in
    let c : Token = mate.1.0 in
    let later : i < t.mate = (b i d h k).0 in
    let close : c.kind ≡ Close = subst (λ (u : Token). u.kind ≡ Close) (closing ts t.mate c d mate.1.1) (b i d h k).1 in
    let rest = spans-drop text 0 (length text) ts i t a.spans got in
    let ends = span_open text t.at t.end t.kind rest.1 k in
    let m : Matches text t.at mate.0 = mate.2 in
    let falls : Falls text t.end c.at 0 = enters text t.at t.end mate.0 c.at ends.1 mate.1.2 m.balanced in
    let e : suc i + (t.mate - suc i) ≡ t.mate = omega arith in
    let found : slice_get (drop (suc i) ts) (t.mate - suc i) ≡ Some c = get-drop ts (suc i) (t.mate - suc i) ∙ ap (slice_get ts) e ∙ mate.1.1 in
    let all : Goal text (drop (suc i) ts) 0 (t.mate - suc i) = behind text (length text) c.at (drop (suc i) ts) t.end 0 (t.mate - suc i) c rest.0 found close refl falls in
    record {
      later = later;
      within = (l i d h).0;
      behind = encloses text ts i t.mate later all;
    }
