-- How the parentheses of a text get their mates.
use Rattle.std.proofs.Common.{◌≡◌, ℕ, zero, suc, ◌+◌, ◌-◌, ◌<◌, ◌≤◌, ◌≢◌, ◌⊎◌, List, [], ◌∷◌, ◌++◌, length, get_or, set, drop, slice_get, Some, refl, sym, ap, ◌∙◌, subst, inl, inr, arith}
use Rattle.std.proofs.lemmas.Bool.{cases_lt, cases_eq}
use Rattle.std.proofs.lemmas.List.{length_push, get_or_append_left, get_or_push, drop_all, length-set}
use Rattle.sexpr_text.specs.declared.token.Token.{Token}
use Rattle.sexpr_text.specs.declared.token.TokenKind.{TokenKind}
use Rattle.sexpr_text.specs.declared.token.TokenKind.TheVariants.{Open, Close, Name, Variable, Keyword, Number, Mark, Time}
use Rattle.sexpr_text.specs.Comments.{NothingWritten}
use Rattle.sexpr_text.specs.Lists.{opened, closed, Matches}
use Rattle.sexpr_text.specs.Token.{IsSpan, AreSpans, SameSpans, StandsAt, IsMate, HaveMates, mate_at, Joins}
use Rattle.sexpr_text.specs.Scan.{AreUnmated, AreNumbered}
use Rattle.sexpr_text.proofs.Heights.{step_open, step_close, step_level, opened-zero, closed-zero, NoParentheses, nothing_no_parentheses, run_no_parentheses}
use Rattle.sexpr_text.proofs.Spans.{open_span, close_span, run_span, span_of, span_at, span_open, span_close, span_some, length-spans}

-- ---- tokens by number

pub same_refl : (ts : List Token) → SameSpans ts ts
same_refl [] = tt
same_refl (t ∷ ts) = (refl, refl, refl, same_refl ts)

pub same_trans : (ts us vs : List Token) → SameSpans ts us → SameSpans us vs → SameSpans ts vs
same_trans [] [] [] h k = tt
same_trans [] [] (v ∷ vs) h k = k
same_trans [] (u ∷ us) vs h k = absurd h
same_trans (t ∷ ts) [] vs h k = absurd h
same_trans (t ∷ ts) (u ∷ us) [] h k = k
same_trans (t ∷ ts) (u ∷ us) (v ∷ vs) h k = (h.0 ∙ k.0, h.1 ∙ k.1, h.2 ∙ k.2, same_trans ts us vs h.3 k.3)

pub same-length : (ts us : List Token) → SameSpans ts us → length ts ≡ length us
same-length [] [] h = refl
same-length [] (u ∷ us) h = absurd h
same-length (t ∷ ts) [] h = absurd h
same-length (t ∷ ts) (u ∷ us) h = ap suc (same-length ts us h.3)

-- the token with the same number in the other list
pub same_at : (ts us : List Token) → SameSpans ts us → (i : ℕ) (t : Token) → slice_get ts i ≡ Some t → (u : Token) × (slice_get us i ≡ Some u) × (t.kind ≡ u.kind) × (t.at ≡ u.at) × (t.end ≡ u.end)
same_at [] us h i t e = absurd cc
same_at (x ∷ xs) [] h i t e = absurd h
same_at (x ∷ xs) (y ∷ ys) h zero t e =
    let same : x ≡ t = cc in
    (y, refl, ap (λ (v : Token). v.kind) (sym same) ∙ h.0, ap (λ (v : Token). v.at) (sym same) ∙ h.1, ap (λ (v : Token). v.end) (sym same) ∙ h.2)
same_at (x ∷ xs) (y ∷ ys) h (suc i) t e = same_at xs ys h.3 i t e

pub same_sym : (ts us : List Token) → SameSpans ts us → SameSpans us ts
same_sym [] [] h = tt
same_sym [] (u ∷ us) h = absurd h
same_sym (t ∷ ts) [] h = absurd h
same_sym (t ∷ ts) (u ∷ us) h = (sym h.0, sym h.1, sym h.2, same_sym ts us h.3)

pub same_spans_are : (text : List ℕ) (from to : ℕ) (ts us : List Token) → SameSpans ts us → AreSpans text from to ts → AreSpans text from to us
same_spans_are text from to [] [] h k = k
same_spans_are text from to [] (u ∷ us) h k = absurd h
same_spans_are text from to (t ∷ ts) [] h k = absurd h
same_spans_are text from to (t ∷ ts) (u ∷ us) h k =
    let span : IsSpan text u.at u.end u.kind =
    subst (IsSpan text u.at u.end) h.0 (subst (λ i. IsSpan text u.at i t.kind) h.2 (subst (λ i. IsSpan text i t.end t.kind) h.1 k.2)) in (
      omega (arith, k.0, h.1),
      subst (NothingWritten text from) h.1 k.1,
      span,
      subst (λ i. AreSpans text i to us) h.2 (same_spans_are text t.end to ts us h.3 k.3),
    )

pub mate_of : (ts : List Token) (i : ℕ) (t : Token) → slice_get ts i ≡ Some t → mate_at ts i ≡ t.mate
mate_of [] i t e = absurd cc
mate_of (u ∷ us) zero t e = let same : u ≡ t = cc in ap (λ (v : Token). v.mate) same
mate_of (u ∷ us) (suc i) t e = mate_of us i t e

pub get_below : (ts : List Token) (i : ℕ) (t : Token) → slice_get ts i ≡ Some t → i < length ts
get_below [] i t e = absurd cc
get_below (u ∷ us) zero t e = omega arith
get_below (u ∷ us) (suc i) t e = let h = get_below us i t e in omega arith

numbered_at : (number : ℕ) (ts : List Token) → AreNumbered number ts → (i : ℕ) → i < length ts → mate_at ts i ≡ number + i
numbered_at number [] h i lt = absurd (omega arith)
numbered_at number (t ∷ ts) h zero lt = omega (arith, h.0)
numbered_at number (t ∷ ts) h (suc i) lt = let more = numbered_at (suc number) ts h.1 i (omega arith) in omega arith

stands_same : (ts us : List Token) → SameSpans ts us → (i place : ℕ) → StandsAt ts i place → StandsAt us i place
stands_same ts us h i place s =
    let u = same_at ts us h i s.0 s.1 in
    (u.0, u.1, sym u.3 ∙ s.2)

pub mate_same : (text : List ℕ) (ts us : List Token) → SameSpans ts us → (i at : ℕ) (kind : TokenKind) (mate : ℕ) → IsMate text ts i at kind mate → IsMate text us i at kind mate
mate_same text ts us h i at Open mate m = (m.0, stands_same ts us h mate m.0 m.1, m.2)
mate_same text ts us h i at Close mate m = (m.0, stands_same ts us h mate m.0 m.1, m.2)
mate_same text ts us h i at Name mate m = m
mate_same text ts us h i at Variable mate m = m
mate_same text ts us h i at Keyword mate m = m
mate_same text ts us h i at Number mate m = m
mate_same text ts us h i at Mark mate m = m
mate_same text ts us h i at Time mate m = m

own_mate : (text : List ℕ) (ts : List Token) (i at : ℕ) (kind : TokenKind) → kind ≢ Open → kind ≢ Close → IsMate text ts i at kind i
own_mate text ts i at Open a b = absurd (a refl)
own_mate text ts i at Close a b = absurd (b refl)
own_mate text ts i at Name a b = refl
own_mate text ts i at Variable a b = refl
own_mate text ts i at Keyword a b = refl
own_mate text ts i at Number a b = refl
own_mate text ts i at Mark a b = refl
own_mate text ts i at Time a b = refl

-- ---- heights stay where no parenthesis stands

pub still_far : (text : List ℕ) (from n : ℕ) → NoParentheses text from (from + n) → (opened text (from + n) ≡ opened text from) × (closed text (from + n) ≡ closed text from)
still_far text from zero none = let e : from + 0 ≡ from = omega arith in rw e (refl, refl)
still_far text from (suc n) none =
    let e : from + suc n ≡ suc (from + n) = omega arith in
    let here = none (from + n) (omega arith) (omega arith) in
    let step = step_level text (from + n) here.0 here.1 in
    let before = still_far text from n (λ k low high. none k low (omega arith)) in
    rw e (step.0 ∙ before.0, step.1 ∙ before.1)

still : (text : List ℕ) (from to : ℕ) → from ≤ to → NoParentheses text from to → (n : ℕ) → from ≤ n → n ≤ to → (opened text n ≡ opened text from) × (closed text n ≡ closed text from)
still text from to le none n low high =
    let e : from + (n - from) ≡ n = omega arith in
    subst (λ i. (opened text i ≡ opened text from) × (closed text i ≡ closed text from)) e (still_far text from (n - from) (λ k l h. none k l (omega arith)))

-- ---- the loop

-- the token with number k opens the list that d others enclose, and up to the place it is open
pub record IsPending (text : List ℕ) (ts : List Token) (i place d k : ℕ) : Type 0 where
  pub token : Token
  pub get : slice_get ts k ≡ Some token
  pub below : k < i
  pub kind : token.kind ≡ Open
  pub before : token.at < place
  pub depth : closed text token.at + d ≡ opened text token.at
  pub stays : (n : ℕ) → token.at < n → n ≤ place → closed text n + d < opened text n

-- the token with number k has its mate, or its list is still open
abbrev IsJoined : List ℕ → List Token → List ℕ → ℕ → Token → ℕ → Type 0
IsJoined text ts stack k t mate = IsMate text ts k t.at t.kind mate ⊎ ((d : ℕ) × (d < length stack) × (get_or stack d 0 ≡ k))

-- the tokens ts before number i, up to the place, have their mates, but for those of the lists on the stack
pub record Joined (text : List ℕ) (ts tokens : List Token) (i : ℕ) (stack : List ℕ) (place : ℕ) : Type 0 where
  pub same : SameSpans ts tokens
  pub back : AreSpans text place (length text) (drop i ts)
  pub counted : closed text place + length stack ≡ opened text place
  pub pending : (d : ℕ) → d < length stack → IsPending text ts i place d (get_or stack d 0)
  pub done : (k : ℕ) (t : Token) → slice_get ts k ≡ Some t → k < i → IsJoined text ts stack k t (mate_at tokens k)
  pub left : (k : ℕ) → k < length ts → i ≤ k → mate_at tokens k ≡ k

pub joined_start : (text : List ℕ) (ts : List Token) → AreUnmated text ts → Joined text ts ts 0 [] 0
joined_start text ts u = record {
  same = same_refl ts;
  back = u.spans;
  counted = omega (arith, opened-zero text, closed-zero text);
  pending = λ d lt. absurd (omega arith);
  done = λ k t e lt. absurd (omega arith);
  left = λ k lt _. numbered_at 0 ts u.numbered k lt ∙ omega arith;
}

-- what comes next
pub record IsNext (text : List ℕ) (ts : List Token) (i place : ℕ) (t : Token) : Type 0 where
  pub get : slice_get ts i ≡ Some t
  pub from : place ≤ t.at
  pub nothing : NothingWritten text place t.at
  pub span : IsSpan text t.at t.end t.kind
  pub rest : AreSpans text t.end (length text) (drop (suc i) ts)

next_of : (text : List ℕ) (ts : List Token) (i place : ℕ) (t : Token) → AreSpans text place (length text) (drop i ts) → slice_get ts i ≡ Some t → IsNext text ts i place t
next_of text [] i place t h e = absurd cc
next_of text (u ∷ us) zero place t h e =
    let same : u ≡ t = cc in
    subst (λ v. IsNext text (u ∷ us) 0 place v) same (record { get = refl; from = h.0; nothing = h.1; span = h.2; rest = h.3 })
next_of text (u ∷ us) (suc i) place t h e =
    let more = next_of text us i place t h e in
    record { get = e; from = more.from; nothing = more.nothing; span = more.span; rest = more.rest }

pending_more : (text : List ℕ) (ts : List Token) (i place to d k : ℕ) → IsPending text ts i place d k → place ≤ to → ((n : ℕ) → place < n → n ≤ to → closed text n + d < opened text n) → IsPending text ts (suc i) to d k
pending_more text ts i place to d k p le more = record {
  token = p.token;
  get = p.get;
  below = omega (arith, p.below);
  kind = p.kind;
  before = omega (arith, p.before);
  depth = p.depth;
  stays = λ n low high. elim (cases_lt place n) [ inl lt ↦ more n lt high | inr ge ↦ p.stays n low ge ];
}

-- a list that opens goes on the stack
pub joined_open : (text : List ℕ) (ts tokens : List Token) (i : ℕ) (stack : List ℕ) (place : ℕ) (t : Token) → Joined text ts tokens i stack place → slice_get ts i ≡ Some t → t.kind ≡ Open → Joined text ts tokens (suc i) (stack ++ i ∷ []) t.end
joined_open text ts tokens i stack place t j e kind =
    let next = next_of text ts i place t j.back e in
    let span = span_open text t.at t.end t.kind next.span kind in
    let quiet = still text place t.at next.from (nothing_no_parentheses text place t.at next.nothing) in
    let here = quiet t.at next.from (omega arith) in
    let step = step_open text t.at span.0 in
    let len = length_push stack i in
    let ends : t.end ≡ suc t.at = span.1 in
    record {
      same = j.same;
      back = next.rest;
      counted = rw ends (omega (arith, j.counted));
      pending = λ d lt. elim (cases_lt d (length stack)) [
        | inl old ↦
            let p = j.pending d old in
            let same : get_or (stack ++ i ∷ []) d 0 ≡ get_or stack d 0 = get_or_append_left stack (i ∷ []) 0 d old in
            rw same (pending_more text ts i place t.end d (get_or stack d 0) p (omega (arith, next.from)) (λ n low high. elim (cases_lt n (suc t.at)) [
              | inl lt ↦ let at = quiet n (omega arith) (omega arith) in omega (arith, j.counted)
              | inr ge ↦ let same : n ≡ suc t.at = omega arith in rw same (omega (arith, j.counted))
            ]))
        | inr new ↦
            let last : d ≡ length stack = omega arith in
            let same : get_or (stack ++ i ∷ []) d 0 ≡ i = get_or_push stack i 0 d (sym last) in
            rw same (record {
              token = t;
              get = e;
              below = omega arith;
              kind = kind;
              before = omega arith;
              depth = omega (arith, j.counted);
              stays = λ n low high. let same : n ≡ suc t.at = omega arith in rw same (omega (arith, j.counted));
            })
      ];
      done = λ k u get lt. elim (cases_lt k i) [
        | inl old ↦ elim (j.done k u get old) [
          | inl mate ↦ inl mate
          | inr found ↦ inr (found.0, omega (arith, found.1), get_or_append_left stack (i ∷ []) 0 found.0 found.1 ∙ found.2)
        ]
        | inr new ↦ inr (length stack, omega arith, get_or_push stack i 0 (length stack) refl ∙ omega arith)
      ];
      left = λ k lt le. j.left k lt (omega arith);
    }

-- a token that is no parenthesis keeps its own number
pub joined_other : (text : List ℕ) (ts tokens : List Token) (i : ℕ) (stack : List ℕ) (place : ℕ) (t : Token) → Joined text ts tokens i stack place → slice_get ts i ≡ Some t → t.kind ≢ Open → t.kind ≢ Close → Joined text ts tokens (suc i) stack t.end
joined_other text ts tokens i stack place t j e no_open no_close =
    let next = next_of text ts i place t j.back e in
    let some = span_some text t.at t.end t.kind next.span in
    let run : NoParentheses text t.at t.end = elim (span_of text t.at t.end t.kind next.span) [
      | open_span kind _ _ ↦ absurd (no_open kind)
      | close_span kind _ _ ↦ absurd (no_close kind)
      | run_span r _ ↦ run_no_parentheses text t.at t.end r
    ] in
    let none : NoParentheses text place t.end = λ k low high. elim (cases_lt k t.at) [
      | inl lt ↦ nothing_no_parentheses text place t.at next.nothing k low lt
      | inr ge ↦ run k ge high
    ] in
    let quiet = still text place t.end (omega (arith, next.from)) none in
    let here = quiet t.end (omega (arith, next.from)) (omega arith) in
    record {
      same = j.same;
      back = next.rest;
      counted = omega (arith, j.counted);
      pending = λ d lt. pending_more text ts i place t.end d (get_or stack d 0) (j.pending d lt) (omega (arith, next.from)) (λ n low high. let at = quiet n (omega arith) high in omega (arith, j.counted));
      done = λ k u get lt. elim (cases_lt k i) [
        | inl old ↦ j.done k u get old
        | inr new ↦
            let last : k ≡ i = omega arith in
            let same : slice_get ts i ≡ Some u = subst (λ m. slice_get ts m ≡ Some u) last get in
            let one : t ≡ u = cc in
            let mate : mate_at tokens k ≡ k = j.left k (get_below ts k u get) new in
            inl (rw mate (own_mate text ts k u.at u.kind (λ kind. no_open (ap (λ (v : Token). v.kind) one ∙ kind)) (λ kind. no_close (ap (λ (v : Token). v.kind) one ∙ kind))))
      ];
      left = λ k lt le. j.left k lt (omega arith);
    }

-- where a list is closed, one is open
pub joined_some : (text : List ℕ) (ts tokens : List Token) (i : ℕ) (stack : List ℕ) (place : ℕ) (t : Token) → AreUnmated text ts → Joined text ts tokens i stack place → slice_get ts i ≡ Some t → t.kind ≡ Close → 0 < length stack
joined_some text ts tokens i stack place t u j e kind =
    let next = next_of text ts i place t j.back e in
    let span = span_close text t.at t.end t.kind next.span kind in
    let quiet = still text place t.at next.from (nothing_no_parentheses text place t.at next.nothing) in
    let here = quiet t.at next.from (omega arith) in
    let step = step_close text t.at span.0 in
    let inside = length-spans text t.end (length text) (drop (suc i) ts) next.rest in
    let below = u.never_below (suc t.at) (omega (arith, span.1)) in
    omega (arith, j.counted)

-- a list that is closed has its mate
pub joined_close : (text : List ℕ) (ts tokens new : List Token) (i : ℕ) (stack rest : List ℕ) (place first : ℕ) (t : Token) → AreUnmated text ts → Joined text ts tokens i stack place → slice_get ts i ≡ Some t → t.kind ≡ Close → stack ≡ rest ++ first ∷ [] → Joins tokens new first i →
    Joined text ts new (suc i) rest t.end
joined_close text ts tokens new i stack rest place first t u j e kind pop joins =
    let next = next_of text ts i place t j.back e in
    let span = span_close text t.at t.end t.kind next.span kind in
    let quiet = still text place t.at next.from (nothing_no_parentheses text place t.at next.nothing) in
    let here = quiet t.at next.from (omega arith) in
    let step = step_close text t.at span.0 in
    let len : length stack ≡ length rest + 1 = ap length pop ∙ length_push rest first in
    let ends : t.end ≡ suc t.at = span.1 in
    let older : (d : ℕ) → d < length rest → get_or stack d 0 ≡ get_or rest d 0 = λ d lt. ap (λ (l : List ℕ). get_or l d 0) pop ∙ get_or_append_left rest (first ∷ []) 0 d lt in
    let top : get_or stack (length rest) 0 ≡ first = ap (λ (l : List ℕ). get_or l (length rest) 0) pop ∙ get_or_push rest first 0 (length rest) refl in
    let p : IsPending text ts i place (length rest) first = subst (IsPending text ts i place (length rest)) top (j.pending (length rest) (omega arith)) in
    let opens = span_open text p.token.at p.token.end p.token.kind (span_at text 0 (length text) ts u.spans first p.token p.get) p.kind in
    let opening = step_open text p.token.at opens.0 in
    let depth = p.depth in
    let before = p.before in
    let from = next.from in
    let counted = j.counted in
    let matches : Matches text p.token.at t.at = record {
      order = omega arith;
      opens = opens.0;
      closes = span.0;
      balanced = record {
        even = omega arith;
        never_below = λ n low high. elim (cases_lt place n) [
          | inl later ↦ let at = quiet n (omega arith) high in omega arith
          | inr earlier ↦ let stays = p.stays n low earlier in omega arith
        ];
      };
    } in
    record {
      same = same_trans ts tokens new j.same joins.same;
      back = next.rest;
      counted = rw ends (omega (arith, j.counted));
      pending = λ d few.
          let q = subst (IsPending text ts i place d) (older d few) (j.pending d (omega arith)) in
          pending_more text ts i place t.end d (get_or rest d 0) q (omega (arith, next.from)) (λ n low high. elim (cases_lt n (suc t.at)) [
            | inl lt ↦ let at = quiet n (omega arith) (omega arith) in omega (arith, j.counted)
            | inr ge ↦ let same : n ≡ suc t.at = omega arith in rw same (omega (arith, j.counted))
          ]);
      done = λ k v get lt. elim (cases_eq k i) [
        | inl last ↦
            let get' : slice_get ts i ≡ Some v = subst (λ m. slice_get ts m ≡ Some v) last get in
            let one : t ≡ v = cc in
            let mate : IsMate text ts i t.at Close first = (p.token.at, (p.token, p.get, refl), matches) in
            let mate' : IsMate text ts i t.at t.kind first = subst (λ d. IsMate text ts i t.at d first) (sym kind) mate in
            let mate'' : IsMate text ts i v.at v.kind first = subst (λ (w : Token). IsMate text ts i w.at w.kind first) one mate' in
            inl (rw (last, joins.mate_of_last) mate'')
        | inr other ↦ elim (cases_eq k first) [
          | inl is_first ↦
              let get' : slice_get ts first ≡ Some v = subst (λ m. slice_get ts m ≡ Some v) is_first get in
              let get'' = p.get in
              let one : p.token ≡ v = cc in
              let mate : IsMate text ts first p.token.at Open i = (t.at, (t, e, refl), matches) in
              let mate' : IsMate text ts first p.token.at p.token.kind i = subst (λ d. IsMate text ts first p.token.at d i) (sym p.kind) mate in
              let mate'' : IsMate text ts first v.at v.kind i = subst (λ (w : Token). IsMate text ts first w.at w.kind i) one mate' in
              inl (rw (is_first, joins.mate_of_first) mate'')
          | inr another ↦ rw (joins.others k another other) (elim (j.done k v get (omega arith)) [
            | inl mate ↦ inl mate
            | inr found ↦ elim (cases_lt found.0 (length rest)) [
              | inl inside ↦ inr (found.0, inside, sym (older found.0 inside) ∙ found.2)
              | inr out ↦
                  let d : found.0 ≡ length rest = omega (arith, found.1) in
                  absurd (another (sym found.2 ∙ ap (λ m. get_or stack m 0) d ∙ top))
            ]
          ])
        ]
      ];
      left = λ k lt le. joins.others k (λ same. omega (arith, p.below)) (λ same. omega arith) ∙ j.left k lt (omega arith);
    }

-- in the end each token has its mate
pub joined_end : (text : List ℕ) (ts tokens : List Token) (i : ℕ) (stack : List ℕ) (place : ℕ) → AreUnmated text ts → Joined text ts tokens i stack place → length ts ≤ i → AreSpans text 0 (length text) tokens × HaveMates text tokens
joined_end text ts tokens i stack place u j le =
    let back : AreSpans text place (length text) [] = subst (AreSpans text place (length text)) (drop_all i ts le) j.back in
    let quiet = still text place (length text) back.0 (nothing_no_parentheses text place (length text) back.1) in
    let here = quiet (length text) back.0 (omega arith) in
    let even = u.even in
    let counted = j.counted in
    let none : length stack ≡ 0 = omega arith in (
      same_spans_are text 0 (length text) ts tokens j.same u.spans,
      λ k v get.
          let t = same_at tokens ts (same_sym ts tokens j.same) k v get in
          let below = get_below ts k t.0 t.1 in
          let mate : IsMate text ts k t.0.at t.0.kind (mate_at tokens k) = elim (j.done k t.0 t.1 (omega arith)) [
            | inl mate ↦ mate
            | inr found ↦ absurd (omega (arith, found.1))
          ] in
          let mate' : IsMate text ts k v.at v.kind (mate_at tokens k) = subst (λ a. IsMate text ts k a v.kind (mate_at tokens k)) (sym t.3) (subst (λ d. IsMate text ts k t.0.at d (mate_at tokens k)) (sym t.2) mate) in
          mate_same text ts tokens j.same k v.at v.kind v.mate (subst (IsMate text ts k v.at v.kind) (mate_of tokens k v get) mate'),
    )

-- ---- writing a mate

-- the token with another mate
abbrev with_mate : Token → ℕ → Token
with_mate t mate = record { kind = t.kind; at = t.at; end = t.end; mate = mate }

same_set : (ts : List Token) (i mate : ℕ) (d : Token) → i < length ts → SameSpans ts (set ts i (with_mate (get_or ts i d) mate))
same_set [] i mate d lt = absurd (omega arith)
same_set (t ∷ ts) zero mate d lt = (refl, refl, refl, same_refl ts)
same_set (t ∷ ts) (suc i) mate d lt = (refl, refl, refl, same_set ts i mate d (omega arith))

mate_at-set_same : (ts : List Token) (i mate : ℕ) (d : Token) → i < length ts → mate_at (set ts i (with_mate (get_or ts i d) mate)) i ≡ mate
mate_at-set_same [] i mate d lt = absurd (omega arith)
mate_at-set_same (t ∷ ts) zero mate d lt = refl
mate_at-set_same (t ∷ ts) (suc i) mate d lt = mate_at-set_same ts i mate d (omega arith)

mate_at-set_other : (ts : List Token) (i : ℕ) (u : Token) (k : ℕ) → k ≢ i → mate_at (set ts i u) k ≡ mate_at ts k
mate_at-set_other [] i u k other = refl
mate_at-set_other (t ∷ ts) zero u zero other = absurd (other refl)
mate_at-set_other (t ∷ ts) zero u (suc k) other = refl
mate_at-set_other (t ∷ ts) (suc i) u zero other = refl
mate_at-set_other (t ∷ ts) (suc i) u (suc k) other = mate_at-set_other ts i u k (λ e. other (ap suc e))

pub joins_set : (ts : List Token) (first last : ℕ) (d e : Token) → first < last → last < length ts →
    let one = set ts first (with_mate (get_or ts first d) last) in Joins ts (set one last (with_mate (get_or one last e) first)) first last
joins_set ts first last d e lt inside =
    let one = set ts first (with_mate (get_or ts first d) last) in
    let len : length one ≡ length ts = length-set ts first (with_mate (get_or ts first d) last) in
    let two = set one last (with_mate (get_or one last e) first) in
    record {
      same = same_trans ts one two (same_set ts first last d (omega arith)) (same_set one last first e (omega arith));
      mate_of_first = mate_at-set_other one last (with_mate (get_or one last e) first) first (λ same. omega arith) ∙ mate_at-set_same ts first last d (omega arith);
      mate_of_last = mate_at-set_same one last first e (omega arith);
      others = λ k a b. mate_at-set_other one last (with_mate (get_or one last e) first) k b ∙ mate_at-set_other ts first (with_mate (get_or ts first d) last) k a;
    }

-- the token read at a number
pub get_from_read : (ts : List Token) (i : ℕ) (d : Token) → i < length ts → slice_get ts i ≡ Some (get_or ts i d)
get_from_read [] i d lt = absurd (omega arith)
get_from_read (t ∷ ts) zero d lt = refl
get_from_read (t ∷ ts) (suc i) d lt = get_from_read ts i d (omega arith)

-- the token that is read in the list so far is of the kind of the one that was there at first
pub joined_get : (text : List ℕ) (ts tokens : List Token) (i : ℕ) (stack : List ℕ) (place : ℕ) (d : Token) → Joined text ts tokens i stack place → i < length ts → (t : Token) × (slice_get ts i ≡ Some t) × (t.kind ≡ (get_or tokens i d).kind)
joined_get text ts tokens i stack place d j lt =
    let u = same_at tokens ts (same_sym ts tokens j.same) i (get_or tokens i d) (get_from_read tokens i d (omega (arith, same-length ts tokens j.same))) in
    (u.0, u.1, sym u.2)

pub unmated_few : (text : List ℕ) (ts : List Token) → AreUnmated text ts → length ts ≤ length text
unmated_few text ts u = omega (arith, length-spans text 0 (length text) ts u.spans)

pub joined_same : (text : List ℕ) (ts tokens tokens' : List Token) (i i' : ℕ) (stack stack' : List ℕ) (place : ℕ) → tokens' ≡ tokens → i' ≡ i → stack' ≡ stack → Joined text ts tokens i stack place → Joined text ts tokens' i' stack' place
joined_same text ts tokens tokens' i i' stack stack' place t n s j = rw (t, n, s) j
