-- The spans of a text: they are determined, and they leave no run and no parenthesis out.
use Rattle.std.proofs.Common.{◌≡◌, ℕ, zero, suc, ◌+◌, ◌-◌, ◌<◌, ◌≤◌, Bool, true, false, cond, ◌&&◌, nat_le, List, [], ◌∷◌, ◌++◌, length, drop, slice_range, slice_get, Some, Result, Ok, Err, refl, sym, ap, ◌∙◌, subst, inl, inr, arith}
use Rattle.std.proofs.lemmas.Bool.{true≢false, cases_lt}
use Rattle.sexpr_text.specs.declared.token.Token.{Token}
use Rattle.sexpr_text.specs.declared.token.TokenKind.{TokenKind}
use Rattle.sexpr_text.specs.declared.token.TokenKind.TheVariants.{Open, Close, Name, Variable, Keyword, Number, Mark, Time}
use Rattle.sexpr_text.specs.declared.run.RunFault.{RunFault}
use Rattle.sexpr_text.specs.Comments.{opens_at, closes_at, is_written, NothingWritten}
use Rattle.sexpr_text.specs.declared.run.RunFault.TheVariants as of_run
use Rattle.basics.specs.Texts.{name_limit, digit_limit, is_name, digit_count, is_number}
use Rattle.sexpr_text.specs.Runs.{IsRun, reading, is_variable, is_keyword, begins_as_number, is_mark, is_time}
use Rattle.sexpr_text.specs.Token.{IsSpan, AreSpans, SameSpans}
use Rattle.sexpr_text.proofs.Places.{opens_written, closes_written, run_written, opens_no_run, closes_no_run, opens_no_closes}

-- what a span is
pub data Span (text : List ℕ) (at end : ℕ) (kind : TokenKind) : Type 0 where
  open_span : kind ≡ Open → opens_at text at ≡ true → end ≡ suc at → Span text at end kind
  close_span : kind ≡ Close → closes_at text at ≡ true → end ≡ suc at → Span text at end kind
  run_span : IsRun text at end → reading (slice_range text at end) ≡ Ok kind → Span text at end kind

pub span_of : (text : List ℕ) (at end : ℕ) (kind : TokenKind) → IsSpan text at end kind → Span text at end kind
span_of text at end Open s = open_span refl s.0 s.1
span_of text at end Close s = close_span refl s.0 s.1
span_of text at end Name s = run_span s.0 s.1
span_of text at end Variable s = run_span s.0 s.1
span_of text at end Keyword s = run_span s.0 s.1
span_of text at end Number s = run_span s.0 s.1
span_of text at end Mark s = run_span s.0 s.1
span_of text at end Time s = run_span s.0 s.1

pub span_some : (text : List ℕ) (at end : ℕ) (kind : TokenKind) → IsSpan text at end kind → at < end
span_some text at end kind s =
    elim (span_of text at end kind s) [
      | open_span _ _ e ↦ omega arith
      | close_span _ _ e ↦ omega arith
      | run_span run _ ↦ run.some
    ]

-- the first byte of a span is written
pub span_written : (text : List ℕ) (at end : ℕ) (kind : TokenKind) → IsSpan text at end kind → is_written text at ≡ true
span_written text at end kind s =
    elim (span_of text at end kind s) [
      | open_span _ opens _ ↦ opens_written text at opens
      | close_span _ closes _ ↦ closes_written text at closes
      | run_span run _ ↦ run_written text at (run.each at (omega arith) run.some)
    ]

-- two runs that share a byte are one
run_first : (text : List ℕ) (at end other last : ℕ) → IsRun text at end → IsRun text other last → at ≤ other → other < end → at ≡ other
run_first text at end other last r s low high =
    elim (cases_lt at other) [
      | inr ge ↦ omega arith
      | inl lt ↦
          let e : suc (other - 1) ≡ other = omega arith in
          absurd (true≢false (sym (r.each (other - 1) (omega arith) (omega arith)) ∙ s.begins (other - 1) e))
    ]

pub run_end : (text : List ℕ) (at end last : ℕ) → IsRun text at end → IsRun text at last → end ≡ last
run_end text at end last r s =
    elim (cases_lt end last) [
      | inl lt ↦ absurd (true≢false (sym (s.each end (omega (arith, r.some)) lt) ∙ r.ends))
      | inr ge ↦ elim (cases_lt last end) [
        | inl lt ↦ absurd (true≢false (sym (r.each last (omega (arith, s.some)) lt) ∙ s.ends))
        | inr le ↦ omega arith
      ]
    ]

-- ---- spans one after another

pub spans_join : (text : List ℕ) (from mid to : ℕ) (ts us : List Token) → AreSpans text from mid ts → AreSpans text mid to us → AreSpans text from to (ts ++ us)
spans_join text from mid to [] [] h k =
    (omega (arith, h.0, k.0), λ i low high. elim (cases_lt i mid) [ inl lt ↦ h.1 i low lt | inr ge ↦ k.1 i ge high ])
spans_join text from mid to [] (u ∷ us) h k =
    (omega (arith, h.0, k.0), (λ i low high. elim (cases_lt i mid) [ inl lt ↦ h.1 i low lt | inr ge ↦ k.1 i ge high ]), k.2, k.3)
spans_join text from mid to (t ∷ ts) us h k = (h.0, h.1, h.2, spans_join text t.end mid to ts us h.3 k)

pub spans_gap : (text : List ℕ) (from mid to : ℕ) (ts : List Token) → AreSpans text from mid ts → mid ≤ to → NothingWritten text mid to → AreSpans text from to ts
spans_gap text from mid to [] h le nothing =
    (omega (arith, h.0), λ i low high. elim (cases_lt i mid) [ inl lt ↦ h.1 i low lt | inr ge ↦ nothing i ge high ])
spans_gap text from mid to (t ∷ ts) h le nothing = (h.0, h.1, h.2, spans_gap text t.end mid to ts h.3 le nothing)

pub spans_push : (text : List ℕ) (from to : ℕ) (ts : List Token) (t : Token) → AreSpans text from to ts → t.at ≡ to → IsSpan text t.at t.end t.kind → AreSpans text from t.end (ts ++ t ∷ [])
spans_push text from to ts t h here span =
    spans_join text from to t.end ts (t ∷ []) h (omega arith, (λ i low high. absurd (omega arith)), span, (omega arith, λ i low high. absurd (omega arith)))

-- there are no more tokens than bytes
pub length-spans : (text : List ℕ) (from to : ℕ) (ts : List Token) → AreSpans text from to ts → from + length ts ≤ to
length-spans text from to [] h = omega (arith, h.0)
length-spans text from to (t ∷ ts) h =
    let more = length-spans text t.end to ts h.3 in
    let some = span_some text t.at t.end t.kind h.2 in
    omega (arith, h.0)

-- each span ends within the place
pub spans_within : (text : List ℕ) (from to : ℕ) (ts : List Token) → AreSpans text from to ts → (i : ℕ) (t : Token) → slice_get ts i ≡ Some t → (from ≤ t.at) × (t.at < t.end) × (t.end ≤ to)
spans_within text from to [] h i t e = absurd cc
spans_within text from to (u ∷ us) h zero t e =
    let same : u ≡ t = cc in
    let more = length-spans text u.end to us h.3 in
    let some = span_some text u.at u.end u.kind h.2 in
    subst (λ (v : Token). (from ≤ v.at) × (v.at < v.end) × (v.end ≤ to)) same (h.0, some, omega arith)
spans_within text from to (u ∷ us) h (suc i) t e =
    let more = spans_within text u.end to us h.3 i t e in
    let some = span_some text u.at u.end u.kind h.2 in
    (omega (arith, h.0, more.0), more.1, more.2)

-- ---- a run is one of the tokens

pub run_is_read : (text : List ℕ) (from to : ℕ) (ts : List Token) → AreSpans text from to ts → (at end : ℕ) (wrong : RunFault) → from ≤ at → at < to → IsRun text at end → reading (slice_range text at end) ≡ Err wrong → ⊥
run_is_read text from to [] h at end wrong low high run bad =
    true≢false (sym (run_written text at (run.each at (omega arith) run.some)) ∙ h.1 at low high)
run_is_read text from to (t ∷ ts) h at end wrong low high run bad =
    elim (cases_lt at t.at) [
      | inl lt ↦ true≢false (sym (run_written text at (run.each at (omega arith) run.some)) ∙ h.1 at low lt)
      | inr ge ↦ elim (cases_lt at t.end) [
        | inr later ↦ run_is_read text t.end to ts h.3 at end wrong later high run bad
        | inl inside ↦ elim (span_of text t.at t.end t.kind h.2) [
          | open_span _ opens e ↦
              let same : t.at ≡ at = omega arith in
              true≢false (sym (run.each at (omega arith) run.some) ∙ opens_no_run text at (subst (λ i. opens_at text i ≡ true) same opens))
          | close_span _ closes e ↦
              let same : t.at ≡ at = omega arith in
              true≢false (sym (run.each at (omega arith) run.some) ∙ closes_no_run text at (subst (λ i. closes_at text i ≡ true) same closes))
          | run_span r ok ↦
              let same : t.at ≡ at = run_first text t.at t.end at end r run ge inside in
              let r' : IsRun text at t.end = subst (λ i. IsRun text i t.end) same r in
              let ends : t.end ≡ end = run_end text at t.end end r' run in
              let ok' : reading (slice_range text at end) ≡ Ok t.kind = subst (λ i. reading (slice_range text i end) ≡ Ok t.kind) same (subst (λ i. reading (slice_range text t.at i) ≡ Ok t.kind) ends ok) in
              cc
        ]
      ]
    ]

-- a parenthesis is one of the tokens
pub open_is_token : (text : List ℕ) (from to : ℕ) (ts : List Token) → AreSpans text from to ts → (at : ℕ) → from ≤ at → at < to → opens_at text at ≡ true → (i : ℕ) × (t : Token) × (slice_get ts i ≡ Some t) × (t.at ≡ at) × (t.kind ≡ Open)
open_is_token text from to [] h at low high opens = absurd (true≢false (sym (opens_written text at opens) ∙ h.1 at low high))
open_is_token text from to (t ∷ ts) h at low high opens =
    elim (cases_lt at t.at) [
      | inl lt ↦ absurd (true≢false (sym (opens_written text at opens) ∙ h.1 at low lt))
      | inr ge ↦ elim (cases_lt at t.end) [
        | inr later ↦ let more = open_is_token text t.end to ts h.3 at later high opens in (suc more.0, more.1, more.2, more.3, more.4)
        | inl inside ↦ elim (span_of text t.at t.end t.kind h.2) [
          | open_span kind _ e ↦ (0, t, refl, omega arith, kind)
          | close_span _ closes e ↦
              let same : t.at ≡ at = omega arith in
              absurd (opens_no_closes text at opens (subst (λ i. closes_at text i ≡ true) same closes))
          | run_span r ok ↦ absurd (true≢false (sym (r.each at ge inside) ∙ opens_no_run text at opens))
        ]
      ]
    ]

pub close_is_token : (text : List ℕ) (from to : ℕ) (ts : List Token) → AreSpans text from to ts → (at : ℕ) → from ≤ at → at < to → closes_at text at ≡ true → (i : ℕ) × (t : Token) × (slice_get ts i ≡ Some t) × (t.at ≡ at) × (t.kind ≡ Close)
close_is_token text from to [] h at low high closes = absurd (true≢false (sym (closes_written text at closes) ∙ h.1 at low high))
close_is_token text from to (t ∷ ts) h at low high closes =
    elim (cases_lt at t.at) [
      | inl lt ↦ absurd (true≢false (sym (closes_written text at closes) ∙ h.1 at low lt))
      | inr ge ↦ elim (cases_lt at t.end) [
        | inr later ↦ let more = close_is_token text t.end to ts h.3 at later high closes in (suc more.0, more.1, more.2, more.3, more.4)
        | inl inside ↦ elim (span_of text t.at t.end t.kind h.2) [
          | close_span kind _ e ↦ (0, t, refl, omega arith, kind)
          | open_span _ opens e ↦
              let same : t.at ≡ at = omega arith in
              absurd (opens_no_closes text at (subst (λ i. opens_at text i ≡ true) same opens) closes)
          | run_span r ok ↦ absurd (true≢false (sym (r.each at ge inside) ∙ closes_no_run text at closes))
        ]
      ]
    ]

-- ---- the spans are determined

-- where the first of two lists begins, the other begins no later
first_at : (text : List ℕ) (from at end : ℕ) (kind : TokenKind) (other : ℕ) → NothingWritten text from other → IsSpan text at end kind → from ≤ at → other ≤ at
first_at text from at end kind other nothing span low =
    elim (cases_lt at other) [
      | inl lt ↦ absurd (true≢false (sym (span_written text at end kind span) ∙ nothing at low lt))
      | inr ge ↦ ge
    ]

-- the span that begins at a place
span_same : (text : List ℕ) (at end last : ℕ) (kind other : TokenKind) → IsSpan text at end kind → IsSpan text at last other → (kind ≡ other) × (end ≡ last)
span_same text at end last kind other s u =
    elim (span_of text at end kind s) [
      | open_span k opens e ↦ elim (span_of text at last other u) [
        | open_span k' _ e' ↦ (k ∙ sym k', omega arith)
        | close_span _ closes _ ↦ absurd (opens_no_closes text at opens closes)
        | run_span r _ ↦ absurd (true≢false (sym (r.each at (omega arith) r.some) ∙ opens_no_run text at opens))
      ]
      | close_span k closes e ↦ elim (span_of text at last other u) [
        | close_span k' _ e' ↦ (k ∙ sym k', omega arith)
        | open_span _ opens _ ↦ absurd (opens_no_closes text at opens closes)
        | run_span r _ ↦ absurd (true≢false (sym (r.each at (omega arith) r.some) ∙ closes_no_run text at closes))
      ]
      | run_span r ok ↦ elim (span_of text at last other u) [
        | open_span _ opens _ ↦ absurd (true≢false (sym (r.each at (omega arith) r.some) ∙ opens_no_run text at opens))
        | close_span _ closes _ ↦ absurd (true≢false (sym (r.each at (omega arith) r.some) ∙ closes_no_run text at closes))
        | run_span r' ok' ↦
            let ends = run_end text at end last r r' in
            let ok'' : reading (slice_range text at end) ≡ Ok other = subst (λ i. reading (slice_range text at i) ≡ Ok other) (sym ends) ok' in
            (cc, ends)
      ]
    ]

pub same_spans : (text : List ℕ) (from to : ℕ) (ts us : List Token) → AreSpans text from to ts → AreSpans text from to us → SameSpans ts us
same_spans text from to [] [] h k = tt
same_spans text from to [] (u ∷ us) h k =
    let within = spans_within text from to (u ∷ us) k 0 u refl in
    true≢false (sym (span_written text u.at u.end u.kind k.2) ∙ h.1 u.at k.0 (omega (arith, within.1, within.2)))
same_spans text from to (t ∷ ts) [] h k =
    let within = spans_within text from to (t ∷ ts) h 0 t refl in
    true≢false (sym (span_written text t.at t.end t.kind h.2) ∙ k.1 t.at h.0 (omega (arith, within.1, within.2)))
same_spans text from to (t ∷ ts) (u ∷ us) h k =
    let le = first_at text from t.at t.end t.kind u.at k.1 h.2 h.0 in
    let ge = first_at text from u.at u.end u.kind t.at h.1 k.2 k.0 in
    let at : t.at ≡ u.at = omega arith in
    let s = span_same text u.at t.end u.end t.kind u.kind (subst (λ i. IsSpan text i t.end t.kind) at h.2) k.2 in
    (s.0, at, s.1, same_spans text u.end to ts us (subst (λ i. AreSpans text i to ts) s.1 h.3) k.3)

-- ---- what a run spells

-- an answer that is no parenthesis
spells_run : Result TokenKind RunFault → Bool
spells_run (Ok Open) = false
spells_run (Ok Close) = false
spells_run (Ok kind) = true
spells_run (Err wrong) = true

spells_cond : (b : Bool) (x y : Result TokenKind RunFault) → spells_run x ≡ true → spells_run y ≡ true → spells_run (cond b x y) ≡ true
spells_cond true x y h k = h
spells_cond false x y h k = k

reading_spells : (run : List ℕ) → spells_run (reading run) ≡ true
unfolding reading spells_run
reading_spells run =
    spells_cond (is_name run) _ _ (spells_cond (nat_le (length run) name_limit) (Ok Name) (Err of_run.LongName) refl refl)
    (spells_cond (is_variable run) _ _ (spells_cond (nat_le (length (drop 1 run)) name_limit) (Ok Variable) (Err of_run.LongName) refl refl)
    (spells_cond (is_keyword run) _ _ (spells_cond (nat_le (length (drop 1 run)) name_limit) (Ok Keyword) (Err of_run.LongName) refl refl)
    (spells_cond (begins_as_number run) _ _ (spells_cond (is_number run && nat_le (digit_count run) digit_limit) (Ok Number) (Err of_run.Malformed) refl refl)
    (spells_cond (is_mark run) (Ok Mark) _ refl
    (spells_cond (is_time run) (Ok Time) (Err of_run.Unknown) refl refl)))))

no_open : (run : List ℕ) → reading run ≡ Ok Open → ⊥
unfolding spells_run
no_open run e = true≢false (sym (reading_spells run) ∙ ap spells_run e)

no_close : (run : List ℕ) → reading run ≡ Ok Close → ⊥
unfolding spells_run
no_close run e = true≢false (sym (reading_spells run) ∙ ap spells_run e)

-- what a run spells is the kind of a span
pub run_is_span : (text : List ℕ) (at end : ℕ) (kind : TokenKind) → IsRun text at end → reading (slice_range text at end) ≡ Ok kind → IsSpan text at end kind
run_is_span text at end Open run e = absurd (no_open _ e)
run_is_span text at end Close run e = absurd (no_close _ e)
run_is_span text at end Name run e = (run, e)
run_is_span text at end Variable run e = (run, e)
run_is_span text at end Keyword run e = (run, e)
run_is_span text at end Number run e = (run, e)
run_is_span text at end Mark run e = (run, e)
run_is_span text at end Time run e = (run, e)

-- ---- a token by its number

pub span_at : (text : List ℕ) (from to : ℕ) (ts : List Token) → AreSpans text from to ts → (i : ℕ) (t : Token) → slice_get ts i ≡ Some t → IsSpan text t.at t.end t.kind
span_at text from to [] h i t e = absurd cc
span_at text from to (u ∷ us) h zero t e = let same : u ≡ t = cc in subst (λ (v : Token). IsSpan text v.at v.end v.kind) same h.2
span_at text from to (u ∷ us) h (suc i) t e = span_at text u.end to us h.3 i t e

pub span_open : (text : List ℕ) (at end : ℕ) (kind : TokenKind) → IsSpan text at end kind → kind ≡ Open → (opens_at text at ≡ true) × (end ≡ suc at)
span_open text at end kind s e = let s' : IsSpan text at end Open = subst (IsSpan text at end) e s in s'

pub span_close : (text : List ℕ) (at end : ℕ) (kind : TokenKind) → IsSpan text at end kind → kind ≡ Close → (closes_at text at ≡ true) × (end ≡ suc at)
span_close text at end kind s e = let s' : IsSpan text at end Close = subst (IsSpan text at end) e s in s'
