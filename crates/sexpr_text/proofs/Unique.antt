-- A text has one list of tokens or one first fault, and not both.
use Rattle.std.proofs.Common.{◌≡◌, ℕ, zero, suc, ◌+◌, ◌<◌, ◌≤◌, ◌⊎◌, true, false, List, [], ◌∷◌, length, get_or, slice_get, slice_range, Some, Result, Ok, Err, IfOk, IfErr, MatchResult, refl, sym, ap, ◌∙◌, subst, inl, inr, arith}
use Rattle.std.proofs.lemmas.Bool.{true≢false, cases_lt}
use Rattle.sexpr_text.specs.declared.token.Token.{Token}
use Rattle.sexpr_text.specs.declared.token.TokenKind.{TokenKind}
use Rattle.sexpr_text.specs.declared.token.TokenKind.TheVariants.{Open, Close, Name, Variable, Keyword, Number, Mark, Time}
use Rattle.sexpr_text.specs.declared.fault.LexFault.{LexFault}
use Rattle.sexpr_text.specs.declared.fault.LexFault.TheVariants as fault
use Rattle.sexpr_text.specs.declared.run.RunFault.{RunFault}
use Rattle.sexpr_text.specs.declared.run.RunFault.TheVariants as of_run
use Rattle.sexpr_text.specs.Comments.{opens_at, closes_at, in_run}
use Rattle.sexpr_text.specs.Runs.{IsRun, reading}
use Rattle.sexpr_text.specs.Lists.{opened, closed, Matches, IsDeep}
use Rattle.sexpr_text.specs.Token.{AreSpans, SameSpans, StandsAt, IsMate, AreTokens}
use Rattle.sexpr_text.specs.LexFault.{HasRunFault, IsFault, IsFirstFault, MayRefuse, place_of, run_fault}
use Rattle.sexpr_text.proofs.Faults.{place_of-run_fault}
use Rattle.sexpr_text.specs.Forms.{Lexed, LieWithin, AreOrdered, MatesLeadBack, MatesAreBehind}
use Rattle.sexpr_text.proofs.Places.{in_run_inside, code_inside, opens_code, closes_code, opens_no_closes, opens_no_run, closes_no_run}
use Rattle.sexpr_text.proofs.Heights.{up, down, level, step_at, step_open, step_close, same_first, same_last, closes_again, opened-zero, closed-zero}
use Rattle.sexpr_text.proofs.Spans.{open_span, close_span, run_span, span_of, span_at, spans_within, run_end, same_spans, run_is_read, open_is_token, close_is_token}
use Rattle.sexpr_text.proofs.Joining.{same_at, mate_same, get_from_read, get_below}

-- ---- tokens in order

spans_ordered : (text : List ℕ) (from to : ℕ) (ts : List Token) → AreSpans text from to ts → (i j : ℕ) (t u : Token) → slice_get ts i ≡ Some t → slice_get ts j ≡ Some u → i < j → t.end ≤ u.at
spans_ordered text from to [] h i j t u e f lt = absurd cc
spans_ordered text from to (x ∷ xs) h i zero t u e f lt = absurd (omega arith)
spans_ordered text from to (x ∷ xs) h zero (suc j) t u e f lt =
    let same : x ≡ t = cc in
    let within = spans_within text x.end to xs h.3 j u f in
    subst (λ (v : Token). v.end ≤ u.at) same within.0
spans_ordered text from to (x ∷ xs) h (suc i) (suc j) t u e f lt = spans_ordered text x.end to xs h.3 i j t u e f (omega arith)

number_before : (text : List ℕ) (to : ℕ) (ts : List Token) → AreSpans text 0 to ts → (i j : ℕ) (t u : Token) → slice_get ts i ≡ Some t → slice_get ts j ≡ Some u → t.at < u.at → i < j
number_before text to ts h i j t u e f lt =
    elim (cases_lt i j) [
      | inl before ↦ before
      | inr after ↦ elim (cases_lt j i) [
        | inl later ↦
            let order = spans_ordered text 0 to ts h j i u t f e later in
            let some = spans_within text 0 to ts h j u f in
            absurd (omega (arith, some.1))
        | inr le ↦
            let number : i ≡ j = omega arith in
            let e' : slice_get ts j ≡ Some t = subst (λ k. slice_get ts k ≡ Some t) number e in
            let one : t ≡ u = cc in
            absurd (omega (arith, ap (λ (v : Token). v.at) one))
      ]
    ]

same_number : (text : List ℕ) (to : ℕ) (ts : List Token) → AreSpans text 0 to ts → (i j : ℕ) (t u : Token) → slice_get ts i ≡ Some t → slice_get ts j ≡ Some u → t.at ≡ u.at → i ≡ j
same_number text to ts h i j t u e f at =
    elim (cases_lt i j) [
      | inl before ↦
          let order = spans_ordered text 0 to ts h i j t u e f before in
          let some = spans_within text 0 to ts h i t e in
          absurd (omega (arith, some.1))
      | inr after ↦ elim (cases_lt j i) [
        | inl later ↦
            let order = spans_ordered text 0 to ts h j i u t f e later in
            let some = spans_within text 0 to ts h j u f in
            absurd (omega (arith, some.1))
        | inr le ↦ omega arith
      ]
    ]

same_stand : (text : List ℕ) (to : ℕ) (ts : List Token) → AreSpans text 0 to ts → (i j place : ℕ) → StandsAt ts i place → StandsAt ts j place → i ≡ j
same_stand text to ts h i j place s t = same_number text to ts h i j s.0 t.0 s.1 t.1 (s.2 ∙ sym t.2)

-- ---- one list of tokens

-- two mates of one token
mate_once : (text : List ℕ) (to : ℕ) (ts : List Token) → AreSpans text 0 to ts → (i at : ℕ) (kind : TokenKind) (m n : ℕ) → IsMate text ts i at kind m → IsMate text ts i at kind n → m ≡ n
mate_once text to ts h i at Open m n a b =
    let place = same_last text at a.0 b.0 a.2 b.2 in
    same_stand text to ts h m n b.0 (subst (StandsAt ts m) place a.1) b.1
mate_once text to ts h i at Close m n a b =
    let place = same_first text a.0 b.0 at a.2 b.2 in
    same_stand text to ts h m n b.0 (subst (StandsAt ts m) place a.1) b.1
mate_once text to ts h i at Name m n a b = a ∙ sym b
mate_once text to ts h i at Variable m n a b = a ∙ sym b
mate_once text to ts h i at Keyword m n a b = a ∙ sym b
mate_once text to ts h i at Number m n a b = a ∙ sym b
mate_once text to ts h i at Mark m n a b = a ∙ sym b
mate_once text to ts h i at Time m n a b = a ∙ sym b

-- lists of the same spans and the same mates are one
same_lists_of : (ts us : List Token) → SameSpans ts us → ((i : ℕ) (t u : Token) → slice_get ts i ≡ Some t → slice_get us i ≡ Some u → t.mate ≡ u.mate) → ts ≡ us
same_lists_of [] [] h mates = refl
same_lists_of [] (u ∷ us) h mates = absurd h
same_lists_of (t ∷ ts) [] h mates = absurd h
same_lists_of (t ∷ ts) (u ∷ us) h mates =
    let mate : t.mate ≡ u.mate = mates 0 t u refl refl in
    let kind = h.0 in
    let at = h.1 in
    let end = h.2 in
    let head : t ≡ u = λ x. record { kind = kind x; at = at x; end = end x; mate = mate x } in
    let tail : ts ≡ us = same_lists_of ts us h.3 (λ i v w e f. mates (suc i) v w e f) in
    λ x. head x ∷ tail x

pub one_list : (text : List ℕ) (ts us : List Token) → AreTokens text ts → AreTokens text us → ts ≡ us
one_list text ts us a b =
    let same = same_spans text 0 (length text) ts us a.spans b.spans in
    same_lists_of ts us same (λ i t u e f.
    let v = same_at ts us same i t e in
    let v-is = v.1 in
    let one : v.0 ≡ u = cc in
    let kind : t.kind ≡ u.kind = v.2 ∙ ap (λ (w : Token). w.kind) one in
    let at : t.at ≡ u.at = v.3 ∙ ap (λ (w : Token). w.at) one in
    let here : IsMate text us i t.at t.kind t.mate = mate_same text ts us same i t.at t.kind t.mate (a.mates i t e) in
    let here' : IsMate text us i u.at u.kind t.mate = subst (λ k. IsMate text us i u.at k t.mate) kind (subst (λ p. IsMate text us i p t.kind t.mate) at here) in
    mate_once text (length text) us b.spans i u.at u.kind t.mate u.mate here' (b.mates i u f))

-- ---- no fault beside tokens

open_mate : (text : List ℕ) (ts : List Token) → (i at : ℕ) (kind : TokenKind) (m : ℕ) → kind ≡ Open → IsMate text ts i at kind m → (place : ℕ) × StandsAt ts m place × Matches text at place
open_mate text ts i at kind m e h = let h' : IsMate text ts i at Open m = subst (λ k. IsMate text ts i at k m) e h in h'

close_mate : (text : List ℕ) (ts : List Token) → (i at : ℕ) (kind : TokenKind) (m : ℕ) → kind ≡ Close → IsMate text ts i at kind m → (place : ℕ) × StandsAt ts m place × Matches text place at
close_mate text ts i at kind m e h = let h' : IsMate text ts i at Close m = subst (λ k. IsMate text ts i at k m) e h in h'

run_inside : (text : List ℕ) (at end : ℕ) → IsRun text at end → at < length text
run_inside text at end run = in_run_inside text at (run.each at (omega arith) run.some)

pub no_fault : (text : List ℕ) (ts : List Token) → AreTokens text ts → (wrong : LexFault) → IsFault text wrong → ⊥
no_fault text ts a (fault.Byte place) f = run_is_read text 0 (length text) ts a.spans place f.0 of_run.Unknown (omega arith) (run_inside text place f.0 f.1) f.1 f.2
no_fault text ts a (fault.LongName place) f = run_is_read text 0 (length text) ts a.spans place f.0 of_run.LongName (omega arith) (run_inside text place f.0 f.1) f.1 f.2
no_fault text ts a (fault.Number place) f = run_is_read text 0 (length text) ts a.spans place f.0 of_run.Malformed (omega arith) (run_inside text place f.0 f.1) f.1 f.2
no_fault text ts a (fault.Open place) f =
    let found = open_is_token text 0 (length text) ts a.spans place (omega arith) (code_inside text place (opens_code text place f.0)) f.0 in
    let m = open_mate text ts found.0 found.1.at found.1.kind found.1.mate found.4 (a.mates found.0 found.1 found.2) in
    f.1 m.0 (subst (λ p. Matches text p m.0) found.3 m.2)
no_fault text ts a (fault.Close place) f =
    let found = close_is_token text 0 (length text) ts a.spans place (omega arith) (code_inside text place (closes_code text place f.0)) f.0 in
    let m = close_mate text ts found.0 found.1.at found.1.kind found.1.mate found.4 (a.mates found.0 found.1 found.2) in
    f.1 m.0 (subst (λ p. Matches text m.0 p) found.3 m.2)
no_fault text ts a (fault.Deep place) f = a.shallow place f
no_fault text ts a fault.Memory f = f

-- ---- one first fault

-- looking back for the list that lies round a place
search_around : (text : List ℕ) (place i : ℕ) → closed text place < opened text place → i ≤ place → ((n : ℕ) → i ≤ n → n ≤ place → opened text place + closed text n ≤ opened text n + closed text place) →
    (first : ℕ) × (first < place) × (opens_at text first ≡ true) × (opened text first + closed text place + 1 ≡ opened text place + closed text first) × ((n : ℕ) → first < n → n ≤ place → opened text place + closed text n ≤ opened text n + closed text place)
search_around text place zero some inside above =
    let start = above 0 (omega arith) (omega arith) in absurd (omega (arith, opened-zero text, closed-zero text))
search_around text place (suc i) some inside above =
    let here = above (suc i) (omega arith) inside in
    elim (cases_lt (opened text i + closed text place) (opened text place + closed text i)) [
      | inr ge ↦ search_around text place i some (omega arith) (λ n low high. elim (cases_lt i n) [
        | inl lt ↦ above n lt high
        | inr le ↦ let e : n ≡ i = omega arith in rw e ge
      ])
      | inl below ↦ elim (step_at text i) [
        | up opens o c ↦ (i, inside, opens, omega arith, λ n low high. above n low high)
        | down _ o c ↦ absurd (omega arith)
        | level _ _ o c ↦ absurd (omega arith)
      ]
    ]

-- a list that is never closed and lies in another lies in one that is never closed either
outer_open : (text : List ℕ) (place : ℕ) → IsFault text (fault.Open place) → closed text place < opened text place → (first : ℕ) × (first < place) × IsFault text (fault.Open first)
outer_open text place f some =
    let a = search_around text place place some (omega arith) (λ n low high. let e : n ≡ place = omega arith in rw e (omega arith)) in
    let opening = step_open text a.0 a.2 in
    let here = step_open text place f.0 in (
      a.0,
      a.1,
      (
        a.2,
        λ last m.
            let closing = step_close text last m.closes in
            let even = m.balanced.even in
            let height = a.3 in
            elim (cases_lt last place) [
              | inl before ↦ let above = a.4 (suc last) (omega (arith, m.order)) before in omega arith
              | inr after ↦
                  let found = closes_again text place (suc last) f.0 (omega arith) (omega arith) in
                  f.1 found.0 found.2
            ],
      ),
    )

-- what a fault is
data Cause (text : List ℕ) (wrong : LexFault) : Type 0 where
  bad_run : (run : RunFault) (place : ℕ) → wrong ≡ run_fault run place → HasRunFault text place run → Cause text wrong
  unclosed : (place : ℕ) → wrong ≡ fault.Open place → IsFault text (fault.Open place) → Cause text wrong
  unopened : (place : ℕ) → wrong ≡ fault.Close place → IsFault text (fault.Close place) → Cause text wrong
  too_deep : (place : ℕ) → wrong ≡ fault.Deep place → IsDeep text place → Cause text wrong

cause_of : (text : List ℕ) (wrong : LexFault) → IsFault text wrong → Cause text wrong
cause_of text (fault.Byte place) f = bad_run of_run.Unknown place refl f
cause_of text (fault.LongName place) f = bad_run of_run.LongName place refl f
cause_of text (fault.Number place) f = bad_run of_run.Malformed place refl f
cause_of text (fault.Open place) f = unclosed place refl f
cause_of text (fault.Close place) f = unopened place refl f
cause_of text (fault.Deep place) f = too_deep place refl f
cause_of text fault.Memory f = absurd f

run_and_parenthesis : (text : List ℕ) (place : ℕ) (run : RunFault) → HasRunFault text place run → in_run text place ≡ false → ⊥
run_and_parenthesis text place run f no_run = true≢false (sym (f.1.each place (omega arith) f.1.some) ∙ no_run)

one_run : (text : List ℕ) (place : ℕ) (run other : RunFault) → HasRunFault text place run → HasRunFault text place other → run ≡ other
one_run text place run other f g =
    let ends = run_end text place f.0 g.0 f.1 g.1 in
    let f' : reading (slice_range text place g.0) ≡ Err run = subst (λ i. reading (slice_range text place i) ≡ Err run) ends f.2 in
    let g' = g.2 in
    cc

-- a list that lies in 64 others is not the first that is never closed
deep_and_open : (text : List ℕ) (wrong : LexFault) (place : ℕ) → place_of wrong ≡ place → IsFirstFault text wrong → IsFault text (fault.Open place) → IsDeep text place → ⊥
deep_and_open text wrong place here first f deep =
    let found = outer_open text place f (omega (arith, deep.deep)) in
    let le = first.least (fault.Open found.0) found.2 in
    omega (arith, found.1)

pub one_fault : (text : List ℕ) (wrong other : LexFault) → IsFirstFault text wrong → IsFirstFault text other → wrong ≡ other
one_fault text wrong other f g =
    let below = f.least other g.fault in
    let above = g.least wrong f.fault in
    let same : place_of wrong ≡ place_of other = omega arith in
    one_cause text wrong other f g same (cause_of text wrong f.fault) (cause_of text other g.fault)
  where
    one_cause : (text : List ℕ) (wrong other : LexFault) → IsFirstFault text wrong → IsFirstFault text other → place_of wrong ≡ place_of other → Cause text wrong → Cause text other → wrong ≡ other
    one_cause text wrong other f g same (bad_run run p e h) (bad_run run' q e' h') =
        let place : p ≡ q = sym (ap place_of e ∙ place_of-run_fault run p) ∙ same ∙ (ap place_of e' ∙ place_of-run_fault run' q) in
        let h'' : HasRunFault text q run = subst (λ i. HasRunFault text i run) place h in
        let kind = one_run text q run run' h'' h' in
        e ∙ (λ x. run_fault (kind x) (place x)) ∙ sym e'
    one_cause text wrong other f g same (bad_run run p e h) (unclosed q e' h') =
        let place : p ≡ q = sym (ap place_of e ∙ place_of-run_fault run p) ∙ same ∙ ap place_of e' in
        absurd (run_and_parenthesis text q run (subst (λ i. HasRunFault text i run) place h) (opens_no_run text q h'.0))
    one_cause text wrong other f g same (bad_run run p e h) (unopened q e' h') =
        let place : p ≡ q = sym (ap place_of e ∙ place_of-run_fault run p) ∙ same ∙ ap place_of e' in
        absurd (run_and_parenthesis text q run (subst (λ i. HasRunFault text i run) place h) (closes_no_run text q h'.0))
    one_cause text wrong other f g same (bad_run run p e h) (too_deep q e' h') =
        let place : p ≡ q = sym (ap place_of e ∙ place_of-run_fault run p) ∙ same ∙ ap place_of e' in
        absurd (run_and_parenthesis text q run (subst (λ i. HasRunFault text i run) place h) (opens_no_run text q h'.opens))
    one_cause text wrong other f g same (unclosed p e h) (bad_run run q e' h') =
        let place : q ≡ p = sym (ap place_of e' ∙ place_of-run_fault run q) ∙ sym same ∙ ap place_of e in
        absurd (run_and_parenthesis text p run (subst (λ i. HasRunFault text i run) place h') (opens_no_run text p h.0))
    one_cause text wrong other f g same (unclosed p e h) (unclosed q e' h') =
        let place : p ≡ q = sym (ap place_of e) ∙ same ∙ ap place_of e' in
        e ∙ ap fault.Open place ∙ sym e'
    one_cause text wrong other f g same (unclosed p e h) (unopened q e' h') =
        let place : p ≡ q = sym (ap place_of e) ∙ same ∙ ap place_of e' in
        absurd (opens_no_closes text q (subst (λ i. opens_at text i ≡ true) place h.0) h'.0)
    one_cause text wrong other f g same (unclosed p e h) (too_deep q e' h') =
        let place : q ≡ p = sym (ap place_of e') ∙ sym same ∙ ap place_of e in
        absurd (deep_and_open text wrong p (ap place_of e) f h (subst (IsDeep text) place h'))
    one_cause text wrong other f g same (unopened p e h) (bad_run run q e' h') =
        let place : q ≡ p = sym (ap place_of e' ∙ place_of-run_fault run q) ∙ sym same ∙ ap place_of e in
        absurd (run_and_parenthesis text p run (subst (λ i. HasRunFault text i run) place h') (closes_no_run text p h.0))
    one_cause text wrong other f g same (unopened p e h) (unclosed q e' h') =
        let place : p ≡ q = sym (ap place_of e) ∙ same ∙ ap place_of e' in
        absurd (opens_no_closes text q h'.0 (subst (λ i. closes_at text i ≡ true) place h.0))
    one_cause text wrong other f g same (unopened p e h) (unopened q e' h') =
        let place : p ≡ q = sym (ap place_of e) ∙ same ∙ ap place_of e' in
        e ∙ ap fault.Close place ∙ sym e'
    one_cause text wrong other f g same (unopened p e h) (too_deep q e' h') =
        let place : p ≡ q = sym (ap place_of e) ∙ same ∙ ap place_of e' in
        absurd (opens_no_closes text q h'.opens (subst (λ i. closes_at text i ≡ true) place h.0))
    one_cause text wrong other f g same (too_deep p e h) (bad_run run q e' h') =
        let place : q ≡ p = sym (ap place_of e' ∙ place_of-run_fault run q) ∙ sym same ∙ ap place_of e in
        absurd (run_and_parenthesis text p run (subst (λ i. HasRunFault text i run) place h') (opens_no_run text p h.opens))
    one_cause text wrong other f g same (too_deep p e h) (unclosed q e' h') =
        let place : p ≡ q = sym (ap place_of e) ∙ same ∙ ap place_of e' in
        absurd (deep_and_open text other q (ap place_of e') g h' (subst (IsDeep text) place h))
    one_cause text wrong other f g same (too_deep p e h) (unopened q e' h') =
        let place : p ≡ q = sym (ap place_of e) ∙ same ∙ ap place_of e' in
        absurd (opens_no_closes text q (subst (λ i. opens_at text i ≡ true) place h.opens) h'.0)
    one_cause text wrong other f g same (too_deep p e h) (too_deep q e' h') =
        let place : p ≡ q = sym (ap place_of e) ∙ same ∙ ap place_of e' in
        e ∙ ap fault.Deep place ∙ sym e'

-- ---- what callers get

get_read : (ts : List Token) (i : ℕ) (d t : Token) → slice_get ts i ≡ Some t → get_or ts i d ≡ t
get_read [] i d t e = absurd cc
get_read (u ∷ us) zero d t e = cc
get_read (u ∷ us) (suc i) d t e = get_read us i d t e

pub lie_within : (text : List ℕ) (ts : List Token) → AreTokens text ts → LieWithin text ts
lie_within text ts a i d lt =
    let within = spans_within text 0 (length text) ts a.spans i (get_or ts i d) (get_from_read ts i d lt) in
    (within.1, within.2)

pub are_ordered : (text : List ℕ) (ts : List Token) → AreTokens text ts → AreOrdered ts
are_ordered text ts a i j d lt inside =
    spans_ordered text 0 (length text) ts a.spans i j (get_or ts i d) (get_or ts j d) (get_from_read ts i d (omega arith)) (get_from_read ts j d inside) lt

-- the other parenthesis
pub record Partner (ts : List Token) (i m : ℕ) (kind : TokenKind) : Type 0 where
  pub token : Token
  pub get : slice_get ts m ≡ Some token
  pub kind_is : token.kind ≡ kind
  pub back : token.mate ≡ i

kind_opens : (text : List ℕ) (ts : List Token) → AreTokens text ts → (i : ℕ) (t : Token) → slice_get ts i ≡ Some t → opens_at text t.at ≡ true → t.kind ≡ Open
kind_opens text ts a i t e opens =
    elim (span_of text t.at t.end t.kind (span_at text 0 (length text) ts a.spans i t e)) [
      | open_span kind _ _ ↦ kind
      | close_span _ closes _ ↦ absurd (opens_no_closes text t.at opens closes)
      | run_span r _ ↦ absurd (true≢false (sym (r.each t.at (omega arith) r.some) ∙ opens_no_run text t.at opens))
    ]

kind_closes : (text : List ℕ) (ts : List Token) → AreTokens text ts → (i : ℕ) (t : Token) → slice_get ts i ≡ Some t → closes_at text t.at ≡ true → t.kind ≡ Close
kind_closes text ts a i t e closes =
    elim (span_of text t.at t.end t.kind (span_at text 0 (length text) ts a.spans i t e)) [
      | close_span kind _ _ ↦ kind
      | open_span _ opens _ ↦ absurd (opens_no_closes text t.at opens closes)
      | run_span r _ ↦ absurd (true≢false (sym (r.each t.at (omega arith) r.some) ∙ closes_no_run text t.at closes))
    ]

open_partner : (text : List ℕ) (ts : List Token) → AreTokens text ts → (i : ℕ) (t : Token) → slice_get ts i ≡ Some t → t.kind ≡ Open → Partner ts i t.mate Close × (i < t.mate)
open_partner text ts a i t e kind =
    let m = open_mate text ts i t.at t.kind t.mate kind (a.mates i t e) in
    let u = m.1.0 in
    let get = m.1.1 in
    let place : u.at ≡ m.0 = m.1.2 in
    let closes : closes_at text u.at ≡ true = subst (λ p. closes_at text p ≡ true) (sym place) m.2.closes in
    let kind' = kind_closes text ts a t.mate u get closes in
    let n = close_mate text ts t.mate u.at u.kind u.mate kind' (a.mates t.mate u get) in
    let n-match : Matches text n.0 m.0 = subst (Matches text n.0) place n.2 in
    let first : n.0 ≡ t.at = same_first text n.0 t.at m.0 n-match m.2 in
    let back : u.mate ≡ i = same_stand text (length text) ts a.spans u.mate i t.at (subst (StandsAt ts u.mate) first n.1) (t, e, refl) in
    (record { token = u; get = get; kind_is = kind'; back = back }, number_before text (length text) ts a.spans i t.mate t u e get (omega (arith, m.2.order)))

close_partner : (text : List ℕ) (ts : List Token) → AreTokens text ts → (i : ℕ) (t : Token) → slice_get ts i ≡ Some t → t.kind ≡ Close → Partner ts i t.mate Open
close_partner text ts a i t e kind =
    let m = close_mate text ts i t.at t.kind t.mate kind (a.mates i t e) in
    let u = m.1.0 in
    let get = m.1.1 in
    let place : u.at ≡ m.0 = m.1.2 in
    let opens : opens_at text u.at ≡ true = subst (λ p. opens_at text p ≡ true) (sym place) m.2.opens in
    let kind' = kind_opens text ts a t.mate u get opens in
    let n = open_mate text ts t.mate u.at u.kind u.mate kind' (a.mates t.mate u get) in
    let n-match : Matches text m.0 n.0 = subst (λ p. Matches text p n.0) place n.2 in
    let last : n.0 ≡ t.at = same_last text m.0 n.0 t.at n-match m.2 in
    let back : u.mate ≡ i = same_stand text (length text) ts a.spans u.mate i t.at (subst (StandsAt ts u.mate) last n.1) (t, e, refl) in
    record { token = u; get = get; kind_is = kind'; back = back }

own_back : (text : List ℕ) (ts : List Token) → AreTokens text ts → (i : ℕ) (t : Token) → slice_get ts i ≡ Some t → t.mate ≡ i → (u : Token) × (slice_get ts t.mate ≡ Some u) × (u.mate ≡ i)
own_back text ts a i t e own = (t, subst (λ m. slice_get ts m ≡ Some t) (sym own) e, own)

-- each mate is there, and leads back
mate_leads_back : (text : List ℕ) (ts : List Token) → AreTokens text ts → (i : ℕ) (t : Token) → slice_get ts i ≡ Some t → (kind : TokenKind) → t.kind ≡ kind → (u : Token) × (slice_get ts t.mate ≡ Some u) × (u.mate ≡ i)
mate_leads_back text ts a i t e Open kind = let p = (open_partner text ts a i t e kind).0 in (p.token, p.get, p.back)
mate_leads_back text ts a i t e Close kind = let p = close_partner text ts a i t e kind in (p.token, p.get, p.back)
mate_leads_back text ts a i t e Name kind = own_back text ts a i t e (subst (λ k. IsMate text ts i t.at k t.mate) kind (a.mates i t e))
mate_leads_back text ts a i t e Variable kind = own_back text ts a i t e (subst (λ k. IsMate text ts i t.at k t.mate) kind (a.mates i t e))
mate_leads_back text ts a i t e Keyword kind = own_back text ts a i t e (subst (λ k. IsMate text ts i t.at k t.mate) kind (a.mates i t e))
mate_leads_back text ts a i t e Number kind = own_back text ts a i t e (subst (λ k. IsMate text ts i t.at k t.mate) kind (a.mates i t e))
mate_leads_back text ts a i t e Mark kind = own_back text ts a i t e (subst (λ k. IsMate text ts i t.at k t.mate) kind (a.mates i t e))
mate_leads_back text ts a i t e Time kind = own_back text ts a i t e (subst (λ k. IsMate text ts i t.at k t.mate) kind (a.mates i t e))

pub mates_lead_back : (text : List ℕ) (ts : List Token) → AreTokens text ts → MatesLeadBack ts
mates_lead_back text ts a i d lt =
    let t = get_or ts i d in
    let m = mate_leads_back text ts a i t (get_from_read ts i d lt) t.kind refl in
    (get_below ts t.mate m.0 m.1, ap (λ (v : Token). v.mate) (get_read ts t.mate d m.0 m.1) ∙ m.2)

pub mates_are_behind : (text : List ℕ) (ts : List Token) → AreTokens text ts → MatesAreBehind ts
mates_are_behind text ts a i d lt kind =
    let t = get_or ts i d in
    let m = open_partner text ts a i t (get_from_read ts i d lt) kind in
    (m.1, ap (λ (v : Token). v.kind) (get_read ts t.mate d m.0.token m.0.get) ∙ m.0.kind_is)

-- ---- what a call may answer

may_refuse_first : (text : List ℕ) (wrong : LexFault) → MayRefuse text wrong → IsFirstFault text wrong ⊎ (wrong ≡ fault.Memory)
may_refuse_first text (fault.Byte place) h = inl h
may_refuse_first text (fault.Open place) h = inl h
may_refuse_first text (fault.Close place) h = inl h
may_refuse_first text (fault.Deep place) h = inl h
may_refuse_first text (fault.LongName place) h = inl h
may_refuse_first text (fault.Number place) h = inl h
may_refuse_first text fault.Memory h = inr refl

pub taken_from : (text : List ℕ) (r : Result Lexed LexFault) → IfOk r (λ f. AreTokens text f.tokens) → IfErr r (MayRefuse text) → (tokens : List Token) → AreTokens text tokens → MatchResult r (λ f. f.tokens ≡ tokens) (λ wrong. wrong ≡ fault.Memory)
taken_from text (Ok f) ok err tokens a = one_list text f.tokens tokens ok a
taken_from text (Err wrong) ok err tokens a =
    elim (may_refuse_first text wrong err) [
      | inl first ↦ absurd (no_fault text tokens a wrong first.fault)
      | inr memory ↦ memory
    ]

pub refused_from : (text : List ℕ) (r : Result Lexed LexFault) → IfOk r (λ f. AreTokens text f.tokens) → IfErr r (MayRefuse text) → (first : LexFault) → IsFirstFault text first → MatchResult r (λ _. ⊥) (λ wrong. (wrong ≡ first) ⊎ (wrong ≡ fault.Memory))
refused_from text (Ok f) ok err first a = no_fault text f.tokens ok first a.fault
refused_from text (Err wrong) ok err first a =
    elim (may_refuse_first text wrong err) [
      | inl other ↦ inl (one_fault text wrong first other a)
      | inr memory ↦ inr memory
    ]
