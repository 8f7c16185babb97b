-- The words of an ordering's line that are met token by token are those that the tokens are made of.
use Rattle.std.proofs.Common.{◌≡◌, refl, sym, ap, subst, ◌∙◌, ℕ, Bool, true, false, List, [], ◌∷◌, ◌++◌, Option, Some, None}
use Rattle.std.specs.Prelude.{IsTrue, codes, if◌then◌else◌}
use Rattle.std.specs.List.{list_all}
use Rattle.std.specs.Option.{option_and_then, unwrap_or}
use Rattle.std.specs.Str.{bytes_eq}
use Rattle.std.specs.Cmp.Lexicographic.{same_text}
use Rattle.std.proofs.lemmas.Bool.{and_parts, and_from}
use Rattle.basics.specs.Texts.{ReadsExactly}
use Rattle.plan_files.specs.declared.order_words.Doing.{Doing}
use Rattle.plan_files.specs.declared.order_words.Doing.TheVariants.{Start, End, Do}
use Rattle.plan_files.specs.Tokens.{is_run, tokens}
use Rattle.plan_files.specs.WordsSeen.{runs_in_front}
use Rattle.plan_files.specs.WordScan.{run_first, mark_first, behind_runs, at_end}
use Rattle.plan_files.specs.OrderWords.{OrderWords, Acts, Timed, Pair, doing_word, order_tokens, free_words, Orders}
use Rattle.plan_files.specs.OrderScan.{acts_with, acts_in, timed_in, pair_with, pair_in, behind_word, order_in}
use Rattle.plan_files.proofs.WordsIn.{Tokens, then_some, run_first-is, mark_first-is, runs-split, runs-all, at_end-is, runs-pass}

record Spelled (front : List ℕ) (ts : Tokens) (w : OrderWords) : Type 0 where
  runs : list_all is_run (free_words w) ≡ true
  spelled : front ∷ ts ≡ order_tokens w

acts-sound : (what : Doing) (ts : Tokens) (w : OrderWords) → acts_in what ts ≡ Some w → Spelled (doing_word what) ts w
acts-sound what ts w e =
    let a = then_some (option_and_then run_first (mark_first 40 ts)) (acts_with what) w e in
    let b = then_some (mark_first 40 ts) run_first a.0 a.1.0 in
    let c = then_some (mark_first 41 (behind_runs a.0.1)) (at_end (Acts what a.0.0 (runs_in_front a.0.1))) w a.1.1 in
    let last = at_end-is (Acts what a.0.0 (runs_in_front a.0.1)) w c.0 c.1.1 in
    let name = run_first-is b.0 a.0.0 a.0.1 b.1.1 in
    subst (Spelled (doing_word what) ts) last.1 (record {
      runs = and_from _ _ name.0 (runs-all a.0.1);
      spelled = ap (λ (us : Tokens). doing_word what ∷ us) (mark_first-is 40 ts b.0 b.1.0
          ∙ ap (λ (us : Tokens). (40 ∷ []) ∷ us) (name.1
          ∙ ap (λ (us : Tokens). a.0.0 ∷ us) (runs-split a.0.1
          ∙ ap (λ (us : Tokens). runs_in_front a.0.1 ++ us) (mark_first-is 41 (behind_runs a.0.1) c.0 c.1.0 ∙ ap (λ (us : Tokens). (41 ∷ []) ∷ us) last.0))));
    })

timed-sound : (ts : Tokens) (w : OrderWords) → timed_in ts ≡ Some w → Spelled (codes "timed") ts w
timed-sound ts w e =
    let a = then_some (run_first ts) (λ m. at_end (Timed m.0) m.1) w e in
    let last = at_end-is (Timed a.0.0) w a.0.1 a.1.1 in
    let moment = run_first-is ts a.0.0 a.0.1 a.1.0 in
    subst (Spelled (codes "timed") ts) last.1 (record {
      runs = and_from _ _ moment.0 refl;
      spelled = ap (λ (us : Tokens). codes "timed" ∷ us) (moment.1 ∙ ap (λ (us : Tokens). a.0.0 ∷ us) last.0);
    })

pair-sound : (ts : Tokens) (w : OrderWords) → pair_in ts ≡ Some w → Spelled (codes "pair") ts w
pair-sound ts w e =
    let a = then_some (run_first ts) pair_with w e in
    let b = then_some (run_first a.0.1) (λ s. at_end (Pair a.0.0 s.0) s.1) w a.1.1 in
    let last = at_end-is (Pair a.0.0 b.0.0) w b.0.1 b.1.1 in
    let first = run_first-is ts a.0.0 a.0.1 a.1.0 in
    let second = run_first-is a.0.1 b.0.0 b.0.1 b.1.0 in
    subst (Spelled (codes "pair") ts) last.1 (record {
      runs = and_from _ _ first.0 (and_from _ _ second.0 refl);
      spelled = ap (λ (us : Tokens). codes "pair" ∷ us) (first.1 ∙ ap (λ (us : Tokens). a.0.0 ∷ us) (second.1 ∙ ap (λ (us : Tokens). b.0.0 ∷ us) last.0));
    })

module _ (word : List ℕ) (ts : Tokens) (w : OrderWords) where
  as_word : (text : List ℕ) → bytes_eq word text ≡ true → Spelled text ts w → Spelled word ts w
  as_word text e s = subst (λ (t : List ℕ). Spelled t ts w) (sym (same_text word text (sym e))) s

  behind-sound : behind_word word ts ≡ Some w → Spelled word ts w
  behind-sound = start (bytes_eq word (codes "start")) refl
    where
      pairs : (b : Bool) → bytes_eq word (codes "pair") ≡ b → (if b then pair_in ts else None) ≡ Some w → Spelled word ts w
      pairs true h e = as_word (codes "pair") h (pair-sound ts w e)
      pairs false h e = cc

      timeds : (b : Bool) → bytes_eq word (codes "timed") ≡ b → (if b then timed_in ts else (if bytes_eq word (codes "pair") then pair_in ts else None)) ≡ Some w → Spelled word ts w
      timeds true h e = as_word (codes "timed") h (timed-sound ts w e)
      timeds false h e = pairs (bytes_eq word (codes "pair")) refl e

      dos : (b : Bool) → bytes_eq word (codes "do") ≡ b → (if b then acts_in Do ts else (if bytes_eq word (codes "timed") then timed_in ts else (if bytes_eq word (codes "pair") then pair_in ts else None))) ≡ Some w → Spelled word ts w
      dos true h e = as_word (codes "do") h (acts-sound Do ts w e)
      dos false h e = timeds (bytes_eq word (codes "timed")) refl e

      ends : (b : Bool) → bytes_eq word (codes "end") ≡ b → (if b then acts_in End ts else (if bytes_eq word (codes "do") then acts_in Do ts else (if bytes_eq word (codes "timed") then timed_in ts else (if bytes_eq word (codes "pair") then pair_in ts else None)))) ≡ Some w → Spelled word ts w
      ends true h e = as_word (codes "end") h (acts-sound End ts w e)
      ends false h e = dos (bytes_eq word (codes "do")) refl e

      start : (b : Bool) → bytes_eq word (codes "start") ≡ b → (if b then acts_in Start ts else (if bytes_eq word (codes "end") then acts_in End ts else (if bytes_eq word (codes "do") then acts_in Do ts else (if bytes_eq word (codes "timed") then timed_in ts else (if bytes_eq word (codes "pair") then pair_in ts else None))))) ≡ Some w → Spelled word ts w
      start true h e = as_word (codes "start") h (acts-sound Start ts w e)
      start false h e = ends (bytes_eq word (codes "end")) refl e

order-sound : (ts : Tokens) (w : OrderWords) → order_in ts ≡ Some w → IsTrue (list_all is_run (free_words w)) × (ts ≡ order_tokens w)
order-sound ts w e =
    let a = then_some (run_first ts) (λ f. behind_word f.0 f.1) w e in
    let first = run_first-is ts a.0.0 a.0.1 a.1.0 in
    let rest = behind-sound a.0.0 a.0.1 w a.1.1 in
    (rest.runs, first.1 ∙ rest.spelled)

-- ---- and the other way round
acts-found : (what : Doing) (name : List ℕ) (args : Tokens) → list_all is_run (name ∷ args) ≡ true → acts_in what ((40 ∷ []) ∷ name ∷ args ++ (41 ∷ []) ∷ []) ≡ Some (Acts what name args)
acts-found what name args e =
    let p : (is_run name ≡ true) × (list_all is_run args ≡ true) = and_parts (is_run name) (list_all is_run args) e in
    let passed = runs-pass args [] p.1 in
    rw (p.0, passed.0, passed.1) refl

order-found : (w : OrderWords) → IsTrue (list_all is_run (free_words w)) → order_in (order_tokens w) ≡ Some w
order-found (Acts Start name args) e = acts-found Start name args e
order-found (Acts End name args) e = acts-found End name args e
order-found (Acts Do name args) e = acts-found Do name args e
order-found (Timed moment) e = let p : is_run moment ≡ true = (and_parts (is_run moment) true e).0 in rw p refl
order-found (Pair first second) e =
    let p : (is_run first ≡ true) × (list_all is_run (second ∷ []) ≡ true) = and_parts (is_run first) (list_all is_run (second ∷ [])) e in
    let q : is_run second ≡ true = (and_parts (is_run second) true p.1).0 in
    rw (p.0, q) refl

pub orders-found : (line : List ℕ) (w : OrderWords) → Orders line w → order_in (tokens line) ≡ Some w
orders-found line w s = ap order_in s.spelled ∙ order-found w s.runs

pub orders-one : (line : List ℕ) (v w : OrderWords) → Orders line v → Orders line w → v ≡ w
orders-one line v w s t = let same : Some v ≡ Some w = sym (orders-found line v s) ∙ orders-found line w t in ap (λ (o : Option OrderWords). unwrap_or o v) same

pub reads-orders : (line : List ℕ) (o : Option OrderWords) → o ≡ order_in (tokens line) → ReadsExactly o (Orders line)
reads-orders line None e = λ w s. let f : None ≡ Some w = e ∙ orders-found line w s in cc
reads-orders line (Some w) e = let p = order-sound (tokens line) w (sym e) in record { runs = p.0; spelled = p.1 }
