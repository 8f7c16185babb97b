-- The words that are met token by token are those that the tokens are made of.
use Rattle.std.proofs.Common.{◌≡◌, refl, sym, ap, subst, ◌∙◌, ℕ, Bool, true, false, cond, List, [], ◌∷◌, ◌++◌, nat_eq, Option, Some, None, arith}
use Rattle.std.specs.Prelude.{option_to_list, IsTrue}
use Rattle.std.specs.List.{list_all}
use Rattle.std.specs.Option.{option_map, option_and_then, unwrap_or}
use Rattle.std.proofs.lemmas.Bool.{and_parts, and_from}
use Rattle.std.proofs.lemmas.Bool.Decides.{nat_tests}
use Rattle.basics.specs.Texts.{ReadsExactly}
use Rattle.basics.proofs.Lists.{all_append, all_left, all_right}
use Rattle.plan_files.specs.Tokens.{is_run, tokens}
use Rattle.plan_files.specs.PlanWords.{PlanWords, bracket_of, tokens_of, words, Says}
use Rattle.plan_files.specs.WordsSeen.{runs_in_front}
use Rattle.plan_files.specs.WordScan.{run_first, mark_first, behind_runs, at_end, bracket_at, bracket_in, with_name, with_start, words_in}

abbrev pub Tokens : Type 0
Tokens = List (List ℕ)

-- where a step after a step gives something, both do
pub then_some : {A B : Type 0} (o : Option A) (f : A → Option B) (y : B) → option_and_then f o ≡ Some y → (x : A) × ((o ≡ Some x) × (f x ≡ Some y))
then_some None f y e = cc
then_some (Some x) f y e = (x, (refl, e))

pub map_some : {A B : Type 0} (o : Option A) (f : A → B) (y : B) → option_map f o ≡ Some y → (x : A) × ((o ≡ Some x) × (f x ≡ y))
map_some None f y e = cc
map_some (Some x) f y e = (x, (refl, cc))

abbrev pair : List ℕ → Tokens → List ℕ × Tokens
pair a b = (a, b)

some_pair : (a c : List ℕ) (b d : Tokens) → Some (pair a b) ≡ Some (pair c d) → (a ≡ c) × (b ≡ d)
some_pair a c b d e =
    let same = ap (λ (o : Option (List ℕ × Tokens)). unwrap_or o (pair a b)) e in
    (ap (λ (p : List ℕ × Tokens). p.0) same, ap (λ (p : List ℕ × Tokens). p.1) same)

pub run_first-is : (ts : Tokens) (t : List ℕ) (rest : Tokens) → run_first ts ≡ Some (t, rest) → (is_run t ≡ true) × (ts ≡ t ∷ rest)
run_first-is [] t rest e = cc
run_first-is (u ∷ us) t rest e = go (is_run u) refl e
  where
    go : (x : Bool) → is_run u ≡ x → cond x (Some (pair u us)) None ≡ Some (pair t rest) → (is_run t ≡ true) × (u ∷ us ≡ t ∷ rest)
    go true f h = let p = some_pair u t us rest h in (ap is_run (sym p.0) ∙ f, ap (λ v. v ∷ us) p.0 ∙ ap (λ vs. t ∷ vs) p.1)
    go false f h = cc

pub mark_first-is : (mark : ℕ) (ts rest : Tokens) → mark_first mark ts ≡ Some rest → ts ≡ (mark ∷ []) ∷ rest
mark_first-is mark [] rest e = cc
mark_first-is mark ([] ∷ ts) rest e = cc
mark_first-is mark ((b ∷ []) ∷ ts) rest e = go (nat_eq b mark) refl e
  where
    go : (x : Bool) → nat_eq b mark ≡ x → cond x (Some ts) None ≡ Some rest → (b ∷ []) ∷ ts ≡ (mark ∷ []) ∷ rest
    go true f h = let same : b ≡ mark = grind (arith, nat_tests) in ap (λ (c : ℕ). (c ∷ []) ∷ ts) same ∙ ap (λ (us : Tokens). (mark ∷ []) ∷ us) (ap (λ (o : Option Tokens). unwrap_or o ts) h)
    go false f h = cc
mark_first-is mark ((b ∷ c ∷ bs) ∷ ts) rest e = cc

pub runs-split : (ts : Tokens) → ts ≡ runs_in_front ts ++ behind_runs ts
runs-split [] = refl
runs-split (t ∷ ts) = go (is_run t) (runs-split ts)
  where
    go : (x : Bool) → ts ≡ runs_in_front ts ++ behind_runs ts → t ∷ ts ≡ cond x (t ∷ runs_in_front ts) [] ++ cond x (behind_runs ts) (t ∷ ts)
    go true more = ap (λ (us : Tokens). t ∷ us) more
    go false more = refl

pub runs-all : (ts : Tokens) → list_all is_run (runs_in_front ts) ≡ true
runs-all [] = refl
runs-all (t ∷ ts) = go (is_run t) refl (runs-all ts)
  where
    go : (x : Bool) → is_run t ≡ x → list_all is_run (runs_in_front ts) ≡ true → list_all is_run (cond x (t ∷ runs_in_front ts) []) ≡ true
    go true e more = and_from _ _ e more
    go false e more = refl

pub at_end-is : {A : Type 0} (x y : A) (ts : Tokens) → at_end x ts ≡ Some y → (ts ≡ []) × (x ≡ y)
at_end-is x y [] e = (refl, ap (λ o. unwrap_or o x) e)
at_end-is x y (t ∷ ts) e = cc

record InBracket (ts : Tokens) (d : Option (List ℕ)) : Type 0 where
  spelled : ts ≡ bracket_of d
  runs : list_all is_run (option_to_list d) ≡ true

bracket-is : (ts : Tokens) (d : Option (List ℕ)) → bracket_in ts ≡ Some d → InBracket ts d
bracket-is ts d e = go (mark_first 91 ts) refl e
  where
    go : (o : Option Tokens) → mark_first 91 ts ≡ o → bracket_at o ts ≡ Some d → InBracket ts d
    go None m h = let p = at_end-is None d ts h in subst (InBracket ts) p.1 (record { spelled = p.0; runs = refl })
    go (Some rest) m h =
        let first = then_some (run_first rest) (λ f. option_and_then (at_end (Some f.0)) (mark_first 93 f.1)) d h in
        let second = then_some (mark_first 93 first.0.1) (at_end (Some first.0.0)) d first.1.1 in
        let last = at_end-is (Some first.0.0) d second.0 second.1.1 in
        let run = run_first-is rest first.0.0 first.0.1 first.1.0 in
        subst (InBracket ts) last.1 (record {
          spelled = mark_first-is 91 ts rest m ∙ ap (λ (us : Tokens). (91 ∷ []) ∷ us) (run.1 ∙ ap (λ (us : Tokens). first.0.0 ∷ us) (mark_first-is 93 first.0.1 second.0 second.1.0 ∙ ap (λ (us : Tokens). (93 ∷ []) ∷ us) last.0));
          runs = and_from _ _ run.0 refl;
        })

pub words-sound : (ts : Tokens) (w : PlanWords) → words_in ts ≡ Some w → IsTrue (list_all is_run (words w)) × (ts ≡ tokens_of w)
unfolding words_in
words-sound ts w e =
    let a = then_some (run_first ts) with_start w e in
    let b = then_some (option_and_then run_first (option_and_then (mark_first 40) (mark_first 58 a.0.1))) (with_name a.0.0) w a.1.1 in
    let c = then_some (option_and_then (mark_first 40) (mark_first 58 a.0.1)) run_first b.0 b.1.0 in
    let d = then_some (mark_first 58 a.0.1) (mark_first 40) c.0 c.1.0 in
    let f = map_some (option_and_then bracket_in (mark_first 41 (behind_runs b.0.1))) (λ d. record { start = a.0.0; name = b.0.0; args = runs_in_front b.0.1; duration = d }) w b.1.1 in
    let g = then_some (mark_first 41 (behind_runs b.0.1)) bracket_in f.0 f.1.0 in
    let start = run_first-is ts a.0.0 a.0.1 a.1.0 in
    let name = run_first-is c.0 b.0.0 b.0.1 c.1.1 in
    let bracket = bracket-is g.0 f.0 g.1.1 in
    let args = runs-all b.0.1 in
    let spelled : ts ≡ tokens_of (record { start = a.0.0; name = b.0.0; args = runs_in_front b.0.1; duration = f.0 }) =
    start.1 ∙ ap (λ (us : Tokens). a.0.0 ∷ us) (mark_first-is 58 a.0.1 d.0 d.1.0
    ∙ ap (λ (us : Tokens). (58 ∷ []) ∷ us) (mark_first-is 40 d.0 c.0 d.1.1
    ∙ ap (λ (us : Tokens). (40 ∷ []) ∷ us) (name.1
    ∙ ap (λ (us : Tokens). b.0.0 ∷ us) (runs-split b.0.1
    ∙ ap (λ (us : Tokens). runs_in_front b.0.1 ++ us) (mark_first-is 41 (behind_runs b.0.1) g.0 g.1.0 ∙ ap (λ (us : Tokens). (41 ∷ []) ∷ us) bracket.spelled))))) in
    let runs : IsTrue (list_all is_run (words (record { start = a.0.0; name = b.0.0; args = runs_in_front b.0.1; duration = f.0 }))) =
    and_from _ _ start.0 (and_from _ _ name.0 (all_append is_run (runs_in_front b.0.1) (option_to_list f.0) args bracket.runs)) in
    subst (λ (v : PlanWords). IsTrue (list_all is_run (words v)) × (ts ≡ tokens_of v)) f.1.1 (runs, spelled)

-- ---- and the other way round
pub runs-pass : (args rest : Tokens) → list_all is_run args ≡ true → (runs_in_front (args ++ (41 ∷ []) ∷ rest) ≡ args) × (behind_runs (args ++ (41 ∷ []) ∷ rest) ≡ (41 ∷ []) ∷ rest)
runs-pass [] rest e = (refl, refl)
runs-pass (t ∷ ts) rest e =
    let p : (is_run t ≡ true) × (list_all is_run ts ≡ true) = and_parts (is_run t) (list_all is_run ts) e in
    let more = runs-pass ts rest p.1 in
    rw p.0 (ap (λ (us : Tokens). t ∷ us) more.0, more.1)

bracket-found : (d : Option (List ℕ)) → list_all is_run (option_to_list d) ≡ true → bracket_in (bracket_of d) ≡ Some d
bracket-found None e = refl
bracket-found (Some t) e =
    let p : is_run t ≡ true = (and_parts (is_run t) true e).0 in
    rw p refl

pub words-found : (w : PlanWords) → IsTrue (list_all is_run (words w)) → words_in (tokens_of w) ≡ Some w
unfolding words_in
words-found w e =
    let start : (is_run w.start ≡ true) × (list_all is_run (w.name ∷ w.args ++ option_to_list w.duration) ≡ true) = and_parts _ _ e in
    let name : (is_run w.name ≡ true) × (list_all is_run (w.args ++ option_to_list w.duration) ≡ true) = and_parts _ _ start.1 in
    let args = all_left is_run w.args (option_to_list w.duration) name.1 in
    let duration = all_right is_run w.args (option_to_list w.duration) name.1 in
    let passed = runs-pass w.args (bracket_of w.duration) args in
    rw (start.0, name.0, passed.0, passed.1, bracket-found w.duration duration) refl

pub says-found : (line : List ℕ) (w : PlanWords) → Says line w → words_in (tokens line) ≡ Some w
says-found line w s = ap words_in s.spelled ∙ words-found w s.runs

pub says-sound : (line : List ℕ) (w : PlanWords) → words_in (tokens line) ≡ Some w → Says line w
says-sound line w e = let p = words-sound (tokens line) w e in record { runs = p.0; spelled = p.1 }

pub says-one : (line : List ℕ) (v w : PlanWords) → Says line v → Says line w → v ≡ w
says-one line v w s t = let same : Some v ≡ Some w = sym (says-found line v s) ∙ says-found line w t in ap (λ (o : Option PlanWords). unwrap_or o v) same

-- what the words of the tokens are is read exactly
pub reads-words : (line : List ℕ) (o : Option PlanWords) → o ≡ words_in (tokens line) → ReadsExactly o (Says line)
reads-words line None e = λ w s. let f : None ≡ Some w = e ∙ says-found line w s in cc
reads-words line (Some w) e = says-sound line w (sym e)
