-- What a scan of a line finds next is its next token.
use Rattle.std.proofs.Common.{◌≡◌, refl, sym, ap, ◌∙◌, ℕ, suc, Bool, true, false, cond, not, ◌&&◌, List, [], ◌∷◌, length, nat_eq, nat_lt, Option, Some, None, arith, Bor}
use Rattle.std.specs.List.{list_all}
use Rattle.std.specs.Option.{option_map}
use Rattle.std.proofs.lemmas.Bool.{and_parts, and_from}
use Rattle.std.proofs.lemmas.Bool.Decides.{nat_tests}
use Rattle.basics.specs.Texts.{is_blank}
use Rattle.plan_files.specs.Tokens.{is_mark, is_run_byte, is_run, begins_run, with_byte, tokens}
use Rattle.plan_files.specs.LineScan.{skip_blanks, run_in_front, skip_run, behind, behind_mark, some_run, next_run}
use Rattle.plan_files.specs.WordScan.{run_first, behind_token, mark_first, is_none_left}

-- ---- one byte
tokens-blank : (b : ℕ) (bs : List ℕ) → is_blank b ≡ true → tokens (b ∷ bs) ≡ tokens bs
unfolding tokens
tokens-blank b bs e = rw e refl

tokens-mark : (b : ℕ) (bs : List ℕ) → is_blank b ≡ false → is_mark b ≡ true → tokens (b ∷ bs) ≡ (b ∷ []) ∷ tokens bs
unfolding tokens
tokens-mark b bs e f = rw (e, f) refl

run_parts : (b : ℕ) → is_run_byte b ≡ true → (is_blank b ≡ false) × (is_mark b ≡ false)
run_parts b = go (is_blank b) (is_mark b)
  where
    go : (x y : Bool) → (not x && not y) ≡ true → (x ≡ false) × (y ≡ false)
    go true y e = absurd (cc)
    go false true e = absurd (cc)
    go false false e = (refl, refl)

tokens-run : (b : ℕ) (bs : List ℕ) → is_run_byte b ≡ true → tokens (b ∷ bs) ≡ with_byte b (begins_run bs) (tokens bs)
unfolding tokens
tokens-run b bs e = let p = run_parts b e in rw (p.0, p.1) refl

apart : (b : ℕ) (ts : List (List ℕ)) → with_byte b false ts ≡ (b ∷ []) ∷ ts
apart b [] = refl
apart b (t ∷ ts) = refl

-- a run is one token
tokens-run_in_front : (b : ℕ) (bs : List ℕ) → is_run_byte b ≡ true → tokens (b ∷ bs) ≡ (b ∷ run_in_front bs) ∷ tokens (skip_run bs)
unfolding tokens
tokens-run_in_front b [] e = tokens-run b [] e
tokens-run_in_front b (c ∷ cs) e = tokens-run b (c ∷ cs) e ∙ go (is_run_byte c) refl (λ h. tokens-run_in_front c cs h)
  where
    go : (x : Bool) → is_run_byte c ≡ x → (is_run_byte c ≡ true → tokens (c ∷ cs) ≡ (c ∷ run_in_front cs) ∷ tokens (skip_run cs))
        → with_byte b x (tokens (c ∷ cs)) ≡ (b ∷ cond x (c ∷ run_in_front cs) []) ∷ tokens (cond x (skip_run cs) (c ∷ cs))
    go true h joined = ap (with_byte b true) (joined h)
    go false h joined = apart b (tokens (c ∷ cs))

-- ---- blanks
tokens-skip_blanks : (line : List ℕ) → tokens line ≡ tokens (skip_blanks line)
tokens-skip_blanks [] = refl
tokens-skip_blanks (b ∷ bs) = go (is_blank b) refl (tokens-skip_blanks bs)
  where
    go : (x : Bool) → is_blank b ≡ x → tokens bs ≡ tokens (skip_blanks bs) → tokens (b ∷ bs) ≡ tokens (cond x (skip_blanks bs) (b ∷ bs))
    go true e more = tokens-blank b bs e ∙ more
    go false e more = refl

begins : List ℕ → Bool
begins [] = false
begins (b ∷ bs) = is_blank b

skip_blanks-ends : (line : List ℕ) → begins (skip_blanks line) ≡ false
unfolding begins
skip_blanks-ends [] = refl
skip_blanks-ends (b ∷ bs) = go (is_blank b) refl (skip_blanks-ends bs)
  where
    go : (x : Bool) → is_blank b ≡ x → begins (skip_blanks bs) ≡ false → begins (cond x (skip_blanks bs) (b ∷ bs)) ≡ false
    go true e more = more
    go false e more = e

-- ---- a byte that is no blank begins a token
not_run : (b : ℕ) → is_blank b ≡ false → is_run_byte b ≡ false → is_mark b ≡ true
not_run b = go (is_blank b) (is_mark b)
  where
    go : (x y : Bool) → x ≡ false → (not x && not y) ≡ false → y ≡ true
    go true y e f = absurd (cc)
    go false true e f = refl
    go false false e f = absurd (cc)

one_run : (b : ℕ) → is_run (b ∷ []) ≡ is_run_byte b
one_run b = go (is_run_byte b)
  where
    go : (x : Bool) → (x && true) ≡ x
    go true = refl
    go false = refl

pub run_all : (bs : List ℕ) → list_all is_run_byte (run_in_front bs) ≡ true
run_all [] = refl
run_all (c ∷ cs) = go (is_run_byte c) refl (run_all cs)
  where
    go : (x : Bool) → is_run_byte c ≡ x → list_all is_run_byte (run_in_front cs) ≡ true → list_all is_run_byte (cond x (c ∷ run_in_front cs) []) ≡ true
    go true h more = and_from _ _ h more
    go false h more = refl

some_length : (n : ℕ) → nat_lt 0 (suc n) ≡ true
some_length n = grind (arith, nat_tests)

all_run : (b : ℕ) (bs : List ℕ) → is_run_byte b ≡ true → is_run (b ∷ run_in_front bs) ≡ true
all_run b bs e = and_from _ _ (some_length (length (run_in_front bs))) (and_from _ _ e (run_all bs))

abbrev Found : Type 0
Found = Option (List ℕ × List (List ℕ))

abbrev found : List ℕ → List (List ℕ) → Found
found a b = Some (a, b)

abbrev pub seen : List ℕ × List ℕ → List ℕ × List (List ℕ)
seen f = (f.0, tokens f.1)

next_run-at : (line : List ℕ) → begins line ≡ false → option_map seen (some_run (run_in_front line) (skip_run line)) ≡ run_first (tokens line)
unfolding begins tokens
next_run-at [] e = refl
next_run-at (b ∷ bs) e = go (is_run_byte b) refl
  where
    mark_only : (x : Bool) → x ≡ false → None ≡ cond x (found (b ∷ []) (tokens bs)) None
    mark_only true f = absurd (cc)
    mark_only false f = refl

    runs : (x : Bool) → x ≡ true → found (b ∷ run_in_front bs) (tokens (skip_run bs)) ≡ cond x (found (b ∷ run_in_front bs) (tokens (skip_run bs))) None
    runs true f = refl
    runs false f = absurd (cc)

    go : (x : Bool) → is_run_byte b ≡ x → option_map seen (some_run (cond x (b ∷ run_in_front bs) []) (cond x (skip_run bs) (b ∷ bs))) ≡ run_first (tokens (b ∷ bs))
    go true f = runs (is_run (b ∷ run_in_front bs)) (all_run b bs f) ∙ ap run_first (sym (tokens-run_in_front b bs f))
    go false f = mark_only (is_run (b ∷ [])) (one_run b ∙ f) ∙ ap run_first (sym (tokens-mark b bs e (not_run b e f)))

pub next_run-is : (line : List ℕ) → option_map seen (next_run line) ≡ run_first (tokens line)
next_run-is line = next_run-at (skip_blanks line) (skip_blanks-ends line) ∙ ap run_first (sym (tokens-skip_blanks line))

behind-at : (mark : ℕ) (line : List ℕ) → is_mark mark ≡ true → begins line ≡ false → option_map tokens (behind mark line) ≡ mark_first mark (tokens line)
unfolding begins tokens
behind-at mark [] m e = refl
behind-at mark (b ∷ bs) m e = go (is_run_byte b) refl
  where
    at_mark : (x : Bool) → option_map tokens (cond x (Some bs) None) ≡ cond x (Some (tokens bs)) None
    at_mark true = refl
    at_mark false = refl

    other : is_run_byte b ≡ true → nat_eq b mark ≡ false
    other f = differ (nat_eq b mark) refl
      where
        differ : (x : Bool) → nat_eq b mark ≡ x → x ≡ false
        differ true h = let same : b ≡ mark = grind (arith, nat_tests) in let n = (run_parts b f).1 in let t = ap is_mark same ∙ m in absurd (cc)
        differ false h = refl

    no_mark : (rs : List ℕ) (ts : List (List ℕ)) → is_run_byte b ≡ true → None ≡ behind_token mark (b ∷ rs) ts
    no_mark [] ts f = rw (other f) refl
    no_mark (r ∷ rs) ts f = refl

    go : (x : Bool) → is_run_byte b ≡ x → option_map tokens (cond (nat_eq b mark) (Some bs) None) ≡ mark_first mark (tokens (b ∷ bs))
    go true f = rw (other f) (no_mark (run_in_front bs) (tokens (skip_run bs)) f) ∙ ap (mark_first mark) (sym (tokens-run_in_front b bs f))
    go false f = at_mark (nat_eq b mark) ∙ ap (mark_first mark) (sym (tokens-mark b bs e (not_run b e f)))

pub behind_mark-is : (mark : ℕ) (line : List ℕ) → is_mark mark ≡ true → option_map tokens (behind_mark mark line) ≡ mark_first mark (tokens line)
behind_mark-is mark line m = behind-at mark (skip_blanks line) m (skip_blanks-ends line) ∙ ap (mark_first mark) (sym (tokens-skip_blanks line))

-- ---- nothing but blanks
pub blanks-none : (line : List ℕ) → list_all is_blank line ≡ true → tokens line ≡ []
unfolding tokens
blanks-none [] e = refl
blanks-none (b ∷ bs) e = let p = and_parts _ _ e in tokens-blank b bs p.0 ∙ blanks-none bs p.1

none_left-other : (line : List ℕ) → list_all is_blank line ≡ false → is_none_left (tokens line) ≡ false
unfolding tokens
none_left-other [] e = cc
none_left-other (b ∷ bs) e = go (is_blank b) (is_run_byte b) refl refl (λ h. none_left-other bs h)
  where
    rest : (x : Bool) → x ≡ true → (x && list_all is_blank bs) ≡ false → list_all is_blank bs ≡ false
    rest true f h = h
    rest false f h = absurd (cc)

    go : (x y : Bool) → is_blank b ≡ x → is_run_byte b ≡ y → (list_all is_blank bs ≡ false → is_none_left (tokens bs) ≡ false) → is_none_left (tokens (b ∷ bs)) ≡ false
    go true y f g more = ap is_none_left (tokens-blank b bs f) ∙ more (rest (is_blank b) f e)
    go false true f g more = ap is_none_left (tokens-run_in_front b bs g)
    go false false f g more = ap is_none_left (tokens-mark b bs f (not_run b f g))

pub none_left-is : (line : List ℕ) (b : Bool) → b ≡ list_all is_blank line → b ≡ is_none_left (tokens line)
none_left-is line b e = go b (sym e)
  where
    go : (x : Bool) → list_all is_blank line ≡ x → x ≡ is_none_left (tokens line)
    go true f = ap is_none_left (sym (blanks-none line f))
    go false f = sym (none_left-other line f)

-- one map after the other
pub map_map : {A B C : Type 0} (f : A → B) (g : B → C) (o : Option A) → option_map (λ x. g (f x)) o ≡ option_map g (option_map f o)
map_map f g None = refl
map_map f g (Some x) = refl

abbrev pub bytes_of : Bor (List ℕ) × Bor (List ℕ) → List ℕ × List ℕ
bytes_of f = (f.0.now, f.1.now)
