-- Keys of timed literals: how they grow byte by byte, and that literals with one key are alike.
use Rattle.std.proofs.Common.{◌≡◌, refl, sym, ap, ap₂, ◌∙◌, ℕ, zero, suc, ◌/◌, ◌%◌, ◌<◌, ◌≤◌, Bool, true, false, List, [], ◌∷◌, ◌++◌, arith, append_assoc}
use Rattle.std.specs.Prelude.{ℤ, pos, negsuc, ◌*ℤ◌, unsigned_abs}
use Rattle.std.specs.List.{flat_map}
use Rattle.rational.specs.Rational.{ℚ}
use Rattle.rational.proofs.Fractions.{same_parts}
use Rattle.pddl_terms.specs.declared.trees.Atom.{Atom}
use Rattle.pddl_forms.specs.TimedLiterals.{fact_words}
use Rattle.pddl_forms.specs.Keys.{encoded, digits, number_key, sign_of, moment_key, truth_key, key}

-- ---- how they grow
pub encoded-none : encoded [] ≡ 0 ∷ []
unfolding encoded
encoded-none = refl

pub encoded-more : (b : ℕ) (bs : List ℕ) → encoded (b ∷ bs) ≡ 1 ∷ b ∷ encoded bs
unfolding encoded
encoded-more b bs = refl

-- what more digits are allowed changes nothing
pub digits-most : (m k n : ℕ) → n ≤ m → n ≤ k → digits m n ≡ digits k n
unfolding digits
digits-most zero zero n h g = refl
digits-most zero (suc k) zero h g = refl
digits-most zero (suc k) (suc n) h g = absurd (omega arith)
digits-most (suc m) zero zero h g = refl
digits-most (suc m) zero (suc n) h g = absurd (omega arith)
digits-most (suc m) (suc k) zero h g = refl
digits-most (suc m) (suc k) (suc n) h g = ap (λ l. 1 ∷ suc n % 256 ∷ l) (digits-most m k (suc n / 256) (omega arith) (omega arith))

pub number_key-zero : (n : ℕ) → n ≡ 0 → number_key n ≡ 0 ∷ []
unfolding digits
number_key-zero n h = ap number_key h

pub number_key-more : (n : ℕ) → 0 < n → number_key n ≡ 1 ∷ n % 256 ∷ number_key (n / 256)
unfolding digits
number_key-more zero h = absurd (omega arith)
number_key-more (suc n) h = ap (λ l. 1 ∷ suc n % 256 ∷ l) (digits-most n (suc n / 256) (suc n / 256) (omega arith) (omega arith))

-- one byte more of a word is written
pub word-step : (out first second all left more : List ℕ) (b : ℕ) → left ≡ b ∷ more → first ≡ out ++ 1 ∷ [] → second ≡ first ++ b ∷ []
    → out ++ encoded left ≡ all → second ++ encoded more ≡ all
unfolding encoded
word-step out first second all left more b e f g j =
    ap (λ l. l ++ encoded more) (g ∙ ap (λ l. l ++ b ∷ []) f)
    ∙ append_assoc (out ++ 1 ∷ []) (b ∷ []) (encoded more) ∙ append_assoc out (1 ∷ []) (b ∷ encoded more)
    ∙ ap (λ l. out ++ encoded l) (sym e) ∙ j

-- the last byte of a word is written
pub word-end : (out last all left : List ℕ) → left ≡ [] → last ≡ out ++ 0 ∷ [] → out ++ encoded left ≡ all → last ≡ all
unfolding encoded
word-end out last all left e f j = f ∙ ap (λ l. out ++ encoded l) (sym e) ∙ j

-- one digit more of a number is written
pub number-step : (out first second all : List ℕ) (n d : ℕ) → 0 < n → first ≡ out ++ 1 ∷ [] → second ≡ first ++ d ∷ [] → d ≡ n % 256
    → out ++ number_key n ≡ all → second ++ number_key (n / 256) ≡ all
number-step out first second all n d h f g e j =
    ap (λ l. l ++ number_key (n / 256)) (g ∙ ap (λ l. l ++ d ∷ []) f ∙ ap (λ k. (out ++ 1 ∷ []) ++ k ∷ []) e)
    ∙ append_assoc (out ++ 1 ∷ []) (n % 256 ∷ []) (number_key (n / 256)) ∙ append_assoc out (1 ∷ []) (n % 256 ∷ number_key (n / 256))
    ∙ ap (λ l. out ++ l) (sym (number_key-more n h)) ∙ j

pub ruleset encodings = (encoded-none, encoded-more, number_key-zero, number_key-more)

-- ---- what a key tells
encoded-apart : (v w r s : List ℕ) → encoded v ++ r ≡ encoded w ++ s → (v ≡ w) × (r ≡ s)
unfolding encoded
encoded-apart [] [] r s e = let t : 0 ∷ r ≡ 0 ∷ s = e in (refl, cc)
encoded-apart [] (b ∷ w) r s e = let t : 0 ∷ r ≡ 1 ∷ b ∷ (encoded w ++ s) = e in cc
encoded-apart (a ∷ v) [] r s e = let t : 1 ∷ a ∷ (encoded v ++ r) ≡ 0 ∷ s = e in cc
encoded-apart (a ∷ v) (b ∷ w) r s e =
    let t : 1 ∷ a ∷ (encoded v ++ r) ≡ 1 ∷ b ∷ (encoded w ++ s) = e in
    let first : a ≡ b = cc in
    let rest : encoded v ++ r ≡ encoded w ++ s = cc in
    let both = encoded-apart v w r s rest in
    (ap₂ (λ x l. x ∷ l) first both.0, both.1)

starts : (w : List ℕ) → (b : ℕ) × ((bs : List ℕ) × (encoded w ≡ b ∷ bs))
unfolding encoded
starts [] = (0, ([], refl))
starts (b ∷ bs) = (1, (b ∷ encoded bs, refl))

words-apart : (vs ws : List (List ℕ)) → flat_map encoded vs ≡ flat_map encoded ws → vs ≡ ws
words-apart [] [] e = refl
words-apart [] (w ∷ ws) e =
    let s = starts w in
    let f : [] ≡ s.0 ∷ (s.1.0 ++ flat_map encoded ws) = e ∙ ap (λ l. l ++ flat_map encoded ws) s.1.1 in cc
words-apart (v ∷ vs) [] e =
    let s = starts v in
    let f : s.0 ∷ (s.1.0 ++ flat_map encoded vs) ≡ [] = sym (ap (λ l. l ++ flat_map encoded vs) s.1.1) ∙ e in cc
words-apart (v ∷ vs) (w ∷ ws) e =
    let both = encoded-apart v w (flat_map encoded vs) (flat_map encoded ws) e in
    ap₂ (λ x l. x ∷ l) both.0 (words-apart vs ws both.1)

digits-apart : (k l m n : ℕ) (r s : List ℕ) → m ≤ k → n ≤ l → digits k m ++ r ≡ digits l n ++ s → (m ≡ n) × (r ≡ s)
unfolding digits
digits-apart k l zero zero r s g h e = (refl, tail k l e)
  where
    tail : (k l : ℕ) → digits k 0 ++ r ≡ digits l 0 ++ s → r ≡ s
    tail zero zero e = let t : 0 ∷ r ≡ 0 ∷ s = e in cc
    tail zero (suc l) e = let t : 0 ∷ r ≡ 0 ∷ s = e in cc
    tail (suc k) zero e = let t : 0 ∷ r ≡ 0 ∷ s = e in cc
    tail (suc k) (suc l) e = let t : 0 ∷ r ≡ 0 ∷ s = e in cc
digits-apart k zero zero (suc n) r s g h e = absurd (omega arith)
digits-apart zero (suc l) zero (suc n) r s g h e = let t : 0 ∷ r ≡ 1 ∷ suc n % 256 ∷ (digits l (suc n / 256) ++ s) = e in cc
digits-apart (suc k) (suc l) zero (suc n) r s g h e = let t : 0 ∷ r ≡ 1 ∷ suc n % 256 ∷ (digits l (suc n / 256) ++ s) = e in cc
digits-apart zero l (suc m) n r s g h e = absurd (omega arith)
digits-apart (suc k) zero (suc m) zero r s g h e = let t : 1 ∷ suc m % 256 ∷ (digits k (suc m / 256) ++ r) ≡ 0 ∷ s = e in cc
digits-apart (suc k) (suc l) (suc m) zero r s g h e = let t : 1 ∷ suc m % 256 ∷ (digits k (suc m / 256) ++ r) ≡ 0 ∷ s = e in cc
digits-apart (suc k) zero (suc m) (suc n) r s g h e = absurd (omega arith)
digits-apart (suc k) (suc l) (suc m) (suc n) r s g h e =
    let t : 1 ∷ suc m % 256 ∷ (digits k (suc m / 256) ++ r) ≡ 1 ∷ suc n % 256 ∷ (digits l (suc n / 256) ++ s) = e in
    let last : suc m % 256 ≡ suc n % 256 = cc in
    let rest : digits k (suc m / 256) ++ r ≡ digits l (suc n / 256) ++ s = cc in
    let both = digits-apart k l (suc m / 256) (suc n / 256) r s (omega arith) (omega arith) rest in
    (omega (arith, both.0, last), both.1)

ints-apart : (x y : ℤ) → sign_of x ≡ sign_of y → unsigned_abs x ≡ unsigned_abs y → x ≡ y
ints-apart (pos m) (pos n) s e = ap pos e
ints-apart (pos m) (negsuc n) s e = absurd (omega (arith, s))
ints-apart (negsuc m) (pos n) s e = absurd (omega (arith, s))
ints-apart (negsuc m) (negsuc n) s e = ap negsuc (omega (arith, e))

truths-apart : (g h : Bool) → truth_key g ≡ truth_key h → g ≡ h
truths-apart true true e = refl
truths-apart true false e = absurd (omega (arith, e))
truths-apart false true e = absurd (omega (arith, e))
truths-apart false false e = refl

pub keys-apart : (g h : Bool) (q r : ℚ) (a b : Atom) → key g q a ≡ key h r b → (g ≡ h) × (q ≡ r) × (fact_words a ≡ fact_words b)
unfolding key moment_key
keys-apart g h q r a b e =
    let x = flat_map encoded (fact_words a) in
    let y = flat_map encoded (fact_words b) in
    let t : truth_key g ∷ sign_of q.num ∷ ((number_key (unsigned_abs q.num) ++ number_key q.den) ++ x) ≡ truth_key h ∷ sign_of r.num ∷ ((number_key (unsigned_abs r.num) ++ number_key r.den) ++ y) = e in
    let truth : truth_key g ≡ truth_key h = cc in
    let sign : sign_of q.num ≡ sign_of r.num = cc in
    let rest : (number_key (unsigned_abs q.num) ++ number_key q.den) ++ x ≡ (number_key (unsigned_abs r.num) ++ number_key r.den) ++ y = cc in
    let nums = digits-apart (unsigned_abs q.num) (unsigned_abs r.num) (unsigned_abs q.num) (unsigned_abs r.num) (number_key q.den ++ x) (number_key r.den ++ y) (omega arith) (omega arith)
    (sym (append_assoc (number_key (unsigned_abs q.num)) (number_key q.den) x) ∙ rest ∙ append_assoc (number_key (unsigned_abs r.num)) (number_key r.den) y) in
    let dens = digits-apart q.den r.den q.den r.den x y (omega arith) (omega arith) nums.1 in
    (truths-apart g h truth, same_parts q r (ints-apart q.num r.num sign nums.0) dens.0, words-apart (fact_words a) (fact_words b) dens.1)
