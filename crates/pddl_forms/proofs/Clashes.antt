-- A timed literal whose opposite was seen is one that contradicts one before it.
use Rattle.std.proofs.Common.{◌≡◌, refl, sym, ap, ap₂, ◌∙◌, subst, ℕ, Bool, true, false, not, ◌&&◌, ◌||◌, List, [], ◌∷◌, ◌++◌, if◌then◌else◌, ◌==◌, append-nil, Option}
use Rattle.std.specs.Ordering.{int_eq}
use Rattle.std.specs.List.{flat_map, list_any}
use Rattle.std.specs.Str.{bytes_eq}
use Rattle.std.proofs.lemmas.Slice.Eq.{bytes_eq-Decides}
use Rattle.std.proofs.lemmas.Bool.Decides.{Decides-eqb, Decides-int_eq, same_from_decides}
use Rattle.std.proofs.lemmas.List.Concat.{flat_map-append}
use Rattle.std.proofs.Math.Bool.{and-false}
use Rattle.basics.proofs.Bools.{and_left, and_right, and_in, or_assoc, or_false, or_right}
use Rattle.rational.specs.Rational.{ℚ}
use Rattle.pddl_names.specs.Declarations.{Text, among, with_new}
use Rattle.pddl_terms.specs.declared.faults.Kind.TheVariants as kind
use Rattle.pddl_terms.specs.declared.files.TimedLiteral.{TimedLiteral}
use Rattle.pddl_terms.specs.declared.trees.Atom.{Atom}
use Rattle.pddl_terms.specs.declared.trees.Call.{Call}
use Rattle.pddl_terms.specs.declared.trees.Call.TheVariants as call
use Rattle.pddl_names.specs.declared.offences.Offence.{Offence}
use Rattle.pddl_forms.specs.Offences.{unless, least_with}
use Rattle.pddl_forms.specs.TimedLiterals.{same_words, fact_words, same_number, same_fact, differ, clashes_behind}
use Rattle.pddl_forms.specs.Keys.{key, keys_by, keys_of, is_seen_by, is_seen, clashes_seen}
use Rattle.pddl_forms.proofs.KeysApart.{keys-apart}
use Rattle.pddl_names.proofs.Doubling.{with_new-append}
use Rattle.pddl_forms.proofs.Least.{least_of}
use Rattle.rational.proofs.Fractions.{same_parts}

-- ---- what the tests decide
words_decide : (vs ws : List Text) → ((same_words vs ws ≡ true) → vs ≡ ws) × (vs ≡ ws → same_words vs ws ≡ true)
words_decide [] [] = (λ t. refl, λ e. refl)
words_decide [] (w ∷ ws) = (λ (t : false ≡ true). absurd cc, λ (e : [] ≡ w ∷ ws). absurd cc)
words_decide (v ∷ vs) [] = (λ (t : false ≡ true). absurd cc, λ (e : v ∷ vs ≡ []). absurd cc)
words_decide (v ∷ vs) (w ∷ ws) = (
  λ t. ap₂ (λ x l. x ∷ l) ((bytes_eq-Decides v w).0 (and_left (bytes_eq v w) (same_words vs ws) t)) ((words_decide vs ws).0 (and_right (bytes_eq v w) (same_words vs ws) t)),
  λ (e : v ∷ vs ≡ w ∷ ws). let f : v ≡ w = cc in let g : vs ≡ ws = cc in and_in (bytes_eq v w) (same_words vs ws) ((bytes_eq-Decides v w).1 f) ((words_decide vs ws).1 g),
)

numbers_decide : (q r : ℚ) → ((same_number q r ≡ true) → q ≡ r) × (q ≡ r → same_number q r ≡ true)
numbers_decide q r = (
  λ t. same_parts q r ((Decides-int_eq q.num r.num).0 (and_left (int_eq q.num r.num) (q.den == r.den) t)) ((Decides-eqb q.den r.den).0 (and_right (int_eq q.num r.num) (q.den == r.den) t)),
  λ e. and_in (int_eq q.num r.num) (q.den == r.den) ((Decides-int_eq q.num r.num).1 (ap (λ (x : ℚ). x.num) e)) ((Decides-eqb q.den r.den).1 (ap (λ (x : ℚ). x.den) e)),
)

differ_decides : (g h : Bool) → ((differ g h ≡ true) → not g ≡ h) × (not g ≡ h → differ g h ≡ true)
differ_decides true true = (λ t. t, λ e. e)
differ_decides true false = (λ t. refl, λ e. refl)
differ_decides false true = (λ t. refl, λ e. refl)
differ_decides false false = (λ t. sym t, λ e. sym e)

-- two literals over facts contradict each other where the key of the one's opposite is that of the other
opposite_is : (g h : Bool) (q r : ℚ) (a b : Atom) → bytes_eq (key (not g) q a) (key h r b) ≡ (differ g h && same_number q r && same_words (fact_words a) (fact_words b))
unfolding key
opposite_is g h q r a b = same_from_decides _ _ (bytes_eq-Decides (key (not g) q a) (key h r b)) (
  λ t.
      let t0 = and_left (differ g h && same_number q r) (same_words (fact_words a) (fact_words b)) t in
      let e0 = (differ_decides g h).0 (and_left (differ g h) (same_number q r) t0) in
      let e1 = (numbers_decide q r).0 (and_right (differ g h) (same_number q r) t0) in
      let e2 = (words_decide (fact_words a) (fact_words b)).0 (and_right (differ g h && same_number q r) (same_words (fact_words a) (fact_words b)) t) in
      alike (not g) h q r a b e0 e1 e2,
  λ e.
      let k = keys-apart (not g) h q r a b e in
      and_in (differ g h && same_number q r) (same_words (fact_words a) (fact_words b))
      (and_in (differ g h) (same_number q r) ((differ_decides g h).1 k.0) ((numbers_decide q r).1 k.1)) ((words_decide (fact_words a) (fact_words b)).1 k.2),
)
  where
    alike : (g h : Bool) (q r : ℚ) (a b : Atom) → g ≡ h → q ≡ r → fact_words a ≡ fact_words b → key g q a ≡ key h r b
    alike g h q r a b e f w = cc

-- ---- what was seen
among_either : (b c : Bool) (names : List Text) (x k : Text) → among names x ≡ b → bytes_eq k x ≡ c → among (if b then names else names ++ (x ∷ [])) k ≡ (among names k || c)
among_either true true names x k h e = sym_true (subst (λ y. among names y ≡ true) (sym ((bytes_eq-Decides k x).0 e)) h)
  where
    sym_true : among names k ≡ true → among names k ≡ (among names k || true)
    sym_true f = f ∙ sym (or_right (among names k) true refl)
among_either true false names x k h e = sym (or_false (among names k))
among_either false c names x k h e = behind names ∙ ap (λ t. among names k || t) e
  where
    behind : (ns : List Text) → among (ns ++ (x ∷ [])) k ≡ (among ns k || bytes_eq k x)
    behind [] = or_false (bytes_eq k x)
    behind (n ∷ ns) = ap (λ t. bytes_eq k n || t) (behind ns) ∙ sym (or_assoc (bytes_eq k n) (among ns k) (bytes_eq k x))

among-with_new : (names xs : List Text) (k : Text) → among (with_new names xs) k ≡ (among names k || among xs k)
among-with_new names [] k = sym (or_false (among names k))
among-with_new names (x ∷ xs) k =
    among-with_new (if among names x then names else names ++ (x ∷ [])) xs k
    ∙ ap (λ t. t || among xs k) (among_either (among names x) (bytes_eq k x) names x k refl refl)
    ∙ or_assoc (among names k) (bytes_eq k x) (among xs k)

-- the same test as `contradict`, on the parts of the later literal
abbrev contradicts : Bool → ℚ → Call → TimedLiteral → Bool
contradicts holds moment fact m = differ holds m.holds && same_number moment m.moment && same_fact fact m.atom

one_key : (g : Bool) (q : ℚ) (a : Atom) (h : Bool) (r : ℚ) (c : Call) (more : List Text)
    → among (keys_by h r c ++ more) (key (not g) q a) ≡ ((differ g h && same_number q r && same_fact (call.Named a) c) || among more (key (not g) q a))
one_key g q a h r (call.Named b) more = ap (λ t. t || among more (key (not g) q a)) (opposite_is g h q r a b)
one_key g q a h r (call.LeftOut at) more = ap (λ t. t || among more (key (not g) q a)) (sym (and-false (differ g h && same_number q r)))

seen_keys : (g : Bool) (q : ℚ) (a : Atom) (before : List TimedLiteral) → among (flat_map keys_of before) (key (not g) q a) ≡ list_any (contradicts g q (call.Named a)) before
seen_keys g q a [] = refl
seen_keys g q a (m ∷ ms) = one_key g q a m.holds m.moment m.atom (flat_map keys_of ms) ∙ ap (λ t. contradicts g q (call.Named a) m || t) (seen_keys g q a ms)

none_left_out : (g : Bool) (q : ℚ) (at : ℕ) (before : List TimedLiteral) → false ≡ list_any (contradicts g q (call.LeftOut at)) before
none_left_out g q at [] = refl
none_left_out g q at (m ∷ ms) = none_left_out g q at ms ∙ ap (λ t. t || list_any (contradicts g q (call.LeftOut at)) ms) (sym (by m.atom))
  where
    by : (c : Call) → (differ g m.holds && same_number q m.moment && same_fact (call.LeftOut at) c) ≡ false
    by (call.Named b) = and-false (differ g m.holds && same_number q m.moment)
    by (call.LeftOut place) = and-false (differ g m.holds && same_number q m.moment)

seen_by_is : (g : Bool) (q : ℚ) (c : Call) (before : List TimedLiteral) → is_seen_by (with_new [] (flat_map keys_of before)) g q c ≡ list_any (contradicts g q c) before
seen_by_is g q (call.Named a) before = among-with_new [] (flat_map keys_of before) (key (not g) q a) ∙ seen_keys g q a before
seen_by_is g q (call.LeftOut at) before = none_left_out g q at before

clashes_same : (before ls : List TimedLiteral) → clashes_seen (with_new [] (flat_map keys_of before)) ls ≡ clashes_behind before ls
unfolding clashes_seen clashes_behind
clashes_same before [] = refl
clashes_same before (l ∷ ls) = ap₂ (λ t more. unless (not t) kind.TilClash l.at ++ more) (seen_by_is l.holds l.moment l.atom before)
    (ap (λ ks. clashes_seen ks ls) (sym (with_new-append [] (flat_map keys_of before) (keys_of l)) ∙ ap (with_new []) (joins before)) ∙ clashes_same (before ++ (l ∷ [])) ls)
  where
    joins : (ms : List TimedLiteral) → flat_map keys_of ms ++ keys_of l ≡ flat_map keys_of (ms ++ (l ∷ []))
    joins ms = ap (λ k. flat_map keys_of ms ++ k) (sym (append-nil (keys_of l))) ∙ sym (flat_map-append keys_of ms (l ∷ []))

pub clashes_seen-all : (ls : List TimedLiteral) → clashes_seen [] ls ≡ clashes_behind [] ls
clashes_seen-all ls = clashes_same [] ls

pub clashes_seen-none : (seen : List Text) → clashes_seen seen [] ≡ []
unfolding clashes_seen
clashes_seen-none seen = refl

pub clashes_seen-more : (seen : List Text) (l : TimedLiteral) (ls : List TimedLiteral) → clashes_seen seen (l ∷ ls) ≡ unless (not (is_seen seen l)) kind.TilClash l.at ++ clashes_seen (with_new seen (keys_of l)) ls
unfolding clashes_seen
clashes_seen-more seen l ls = refl

-- a fact that is left out is never seen
pub none-seen : (seen : List Text) (holds : Bool) (moment : ℚ) (c : Call) (at place : ℕ) (found : Option Offence) → c ≡ call.LeftOut at
    → found ≡ least_with found (unless (not (is_seen_by seen holds moment c)) kind.TilClash place)
unfolding least_with
none-seen seen holds moment c at place found e = sym (ap (λ f. least_with found (unless (not (is_seen_by seen holds moment f)) kind.TilClash place)) e)

pub ruleset clashes_of = (clashes_seen-none, clashes_seen-more, least_of)

pub ruleset clashes_found = (clashes_seen-all, least_of)
