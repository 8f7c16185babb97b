-- An atom that is there twice is met a second time in order.
use Rattle.std.proofs.Common.{◌≡◌, refl, sym, ap, ap₂, ◌∙◌, ℕ, ◌+◌, ◌<◌, Bool, true, false, ◌||◌, List, [], ◌∷◌, ◌++◌, length, drop, get_or}
use Rattle.std.specs.Prelude.{if◌then◌else◌}
use Rattle.std.specs.List.{list_any}
use Rattle.std.specs.Str.{bytes_eq}
use Rattle.std.proofs.lemmas.List.Folds.{list_any-append}
use Rattle.pddl_names.specs.Declarations.{among, with_new}
use Rattle.pddl_names.proofs.Ways.{same_text, text_itself, other_text}
use Rattle.ground_world.specs.World.{GroundAtom, same_atom}
use Rattle.grounder.specs.Instances.{is_twice}
use Rattle.basics.proofs.Lists.{drop_item}

symmetric : (a b : GroundAtom) → bytes_eq a b ≡ bytes_eq b a
symmetric a b = by (bytes_eq a b) refl
  where
    by : (q : Bool) → bytes_eq a b ≡ q → bytes_eq a b ≡ bytes_eq b a
    by true e = e ∙ sym (ap (λ x. bytes_eq b x) (same_text a b e) ∙ text_itself b)
    by false e = e ∙ sym (other_text a b e)

-- whether one of some atoms is among those that were seen
abbrev pub met : List GroundAtom → List GroundAtom → Bool
met seen rest = list_any (λ a. among seen a) rest

pub none-met : (rest : List GroundAtom) → met [] rest ≡ false
none-met [] = refl
none-met (a ∷ rest) = none-met rest

met-one : (seen rest : List GroundAtom) (x : GroundAtom) → met (seen ++ (x ∷ [])) rest ≡ (met seen rest || list_any (same_atom x) rest)
met-one seen [] x = refl
met-one seen (a ∷ rest) x =
    ap₂ (λ p q. p || q) (list_any-append (bytes_eq a) seen (x ∷ []) ∙ ap (λ b. among seen a || (b || false)) (symmetric a x)) (met-one seen rest x)
    ∙ shuffled (among seen a) (bytes_eq x a) (met seen rest) (list_any (same_atom x) rest)
  where
    shuffled : (p q r s : Bool) → ((p || (q || false)) || (r || s)) ≡ ((p || r) || (q || s))
    shuffled true q r s = refl
    shuffled false true true s = refl
    shuffled false true false s = refl
    shuffled false false r s = refl

-- an atom that was not seen is among those seen from then on
pub met-more : (seen rest : List GroundAtom) (x : GroundAtom) → among seen x ≡ false
    → (met (with_new seen (x ∷ [])) rest || is_twice rest) ≡ (met seen (x ∷ rest) || is_twice (x ∷ rest))
met-more seen rest x h =
    ap (λ b. met (if b then seen else seen ++ (x ∷ [])) rest || is_twice rest) h ∙ ap (λ b. b || is_twice rest) (met-one seen rest x)
    ∙ shuffled (met seen rest) (list_any (same_atom x) rest) (is_twice rest) ∙ ap (λ b. (b || met seen rest) || (list_any (same_atom x) rest || is_twice rest)) (sym h)
  where
    shuffled : (p q r : Bool) → ((p || q) || r) ≡ ((false || p) || (q || r))
    shuffled true q r = refl
    shuffled false q r = refl

module _ (xs : List GroundAtom) (i : ℕ) (x : GroundAtom) (lt : i < length xs) (at : x ≡ get_or xs i x) (seen : List GroundAtom)
    (h : is_twice xs ≡ (met seen (drop i xs) || is_twice (drop i xs))) where
  turn : is_twice xs ≡ (met seen (x ∷ drop (i + 1) xs) || is_twice (x ∷ drop (i + 1) xs))
  turn = h ∙ ap (λ l. met seen l || is_twice l) (drop_item xs i x lt at)

  pub twice-here : among seen x ≡ true → true ≡ is_twice xs
  twice-here e = sym (turn ∙ ap (λ b. (b || met seen (drop (i + 1) xs)) || is_twice (x ∷ drop (i + 1) xs)) e)

  pub twice-later : among seen x ≡ false → (next : List GroundAtom) → next ≡ with_new seen (x ∷ []) → is_twice xs ≡ (met next (drop (i + 1) xs) || is_twice (drop (i + 1) xs))
  twice-later e next k = turn ∙ sym (ap (λ l. met l (drop (i + 1) xs) || is_twice (drop (i + 1) xs)) k ∙ met-more seen (drop (i + 1) xs) x e)
