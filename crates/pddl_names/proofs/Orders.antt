-- That fitting is reflexive and transitive.
use Rattle.std.proofs.Common.{◌≡◌, refl, sym, ap, ◌∙◌, ℕ, zero, suc, ◌+◌, true, false, true≢false, ◌||◌, ◌⊎◌, inl, inr, List, length, Option, None, Some, if◌then◌else◌, arith}
use Rattle.std.proofs.lemmas.Bool.{or_cases}
use Rattle.std.specs.Str.{bytes_eq}
use Rattle.basics.proofs.Bools.{or_left, or_right}
use Rattle.pddl_names.specs.Declarations.{Text, Typed, object_word, value_of}
use Rattle.pddl_names.specs.Fitting.{is_below, is_nothing, fits}
use Rattle.pddl_names.specs.Laws.{FittingIsAnOrder}
use Rattle.pddl_names.proofs.Ways.{Way, Short, short_way, joined_ways, chain-way, way-chain}

-- what fits by none of the first three tests is below
abbrev Fits : List Typed → Text → Text → Type 0
Fits types t u = (is_nothing t ≡ true) ⊎ ((is_nothing u ≡ true) ⊎ ((bytes_eq u object_word ≡ true) ⊎ Short types (length types) t u))

cases : (types : List Typed) (t u : Text) → fits types t u ≡ true → Fits types t u
unfolding fits
cases types t u h = elim (or_cases (is_nothing t) (is_nothing u || (bytes_eq u object_word || is_below types t u)) h) [
  | inl a ↦ inl a
  | inr b ↦ elim (or_cases (is_nothing u) (bytes_eq u object_word || is_below types t u) b) [
    | inl a ↦ inr (inl a)
    | inr c ↦ elim (or_cases (bytes_eq u object_word) (is_below types t u) c) [
      | inl a ↦ inr (inr (inl a))
      | inr d ↦ inr (inr (inr (chain-way types (length types) t u d)))
    ]
  ]
]

fits_nothing : (types : List Typed) (t u : Text) → is_nothing t ≡ true → fits types t u ≡ true
unfolding fits
fits_nothing types t u h = or_left (is_nothing t) (is_nothing u || (bytes_eq u object_word || is_below types t u)) h

fits_left_out : (types : List Typed) (t u : Text) → is_nothing u ≡ true → fits types t u ≡ true
unfolding fits
fits_left_out types t u h = or_right (is_nothing t) (is_nothing u || (bytes_eq u object_word || is_below types t u)) (or_left (is_nothing u) (bytes_eq u object_word || is_below types t u) h)

fits_object : (types : List Typed) (t u : Text) → bytes_eq u object_word ≡ true → fits types t u ≡ true
unfolding fits
fits_object types t u h =
    or_right (is_nothing t) (is_nothing u || (bytes_eq u object_word || is_below types t u))
    (or_right (is_nothing u) (bytes_eq u object_word || is_below types t u) (or_left (bytes_eq u object_word) (is_below types t u) h))

fits_short : (types : List Typed) (t u : Text) → Short types (length types) t u → fits types t u ≡ true
unfolding fits
fits_short types t u w =
    or_right (is_nothing t) (is_nothing u || (bytes_eq u object_word || is_below types t u))
    (or_right (is_nothing u) (bytes_eq u object_word || is_below types t u) (or_right (bytes_eq u object_word) (is_below types t u) (way-chain types (length types) w.0 t u w.1.0 w.1.1)))

-- nothing is above `object`
from_object : (types : List Typed) (n : ℕ) (u v : Text) → bytes_eq u object_word ≡ true → Way types n u v → u ≡ v
from_object types zero u v h w = w
from_object types (suc n) u v h w =
    let clash : ◌≡◌ {A = Option Text} None (Some w.0) = sym (ap (λ b. if b then None else value_of types u) h) ∙ w.1.0 in
    absurd (cc)

onward_by : (types : List Typed) (t u v : Text) → is_nothing u ≡ false → Fits types t u → Fits types u v → fits types t v ≡ true
onward_by types t u v n (inl a) g = fits_nothing types t v a
onward_by types t u v n (inr (inl a)) g = absurd (true≢false (sym a ∙ n))
onward_by types t u v n f (inl b) = absurd (true≢false (sym b ∙ n))
onward_by types t u v n f (inr (inl b)) = fits_left_out types t v b
onward_by types t u v n f (inr (inr (inl b))) = fits_object types t v b
onward_by types t u v n (inr (inr (inl a))) (inr (inr (inr w))) = fits_object types t v (ap (λ x. bytes_eq x object_word) (sym (from_object types w.0 u v a w.1.1)) ∙ a)
onward_by types t u v n (inr (inr (inr w))) (inr (inr (inr x))) =
    fits_short types t v (short_way types (w.0 + x.0) t v (joined_ways types w.0 x.0 t u v w.1.1 x.1.1))

pub fits_in_order : (types : List Typed) (t u v : Text) → FittingIsAnOrder types t u v
fits_in_order types t u v = record {
  itself = fits_short types t t (0, (omega arith, refl));
  onward = λ n f g. onward_by types t u v n (cases types t u f) (cases types u v g);
}
