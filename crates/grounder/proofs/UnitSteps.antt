-- The least places of faults among several units, and what a unit's are by its lists.
use Rattle.std.proofs.Common.{◌≡◌, refl, sym, ap, ap₂, subst, ◌∙◌, ℕ, ◌+◌, ◌<◌, List, [], ◌∷◌, ◌++◌, map, take, get_or}
use Rattle.std.specs.List.{flat_map}
use Rattle.std.proofs.lemmas.List.{append-nil}
use Rattle.std.proofs.lemmas.List.Concat.{flat_map-append}
use Rattle.ground_world.specs.World.{World, Env, either}
use Rattle.ground_world.specs.Conditions.{Part, tests_in}
use Rattle.ground_world.specs.Expressions.{wide_places, zero_divisors}
use Rattle.ground_world.specs.declared.operations.Flaw.{Flaw}
use Rattle.grounder.specs.declared.fault_places.FaultPlaces.{FaultPlaces}
use Rattle.grounder.specs.declared.quantified.Quantified.{Quantified}
use Rattle.grounder.specs.Answer.{Unit, least, unvalued, wide_in, none_in, unit_of_tests}
use Rattle.grounder.specs.Bindings.{lower}
use Rattle.grounder.specs.Instances.{flaws_of}
use Rattle.grounder.specs.ShownPreferences.{compared_parts}
use Rattle.grounder.specs.ShownQuantified.{envs_of}
use Rattle.grounder.specs.ShownUnits.{AreLeast}
use Rattle.grounder.specs.Terms.{PreferencePart, comparisons_in}
use Rattle.grounder.proofs.BindingSteps.{least-append}
use Rattle.grounder.proofs.OneByOne.{mapped_env}
use Rattle.grounder.proofs.PreferenceSteps.{tests_of_parts}

-- the lesser of the places among some units and among others
pub least-joined : (w : World) (us vs : List Unit) (one other both : FaultPlaces) → both.wide ≡ lower one.wide other.wide → both.none ≡ lower one.none other.none
    → AreLeast w us one → AreLeast w vs other → AreLeast w (us ++ vs) both
least-joined w us vs one other both h k a b = record {
  wide = h ∙ ap₂ lower a.wide b.wide ∙ sym (least-append (flat_map (wide_in w) us) (flat_map (wide_in w) vs)) ∙ ap least (sym (flat_map-append (wide_in w) us vs));
  none = k ∙ ap₂ lower a.none b.none ∙ sym (least-append (flat_map (none_in w) us) (flat_map (none_in w) vs)) ∙ ap least (sym (flat_map-append (none_in w) us vs));
}

-- one unit, by the places of its fluents without a value and by its flaws
pub least-unit : (w : World) (u : Unit) (lacking : List ℕ) (flaws : List Flaw) (found : FaultPlaces) → lacking ≡ unvalued w u → flaws ≡ flaws_of u.reckons
    → found.wide ≡ least (either (wide_places flaws) (λ p. []) (least lacking)) → found.none ≡ least (either (zero_divisors flaws) (λ p. lacking) (least lacking))
    → AreLeast w (u ∷ []) found
least-unit w u lacking flaws found l f h k = record {
  wide = h ∙ ap₂ (λ (fs : List Flaw) (ps : List ℕ). least (either (wide_places fs) (λ p. []) (least ps))) f l ∙ ap least (sym (append-nil (wide_in w u)));
  none = k ∙ ap₂ (λ (fs : List Flaw) (ps : List ℕ). least (either (zero_divisors fs) (λ p. ps) (least ps))) f l ∙ ap least (sym (append-nil (none_in w u)));
}

-- ---- the instances of a preference

abbrev pub instance_unit : World → List PreferencePart → Env → Unit
instance_unit w xs env = unit_of_tests w (flat_map (comparisons_in w env) xs)

-- the unit of the parts that an instance compares
pub compared-unit : (w : World) (env : Env) (xs : List PreferencePart) (ps : List Part) → ps ≡ flat_map (compared_parts w env) xs
    → unit_of_tests w (flat_map tests_in ps) ≡ instance_unit w xs env
compared-unit w env xs ps e = ap (unit_of_tests w) (ap (flat_map tests_in) e ∙ tests_of_parts w env xs)

-- one instance more
pub instance-more : (w : World) (q : Quantified) (e : Env) (k : ℕ) → k < q.count → e ≡ get_or (envs_of q []) k [] → (xs : List PreferencePart) (u : Unit) (found : FaultPlaces)
    → u ≡ instance_unit w xs e → AreLeast w (map (instance_unit w xs) (take k (envs_of q [])) ++ (u ∷ [])) found
    → AreLeast w (map (instance_unit w xs) (take (k + 1) (envs_of q []))) found
instance-more w q e k lt at xs u found h a =
    subst (λ (us : List Unit). AreLeast w us found)
    (mapped_env q [] e k lt at (instance_unit w xs) u (map (instance_unit w xs) (take k (envs_of q []))) (map (instance_unit w xs) (take k (envs_of q [])) ++ (u ∷ [])) refl h refl) a
