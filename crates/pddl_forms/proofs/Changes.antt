-- The functions that effects change, form by form, and how sets of names grow.
use Rattle.std.proofs.Common.{◌≡◌, refl, sym, ap, ◌∙◌, ℕ, List, [], length, ◌<◌, ◌≤◌, ◌+◌, take, get_or}
use Rattle.std.specs.List.{flat_map}
use Rattle.pddl_terms.specs.declared.trees.EffTree.{EffTree, fold-EffTree, fold-roll-EffTree}
use Rattle.pddl_terms.specs.declared.trees.EffTree.TheOpen.{EffTree-F}
use Rattle.pddl_terms.specs.declared.trees.EffTree.TheVariants as eff
use Rattle.pddl_terms.specs.declared.trees.TimedEff.{TimedEff, fold-TimedEff, fold-roll-TimedEff}
use Rattle.pddl_terms.specs.declared.trees.TimedEff.TheOpen.{TimedEff-F}
use Rattle.pddl_terms.specs.declared.trees.TimedEff.TheVariants as timed
use Rattle.pddl_terms.specs.declared.trees.ExprTree.{ExprTree}
use Rattle.pddl_terms.specs.declared.trees.Atom.{Atom}
use Rattle.pddl_terms.specs.declared.trees.Call.{Call}
use Rattle.pddl_terms.specs.declared.trees.ChangeKind.{ChangeKind}
use Rattle.pddl_terms.specs.declared.trees.RateTree.{RateTree}
use Rattle.pddl_terms.specs.declared.trees.Trend.{Trend}
use Rattle.pddl_names.specs.Declarations.{Text, with_new}
use Rattle.pddl_forms.specs.Functions.{function_of, changed_layer, changed_by, timed_changed_layer, timed_changed_by}
use Rattle.pddl_names.proofs.Doubling.{with_new-append}
use Rattle.pddl_forms.proofs.Least.{concat-map, walk-next, walk-end}

pub changed_by-empty : (at : ℕ) → changed_by (eff.Empty at) ≡ []
unfolding changed_by
changed_by-empty at =
    ap (λ t. fold-EffTree (List Text) changed_layer t) (sym (eff.rolls-Empty at))
    ∙ fold-roll-EffTree (List Text) changed_layer (EffTree-F.Empty at)

pub changed_by-and : (at : ℕ) (parts : List EffTree) → changed_by (eff.And at parts) ≡ flat_map changed_by parts
unfolding changed_by
changed_by-and at parts =
    ap (λ t. fold-EffTree (List Text) changed_layer t) (sym (eff.rolls-And at parts))
    ∙ fold-roll-EffTree (List Text) changed_layer (EffTree-F.And at parts)
    ∙ concat-map (fold-EffTree (List Text) changed_layer) parts

pub changed_by-add : (a : Atom) → changed_by (eff.Add a) ≡ []
unfolding changed_by
changed_by-add a =
    ap (λ t. fold-EffTree (List Text) changed_layer t) (sym (eff.rolls-Add a))
    ∙ fold-roll-EffTree (List Text) changed_layer (EffTree-F.Add a)

pub changed_by-delete : (at : ℕ) (fact : Call) → changed_by (eff.Delete at fact) ≡ []
unfolding changed_by
changed_by-delete at fact =
    ap (λ t. fold-EffTree (List Text) changed_layer t) (sym (eff.rolls-Delete at fact))
    ∙ fold-roll-EffTree (List Text) changed_layer (EffTree-F.Delete at fact)

pub changed_by-change : (at : ℕ) (how : ChangeKind) (fluent : Call) (amount : ExprTree) → changed_by (eff.Change at how fluent amount) ≡ function_of fluent
unfolding changed_by
changed_by-change at how fluent amount =
    ap (λ t. fold-EffTree (List Text) changed_layer t) (sym (eff.rolls-Change at how fluent amount))
    ∙ fold-roll-EffTree (List Text) changed_layer (EffTree-F.Change at how fluent amount)

pub changed_by-leftout : (at : ℕ) → changed_by (eff.LeftOut at) ≡ []
unfolding changed_by
changed_by-leftout at =
    ap (λ t. fold-EffTree (List Text) changed_layer t) (sym (eff.rolls-LeftOut at))
    ∙ fold-roll-EffTree (List Text) changed_layer (EffTree-F.LeftOut at)

pub timed_changed_by-empty : (at : ℕ) → timed_changed_by (timed.Empty at) ≡ []
unfolding timed_changed_by
timed_changed_by-empty at =
    ap (λ t. fold-TimedEff (List Text) timed_changed_layer t) (sym (timed.rolls-Empty at))
    ∙ fold-roll-TimedEff (List Text) timed_changed_layer (TimedEff-F.Empty at)

pub timed_changed_by-and : (at : ℕ) (parts : List TimedEff) → timed_changed_by (timed.And at parts) ≡ flat_map timed_changed_by parts
unfolding timed_changed_by
timed_changed_by-and at parts =
    ap (λ t. fold-TimedEff (List Text) timed_changed_layer t) (sym (timed.rolls-And at parts))
    ∙ fold-roll-TimedEff (List Text) timed_changed_layer (TimedEff-F.And at parts)
    ∙ concat-map (fold-TimedEff (List Text) timed_changed_layer) parts

pub timed_changed_by-atstart : (at : ℕ) (effect : EffTree) → timed_changed_by (timed.AtStart at effect) ≡ changed_by effect
unfolding timed_changed_by
timed_changed_by-atstart at effect =
    ap (λ t. fold-TimedEff (List Text) timed_changed_layer t) (sym (timed.rolls-AtStart at effect))
    ∙ fold-roll-TimedEff (List Text) timed_changed_layer (TimedEff-F.AtStart at effect)

pub timed_changed_by-atend : (at : ℕ) (effect : EffTree) → timed_changed_by (timed.AtEnd at effect) ≡ changed_by effect
unfolding timed_changed_by
timed_changed_by-atend at effect =
    ap (λ t. fold-TimedEff (List Text) timed_changed_layer t) (sym (timed.rolls-AtEnd at effect))
    ∙ fold-roll-TimedEff (List Text) timed_changed_layer (TimedEff-F.AtEnd at effect)

pub timed_changed_by-rate : (at : ℕ) (trend : Trend) (fluent : Call) (speed : RateTree) → timed_changed_by (timed.Rate at trend fluent speed) ≡ function_of fluent
unfolding timed_changed_by
timed_changed_by-rate at trend fluent speed =
    ap (λ t. fold-TimedEff (List Text) timed_changed_layer t) (sym (timed.rolls-Rate at trend fluent speed))
    ∙ fold-roll-TimedEff (List Text) timed_changed_layer (TimedEff-F.Rate at trend fluent speed)

pub timed_changed_by-leftout : (at : ℕ) → timed_changed_by (timed.LeftOut at) ≡ []
unfolding timed_changed_by
timed_changed_by-leftout at =
    ap (λ t. fold-TimedEff (List Text) timed_changed_layer t) (sym (timed.rolls-LeftOut at))
    ∙ fold-roll-TimedEff (List Text) timed_changed_layer (TimedEff-F.LeftOut at)

pub with_new-none : (names : List Text) → with_new names [] ≡ names
with_new-none names = refl

pub new-next : {A : Type 0} (f : A → List Text) (start names next : List Text) (xs : List A) (i : ℕ) (x : A) → i < length xs → x ≡ get_or xs i x
    → names ≡ with_new start (flat_map f (take i xs)) → next ≡ with_new names (f x) → next ≡ with_new start (flat_map f (take (i + 1) xs))
new-next f start = walk-next with_new with_new-append f start

pub new-end : {A : Type 0} (f : A → List Text) (start names : List Text) (xs ys : List A) (i : ℕ) (all : List Text) → length xs ≤ i → xs ≡ ys
    → names ≡ with_new start (flat_map f (take i xs)) → all ≡ flat_map f ys → names ≡ with_new start all
new-end f start = walk-end with_new with_new-append f start

pub ruleset new_names = (with_new-none, with_new-append)

pub ruleset changes_of = (changed_by-empty, changed_by-and, changed_by-add, changed_by-delete, changed_by-change, changed_by-leftout, timed_changed_by-empty, timed_changed_by-and, timed_changed_by-atstart, timed_changed_by-atend, timed_changed_by-rate, timed_changed_by-leftout, with_new-none, with_new-append)
