use Rattle.std.proofs.Common.{◌≡◌, ◌≤◌, sym, ap, subst, ◌∙◌, List, [], ◌∷◌, ◌++◌, OnOk}
use Rattle.std.proofs.lemmas.List.{map-append, append-nil, map-id}
use Rattle.ground_world.specs.Conditions.{Part, condition_parts}
use Rattle.ground_world.specs.Counts.{part_limit}
use Rattle.ground_world.specs.Shown.{env_of, world_of, part_of, parts_of}
use Rattle.ground_world.proofs.Walks as below
use Rattle.grounder.specs.declared.preferences.PreferencePart.{PreferencePart}
use Rattle.grounder.specs.ShownPreferences.{preference_of, preference_count, compared_parts}
use Rattle.grounder.proofs.preferences.push_compared.Goals as goal

pub push_parts-requires : goal.push_parts-requires
push_parts-requires c = subst (λ (x : PreferencePart). preference_count (world_of c.args.tables.now) (preference_of x) ≤ part_limit) c.in-Numbers.is c.requires

pub returns-in-Numbers : goal.returns-in-Numbers
returns-in-Numbers c =
    subst (λ (l : List Part). OnOk c.push_parts.result (parts_of c.push_parts.new.out ≡ parts_of c.args.out.now ++ l))
    (map-id (condition_parts (world_of c.args.tables.now) (env_of c.args.env.now) c.in-Numbers.condition.now) ∙ ap (λ (x : PreferencePart). compared_parts (world_of c.args.tables.now) (env_of c.args.env.now) (preference_of x)) (sym c.in-Numbers.is)) c.push_parts.ensures

pub returns-in_ok-push-in-SameValues : goal.returns-in_ok-push-in-SameValues
returns-in_ok-push-in-SameValues c =
    ap parts_of c.in_ok-push-in-SameValues.ensures.ok ∙ map-append part_of c.args.out.now _
    ∙ ap (λ (l : List Part). parts_of c.args.out.now ++ l)
    (ap (λ (p : Part). p ∷ []) c.in_ok-equal_part-in-SameValues.ensures
    ∙ sym (below.condition_parts-Equal (world_of c.args.tables.now) (env_of c.args.env.now) _ _ _)
    ∙ ap (λ (x : PreferencePart). compared_parts (world_of c.args.tables.now) (env_of c.args.env.now) (preference_of x)) (sym c.in-SameValues.is))

pub returns-in-Formula : goal.returns-in-Formula
returns-in-Formula c =
    sym (append-nil (parts_of c.args.out.now))
    ∙ ap (λ (x : PreferencePart). parts_of c.args.out.now ++ compared_parts (world_of c.args.tables.now) (env_of c.args.env.now) (preference_of x)) (sym c.in-Formula.is)

pub returns-in-SameTerms : goal.returns-in-SameTerms
returns-in-SameTerms c =
    sym (append-nil (parts_of c.args.out.now))
    ∙ ap (λ (x : PreferencePart). parts_of c.args.out.now ++ compared_parts (world_of c.args.tables.now) (env_of c.args.env.now) (preference_of x)) (sym c.in-SameTerms.is)
