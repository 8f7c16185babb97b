use Rattle.std.proofs.Common.{◌≡◌, sym, ap, subst, ◌∙◌, Bool, Option, ℕ}
use Rattle.std.specs.Prelude.{IfOk}
use Rattle.std.specs.List.{list_all}
use Rattle.ground_world.specs.Conditions.{static_part_holds}
use Rattle.ground_world.specs.Shown.{env_of, world_of, part_of}
use Rattle.ground_world.specs.declared.parts.CondPart.{CondPart}
use Rattle.grounder.specs.declared.judging.Finding.{Finding}
use Rattle.grounder.specs.ShownPieces.{pieces_of}
use Rattle.grounder.proofs.PieceLists.{static-among}
use Rattle.grounder.proofs.Judged.{static_among, unstatic-kept, unstatic-wide, unvalued-kept, unvalued-wide, reckoned-kept, reckoned-wide}
use Rattle.grounder.proofs.judging.judge_parts.Goals as goal

pub returns-then-not-static_holds-clause-kept : goal.returns-then-not-static_holds-clause-kept
returns-then-not-static_holds-clause-kept c =
    let w = world_of c.args.tables.now in
    let e = env_of c.args.env.now in
    let x = pieces_of c.args.parts.now c.args.outline.now in
    let static_is : c.static_holds.result ≡ static_among w x =
    c.static_holds.ensures ∙ ap (list_all (λ (p : CondPart). static_part_holds w (part_of p))) c.as_slice.ensures ∙ static-among w c.args.parts.now in
    c.nothing.ensures.kept ∙ unstatic-kept w e x (sym static_is ∙ c.if-not-static_holds.true)

pub returns-then-not-branch-clause-kept : goal.returns-then-not-branch-clause-kept
returns-then-not-branch-clause-kept c =
    let w = world_of c.args.tables.now in
    let e = env_of c.args.env.now in
    let x = pieces_of c.args.parts.now c.args.outline.now in
    let static_is : c.static_holds.result ≡ static_among w x =
    c.static_holds.ensures ∙ ap (list_all (λ (p : CondPart). static_part_holds w (part_of p))) c.as_slice.ensures ∙ static-among w c.args.parts.now in
    c.nothing-then-not-branch.ensures.kept ∙ unvalued-kept w e x (sym static_is ∙ c.if-not-static_holds.false) (sym c.in_ok-has_values.ensures ∙ c.if-not-branch.true)

pub returns-clause-kept : goal.returns-clause-kept
returns-clause-kept c =
    let w = world_of c.args.tables.now in
    let e = env_of c.args.env.now in
    let x = pieces_of c.args.parts.now c.args.outline.now in
    let static_is : c.static_holds.result ≡ static_among w x =
    c.static_holds.ensures ∙ ap (list_all (λ (p : CondPart). static_part_holds w (part_of p))) c.as_slice.ensures ∙ static-among w c.args.parts.now in
    subst (λ (v : Bool). IfOk c.judge_reckoned.result (λ (f : Finding). f.kept ≡ v))
    (reckoned-kept w e x (sym static_is ∙ c.if-not-static_holds.false) (sym c.in_ok-has_values.ensures ∙ c.if-not-branch.false)) c.judge_reckoned.ensures.kept

pub returns-then-not-static_holds-clause-wide : goal.returns-then-not-static_holds-clause-wide
returns-then-not-static_holds-clause-wide c =
    let w = world_of c.args.tables.now in
    let e = env_of c.args.env.now in
    let x = pieces_of c.args.parts.now c.args.outline.now in
    let static_is : c.static_holds.result ≡ static_among w x =
    c.static_holds.ensures ∙ ap (list_all (λ (p : CondPart). static_part_holds w (part_of p))) c.as_slice.ensures ∙ static-among w c.args.parts.now in
    c.nothing.ensures.wide ∙ unstatic-wide w e x (sym static_is ∙ c.if-not-static_holds.true)

pub returns-then-not-branch-clause-wide : goal.returns-then-not-branch-clause-wide
returns-then-not-branch-clause-wide c =
    let w = world_of c.args.tables.now in
    let e = env_of c.args.env.now in
    let x = pieces_of c.args.parts.now c.args.outline.now in
    let static_is : c.static_holds.result ≡ static_among w x =
    c.static_holds.ensures ∙ ap (list_all (λ (p : CondPart). static_part_holds w (part_of p))) c.as_slice.ensures ∙ static-among w c.args.parts.now in
    c.nothing-then-not-branch.ensures.wide ∙ unvalued-wide w e x (sym static_is ∙ c.if-not-static_holds.false) (sym c.in_ok-has_values.ensures ∙ c.if-not-branch.true)

pub returns-clause-wide : goal.returns-clause-wide
returns-clause-wide c =
    let w = world_of c.args.tables.now in
    let e = env_of c.args.env.now in
    let x = pieces_of c.args.parts.now c.args.outline.now in
    let static_is : c.static_holds.result ≡ static_among w x =
    c.static_holds.ensures ∙ ap (list_all (λ (p : CondPart). static_part_holds w (part_of p))) c.as_slice.ensures ∙ static-among w c.args.parts.now in
    subst (λ (v : Option ℕ). IfOk c.judge_reckoned.result (λ (f : Finding). f.wide ≡ v))
    (reckoned-wide w e x (sym static_is ∙ c.if-not-static_holds.false) (sym c.in_ok-has_values.ensures ∙ c.if-not-branch.false)) c.judge_reckoned.ensures.wide
