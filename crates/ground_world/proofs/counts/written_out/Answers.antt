use Rattle.std.proofs.Common.{◌≡◌, ◌∙◌, ap, ◌*◌, min, max, List, ℕ}
use Rattle.ground_world.specs.World.{columns}
use Rattle.ground_world.specs.Bindings.{choice_count}
use Rattle.ground_world.specs.Shown.{columns_of, world_of}
use Rattle.ground_world.specs.declared.choosing.Variable.{Variable}
use Rattle.ground_world.proofs.Capped.{written-capped}
use Rattle.ground_world.proofs.counts.written_out.Goals as goal

pub returns : goal.returns
returns c = λ n h.
    let w = world_of c.args.tables.now in
    let ways = c.choices_within-ways.result in
    let all : ways ≡ min 65537 (choice_count (columns w c.args.groups.now)) =
    c.choices_within-ways.ensures ∙ ap (λ (vs : List Variable). min 65537 (choice_count (columns_of vs))) c.as_slice-slots.ensures
    ∙ ap (λ (cs : List (List ℕ)). min 65537 (choice_count cs)) c.in_ok-variables.ensures.columns in
    c.min.ensures
    ∙ ap (λ k. min k 65537) (c.max-2.ensures ∙ ap (λ k. max k 1) (c.saturating_mul.ensures ∙ ap (λ k. min (ways * k) 18446744073709551615) c.max.ensures))
    ∙ written-capped ways c.args.parts (choice_count (columns w c.args.groups.now)) n all h
