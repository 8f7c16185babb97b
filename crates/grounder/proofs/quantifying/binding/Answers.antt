use Rattle.std.proofs.Common.{◌≡◌, ap, ◌∙◌, subst, ◌<◌, List, [], ◌++◌, get_or}
use Rattle.std.proofs.lemmas.Result.{IfOk-weaker}
use Rattle.ground_world.specs.Bindings.{choice_at, paired}
use Rattle.ground_world.specs.Shown.{env_of, names_of, columns_of}
use Rattle.ground_world.specs.declared.choosing.Variable.{Variable}
use Rattle.grounder.specs.ShownQuantified.{envs_of}
use Rattle.grounder.proofs.OneByOne.{envs-at}
use Rattle.grounder.proofs.quantifying.binding.Goals as goal

pub returns : goal.returns
returns c =
    let q = c.args.quantified.now in
    let env = env_of c.args.env.now in
    IfOk-weaker c.bound.result
    (λ e. env_of e ≡ env ++ paired (names_of c.as_slice.result.now) (choice_at (columns_of c.as_slice.result.now) c.args.number))
    (λ e. env_of e ≡ get_or (envs_of q env) c.args.number [])
    (λ e h. h ∙ ap (λ (vs : List Variable). env ++ paired (names_of vs) (choice_at (columns_of vs) c.args.number)) c.as_slice.ensures
    ∙ envs-at q env c.args.number (subst (λ n. c.args.number < n) q.counted c.requires))
    c.bound.ensures
