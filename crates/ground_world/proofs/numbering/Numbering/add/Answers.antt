use Rattle.std.proofs.Common.{◌∙◌, ap, List, ℕ, [], ◌∷◌, ◌++◌, if◌then◌else◌}
use Rattle.std.specs.Str.{bytes_eq}
use Rattle.std.specs.List.{list_any}
use Rattle.pddl_names.proofs.Numbered.{contents, added_contents}
use Rattle.ground_world.proofs.numbering.Numbering.add.Goals as goal

pub returns : goal.returns
returns c = ap contents c.in_ok-insert.ensures.keys ∙ added_contents c.self.inside.keys.keys c.args.key
    ∙ ap (λ (l : List (List ℕ)). if list_any (bytes_eq c.args.key.items) l then l else l ++ (c.args.key.items ∷ [])) c.self.view_is
