use Rattle.std.proofs.Common.{◌∙◌, ap, List, ℕ, [], ◌∷◌, ◌++◌, if◌then◌else◌}
use Rattle.std.specs.Str.{bytes_eq}
use Rattle.std.specs.List.{list_any}
use Rattle.pddl_names.proofs.Numbered.{contents, added_contents}
use Rattle.pddl_names.proofs.names.Names.add.Goals as goal

pub returns : goal.returns
returns c =
    let key = c.in_ok-from_slice.field-0 in
    ap contents c.in_ok-insert.ensures.keys ∙ added_contents c.self.inside.keys.keys key
    ∙ ap (λ (l : List (List ℕ)). if list_any (bytes_eq key.items) l then l else l ++ (key.items ∷ [])) c.self.view_is
    ∙ ap (λ (k : List ℕ). if list_any (bytes_eq k) c.args.self.now then c.args.self.now else c.args.self.now ++ (k ∷ [])) c.in_ok-from_slice.ensures.items
