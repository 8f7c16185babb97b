use Rattle.std.proofs.Common.{◌∙◌, ap}
use Rattle.std.specs.Str.{bytes_eq}
use Rattle.std.specs.List.{list_any}
use Rattle.pddl_names.proofs.Numbered.{any_of_contents}
use Rattle.ground_world.proofs.numbering.Numbering.has.Goals as goal

pub returns : goal.returns
returns c = c.contains.ensures ∙ any_of_contents (bytes_eq c.args.key.now) c.self.inside.keys.keys ∙ ap (list_any (bytes_eq c.args.key.now)) c.self.view_is
