use Rattle.std.proofs.Common.{◌∙◌, ap, sym}
use Rattle.std.specs.Str.{bytes_eq}
use Rattle.std.specs.List.{list_any}
use Rattle.std.proofs.lemmas.List.Sorted.{list_any-IsPermutation}
use Rattle.pddl_names.proofs.Numbered.{any_of_contents}
use Rattle.ground_world.proofs.Ascending.{sorted-contents}
use Rattle.ground_world.proofs.numbering.Numbering.sort.Goals as goal

pub returns-clause-sorted : goal.returns-clause-sorted
returns-clause-sorted c = sorted-contents c.sort.new.self.keys c.in_ok-sort.ensures.sorted c.in_ok-sort.ensures.unique

pub returns-clause-members : goal.returns-clause-members
returns-clause-members c = λ a.
    sym (any_of_contents (bytes_eq a) c.sort.new.self.keys)
    ∙ sym (list_any-IsPermutation (λ k. bytes_eq a k.items) c.self.inside.keys.keys c.sort.new.self.keys c.in_ok-sort.ensures.reordered.0)
    ∙ any_of_contents (bytes_eq a) c.self.inside.keys.keys ∙ ap (list_any (bytes_eq a)) c.self.view_is
