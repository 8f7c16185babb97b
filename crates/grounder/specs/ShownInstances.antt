-- Believed: which bindings of actions the code's instances are.
use Rattle.std.specs.Prelude.{List, map}
use Rattle.grounder.specs.Instances as instances
use Rattle.grounder.specs.declared.instances.Instance.{Instance}

abbrev pub instance_of : Instance → instances.Instance
instance_of i = record { action = i.action.now; args = i.args }

abbrev pub all_of : List Instance → List instances.Instance
all_of is = map instance_of is
