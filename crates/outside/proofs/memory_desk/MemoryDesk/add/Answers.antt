use Rattle.outside.proofs.Files.{files_of-insert}
use Rattle.outside.proofs.memory_desk.MemoryDesk.add.Goals as goal

pub returns-clause-added : goal.returns-clause-added
returns-clause-added c =
    let same = files_of-insert c.self.inside.files c.insert.new.self c.in_ok-name.name c.in_ok-bytes.bytes c.in_ok-insert.ensures.updates in
    rw (← c.self.view_is) (cc (same, c.in_ok-name.ensures.ok, c.in_ok-bytes.ensures.items))
