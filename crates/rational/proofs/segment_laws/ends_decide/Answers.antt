use Rattle.rational.proofs.Segments.{between, ends_from_between}
use Rattle.rational.proofs.segment_laws.ends_decide.Goals as goal

pub returns-clause-between : goal.returns-clause-between
returns-clause-between _ = λ c m lo hi p q t. between c m lo hi t p q

pub returns-clause-ends : goal.returns-clause-ends
returns-clause-ends _ = ends_from_between
