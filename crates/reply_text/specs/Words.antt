-- Believed: the words for kinds of faults.
use Rattle.std.specs.Prelude.{ℕ, List, codes}
use Rattle.pddl_terms.specs.declared.faults.Kind.{Kind}
use Rattle.pddl_terms.specs.declared.faults.Kind.TheVariants as kind
use Rattle.grounder.specs.declared.faults.LimitName.{LimitName}
use Rattle.grounder.specs.declared.faults.LimitName.TheVariants as limit

-- what is wrong at a place of a domain or a problem
abbrev pub kind_word : Kind → List ℕ
kind_word kind.Shape = codes "Shape"
kind_word kind.Name = codes "Name"
kind_word kind.Double = codes "Double"
kind_word kind.Sort = codes "Sort"
kind_word kind.Arity = codes "Arity"
kind_word kind.Strict = codes "Strict"
kind_word kind.Nonlinear = codes "Nonlinear"
kind_word kind.LeftOut = codes "LeftOut"
kind_word kind.Requirement = codes "Requirement"
kind_word kind.MetricSign = codes "MetricSign"
kind_word kind.TilClash = codes "TilClash"
kind_word kind.Limit = codes "Limit"

-- what of a ground task passed its limit
abbrev pub limit_word : LimitName → List ℕ
limit_word limit.Bindings = codes "Bindings"
limit_word limit.Facts = codes "Facts"
limit_word limit.Fluents = codes "Fluents"
limit_word limit.Actions = codes "Actions"
limit_word limit.Terms = codes "Terms"
limit_word limit.Timed = codes "Timed"
limit_word limit.Watches = codes "Watches"
limit_word limit.Moments = codes "Moments"
