-- That the examples come out.
use Rattle.std.proofs.Common.{refl}
use Rattle.pddl_names.specs.Fitting.{fits, chain}
use Rattle.pddl_names.specs.Calls.{misfits, call_offences}
use Rattle.pddl_names.specs.Examples.{ExamplesComeOut}

pub examples_come_out : ExamplesComeOut
unfolding fits chain misfits call_offences
examples_come_out = record {
  type_twice_is_double = refl;
  object_is_declared = refl;
  unknown_type_is_name = refl;
  parameter_twice_is_double = refl;
  rings_are_taken = refl;
  ring_fits = refl;
  ring_fits_back = refl;
  apart_does_not_fit = refl;
  object_is_not_below = refl;
  left_out_fits = refl;
  subtype_taken = refl;
  other_type_refused = refl;
  unknown_object = refl;
  unknown_predicate = refl;
  too_few_terms = refl;
  valued_twice = refl;
  function_and_constant = refl;
  variable_and_function = refl;
  two_functions = refl;
  constant_and_expression = refl;
}
