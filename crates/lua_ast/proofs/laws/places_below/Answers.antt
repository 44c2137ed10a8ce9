use Rattle.lua_ast.proofs.PlacesBelow.{each_below, each_field_below, below_push, fields_below_push, below_more, fields_below_more}
use Rattle.lua_ast.proofs.laws.places_below.Goals as goal

pub returns-clause-each : goal.returns-clause-each
returns-clause-each c = λ n is k i below at. each_below n is k i below at

pub returns-clause-each_field : goal.returns-clause-each_field
returns-clause-each_field c = λ n fs k f below at. each_field_below n fs k f below at

pub returns-clause-one_more : goal.returns-clause-one_more
returns-clause-one_more c = λ n is i below last. below_push n is i below last

pub returns-clause-one_more_field : goal.returns-clause-one_more_field
returns-clause-one_more_field c = λ n fs f below last. fields_below_push n fs f below last

pub returns-clause-greater : goal.returns-clause-greater
returns-clause-greater c = λ n m is h below. below_more n m is h below

pub returns-clause-greater_fields : goal.returns-clause-greater_fields
returns-clause-greater_fields c = λ n m fs h below. fields_below_more n m fs h below
