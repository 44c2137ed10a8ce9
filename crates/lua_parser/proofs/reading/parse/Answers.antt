use Rattle.lua_parser.proofs.Readings.{answers_tree, answers_ok, answers_err, are_fit}
use Rattle.lua_parser.proofs.reading.parse.Goals as goal

pub parse_tokens-requires-clause-fit : goal.parse_tokens-requires-clause-fit
parse_tokens-requires-clause-fit c = are_fit c.args.text.now c.args.tokens.now (c.tokens_of_text.ensures.order c.args.text.now c.args.tokens.now c.requires.tokens) (c.tokens_of_text.ensures.spelled c.args.text.now c.args.tokens.now c.requires.tokens) (λ s h. c.values_of_tokens.ensures.small s h)

pub returns-clause-tree : goal.returns-clause-tree
returns-clause-tree c = answers_ok c.args.text.now c.args.tokens.now c.parse_tokens.result c.parse_tokens.ensures.answers

pub returns-clause-whole : goal.returns-clause-whole
returns-clause-whole c = λ t p. answers_tree c.args.text.now c.args.tokens.now c.parse_tokens.result c.parse_tokens.ensures.answers t p

pub returns-clause-fails : goal.returns-clause-fails
returns-clause-fails c = answers_err c.args.text.now c.args.tokens.now c.parse_tokens.result c.parse_tokens.ensures.answers
