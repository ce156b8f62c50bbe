use Rattle.grammar.proofs.law.grammar_holds.Goals as goal
use Rattle.grammar.proofs.Whole.{grammar_law}

pub returns : goal.returns
returns c = grammar_law
