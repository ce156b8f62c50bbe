-- Faults of grammar. Assumes nothing.
use Rattle.std.specs.Prelude.{ℕ}
use Rattle.grammar.specs.declared.fault.GrammarFault.{GrammarFault}
use Rattle.grammar.specs.declared.fault.GrammarFault.TheVariants.{WrongToken, TooDeep}

abbrev pub number_of : GrammarFault → ℕ
number_of (WrongToken p) = 4
number_of (TooDeep p) = 5

abbrev pub place_of : GrammarFault → ℕ
place_of (WrongToken p) = p
place_of (TooDeep p) = p
