use Rattle.std.proofs.Common.{◌+◌, ◌*◌}
use Rattle.grammar.specs.Known.{is_word}
use Rattle.grammar.specs.Shown.{count}
use Rattle.letters.specs.declared.word.Class.TheVariants as class
use Rattle.query.proofs.Nested.{and_next, or_next}
use Rattle.query.proofs.Rows.{Sofar}
use Rattle.query.proofs.descent.Reader.+condition.Given as goal

abbrev pub decreases-read_unit : goal.decreases-read_unit
decreases-read_unit l = l.depth * 3

abbrev pub decreases-read_all : goal.decreases-read_all
decreases-read_all l = l.depth * 3 + 1

abbrev pub decreases-read_either : goal.decreases-read_either
decreases-read_either l = l.depth * 3 + 2

abbrev pub invariant-read_all-loop-self : goal.invariant-read_all-loop-self
invariant-read_all-loop-self l = Sofar (is_word class.And) (and_next l.depth) l.initial.self l.self

abbrev pub decreases-read_all-loop-self : goal.decreases-read_all-loop-self
decreases-read_all-loop-self l = count l.self.tokens

abbrev pub invariant-read_either-loop-self : goal.invariant-read_either-loop-self
invariant-read_either-loop-self l = Sofar (is_word class.Or) (or_next l.depth) l.initial.self l.self

abbrev pub decreases-read_either-loop-self : goal.decreases-read_either-loop-self
decreases-read_either-loop-self l = count l.self.tokens
