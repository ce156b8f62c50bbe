-- A whole text's draft, piece by piece. Assumes nothing.
use Rattle.std.specs.Prelude.{List}
use Rattle.grammar.specs.Syntax.{Cond, Clause, Word, Part, Syntax}
use Rattle.grammar.specs.Syntax.Clause.{same_key, condition}
use Rattle.grammar.specs.Syntax.Cond.{test, both, either}
use Rattle.sense.specs.Drafted.{no_draft, part_begun, kind_added, part_ended, parts_ended, with_clauses, key_asked, clause_begun, clause_ended, joined, test_added, window_set}
use Rattle.sense.specs.declared.clauses.Step.TheVariants.{And, Or}
use Rattle.std.specs.List.{fold}
use Rattle.sense.specs.declared.draft.Draft.{Draft}

abbrev pub kinds_drafted : Draft → List Word → Draft
kinds_drafted d ws = fold kind_added d ws

abbrev pub part_drafted : Draft → Part → Draft
part_drafted d p = part_ended (kinds_drafted (part_begun d) p.kinds) p.place p.negative (p.variable.letter, p.variable.place)

abbrev pub parts_drafted : Draft → List Part → Draft
parts_drafted d ps = fold part_drafted d ps

abbrev pub cond_drafted : Draft → Cond → Draft
cond_drafted d (test w) = test_added d w.says w.place
cond_drafted d (both a b) = joined (cond_drafted (cond_drafted d a) b) And
cond_drafted d (either a b) = joined (cond_drafted (cond_drafted d a) b) Or

abbrev pub clause_drafted : Draft → Clause → Draft
clause_drafted d same_key = with_clauses d (key_asked d.clauses)
clause_drafted d (condition p c) = clause_ended (cond_drafted (with_clauses d (clause_begun d.clauses)) c) p

abbrev pub clauses_drafted : Draft → List Clause → Draft
clauses_drafted d cs = fold clause_drafted d cs

abbrev pub drafted : Syntax → Draft
drafted q = window_set (clauses_drafted (parts_ended (parts_drafted no_draft q.parts)) q.clauses) (q.window, q.window_place)
