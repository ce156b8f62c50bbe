use Rattle.std.proofs.Common.{sym, ap, ◌∙◌, rules}
use Rattle.letters.proofs.Fronts.{one_front, two_front, alone, no_equal}
use Rattle.letters.proofs.symbol.first_symbol.Goals as goal
use Rattle.letters.specs.Symbols.{symbol_at}

pub returns-in-33 : goal.returns-in-33
returns-in-33 c = sym (ap symbol_at (two_front c.args.text.now 33 61 (search rules) (search rules) (search rules)))

pub returns-in-33-2 : goal.returns-in-33-2
returns-in-33-2 c = sym (ap symbol_at (one_front c.args.text.now 33 (search rules) (search rules)) ∙ alone 33 _ (no_equal c.args.text.now (search rules)))

pub returns-in-60 : goal.returns-in-60
returns-in-60 c = sym (ap symbol_at (two_front c.args.text.now 60 61 (search rules) (search rules) (search rules)))

pub returns-in-60-2 : goal.returns-in-60-2
returns-in-60-2 c = sym (ap symbol_at (one_front c.args.text.now 60 (search rules) (search rules)) ∙ alone 60 _ (no_equal c.args.text.now (search rules)))

pub returns-in-62 : goal.returns-in-62
returns-in-62 c = sym (ap symbol_at (two_front c.args.text.now 62 61 (search rules) (search rules) (search rules)))

pub returns-in-62-2 : goal.returns-in-62-2
returns-in-62-2 c = sym (ap symbol_at (one_front c.args.text.now 62 (search rules) (search rules)) ∙ alone 62 _ (no_equal c.args.text.now (search rules)))

pub returns-in-40 : goal.returns-in-40
returns-in-40 c = sym (ap symbol_at (one_front c.args.text.now 40 (search rules) (search rules)))

pub returns-in-41 : goal.returns-in-41
returns-in-41 c = sym (ap symbol_at (one_front c.args.text.now 41 (search rules) (search rules)))

pub returns-in-43 : goal.returns-in-43
returns-in-43 c = sym (ap symbol_at (one_front c.args.text.now 43 (search rules) (search rules)))

pub returns-in-44 : goal.returns-in-44
returns-in-44 c = sym (ap symbol_at (one_front c.args.text.now 44 (search rules) (search rules)))

pub returns-in-45 : goal.returns-in-45
returns-in-45 c = sym (ap symbol_at (one_front c.args.text.now 45 (search rules) (search rules)))

pub returns-in-46 : goal.returns-in-46
returns-in-46 c = sym (ap symbol_at (one_front c.args.text.now 46 (search rules) (search rules)))

pub returns-in-61 : goal.returns-in-61
returns-in-61 c = sym (ap symbol_at (one_front c.args.text.now 61 (search rules) (search rules)))

pub returns-in-91 : goal.returns-in-91
returns-in-91 c = sym (ap symbol_at (one_front c.args.text.now 91 (search rules) (search rules)))

pub returns-in-93 : goal.returns-in-93
returns-in-93 c = sym (ap symbol_at (one_front c.args.text.now 93 (search rules) (search rules)))
