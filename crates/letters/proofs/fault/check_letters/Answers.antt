use Rattle.std.proofs.Common.{rules}
use Rattle.letters.proofs.Least.{letters_law}
use Rattle.letters.proofs.fault.check_letters.Goals as goal

pub returns-in_err-judge : goal.returns-in_err-judge
returns-in_err-judge c = record { answer = search rules; law = letters_law c.args.text.now }

pub returns : goal.returns
returns c = record { answer = search rules; law = letters_law c.args.text.now }
