use Rattle.std.proofs.Common.{◌≡◌, length}
use Rattle.letters.proofs.fault.check_letters.Given as goal
use Rattle.letters.specs.Faults.{first_fault}
use Rattle.letters.specs.Tokens.{ahead, tokens_of}

-- the tokens that are left decide
abbrev pub invariant-loop-token : goal.invariant-loop-token
invariant-loop-token l = first_fault (ahead l.token-iterator) ≡ first_fault (tokens_of (length l.text) l.text)
