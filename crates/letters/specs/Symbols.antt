-- The symbols of a query, and the longest that fits. Assumes nothing.
use Rattle.std.specs.Prelude.{ℕ, Bool, false, cond, ◌&&◌, ◌||◌, List, [], ◌∷◌, drop, Some, None, Option, ◌==◌}
use Rattle.std.specs.Borrow.{Bor}
use Rattle.letters.specs.declared.symbol.Symbol.{Symbol}
use Rattle.letters.specs.declared.symbol.Symbol.TheVariants.{Open, Close, Comma, Not, Dot, OpenSquare, CloseSquare, Plus, Minus, Equal, NotEqual, Less, AtMost, Greater, AtLeast}

-- a symbol, and what follows it
abbrev pub Found : Type 0
Found = Option (Symbol × List ℕ)

-- ( ) , ! . [ ] + - = < >
abbrev pub one_byte : ℕ → List ℕ → Found
one_byte b rest =
    cond (b == 40) (Some (Open, rest))
    (cond (b == 41) (Some (Close, rest))
    (cond (b == 44) (Some (Comma, rest))
    (cond (b == 33) (Some (Not, rest))
    (cond (b == 46) (Some (Dot, rest))
    (cond (b == 91) (Some (OpenSquare, rest))
    (cond (b == 93) (Some (CloseSquare, rest))
    (cond (b == 43) (Some (Plus, rest))
    (cond (b == 45) (Some (Minus, rest))
    (cond (b == 61) (Some (Equal, rest))
    (cond (b == 60) (Some (Less, rest))
    (cond (b == 62) (Some (Greater, rest)) None)))))))))))

-- ! < > become other symbols where = follows
abbrev pub takes_equal : ℕ → Bool
takes_equal b = b == 33 || (b == 60 || b == 62)

-- != <= >=
abbrev pub two_bytes : ℕ → List ℕ → Found
two_bytes b rest = cond (b == 33) (Some (NotEqual, rest)) (cond (b == 60) (Some (AtMost, rest)) (cond (b == 62) (Some (AtLeast, rest)) None))

abbrev pub equal_next : List ℕ → Bool
equal_next [] = false
equal_next (c ∷ rest) = c == 61

-- the longest symbol at the front
abbrev pub symbol_at : List ℕ → Found
symbol_at [] = None
symbol_at (b ∷ rest) = cond (takes_equal b && equal_next rest) (two_bytes b (drop 1 rest)) (one_byte b rest)

-- what the code gives, with the bytes in the place of the reference to them
abbrev pub symbol_seen : Option (Symbol × Bor (List ℕ)) → Found
symbol_seen None = None
symbol_seen (Some p) = Some (p.0, p.1.now)
