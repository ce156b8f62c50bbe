-- What a token is to the grammar. Assumes nothing.
use Rattle.std.specs.Prelude.{ℕ, Bool, false, cond, List, Some, None, Option, ◌==◌}
use Rattle.grammar.specs.declared.test.Comparison.{Comparison}
use Rattle.grammar.specs.declared.test.Comparison.TheVariants as compares
use Rattle.letters.specs.Numbers.{number_value}
use Rattle.letters.specs.Tokens.{Tok}
use Rattle.letters.specs.Tokens.Tok.{word, number, mark, stray}
use Rattle.letters.specs.Words.{class_of}
use Rattle.letters.specs.declared.symbol.Symbol.{Symbol}
use Rattle.letters.specs.declared.symbol.Symbol.TheVariants.{Open, Close, Comma, Not, Dot, OpenSquare, CloseSquare, Plus, Minus, Equal, NotEqual, Less, AtMost, Greater, AtLeast}
use Rattle.letters.specs.declared.word.Class.{Class}
use Rattle.letters.specs.declared.word.Class.TheVariants.{Event, Seq, Where, Within, And, Or, Any, Key, Reading, Variable, Kind}

-- symbols and classes of words by number, to tell them apart
abbrev pub sign : Symbol → ℕ
sign Open = 0
sign Close = 1
sign Comma = 2
sign Not = 3
sign Dot = 4
sign OpenSquare = 5
sign CloseSquare = 6
sign Plus = 7
sign Minus = 8
sign Equal = 9
sign NotEqual = 10
sign Less = 11
sign AtMost = 12
sign Greater = 13
sign AtLeast = 14

abbrev pub rank : Class → ℕ
rank Event = 0
rank Seq = 1
rank Where = 2
rank Within = 3
rank And = 4
rank Or = 5
rank Any = 6
rank Key = 7
rank (Reading n) = 8
rank (Variable v) = 9
rank Kind = 10

-- the number of a reading, and the letter of a variable
abbrev pub held : Class → ℕ
held Event = 0
held Seq = 0
held Where = 0
held Within = 0
held And = 0
held Or = 0
held Any = 0
held Key = 0
held (Reading n) = n
held (Variable v) = v
held Kind = 0

-- the token is this symbol
abbrev pub is_mark : Symbol → Tok → Bool
is_mark s (word w) = false
is_mark s (number ds) = false
is_mark s (mark m) = sign m == sign s
is_mark s (stray b) = false

-- the token is a word of this class
abbrev pub is_word : Class → Tok → Bool
is_word c (word w) = rank (class_of w) == rank c
is_word c (number ds) = false
is_word c (mark m) = false
is_word c (stray b) = false

-- the class of a word
abbrev pub class_in : Tok → Option Class
class_in (word w) = Some (class_of w)
class_in (number ds) = None
class_in (mark m) = None
class_in (stray b) = None

-- the letter of a variable
abbrev pub variable_of : Tok → Option ℕ
variable_of (word w) = cond (rank (class_of w) == 9) (Some (held (class_of w))) None
variable_of (number ds) = None
variable_of (mark m) = None
variable_of (stray b) = None

-- the number of a reading
abbrev pub reading_of : Tok → Option ℕ
reading_of (word w) = cond (rank (class_of w) == 8) (Some (held (class_of w))) None
reading_of (number ds) = None
reading_of (mark m) = None
reading_of (stray b) = None

-- the bytes of a kind word
abbrev pub kind_of : Tok → Option (List ℕ)
kind_of (word w) = cond (rank (class_of w) == 10) (Some w) None
kind_of (number ds) = None
kind_of (mark m) = None
kind_of (stray b) = None

-- the value of a number
abbrev pub number_of : Tok → Option ℕ
number_of (word w) = None
number_of (number ds) = number_value ds
number_of (mark m) = None
number_of (stray b) = None

abbrev pub compared : Symbol → Option Comparison
compared Open = None
compared Close = None
compared Comma = None
compared Not = None
compared Dot = None
compared OpenSquare = None
compared CloseSquare = None
compared Plus = None
compared Minus = None
compared Equal = Some compares.Equal
compared NotEqual = Some compares.NotEqual
compared Less = Some compares.Less
compared AtMost = Some compares.AtMost
compared Greater = Some compares.Greater
compared AtLeast = Some compares.AtLeast

abbrev pub comparison_of : Tok → Option Comparison
comparison_of (word w) = None
comparison_of (number ds) = None
comparison_of (mark m) = compared m
comparison_of (stray b) = None
