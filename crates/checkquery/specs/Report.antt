-- What is answered to a query text. Assumes nothing.
use Rattle.std.specs.Prelude.{ℕ, List, [], ◌∷◌, ◌++◌, Ok, Err, Result}
use Rattle.checkquery.specs.Printed.{fault_line, summary_line}
use Rattle.checkquery.specs.Quote.{quote_of}
use Rattle.query.specs.Faults.{place_of, word_of}
use Rattle.query.specs.declared.fault.Fault.{Fault}
use Rattle.sense.specs.Meaning.{Reading}

-- what is in the query, or its fault and where that stands
abbrev pub report_of : List ℕ → Result Reading Fault → List ℕ
report_of text (Ok r) = summary_line r ++ (10 ∷ [])
report_of text (Err f) = fault_line f ++ (10 ∷ quote_of text (place_of f) (word_of f))
