-- The law of the grammar: a row of tokens has at most one reading, the readers find it, and a fault stands where no reading goes on.
-- Assumes nothing.
use Rattle.std.specs.Prelude.{◌≡◌, ℕ, suc, ◌⊎◌, List, [], ◌∷◌, ◌++◌, Ok, Err}
use Rattle.grammar.specs.Grammar.{ReadsQuery}
use Rattle.grammar.specs.Reading.{query_at}
use Rattle.grammar.specs.Syntax.{Syntax}
use Rattle.grammar.specs.declared.fault.GrammarFault.TheVariants.{WrongToken, TooDeep}
use Rattle.letters.specs.Tokens.{Placed}

-- some query whose conditions nest at most d deep begins with these tokens
abbrev pub Begins : ℕ → List Placed → Type 0
Begins d front = (tail : List Placed) × (q : Syntax) × ReadsQuery d (front ++ tail) q

-- the token of ts at the place p, and those before it
pub record At (ts : List Placed) (p : ℕ) : Type 0 where
  pub front : List Placed
  pub it : Placed
  pub rest : List Placed
  pub whole : ts ≡ front ++ (it ∷ rest)
  pub place : it.1 ≡ p

-- A wrong token: the tokens before it begin some query, and with it they begin none, however deep. Or the text ends too soon.
abbrev pub GoesWrong : ℕ → ℕ → List Placed → ℕ → Type 0
GoesWrong d end ts p =
    ((a : At ts p) × Begins d a.front × ((e : ℕ) → Begins e (a.front ++ (a.it ∷ [])) → ⊥))
    ⊎ ((p ≡ end) × Begins d ts × ((e : ℕ) (q : Syntax) → ReadsQuery e ts q → ⊥))

-- Too deep: with this token they begin some query, but none that nests at most d deep.
abbrev pub GoesDeep : ℕ → List Placed → ℕ → Type 0
GoesDeep d ts p = (a : At ts p) × Begins d a.front × Begins (suc d) (a.front ++ (a.it ∷ [])) × (Begins d (a.front ++ (a.it ∷ [])) → ⊥)

pub record GrammarLaw (d end : ℕ) (ts : List Placed) : Type 0 where
  -- what is answered is a reading, and each reading is answered
  pub sound : (q : Syntax) → query_at d end ts ≡ Ok q → ReadsQuery d ts q
  pub complete : (q : Syntax) → ReadsQuery d ts q → query_at d end ts ≡ Ok q
  -- there is at most one, at any depths
  pub one : (e f : ℕ) (q r : Syntax) → ReadsQuery e ts q → ReadsQuery f ts r → q ≡ r
  pub wrong : (p : ℕ) → query_at d end ts ≡ Err (WrongToken p) → GoesWrong d end ts p
  pub deep : (p : ℕ) → query_at d end ts ≡ Err (TooDeep p) → GoesDeep d ts p

abbrev pub GrammarHolds : Type 0
GrammarHolds = (d end : ℕ) (ts : List Placed) → GrammarLaw d end ts
