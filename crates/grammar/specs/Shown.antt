-- What the readers give, with the tokens that are then ahead. Assumes nothing.
use Rattle.std.specs.Prelude.{◌≡◌, IfOk, OnErr, ℕ, ◌<◌, ◌≤◌, Bool, true, false, List, [], ◌∷◌, length, Some, None, Ok, Err, Option, Result}
use Rattle.std.specs.Borrow.{Bor}
use Rattle.grammar.specs.Reading.{Read, past}
use Rattle.grammar.specs.Syntax.{Word, Written}
use Rattle.grammar.specs.declared.fault.GrammarFault.{GrammarFault}
use Rattle.grammar.specs.declared.fault.GrammarFault.TheVariants.{WrongToken}
use Rattle.grammar.specs.declared.test.Name.{Name}
use Rattle.grammar.specs.declared.test.Test.{Test}
use Rattle.letters.specs.Tokens.{Tok, Placed, placed, ahead, end_of, first_of}
use Rattle.letters.specs.declared.token.Spanned.{Spanned}
use Rattle.letters.specs.declared.token.Token.{Token}
use Rattle.letters.specs.declared.token.Tokens.{Tokens}
use Rattle.std.specs.Option.{option_map}

-- how many tokens are ahead
abbrev pub count : Tokens → ℕ
count s = length (ahead s)

-- a token at least was taken, and the text is the same
pub record Onward (s t : Tokens) : Type 0 where
  pub fewer : count t < count s
  pub end : end_of t ≡ end_of s

-- likewise, or none was
pub record NotBack (s t : Tokens) : Type 0 where
  pub no_more : count t ≤ count s
  pub end : end_of t ≡ end_of s

-- what a reader gives, told by f, and the tokens that are then ahead
abbrev pub shown_by : {X Y : Type 0} → (X → Y) → Result X GrammarFault → Tokens → Read Y
shown_by f (Ok x) t = Ok (f x, ahead t)
shown_by f (Err e) t = Err e

-- likewise, told as it is
abbrev pub shown : {X : Type 0} → Result X GrammarFault → Tokens → Read X
shown r t = shown_by (λ x. x) r t

-- a reader that reads from s as p says, told by f, and leaves t; if it gives no fault, it took a token at least
pub record GoesOnAs {X Y : Type 0} (f : X → Y) (p : ℕ → List Placed → Read Y) (s : Tokens) (r : Result X GrammarFault) (t : Tokens) : Type 0 where
  pub value : shown_by f r t ≡ p (end_of s) (ahead s)
  pub onward : IfOk r (λ x. Onward s t)

-- likewise, told as it is
abbrev pub GoesOn : {X : Type 0} → (ℕ → List Placed → Read X) → Tokens → Result X GrammarFault → Tokens → Type 0
GoesOn p s r t = GoesOnAs (λ x. x) p s r t

-- likewise, told by f, and if it gives a fault, it took none
pub record TakesAs {X Y : Type 0} (f : X → Y) (p : ℕ → List Placed → Read Y) (s : Tokens) (r : Result X GrammarFault) (t : Tokens) : Type 0 where
  pub value : shown_by f r t ≡ p (end_of s) (ahead s)
  pub onward : IfOk r (λ x. Onward s t)
  pub back : OnErr r (t ≡ s)

-- likewise, told as it is
abbrev pub Takes : {X : Type 0} → (ℕ → List Placed → Read X) → Tokens → Result X GrammarFault → Tokens → Type 0
Takes p s r t = TakesAs (λ x. x) p s r t

abbrev pub bytes_and_place : Bor (List ℕ) × ℕ → Word
bytes_and_place w = (w.0.now, w.1)

-- the tokens that are then ahead, if one was taken
abbrev pub rest_shown : Bool → Tokens → Option (List Placed)
rest_shown false t = None
rest_shown true t = Some (ahead t)

-- one was taken, or nothing happened
abbrev pub Moved : Bool → Tokens → Tokens → Type 0
Moved true s t = Onward s t
Moved false s t = t ≡ s

-- the first token is taken if it passes the test f
pub record Skips (f : Tok → Bool) (s : Tokens) (taken : Bool) (t : Tokens) : Type 0 where
  pub value : rest_shown taken t ≡ past f (ahead s)
  pub moved : Moved taken s t

-- the first token, or that there is none
abbrev pub First : Result Spanned GrammarFault → Tokens → Type 0
First (Ok x) s = first_of (ahead s) ≡ Some (placed x)
First (Err e) s = (ahead s ≡ []) × (e ≡ WrongToken (end_of s))

-- likewise, and the others
abbrev pub Next : Tokens → Result Spanned GrammarFault → Tokens → Type 0
Next s (Ok x) t = ahead s ≡ placed x ∷ ahead t
Next s (Err e) t = (ahead s ≡ []) × (e ≡ WrongToken (end_of s))

-- the first token is taken if it passes the test f: its place, and whether it was; or there is none
abbrev pub Looks : (Tok → Bool) → Tokens → Result (ℕ × Bool) GrammarFault → Tokens → Type 0
Looks f s (Ok x) t = (option_map (λ (p : Placed). p.1) (first_of (ahead s)) ≡ Some x.0) × Skips f s x.1 t
Looks f s (Err e) t = (ahead s ≡ []) × (e ≡ WrongToken (end_of s)) × (t ≡ s)

-- a call with the first token gave something, or nothing; or there is no token
pub data Known {X : Type 0} (gives : Token → Option X → Type 0) (s t : Tokens) : Result (X × ℕ) GrammarFault → Type 0 where
  knows : (x : Spanned) (it : X) → ahead s ≡ placed x ∷ ahead t → gives x.token (Some it) → Known gives s t (Ok (it, x.place))
  wrong : (x : Spanned) (after : List Placed) → ahead s ≡ placed x ∷ after → gives x.token None → Known gives s t (Err (WrongToken x.place))
  ends : ahead s ≡ [] → Known gives s t (Err (WrongToken (end_of s)))

abbrev pub as_written : Test Name × ℕ → Written
as_written t = record { says = t.0; place = t.1 }
