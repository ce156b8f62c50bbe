-- A text as its tokens. Assumes nothing.
use Rattle.std.specs.Prelude.{◌≡◌, ℕ, zero, suc, ◌-◌, ◌<◌, cond, List, [], ◌∷◌, length, take, drop, Some, None, Option, IfSome}
use Rattle.std.specs.Borrow.{Bor}
use Rattle.letters.specs.Bytes.{is_digit, is_letter, is_word, is_blank}
use Rattle.letters.specs.Symbols.{Found, symbol_at}
use Rattle.letters.specs.declared.symbol.Symbol.{Symbol}
use Rattle.letters.specs.declared.token.Spanned.{Spanned}
use Rattle.letters.specs.declared.token.Token.{Token}
use Rattle.letters.specs.declared.token.Token.TheVariants.{Word, Number, Mark, Stray}
use Rattle.letters.specs.declared.token.Tokens.{Tokens}
use Rattle.std.specs.List.{prefix_len}

-- a token by its bytes
pub data Tok : Type 0 where
  word : List ℕ → Tok
  number : List ℕ → Tok
  mark : Symbol → Tok
  stray : ℕ → Tok

-- a token, and what follows it
abbrev pub Cut : Type 0
Cut = Option (Tok × List ℕ)

-- a symbol, or else the first byte alone, which begins no token of a query
abbrev pub marked : ℕ → List ℕ → Found → Cut
marked b bs None = Some (stray b, bs)
marked b bs (Some p) = Some (mark p.0, p.1)

-- The token at the front: behind a digit the longest run of digits, behind a letter the longest run of letters and digits, or else
-- the longest symbol.
abbrev pub token_at : List ℕ → Cut
token_at [] = None
token_at (b ∷ bs) =
    cond (is_digit b) (Some (number (take (prefix_len is_digit (b ∷ bs)) (b ∷ bs)), drop (prefix_len is_digit (b ∷ bs)) (b ∷ bs)))
    (cond (is_letter b) (Some (word (take (prefix_len is_word (b ∷ bs)) (b ∷ bs)), drop (prefix_len is_word (b ∷ bs)) (b ∷ bs)))
    (marked b bs (symbol_at (b ∷ bs))))

-- a token and its place
abbrev pub Placed : Type 0
Placed = Tok × ℕ

abbrev pub past_blanks : List ℕ → List ℕ
past_blanks bs = drop (prefix_len is_blank bs) bs

-- a token, with its place in a text that has `end` bytes in all, of which `left` are left with it
abbrev pub with_place : ℕ → ℕ → Cut → Option (Placed × List ℕ)
with_place end left None = None
with_place end left (Some c) = Some ((c.0, end - left), c.1)

-- the first token of what is left of a text, behind the blanks, and what follows it
abbrev pub next_cut : ℕ → List ℕ → Option (Placed × List ℕ)
next_cut end bs = with_place end (length (past_blanks bs)) (token_at (past_blanks bs))

-- all of them
abbrev pub after_cut : ℕ → ℕ → Cut → (List ℕ → List Placed) → List Placed
after_cut end left None more = []
after_cut end left (Some c) more = (c.0, end - left) ∷ more c.1

-- a token takes a byte at least, so as many turns as there are bytes suffice
abbrev pub tokens_by : ℕ → ℕ → List ℕ → List Placed
tokens_by zero end bs = []
tokens_by (suc turns) end bs = after_cut end (length (past_blanks bs)) (token_at (past_blanks bs)) (tokens_by turns end)

abbrev pub tokens_of : ℕ → List ℕ → List Placed
tokens_of end bs = tokens_by (length bs) end bs

-- what the code gives, by the bytes
abbrev pub seen : Token → Tok
seen (Word s) = word s.now
seen (Number s) = number s.now
seen (Mark s) = mark s
seen (Stray b) = stray b

abbrev pub token_seen : Option (Token × Bor (List ℕ)) → Cut
token_seen None = None
token_seen (Some p) = Some (seen p.0, p.1.now)

abbrev pub placed : Spanned → Placed
placed s = (seen s.token, s.place)

-- the first of them
abbrev pub first_of : List Placed → Option Placed
first_of [] = None
first_of (t ∷ ts) = Some t

-- what is left of the text of a reader of tokens, how long the whole text is, and the tokens that lie ahead
unfoldable pub left : Tokens → List ℕ
left s = s.rest.now

unfoldable pub end_of : Tokens → ℕ
end_of s = s.end

unfoldable pub ahead : Tokens → List Placed
ahead s = tokens_of (end_of s) (left s)

abbrev pub next_seen : Option (Spanned × Tokens) → Option (Placed × List ℕ)
next_seen None = None
next_seen (Some p) = Some (placed p.0, left p.1)

-- all tokens, by the first of them and by what follows it
abbrev pub first_and_others : Option (Spanned × Tokens) → List Placed
first_and_others None = []
first_and_others (Some p) = placed p.0 ∷ ahead p.1

-- the first token ahead of a reader, and the reader behind it
pub record Cuts (s : Tokens) (found : Option (Spanned × Tokens)) : Type 0 where
  pub value : next_seen found ≡ next_cut (end_of s) (left s)
  pub tokens : first_and_others found ≡ ahead s
  pub end : IfSome found (λ p. end_of p.1 ≡ end_of s)
  pub shorter : IfSome found (λ p. length (left p.1) < length (left s))

-- one call of the reader: what it gives and leaves
abbrev pub reads : Tokens → Option Spanned → Tokens → Type 0
reads s None t = Cuts s None × (t ≡ s)
reads s (Some x) t = Cuts s (Some (x, t))
