-- How what readers give is told in another way. Assumes nothing.
use Rattle.std.proofs.Common.{◌≡◌, ℕ, zero, suc, Bool, true, false, cond, List, [], ◌∷◌, length, Some, None, Ok, Err, Option, sym, refl, ap, ◌∙◌}
use Rattle.grammar.specs.Reading.{Read, then, giving, if_first, by_option, past, more, separated}
use Rattle.letters.specs.Tokens.{Tok, Placed}
use Rattle.query.specs.Descent.{Run, row}
use Rattle.sense.specs.declared.draft.Draft.{Draft}

pub giving_then : {X Y Z : Type 0} (f : Y → Z) (r : Read X) (k : X → List Placed → Read Y) → giving f (then r k) ≡ then r (λ x ts. giving f (k x ts))
giving_then f (Ok p) k = refl
giving_then f (Err e) k = refl

pub then_giving : {X Y Z : Type 0} (f : X → Y) (r : Read X) (k : Y → List Placed → Read Z) → then (giving f r) k ≡ then r (λ x ts. k (f x) ts)
then_giving f (Ok p) k = refl
then_giving f (Err e) k = refl

pub then_same : {X Y : Type 0} (r : Read X) (k m : X → List Placed → Read Y) → ((x : X) (ts : List Placed) → k x ts ≡ m x ts) → then r k ≡ then r m
then_same (Ok p) k m same = same p.0 p.1
then_same (Err e) k m same = refl

pub giving_giving : {X Y Z : Type 0} (f : Y → Z) (g : X → Y) (r : Read X) → giving f (giving g r) ≡ giving (λ x. f (g x)) r
giving_giving f g (Ok p) = refl
giving_giving f g (Err e) = refl

pub giving_same : {X Y : Type 0} (f g : X → Y) (r : Read X) → ((x : X) → f x ≡ g x) → giving f r ≡ giving g r
giving_same f g (Ok p) same = ap (λ y. Ok (y, p.1)) (same p.0)
giving_same f g (Err e) same = refl

-- both ways of a choice by the first token
by_test : {X Y : Type 0} (f : X → Y) (b : Bool) (u : Read Y) (v : Read X) (w : Read Y) (z : Read X) → u ≡ giving f v → w ≡ giving f z → cond b u w ≡ giving f (cond b v z)
by_test f true u v w z e g = e
by_test f false u v w z e g = g

pub if_first_told : {X Y : Type 0} (f : X → Y) (test : Tok → Bool) (hit : ℕ → List Placed → Read Y) (hit' : ℕ → List Placed → Read X) (miss : List Placed → Read Y) (miss' : List Placed → Read X) →
    ((p : ℕ) (ts : List Placed) → hit p ts ≡ giving f (hit' p ts)) → ((ts : List Placed) → miss ts ≡ giving f (miss' ts)) → (ts : List Placed) →
    if_first test hit miss ts ≡ giving f (if_first test hit' miss' ts)
if_first_told f test hit hit' miss miss' e g [] = g []
if_first_told f test hit hit' miss miss' e g (t ∷ ts) = by_test f (test t.0) _ _ _ _ (e t.1 ts) (g (t ∷ ts))

-- a loop that keeps f of a state, beside one that keeps the state
module _ {S : Type 0} (f : S → Draft) (separator : Tok → Bool) (next : Run) (part : S → List Placed → Read S) (step : (s : S) (ts : List Placed) → next (f s) ts ≡ giving f (part s ts)) where
  after_next : (n : ℕ) (o : Option (List Placed)) (s : S) (ts : List Placed) → ((s' : S) (rest : List Placed) → more separator next n (f s') rest ≡ giving f (more separator part n s' rest)) →
      by_option o (λ rest. then (next (f s) rest) (λ d after. more separator next n d after)) (Ok (f s, ts)) ≡
      giving f (by_option o (λ rest. then (part s rest) (λ s' after. more separator part n s' after)) (Ok (s, ts)))
  after_next n None s ts goes = refl
  after_next n (Some rest) s ts goes =
      ap (λ (r : Read Draft). then r (λ d after. more separator next n d after)) (step s rest) ∙ then_giving f (part s rest) _ ∙
      then_same (part s rest) _ _ goes ∙ sym (giving_then f (part s rest) _)

  more_told : (n : ℕ) (s : S) (ts : List Placed) → more separator next n (f s) ts ≡ giving f (more separator part n s ts)
  more_told zero s ts = refl
  more_told (suc n) s ts = after_next n (past separator ts) s ts (more_told n)

-- rows
pub row_told : {X S : Type 0} (f : S → Draft) (separator : Tok → Bool) (start : X → S) (join : S → X → S) (part : List Placed → Read X) (first next : Run) (d : Draft) →
    ((ts : List Placed) → first d ts ≡ giving (λ x. f (start x)) (part ts)) → ((s : S) (ts : List Placed) → next (f s) ts ≡ giving (λ x. f (join s x)) (part ts)) → (ts : List Placed) →
    row separator first next d ts ≡ giving f (separated separator start join part ts)
row_told {S} f separator start join part first next d begins goes ts =
    let body : S → List Placed → Read S = λ s us. giving (join s) (part us) in
    ap (λ (r : Read Draft). then r (λ d' rest. more separator next (length rest) d' rest)) (begins ts ∙ sym (giving_giving f start (part ts))) ∙
    then_giving f (giving start (part ts)) _ ∙
    then_same (giving start (part ts)) _ _ (λ s rest. more_told f separator next body (λ s' us. goes s' us ∙ sym (giving_giving f (join s') (part us))) (length rest) s rest) ∙
    sym (giving_then f (giving start (part ts)) _)
