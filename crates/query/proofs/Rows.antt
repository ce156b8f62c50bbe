-- What one turn of a loop over a row keeps. Assumes nothing.
use Rattle.std.proofs.Common.{◌≡◌, ℕ, zero, suc, ◌-◌, ◌<◌, ◌≤◌, Bool, true, false, cond, List, [], ◌∷◌, length, Some, None, Ok, Err, Option, Result, sym, refl, ap, ◌∙◌, arith}
use Rattle.grammar.specs.Reading.{Read, then, by_option, past, more}
use Rattle.grammar.specs.declared.fault.GrammarFault.{GrammarFault}
use Rattle.grammar.specs.Shown.{count, Onward, Skips}
use Rattle.letters.specs.Tokens.{Tok, Placed, ahead, end_of}
use Rattle.letters.specs.declared.token.Tokens.{Tokens}
use Rattle.query.specs.Descent.{left, Run, Calls, Runs, Repeats, row}
use Rattle.query.specs.declared.descent.Reader.{Reader}
use Rattle.sense.specs.declared.draft.Draft.{Draft}

-- the loop began with the reader s₀, and going on from the reader s gives the same
pub record Sofar (separator : Tok → Bool) (next : ℕ → Run) (s₀ s : Reader) : Type 0 where
  pub steps : ℕ
  pub enough : count s.tokens ≤ steps
  pub within : count s.tokens ≤ count s₀.tokens
  pub end : end_of s.tokens ≡ end_of s₀.tokens
  pub goes : more separator (next (end_of s₀.tokens)) (count s₀.tokens) s₀.draft (ahead s₀.tokens) ≡
      more separator (next (end_of s₀.tokens)) steps s.draft (ahead s.tokens)

-- what is past a token is shorter
pub past_shorter : (separator : Tok → Bool) (ts rest : List Placed) → Some rest ≡ past separator ts → length rest < length ts
past_shorter separator [] rest e = let z : ◌≡◌ {A = ℕ} 0 1 = cc in absurd (omega arith)
past_shorter separator (t ∷ ts) rest e = by_test (separator t.0) e
  where
    by_test : (b : Bool) → Some rest ≡ cond b (Some ts) None → length rest < length (t ∷ ts)
    by_test true is = let same : rest ≡ ts = cc in omega (arith, ap length same)
    by_test false is = let z : ◌≡◌ {A = ℕ} 0 1 = cc in absurd (omega arith)

last : (separator : Tok → Bool) (next : Run) (n : ℕ) (d : Draft) (ts : List Placed) → None ≡ past separator ts → more separator next n d ts ≡ Ok (d, ts)
last separator next zero d ts is = refl
last separator next (suc n) d ts is =
    ap (λ (o : Option (List Placed)). by_option o (λ rest. then (next d rest) (λ d' after. more separator next n d' after)) (Ok (d, ts))) (sym is)

turn : (separator : Tok → Bool) (next : Run) (n : ℕ) (d : Draft) (ts rest : List Placed) → 0 < n → Some rest ≡ past separator ts →
    more separator next n d ts ≡ then (next d rest) (λ d' after. more separator next (n - 1) d' after)
turn separator next zero d ts rest h is = absurd (omega arith)
turn separator next (suc n) d ts rest h is =
    let back : suc n - 1 ≡ n = omega arith in
    rw back (ap (λ (o : Option (List Placed)). by_option o (λ rest. then (next d rest) (λ d' after. more separator next n d' after)) (Ok (d, ts))) (sym is))

module _ (separator : Tok → Bool) (next : ℕ → Run) where
  pub begun : (s : Reader) → Sofar separator next s s
  begun s = record { steps = count s.tokens; enough = omega arith; within = omega arith; end = refl; goes = refl }

  -- what the item behind a separator gives is what the loop goes on with
  turned : {s₀ s : Reader} (t : Tokens) (r : Read Draft) → (so : Sofar separator next s₀ s) → Skips separator s.tokens true t → r ≡ next (end_of t) s.draft (ahead t) →
      more separator (next (end_of s₀.tokens)) (count s₀.tokens) s₀.draft (ahead s₀.tokens) ≡
      then r (λ d ts. more separator (next (end_of s₀.tokens)) (so.steps - 1) d ts)
  turned {s₀} {s} t r so skips is =
      let less = past_shorter separator (ahead s.tokens) (ahead t) skips.value in
      let here : r ≡ next (end_of s₀.tokens) s.draft (ahead t) = is ∙ ap (λ (end : ℕ). next end s.draft (ahead t)) (skips.moved.end ∙ so.end) in
      so.goes ∙ turn separator (next (end_of s₀.tokens)) so.steps s.draft (ahead s.tokens) (ahead t) (omega (arith, so.enough)) skips.value ∙
      ap (λ (q : Read Draft). then q (λ d ts. more separator (next (end_of s₀.tokens)) (so.steps - 1) d ts)) (sym here)

  -- one turn more
  pub again : {s₀ s : Reader} (t : Tokens) (u : Reader) → Sofar separator next s₀ s → Skips separator s.tokens true t → left (Ok tt) u ≡ next (end_of t) s.draft (ahead t) →
      Onward t u.tokens → Sofar separator next s₀ u
  again {s₀} {s} t u so skips is on =
      record {
        steps = so.steps - 1;
        enough = omega (arith, so.enough, skips.moved.fewer, on.fewer);
        within = omega (arith, so.within, skips.moved.fewer, on.fewer);
        end = on.end ∙ skips.moved.end ∙ so.end;
        goes = turned t (left (Ok tt) u) so skips is;
      }

  -- the row, from where the loop began
  from_first : (first : ℕ → Run) (s s₀ : Reader) → left (Ok tt) s₀ ≡ first (end_of s.tokens) s.draft (ahead s.tokens) → Onward s.tokens s₀.tokens →
      row separator (first (end_of s.tokens)) (next (end_of s.tokens)) s.draft (ahead s.tokens) ≡
      more separator (next (end_of s₀.tokens)) (count s₀.tokens) s₀.draft (ahead s₀.tokens)
  from_first first s s₀ is on =
      ap (λ (r : Read Draft). then r (λ d rest. more separator (next (end_of s.tokens)) (length rest) d rest)) (sym is) ∙
      ap (λ (end : ℕ). more separator (next end) (count s₀.tokens) s₀.draft (ahead s₀.tokens)) (sym on.end)

  -- no separator follows
  pub ended : (first : ℕ → Run) (s s₀ u : Reader) (t : Tokens) → left (Ok tt) s₀ ≡ first (end_of s.tokens) s.draft (ahead s.tokens) → Onward s.tokens s₀.tokens →
      Sofar separator next s₀ u → Skips separator u.tokens false t →
      Ok (u.draft, ahead t) ≡ row separator (first (end_of s.tokens)) (next (end_of s.tokens)) s.draft (ahead s.tokens)
  ended first s s₀ u t is on so skips =
      ap (λ (v : Tokens). Ok (u.draft, ahead v)) skips.moved ∙
      sym (from_first first s s₀ is on ∙ so.goes ∙ last separator (next (end_of s₀.tokens)) so.steps u.draft (ahead u.tokens) skips.value)

  -- a next one has a fault
  pub failed : (first : ℕ → Run) (s s₀ u : Reader) (t : Tokens) (e : GrammarFault) → left (Ok tt) s₀ ≡ first (end_of s.tokens) s.draft (ahead s.tokens) → Onward s.tokens s₀.tokens →
      Sofar separator next s₀ u → Skips separator u.tokens true t → Err e ≡ next (end_of t) u.draft (ahead t) →
      Err e ≡ row separator (first (end_of s.tokens)) (next (end_of s.tokens)) s.draft (ahead s.tokens)
  failed first s s₀ u t e is on so skips bad = sym (from_first first s s₀ is on ∙ turned t (Err e) so skips bad)

-- what a row of calls reads, in a text of `end` bytes
pub repeated : {gives : Calls} {separator : Tok → Bool} {s : Reader} {r : Result (Unit {0}) GrammarFault} {t : Reader} {end : ℕ} (run : ℕ → Run) →
    Repeats gives separator s r t → Runs gives run → end_of s.tokens ≡ end → left r t ≡ row separator (run end) (run end) s.draft (ahead s.tokens)
repeated {separator} {s} run repeats runs same = repeats.reads run runs ∙ ap (λ (e : ℕ). row separator (run e) (run e) s.draft (ahead s.tokens)) same
