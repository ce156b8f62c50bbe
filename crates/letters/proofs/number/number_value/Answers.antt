use Rattle.std.proofs.Common.{◌≡◌, ℕ, ◌+◌, ◌-◌, ◌*◌, ◌<◌, ◌≤◌, List, [], ◌∷◌, length, get_or, drop, Some, sym, ap, ◌∙◌, arith, rules}
use Rattle.letters.proofs.number.number_value.Goals as goal
use Rattle.letters.specs.Numbers.{value_from}
use Rattle.std.proofs.lemmas.List.{at_drop_more, at_drop_all}
use Rattle.std.proofs.lemmas.Bool.{lt-leb, le-leb, cond-true, cond-false}

-- a value never falls
grows : (a : ℕ) (xs : List ℕ) → a ≤ value_from a xs
grows a [] = omega arith
grows a (x ∷ xs) = omega (arith, grows (a * 10 + (x - 48)) xs)

stepped : (xs : List ℕ) (i a b : ℕ) → i < length xs → b ≡ a * 10 + (get_or xs i 0 - 48) → value_from b (drop (i + 1) xs) ≡ value_from a (drop i xs)
stepped xs i a b h e = ap (λ n. value_from n (drop (i + 1) xs)) e ∙ sym (at_drop_more (value_from a) xs i 0 h)

pub loop-d-preserved : goal.loop-d-preserved
loop-d-preserved c = (search rules, stepped c.args.digits.now c.loop-d.d-index c.loop-d.value _ (search rules) (search rules) ∙ c.loop-d.invariant.1)

pub returns-then-value-gt-LARGEST : goal.returns-then-value-gt-LARGEST
returns-then-value-gt-LARGEST c =
    let value = c.loop-d.value * 10 + c.from.result in
    let same = stepped c.args.digits.now c.loop-d.d-index c.loop-d.value value (search rules) (search rules) ∙ c.loop-d.invariant.1 in
    let big : 2147483647 < value_from 0 c.args.digits.now = omega (arith, same, grows value (drop (c.loop-d.d-index + 1) c.args.digits.now)) in
    sym (cond-false _ _ _ (lt-leb _ _ big))

pub returns : goal.returns
returns c =
    let same : value_from 0 c.args.digits.now ≡ c.loop-d.value =
    sym c.loop-d.invariant.1 ∙ at_drop_all (value_from c.loop-d.value) c.args.digits.now c.loop-d.d-index c.loop-d-test.false in
    ap Some (sym same) ∙ sym (cond-true _ _ _ (le-leb (value_from 0 c.args.digits.now) 2147483647 (omega (arith, same))))
