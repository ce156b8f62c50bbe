-- Spellings and their identities. Assumes nothing.
use Rattle.std.specs.Prelude.{◌≡◌, ℕ, ◌+◌, ◌<◌, true, List, [], ◌∷◌, ◌++◌, length, drop, Some, None, Option, ◌==◌, slice_index, slice_index_or, refl}
use Rattle.std.proofs.Common.{sym, ap, subst, ◌∙◌, append_assoc}
use Rattle.keys.specs.Letters.{table, found}
use Rattle.keys.specs.Name.{parts, parts_of, identity_of, Respelled, OneName}
use Rattle.keys.specs.Name.Respelled.{apart, itself, turned, chained}
use Rattle.keys.specs.declared.letters.Letter.{Letter}
use Rattle.keys.proofs.Table.{table_rises, table_closed, found_at}
use Rattle.std.proofs.lemmas.Grind.{flat_map-append}
use Rattle.std.proofs.lemmas.List.{at_drop_more}
use Rattle.std.proofs.lemmas.List.Folds.{find_at}
use Rattle.std.proofs.lemmas.List.Sums.{passes_at_first}
use Rattle.std.proofs.lemmas.Option.{slice_get_within, get_or_from_slice_get}
use Rattle.std.proofs.lemmas.Bool.{eqb-true}
use Rattle.std.specs.List.{ContainsAt, slice_get, position_or_len}

-- one code point more: `before` and what is left of xs make the identity of xs, and so do `after` and what is left then
pub identity_step : (xs before after : List ℕ) (i : ℕ) (o : Option Letter) → i < length xs → o ≡ found table (slice_index xs i) →
    before ++ identity_of (drop i xs) ≡ identity_of xs → after ≡ before ++ parts_of o (slice_index xs i) → after ++ identity_of (drop (i + 1) xs) ≡ identity_of xs
identity_step xs before after i o h was so_far now =
    (λ j. (now ∙ (λ k. before ++ parts_of (was k) (slice_index xs i))) j ++ identity_of (drop (i + 1) xs)) ∙
    append_assoc before (parts (slice_index xs i)) (identity_of (drop (i + 1) xs)) ∙
    ap (λ (l : List ℕ). before ++ l) (sym (at_drop_more identity_of xs i 0 h)) ∙ so_far

-- a letter of the table is taken apart, and its parts stay as they are
record Taken (l : Letter) : Type 0 where
  composed : parts l.composed ≡ l.base ∷ l.mark ∷ []
  base : parts l.base ≡ l.base ∷ []
  mark : parts l.mark ≡ l.mark ∷ []

taken : (l : Letter) → ContainsAt table l → Taken l
taken l has =
    let entry = slice_index_or table has.0 l in
    let rest = table_closed has.0 l has.1 in
    subst Taken (has.2 l) record {
      composed = ap (λ (o : Option Letter). parts_of o entry.composed) (found_at table l table_rises has.0 has.1);
      base = ap (λ (o : Option Letter). parts_of o entry.base) rest.0;
      mark = ap (λ (o : Option Letter). parts_of o entry.mark) rest.1;
    }

one_way : (xs ys : List ℕ) → Respelled xs ys → identity_of xs ≡ identity_of ys
one_way xs ys (apart front back l has) =
    let t = taken l has in
    let tail : parts l.composed ++ identity_of back ≡ parts l.base ++ (parts l.mark ++ identity_of back) =
    ap (λ (p : List ℕ). p ++ identity_of back) t.composed ∙ sym (λ i. t.base i ++ (t.mark i ++ identity_of back)) in
    flat_map-append parts front (l.composed ∷ back) ∙ ap (λ (p : List ℕ). identity_of front ++ p) tail ∙
    sym (flat_map-append parts front (l.base ∷ l.mark ∷ back))
one_way xs ys (itself zs) = refl
one_way xs ys (turned us vs r) = sym (one_way us vs r)
one_way xs ys (chained us vs ws r s) = one_way us vs r ∙ one_way vs ws s

-- what is found is in the list, and is for the code point that was sought
found_has : (ls : List Letter) (c : ℕ) (l : Letter) → found ls c ≡ Some l → ContainsAt ls l × (l.composed ≡ c)
found_has ls c l e =
    let sought = λ (m : Letter). m.composed == c in
    let first = position_or_len sought ls in
    let read : slice_get ls first ≡ Some l = sym (find_at sought ls) ∙ e in
    let within = slice_get_within ls first l read in
    let is : (d : Letter) → slice_index_or ls first d ≡ l = λ d. get_or_from_slice_get ls first l d read in
    ((first, within, is), eqb-true l.composed c (subst (λ m. sought m ≡ true) (is l) (passes_at_first sought ls l within)))

one_part : (front back : List ℕ) (c : ℕ) (o : Option Letter) → found table c ≡ o → Respelled (front ++ (c ∷ back)) (front ++ (parts_of o c ++ back))
one_part front back c None e = itself _
one_part front back c (Some l) e =
    let f = found_has table c l e in
    subst (λ (x : ℕ). Respelled (front ++ (x ∷ back)) (front ++ (l.base ∷ (l.mark ∷ back)))) f.1 (apart front back l f.0)

to_identity : (front xs : List ℕ) → Respelled (front ++ xs) (front ++ identity_of xs)
to_identity front [] = itself _
to_identity front (c ∷ xs) =
    chained _ (front ++ (parts c ++ xs)) _ (one_part front xs c (found table c) refl)
    (subst (λ (l : List ℕ). Respelled l (front ++ (parts c ++ identity_of xs))) (append_assoc front (parts c) xs)
    (subst (Respelled ((front ++ parts c) ++ xs)) (append_assoc front (parts c) (identity_of xs)) (to_identity (front ++ parts c) xs)))

pub one_name : OneName
one_name xs ys =
    (one_way xs ys, λ e. chained xs (identity_of ys) ys (subst (Respelled xs) e (to_identity [] xs)) (turned ys (identity_of ys) (to_identity [] ys)))
