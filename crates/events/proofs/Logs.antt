-- Logs and their readings. Assumes nothing.
use Rattle.std.proofs.lemmas.Bool.Decides.{nat_tests}
use Rattle.std.proofs.Common.{◌≡◌, ℕ, zero, suc, ◌-◌, ◌*◌, ◌<◌, ◌≤◌, List, [], ◌∷◌, ◌++◌, map, length, take, drop, Some, None, Ok, Err, Option, sym, refl, ap, ◌∙◌, subst, ⊎_elim, append_assoc, arith, length-append, length-drop, take-append-drop}
use Rattle.events.specs.Record.{decoded}
use Rattle.events.specs.Log.{Item, Told, told, first, items_of, reading, log_of, unread, reads, ReadsAs, WholeLog}
use Rattle.events.specs.Log.ReadsAs.{ended, tail, next}
use Rattle.events.specs.declared.log.Records.{Records}
use Rattle.refusals.specs.declared.Refusal.TheVariants.{Tail}
use Rattle.std.proofs.lemmas.List.{drop_all, take_at, drop_at, nil_from_length, length-take-le}
use Rattle.std.proofs.lemmas.Option.{same_Some, none-some}
use Rattle.std.proofs.lemmas.Bool.{cond-true, cond-false, eq-eqb, ne_eqb, cases_lt, cases_eq}
use Rattle.std.specs.Iterator.{Yields}

reading_none : (n : ℕ) → reading n [] ≡ []
reading_none zero = refl
reading_none (suc n) = refl

first_tail : (log : List ℕ) → 1 ≤ length log → length log < 24 → first log ≡ Some (Err Tail)
first_tail log some short = grind (arith, nat_tests)

first_record : (log : List ℕ) → 24 ≤ length log → first log ≡ Some (Ok (decoded (take 24 log)))
first_record log long = grind (arith, nat_tests)

is_reading : (log : List ℕ) (xs : List Told) → ReadsAs log xs → (n : ℕ) → length log ≤ n → xs ≡ reading n log
is_reading log xs ended zero h = refl
is_reading log xs ended (suc n) h = refl
is_reading log xs (tail bytes some short) zero h = absurd (omega arith)
is_reading log xs (tail bytes some short) (suc n) h =
    sym (ap (λ (o : Option Told). items_of o (reading n (drop 24 bytes))) (first_tail bytes some (omega arith)) ∙
    ap (λ (l : List ℕ). Err Tail ∷ reading n l) (drop_all 24 bytes (omega arith)) ∙ ap (λ (l : List Told). Err Tail ∷ l) (reading_none n))
is_reading log xs (next bytes rest items whole r) zero h = absurd (omega (arith, length-append bytes rest))
is_reading log xs (next bytes rest items whole r) (suc n) h =
    let size = length-append bytes rest in
    let more = is_reading rest items r n (omega (arith, h)) in
    sym (ap (λ (o : Option Told). items_of o (reading n (drop 24 (bytes ++ rest)))) (first_record (bytes ++ rest) (omega arith)) ∙
    (λ i. Ok (decoded (take_at bytes rest 24 whole i)) ∷ reading n (drop_at bytes rest 24 whole i)) ∙ ap (λ (l : List Told). Ok (decoded bytes) ∷ l) (sym more))

only : (log : List ℕ) (xs : List Told) → ReadsAs log xs → xs ≡ log_of log
only log xs r = is_reading log xs r (length log) (omega arith)

-- one more item before a reading of what is left
one_item : (log : List ℕ) (t : Told) (items : List Told) → Some t ≡ first log → ReadsAs (drop 24 log) items → ReadsAs log (t ∷ items)
one_item log t items e r =
    ⊎_elim
    (λ (short : length log < 24).
    ⊎_elim
    (λ (none : length log ≡ 0). absurd (none-some t (sym (e ∙ cond-true _ _ _ (eq-eqb (length log) 0 none)))))
    (λ (some : length log ≡ 0 → ⊥).
    let is = same_Some t (Err Tail) (e ∙ first_tail log (omega (arith, some)) short) in
    let nothing = only [] items (subst (λ (l : List ℕ). ReadsAs l items) (drop_all 24 log (omega arith)) r) in
    subst (λ (l : List Told). ReadsAs log l) (sym (λ i. is i ∷ nothing i)) (tail log (omega (arith, some)) (omega arith)))
    (cases_eq (length log) 0))
    (λ (long : 24 ≤ length log).
    let is = same_Some t (Ok (decoded (take 24 log))) (e ∙ first_record log long) in
    let size : length (take 24 log) ≡ 24 = length-take-le 24 log long in
    subst (λ (l : List Told). ReadsAs log l) (ap (λ (u : Told). u ∷ items) (sym is))
    (subst (λ (l : List ℕ). ReadsAs l (Ok (decoded (take 24 log)) ∷ items)) (take-append-drop 24 log) (next (take 24 log) (drop 24 log) items size r)))
    (cases_lt (length log) 24)

no_item : (log : List ℕ) → None ≡ first log → ReadsAs log []
no_item log e =
    ⊎_elim (λ (none : length log ≡ 0). subst (λ (l : List ℕ). ReadsAs l []) (sym (nil_from_length log none)) ended)
    (λ (some : length log ≡ 0 → ⊥). absurd (none-some _ (e ∙ cond-false _ _ _ (ne_eqb (length log) 0 some))))
    (cases_eq (length log) 0)

given : (s : Records) (items : List Item) (t u : Records) → Yields reads s items t → reads t None u → ReadsAs (unread s) (map told items)
given s [] t u same end = no_item (unread s) (end.0 ∙ ap (λ (r : Records). first (unread r)) (sym same))
given s (x ∷ xs) t u run end =
    let j = run.0 in
    one_item (unread s) (told x) (map told xs) run.1.0 (subst (λ (l : List ℕ). ReadsAs l (map told xs)) run.1.1 (given j xs t u run.2 end))

-- every log has a reading
some_by : (n : ℕ) (log : List ℕ) → length log ≤ n → (xs : List Told) × ReadsAs log xs
some_by zero log h = ([], subst (λ (l : List ℕ). ReadsAs l []) (sym (nil_from_length log (omega arith))) ended)
some_by (suc n) log h =
    ⊎_elim
    (λ (short : length log < 24).
    ⊎_elim (λ (none : length log ≡ 0). ([], no_item log (sym (cond-true _ _ _ (eq-eqb (length log) 0 none)))))
    (λ (some : length log ≡ 0 → ⊥). (Err Tail ∷ [], tail log (omega (arith, some)) (omega arith)))
    (cases_eq (length log) 0))
    (λ (long : 24 ≤ length log).
    let rest = some_by n (drop 24 log) (simp length-drop (omega arith)) in
    (_, one_item log _ rest.0 (sym (first_record log long)) rest.1))
    (cases_lt (length log) 24)

some : (log : List ℕ) → ReadsAs log (log_of log)
some log = let r = some_by (length log) log (omega arith) in subst (ReadsAs log) (only log r.0 r.1) r.1

in_pieces : (front back : List ℕ) (xs ys : List Told) → ReadsAs front xs → (n : ℕ) → length front ≡ 24 * n → ReadsAs back ys → ReadsAs (front ++ back) (xs ++ ys)
in_pieces front back xs ys ended n e s = s
in_pieces front back xs ys (tail bytes some short) n e s = absurd (omega (arith, e))
in_pieces front back xs ys (next bytes rest items whole r) n e s =
    let size = length-append bytes rest in
    subst (λ (l : List ℕ). ReadsAs l (Ok (decoded bytes) ∷ (items ++ ys))) (sym (append_assoc bytes rest back))
    (next bytes (rest ++ back) (items ++ ys) whole (in_pieces rest back items ys r (n - 1) (omega (arith, e)) s))

pub whole_log : WholeLog
whole_log = record {
  some = some;
  only = only;
  given = λ s items run. only (unread s) (map told items) (given s items run.1.0 run.0 run.1.1 run.1.2);
  pieces = λ n front back e. sym (only (front ++ back) (log_of front ++ log_of back) (in_pieces front back (log_of front) (log_of back) (some front) n e (some back)));
}
