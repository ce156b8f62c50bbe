-- One line more. Assumes nothing.
use Rattle.std.proofs.Common.{◌≡◌, ℕ, List, [], ◌∷◌, ◌++◌, map, Ok, Err, refl, ap, ◌∙◌, append_assoc, arith}
use Rattle.events.proofs.Logs.{whole_log}
use Rattle.events.specs.Log.{Item, Told, told, log_of}
use Rattle.showlog.specs.Lines.{more, line, records_after, log_text, Piecewise}
use Rattle.std.proofs.lemmas.List.{map_push}

text_one : (n : ℕ) (t : Told) → log_text n (t ∷ []) ≡ line (more n) t ++ (10 ∷ [])
text_one n (Ok f) = refl
text_one n (Err r) = refl

records_append : (n : ℕ) (xs ys : List Told) → records_after n (xs ++ ys) ≡ records_after (records_after n xs) ys
records_append n [] ys = refl
records_append n (Ok f ∷ xs) ys = records_append (more n) xs ys
records_append n (Err r ∷ xs) ys = records_append n xs ys

text_append : (n : ℕ) (xs ys : List Told) → log_text n (xs ++ ys) ≡ log_text n xs ++ log_text (records_after n xs) ys
text_append n [] ys = refl
text_append n (Ok f ∷ xs) ys = grind (arith, append_assoc, text_append (more n) xs ys)
text_append n (Err r ∷ xs) ys = grind (arith, append_assoc, text_append n xs ys)

-- the text and the count after one item more, whose line has this number
pub one_more : (start old now : List ℕ) (n count number : ℕ) (items : List Item) (item : Item) (t : Told) → told item ≡ t →
    (old ≡ start ++ log_text n (map told items)) × (count ≡ records_after n (map told items)) → number ≡ more count → now ≡ old ++ (line number t ++ (10 ∷ [])) →
    (now ≡ start ++ log_text n (map told (items ++ (item ∷ [])))) × (records_after count (t ∷ []) ≡ records_after n (map told (items ++ (item ∷ []))))
one_more start old now n count number items item t is before next grown =
    grind (arith, append_assoc start (log_text n (map told items)), map_push told items item, text_append n (map told items) (t ∷ []), records_append n (map told items) (t ∷ []), text_one count t)

pub piecewise : Piecewise
piecewise = record {
  text = λ k n front back e. ap (log_text n) (whole_log.pieces k front back e) ∙ text_append n (log_of front) (log_of back);
  count = λ k n front back e. ap (records_after n) (whole_log.pieces k front back e) ∙ records_append n (log_of front) (log_of back);
}
