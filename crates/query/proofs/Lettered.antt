-- What every query of the grammar has: a part, and variables of one byte. Assumes nothing.
use Rattle.std.proofs.Common.{◌≡◌, ℕ, ◌<◌, ◌≤◌, true, cond, ◌&&◌, eqb, leb, List, [], ◌∷◌, length, get_or, Some, None, codes, arith, length-append}
use Rattle.grammar.specs.Grammar.{Separated, ReadsPart, ReadsQuery}
use Rattle.grammar.specs.Grammar.ReadsPart.{positive, negative}
use Rattle.grammar.specs.Grammar.ReadsQuery.{query}
use Rattle.grammar.specs.Grammar.Separated.{first, next}
use Rattle.grammar.specs.Known.{is_mark, variable_of, rank, held}
use Rattle.grammar.specs.Reading.{one, and_one}
use Rattle.grammar.specs.Syntax.{Part, Syntax}
use Rattle.letters.specs.Tokens.{Tok, Placed}
use Rattle.letters.specs.Tokens.Tok.{word, number, mark, stray}
use Rattle.letters.specs.Words.{class_of, spells}
use Rattle.letters.specs.declared.symbol.Symbol.TheVariants.{Comma}
use Rattle.letters.specs.declared.word.Class.{Class}
use Rattle.letters.specs.declared.word.Class.TheVariants.{Event, Seq, Where, Within, And, Or, Any, Key, Reading, Variable, Kind}
use Rattle.sense.specs.Law.{Lettered}
use Rattle.std.proofs.lemmas.Bool.{cond_both, and_parts, leb-true}
use Rattle.std.specs.List.{AllByRecursion}

abbrev Small : Class → Type 0
Small Event = Unit {0}
Small Seq = Unit {0}
Small Where = Unit {0}
Small Within = Unit {0}
Small And = Unit {0}
Small Or = Unit {0}
Small Any = Unit {0}
Small Key = Unit {0}
Small (Reading n) = Unit {0}
Small (Variable v) = v < 256
Small Kind = Unit {0}

small_letter : (w : List ℕ) → (eqb (length w) 1 && (leb 97 (get_or w 0 0) && leb (get_or w 0 0) 122)) ≡ true → get_or w 0 0 < 256
small_letter w e =
    let h = and_parts (eqb (length w) 1) (leb 97 (get_or w 0 0) && leb (get_or w 0 0) 122) e in
    omega (arith, leb-true (get_or w 0 0) 122 (and_parts (leb 97 (get_or w 0 0)) (leb (get_or w 0 0) 122) h.1).1)

small : (w : List ℕ) → Small (class_of w)
small w =
    cond_both (spells w (codes "EVENT")) _ _ Small (λ _. tt) (λ _. cond_both (spells w (codes "SEQ")) _ _ Small (λ _. tt) (λ _.
    cond_both (spells w (codes "WHERE")) _ _ Small (λ _. tt) (λ _. cond_both (spells w (codes "WITHIN")) _ _ Small (λ _. tt) (λ _.
    cond_both (spells w (codes "AND")) _ _ Small (λ _. tt) (λ _. cond_both (spells w (codes "OR")) _ _ Small (λ _. tt) (λ _.
    cond_both (spells w (codes "ANY")) _ _ Small (λ _. tt) (λ _. cond_both (spells w (codes "key")) _ _ Small (λ _. tt) (λ _.
    cond_both (eqb (length w) 2 && (eqb (get_or w 0 0) 114 && (leb 48 (get_or w 1 0) && leb (get_or w 1 0) 51))) _ _ Small (λ _. tt) (λ _.
    cond_both (eqb (length w) 1 && (leb 97 (get_or w 0 0) && leb (get_or w 0 0) 122)) _ _ Small (λ e. small_letter w e) (λ _. tt))))))))))

-- a word that is a variable
held_small : (c : Class) (v : ℕ) → Small c → cond (eqb (rank c) 9) (Some (held c)) None ≡ Some v → v < 256
held_small Event v s e = let z : ◌≡◌ {A = ℕ} 0 1 = cc in absurd (omega arith)
held_small Seq v s e = let z : ◌≡◌ {A = ℕ} 0 1 = cc in absurd (omega arith)
held_small Where v s e = let z : ◌≡◌ {A = ℕ} 0 1 = cc in absurd (omega arith)
held_small Within v s e = let z : ◌≡◌ {A = ℕ} 0 1 = cc in absurd (omega arith)
held_small And v s e = let z : ◌≡◌ {A = ℕ} 0 1 = cc in absurd (omega arith)
held_small Or v s e = let z : ◌≡◌ {A = ℕ} 0 1 = cc in absurd (omega arith)
held_small Any v s e = let z : ◌≡◌ {A = ℕ} 0 1 = cc in absurd (omega arith)
held_small Key v s e = let z : ◌≡◌ {A = ℕ} 0 1 = cc in absurd (omega arith)
held_small (Reading n) v s e = let z : ◌≡◌ {A = ℕ} 0 1 = cc in absurd (omega arith)
held_small (Variable u) v s e = let same : u ≡ v = cc in omega arith
held_small Kind v s e = let z : ◌≡◌ {A = ℕ} 0 1 = cc in absurd (omega arith)

variable_small : (t : Tok) (v : ℕ) → variable_of t ≡ Some v → v < 256
variable_small (word w) v e = held_small (class_of w) v (small w) e
variable_small (number ds) v e = let z : ◌≡◌ {A = ℕ} 0 1 = cc in absurd (omega arith)
variable_small (mark m) v e = let z : ◌≡◌ {A = ℕ} 0 1 = cc in absurd (omega arith)
variable_small (stray b) v e = let z : ◌≡◌ {A = ℕ} 0 1 = cc in absurd (omega arith)

part_small : {ts : List Placed} {p : Part} → ReadsPart ts p → p.variable.letter < 256
part_small (positive ts v ws letter ks is) = variable_small v.0 letter is
part_small (negative n o v c ts ws letter e f ks is g) = variable_small v.0 letter is

abbrev ByteParts : List Part → Type 0
ByteParts ps = AllByRecursion (λ p. p.variable.letter < 256) ps

all_and_one : (ps : List Part) (p : Part) → ByteParts ps → p.variable.letter < 256 → ByteParts (and_one ps p)
all_and_one [] p a h = (h, tt)
all_and_one (q ∷ ps) p a h = (a.0, all_and_one ps p a.1 h)

parts_small : {ts : List Placed} {ps : List Part} → Separated (is_mark Comma) one and_one ReadsPart ts ps → ByteParts ps × (1 ≤ length ps)
parts_small (first ts p r) = ((part_small r, tt), omega arith)
parts_small (next ts us t ps p rs e r) =
    let before = parts_small rs in (all_and_one ps p before.0 (part_small r), simp length-append (omega arith))

-- variables are single bytes
pub lettered : {d : ℕ} {ts : List Placed} {q : Syntax} → ReadsQuery d ts q → Lettered q
lettered (query e s o c w n ts us ps cs window a b f rs g h i j) = (parts_small rs).0

-- there is a part
pub some_part : {d : ℕ} {ts : List Placed} {q : Syntax} → ReadsQuery d ts q → 1 ≤ length q.parts
some_part (query e s o c w n ts us ps cs window a b f rs g h i j) = (parts_small rs).1
