-- What is laid out can be read off again. Assumes nothing.
use Rattle.std.proofs.Common.{◌≡◌, ℕ, List, [], ◌∷◌, ◌++◌, reverse, length, take, refl, ap, ◌∙◌, append_assoc, arith}
use mathlib.Core.List.{reverse_aux}
use Rattle.query.specs.Held.{built, trees}
use Rattle.sense.specs.Meaning.{Tree, laid, postfix, steps_of}
use Rattle.sense.specs.Meaning.Tree.{leaf, and, or}
use Rattle.sense.specs.declared.clauses.Step.{Step}
use Rattle.sense.specs.declared.clauses.Step.TheVariants.{And, Or}
use Rattle.std.proofs.lemmas.List.{take-append-le, take_all, reverse-reverse}

-- the front of a room is what was put in
pub take_laid : {X : Type 0} (n : ℕ) (x : X) (xs : List X) → take (length xs) (laid n x xs) ≡ xs
take_laid n x xs = take-append-le (length xs) xs _ (omega arith) ∙ take_all (length xs) xs (omega arith)

-- a tree's steps put the tree on top
built_postfix : (t : Tree) (ss : List Step) (ts : List Tree) → built (postfix t ++ ss) ts ≡ built ss (t ∷ ts)
built_postfix (leaf t) ss ts = refl
built_postfix (and a b) ss ts =
    ap (λ (l : List Step). built l ts) (append_assoc (postfix a) (postfix b ++ (And ∷ [])) ss) ∙ built_postfix a ((postfix b ++ (And ∷ [])) ++ ss) ts ∙
    ap (λ (l : List Step). built l (a ∷ ts)) (append_assoc (postfix b) (And ∷ []) ss) ∙ built_postfix b (And ∷ ss) (a ∷ ts)
built_postfix (or a b) ss ts =
    ap (λ (l : List Step). built l ts) (append_assoc (postfix a) (postfix b ++ (Or ∷ [])) ss) ∙ built_postfix a ((postfix b ++ (Or ∷ [])) ++ ss) ts ∙
    ap (λ (l : List Step). built l (a ∷ ts)) (append_assoc (postfix b) (Or ∷ []) ss) ∙ built_postfix b (Or ∷ ss) (a ∷ ts)

built_all : (ts us : List Tree) → built (steps_of ts) us ≡ reverse_aux ts us
built_all [] us = refl
built_all (t ∷ ts) us = built_postfix t (steps_of ts) us ∙ built_all ts (t ∷ us)

pub trees_of_steps : (ts : List Tree) → trees (steps_of ts) ≡ ts
trees_of_steps ts = ap reverse (built_all ts []) ∙ reverse-reverse ts
