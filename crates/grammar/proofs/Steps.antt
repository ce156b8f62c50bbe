-- What the readers of single tokens give, and how other readers go on from there. Assumes nothing.
use Rattle.std.proofs.Common.{◌≡◌, ℕ, Bool, true, false, cond, List, [], ◌∷◌, Option, Result, Some, None, sym, refl, ap, ◌∙◌, subst, arith}
use Rattle.std.specs.Borrow.{Bor}
use Rattle.std.specs.Option.{option_map}
use Rattle.grammar.specs.Known.{kind_of}
use Rattle.grammar.specs.Reading.{Read, known, expect, if_first, by_option, past, first_place}
use Rattle.grammar.specs.Shown.{shown, shown_by, bytes_and_place, Skips, Known}
use Rattle.grammar.specs.Shown.Known.{knows, wrong, ends}
use Rattle.grammar.specs.declared.fault.GrammarFault.{GrammarFault}
use Rattle.letters.specs.Tokens.{Tok, Placed, seen, first_of, ahead, end_of}
use Rattle.letters.specs.declared.token.Token.{Token}
use Rattle.letters.specs.declared.token.Tokens.{Tokens}

-- calls that give what f knows, told by g
pub expect_told : {X Y : Type 0} {gives : Token → Option X → Type 0} (f : Tok → Option Y) (g : X → Y) (s t : Tokens) (r : Result (X × ℕ) GrammarFault) → Known gives s t r →
    ((x : Token) (o : Option X) → gives x o → option_map g o ≡ f (seen x)) → shown_by (λ (p : X × ℕ). (g p.0, p.1)) r t ≡ expect f (end_of s) (ahead s)
expect_told f g s t r (knows x it is gave) same =
    sym (ap (expect f (end_of s)) is ∙ ap (λ (o : Option _). known o x.place (ahead t)) (sym (same x.token (Some it) gave)))
expect_told f g s t r (wrong x after is gave) same =
    sym (ap (expect f (end_of s)) is ∙ ap (λ (o : Option _). known o x.place after) (sym (same x.token None gave)))
expect_told f g s t r (ends is) same = sym (ap (expect f (end_of s)) is)

pub expect_at : {X : Type 0} {gives : Token → Option X → Type 0} (f : Tok → Option X) (s t : Tokens) (r : Result (X × ℕ) GrammarFault) → Known gives s t r →
    ((x : Token) (o : Option X) → gives x o → o ≡ f (seen x)) → shown r t ≡ expect f (end_of s) (ahead s)
expect_at f s t r known same = expect_told f (λ x. x) s t r known (λ x o gave. as_it_is o ∙ same x o gave)
  where
    as_it_is : {X : Type 0} (o : Option X) → option_map (λ x. x) o ≡ o
    as_it_is None = refl
    as_it_is (Some x) = refl

pub expect_kinds : {gives : Token → Option (Bor (List ℕ)) → Type 0} (s t : Tokens) (r : Result (Bor (List ℕ) × ℕ) GrammarFault) → Known gives s t r →
    ((x : Token) (o : Option (Bor (List ℕ))) → gives x o → option_map (λ (w : Bor (List ℕ)). w.now) o ≡ kind_of (seen x)) →
    shown_by bytes_and_place r t ≡ expect kind_of (end_of s) (ahead s)
expect_kinds s t r known same = expect_told kind_of (λ (w : Bor (List ℕ)). w.now) s t r known same

-- a choice by the first token, where it is taken and where it stays
choice : {Y : Type 0} (f : Tok → Bool) (hit : ℕ → List Placed → Read Y) (miss : List Placed → Read Y) (ts : List Placed) →
    if_first f hit miss ts ≡ by_option (past f ts) (hit (first_place ts)) (miss ts)
choice f hit miss [] = refl
choice f hit miss (t ∷ ts) = by_test (f t.0)
  where
    by_test : (b : Bool) → cond b (hit t.1 ts) (miss (t ∷ ts)) ≡ by_option (cond b (Some ts) None) (hit t.1) (miss (t ∷ ts))
    by_test true = refl
    by_test false = refl

pub if_first_hit : {Y : Type 0} (f : Tok → Bool) (hit : ℕ → List Placed → Read Y) (miss : List Placed → Read Y) (ts rest : List Placed) → Some rest ≡ past f ts →
    if_first f hit miss ts ≡ hit (first_place ts) rest
if_first_hit f hit miss ts rest is = choice f hit miss ts ∙ ap (λ (o : Option (List Placed)). by_option o (hit (first_place ts)) (miss ts)) (sym is)

pub if_first_miss : {Y : Type 0} (f : Tok → Bool) (hit : ℕ → List Placed → Read Y) (miss : List Placed → Read Y) (ts : List Placed) → None ≡ past f ts →
    if_first f hit miss ts ≡ miss ts
if_first_miss f hit miss ts is = choice f hit miss ts ∙ ap (λ (o : Option (List Placed)). by_option o (hit (first_place ts)) (miss ts)) (sym is)

pub first_at : (ts : List Placed) (t : Placed) → first_of ts ≡ Some t → first_place ts ≡ t.1
first_at [] t is = let z : ◌≡◌ {A = ℕ} 0 1 = cc in absurd (omega arith)
first_at (u ∷ ts) t is = let same : u ≡ t = cc in ap (λ (p : Placed). p.1) same

-- likewise, from the place alone
pub place_at : (ts : List Placed) (p : ℕ) → option_map (λ (t : Placed). t.1) (first_of ts) ≡ Some p → first_place ts ≡ p
place_at [] p is = let z : ◌≡◌ {A = ℕ} 0 1 = cc in absurd (omega arith)
place_at (u ∷ ts) p is = cc

-- a look that took the first token, and one that left it
pub taken : (f : Tok → Bool) (s t : Tokens) (b : Bool) → Skips f s b t → b ≡ true → Skips f s true t
taken f s t b k e = subst (λ (x : Bool). Skips f s x t) e k

pub stayed : (f : Tok → Bool) (s t : Tokens) (b : Bool) → Skips f s b t → b ≡ false → Skips f s false t
stayed f s t b k e = subst (λ (x : Bool). Skips f s x t) e k
