-- What makes a reader good, and that the ways to join readers keep them so. Assumes nothing.
use Rattle.std.proofs.Common.{◌≡◌, ℕ, suc, ◌≤◌, Bool, true, false, cond, List, [], ◌∷◌, ◌++◌, Some, None, Ok, Err, Option, sym, refl, ap, ◌∙◌, subst, append_assoc, arith}
use mathlib.Core.Path.{fun_ext}
use Rattle.grammar.specs.Grammar.{Knows}
use Rattle.grammar.specs.Grammar.Knows.{token}
use Rattle.grammar.specs.Reading.{Read, then, giving, known, expect, fixed, if_first, by_option, if_known}
use Rattle.grammar.specs.declared.fault.GrammarFault.{GrammarFault}
use Rattle.grammar.specs.declared.fault.GrammarFault.TheVariants.{WrongToken, TooDeep}
use Rattle.letters.specs.Tokens.{Tok, Placed}

-- ---- first tokens

abbrev pub first : List Placed → Option Placed
first [] = None
first (t ∷ ts) = Some t

first_after : (front us ts : List Placed) → first us ≡ first ts → first (front ++ us) ≡ first (front ++ ts)
first_after [] us ts e = e
first_after (t ∷ front) us ts e = refl

-- the first token, if there is one, is such
abbrev pub Passes : (Tok → Type 0) → Option Placed → Type 0
Passes c None = Unit {0}
Passes c (Some t) = c t.0

-- no first token that passes the test f
abbrev pub Stops : (Tok → Bool) → List Placed → Type 0
Stops f ts = Passes (λ t. f t ≡ false) (first ts)

-- no first token that f knows
abbrev pub Misses : {X : Type 0} → (Tok → Option X) → List Placed → Type 0
Misses f ts = Passes (λ t. f t ≡ None) (first ts)

-- ---- the same answer in other words

pub giving_then : {X Y Z : Type 0} (g : Y → Z) (r : Read X) (k : X → List Placed → Read Y) → giving g (then r k) ≡ then r (λ x rest. giving g (k x rest))
giving_then g (Ok p) k = refl
giving_then g (Err e) k = refl

pub giving_twice : {X Y Z : Type 0} (g : Y → Z) (f : X → Y) (r : Read X) → giving g (giving f r) ≡ giving (λ x. g (f x)) r
giving_twice g f (Ok p) = refl
giving_twice g f (Err e) = refl

pub then_same : {X Y : Type 0} (r : Read X) (k l : X → List Placed → Read Y) → ((x : X) (rest : List Placed) → k x rest ≡ l x rest) → then r k ≡ then r l
then_same (Ok p) k l h = h p.0 p.1
then_same (Err e) k l h = refl

-- ---- how a reader ends

-- some row that R has begins with these tokens
abbrev pub Viable : {X : Type 0} → (List Placed → X → Type 0) → List Placed → Type 0
Viable {X} R front = (tail : List Placed) × (x : X) × R (front ++ tail) x

-- why a reader gives up: the text ends, the next token is wrong, or it is a parenthesis too deep
pub data Cause : Type 0 where
  ends : Cause
  wrong : Placed → Cause
  deep : Placed → Cause

abbrev pub fault : ℕ → Cause → GrammarFault
fault end ends = WrongToken end
fault end (wrong t) = WrongToken t.1
fault end (deep t) = TooDeep t.1

-- what follows there: the token, and any others
abbrev pub follow : Cause → List Placed → List Placed
follow ends us = []
follow (wrong t) us = t ∷ us
follow (deep t) us = t ∷ us

-- the depths at which it gives up there
abbrev pub Lasts : ℕ → Cause → ℕ → Type 0
Lasts d ends e = d ≤ e
Lasts d (wrong t) e = d ≤ e
Lasts d (deep t) e = e ≡ d

-- one level deeper the parenthesis is not too deep
abbrev pub Deeper : {X : Type 0} → Cause → (List Placed → X → Type 0) → List Placed → Type 0
Deeper ends R front = Unit {0}
Deeper (wrong t) R front = Unit {0}
Deeper (deep t) R front = Viable R (front ++ (t ∷ []))

-- It reads a front that R has, whatever follows the next token, and at any greater depth; or it gives up behind a front that begins
-- something that R has, again whatever follows the next token.
pub data Outcome {X : Type 0} (end d : ℕ) (R : ℕ → List Placed → X → Type 0) (P : ℕ → List Placed → Read X) (ts : List Placed) : Type 0 where
  reads : (front rest : List Placed) (x : X) → ts ≡ front ++ rest → R d front x →
      ((e : ℕ) → d ≤ e → (us : List Placed) → first us ≡ first rest → P e (front ++ us) ≡ Ok (x, us)) → Outcome end d R P ts
  fails : (c : Cause) (front rest : List Placed) → ts ≡ front ++ follow c rest → Viable (R d) front → Deeper c (R (suc d)) front →
      ((e : ℕ) → Lasts d c e → (us : List Placed) → P e (front ++ follow c us) ≡ Err (fault end c)) → Outcome end d R P ts

-- At depth d: it ends so on any row; it finds each reading before what F allows to follow; R grows with the depth, and has some row.
pub record Good {X : Type 0} (end d : ℕ) (R : ℕ → List Placed → X → Type 0) (F : List Placed → Type 0) (P : ℕ → List Placed → Read X) : Type 0 where
  pub does : (ts : List Placed) → Outcome end d R P ts
  pub complete : (front rest : List Placed) (x : X) → R d front x → F rest → P d (front ++ rest) ≡ Ok (x, rest)
  pub up : (ts : List Placed) (x : X) → R d ts x → R (suc d) ts x
  pub sample : (ts : List Placed) × (x : X) × R d ts x

pub lasts_from : (d : ℕ) (c : Cause) (e : ℕ) → Lasts d c e → d ≤ e
lasts_from d ends e h = h
lasts_from d (wrong t) e h = h
lasts_from d (deep t) e h = omega arith

pub follow_first : (c : Cause) (us ts : List Placed) → first (follow c us) ≡ first (follow c ts)
follow_first ends us ts = refl
follow_first (wrong t) us ts = refl
follow_first (deep t) us ts = refl

pub deeper_by : {X Y : Type 0} (c : Cause) (R : List Placed → X → Type 0) (S : List Placed → Y → Type 0) (front more : List Placed) →
    ((ts : List Placed) → Viable R (front ++ ts) → Viable S (more ++ ts)) → Deeper c R front → Deeper c S more
deeper_by ends R S front more f h = tt
deeper_by (wrong t) R S front more f h = tt
deeper_by (deep t) R S front more f h = f (t ∷ []) h

viable_by : {X : Type 0} (R S : List Placed → X → Type 0) → ((ts : List Placed) (x : X) → R ts x → S ts x) → (front : List Placed) → Viable R front → Viable S front
viable_by R S f front v = (v.0, v.1, f (front ++ v.0) v.1 v.2)

-- ---- relations

-- one token that passes the test f, and its place
pub data Is (f : Tok → Bool) : List Placed → ℕ → Type 0 where
  such : (t : Placed) → f t.0 ≡ true → Is f (t ∷ []) t.1

-- no token, which says x
pub data Nothing {X : Type 0} (x : X) : List Placed → X → Type 0 where
  nothing : Nothing x [] x

-- the rows of R, told in another way, by the row and what it says
pub data Told {X Y : Type 0} (g : List Placed → X → Y) (R : List Placed → X → Type 0) : List Placed → Y → Type 0 where
  told : (ts : List Placed) (x : X) → R ts x → Told g R ts (g ts x)

-- a row of R₁, and then one of R₂
pub data Then {X Y : Type 0} (R₁ : List Placed → X → Type 0) (R₂ : X → List Placed → Y → Type 0) : List Placed → Y → Type 0 where
  both : (ts us : List Placed) (x : X) (y : Y) → R₁ ts x → R₂ x us y → Then R₁ R₂ (ts ++ us) y

-- one way behind a token that f knows, or another
pub data Choice {X Y : Type 0} (f : Tok → Option X) (Hit : X → ℕ → List Placed → Y → Type 0) (Miss : List Placed → Y → Type 0) : List Placed → Y → Type 0 where
  hit : (t : Placed) (ts : List Placed) (x : X) (y : Y) → f t.0 ≡ Some x → Hit x t.1 ts y → Choice f Hit Miss (t ∷ ts) y
  miss : (ts : List Placed) (y : Y) → Miss ts y → Choice f Hit Miss ts y

-- one way behind a token that passes the test f, or another
pub data Branch {Y : Type 0} (f : Tok → Bool) (Hit : ℕ → List Placed → Y → Type 0) (Miss : List Placed → Y → Type 0) : List Placed → Y → Type 0 where
  here : (t : Placed) (ts : List Placed) (y : Y) → f t.0 ≡ true → Hit t.1 ts y → Branch f Hit Miss (t ∷ ts) y
  other : (ts : List Placed) (y : Y) → Miss ts y → Branch f Hit Miss ts y

module _ (end d : ℕ) where
  -- a reader that answers alike
  pub good_same : {X : Type 0} {R : ℕ → List Placed → X → Type 0} {F : List Placed → Type 0} {P Q : ℕ → List Placed → Read X} →
      ((e : ℕ) (ts : List Placed) → P e ts ≡ Q e ts) → Good end d R F P → Good end d R F Q
  good_same {X} {R} {F} h g = subst (λ (p : ℕ → List Placed → Read X). Good end d R F p) (fun_ext λ e. fun_ext λ ts. h e ts) g

  outcome_as : {X : Type 0} {R S : ℕ → List Placed → X → Type 0} {P : ℕ → List Placed → Read X} {ts : List Placed} →
      ((e : ℕ) (ts : List Placed) (x : X) → R e ts x → S e ts x) → Outcome end d R P ts → Outcome end d S P ts
  outcome_as f (reads front rest x is r goes) = reads front rest x is (f d front x r) goes
  outcome_as {R} {S} f (fails c front rest is v w stays) =
      fails c front rest is (viable_by (R d) (S d) (f d) front v) (deeper_by c (R (suc d)) (S (suc d)) front front (λ ts. viable_by (R (suc d)) (S (suc d)) (f (suc d)) (front ++ ts)) w) stays

  -- another relation with the same rows
  pub good_as : {X : Type 0} {R S : ℕ → List Placed → X → Type 0} {F G : List Placed → Type 0} {P : ℕ → List Placed → Read X} →
      ((e : ℕ) (ts : List Placed) (x : X) → R e ts x → S e ts x) → ((ts : List Placed) (x : X) → S d ts x → R d ts x) → ((ts : List Placed) → G ts → F ts) →
      Good end d R F P → Good end d S G P
  good_as f b k g = record {
    does = λ ts. outcome_as f (g.does ts);
    complete = λ front rest x s after. g.complete front rest x (b front x s) (k rest after);
    up = λ ts x s. f (suc d) ts x (g.up ts x (b ts x s));
    sample = (g.sample.0, g.sample.1, f d _ _ g.sample.2);
  }

  -- before less
  pub good_before : {X : Type 0} {R : ℕ → List Placed → X → Type 0} {F G : List Placed → Type 0} {P : ℕ → List Placed → Read X} → ((ts : List Placed) → G ts → F ts) →
      Good end d R F P → Good end d R G P
  good_before k g = good_as (λ e ts x r. r) (λ ts x r. r) k g

  nothing_complete : {X : Type 0} (x : X) (front rest : List Placed) (y : X) → Nothing x front y → ◌≡◌ {A = Read X} (Ok (x, front ++ rest)) (Ok (y, rest))
  nothing_complete x front rest y nothing = refl

  -- nothing at all
  pub good_nothing : {X : Type 0} (x : X) (F : List Placed → Type 0) → Good end d (λ _. Nothing x) F (λ _ ts. Ok (x, ts))
  good_nothing x F = record {
    does = λ ts. reads [] ts x refl nothing (λ e l us same. refl);
    complete = λ front rest y r after. nothing_complete x front rest y r;
    up = λ ts y r. r;
    sample = ([], x, nothing);
  }

  expects : {X : Type 0} (f : Tok → Option X) (t : Placed) (ts : List Placed) (o : Option X) → f t.0 ≡ o → Viable (Knows f) [] →
      Outcome end d (λ _. Knows f) (λ _. expect f end) (t ∷ ts)
  expects f t ts None e some = fails (wrong t) [] ts refl some tt (λ _ _ us. ap (λ o. known o t.1 us) e)
  expects f t ts (Some x) e some = reads (t ∷ []) ts (x, t.1) refl (token t x e) (λ _ _ us _. ap (λ o. known o t.1 us) e)

  expect_does : {X : Type 0} (f : Tok → Option X) → Viable (Knows f) [] → (ts : List Placed) → Outcome end d (λ _. Knows f) (λ _. expect f end) ts
  expect_does f some [] = fails ends [] [] refl some tt (λ _ _ us. refl)
  expect_does f some (t ∷ ts) = expects f t ts (f t.0) refl some

  expect_complete : {X : Type 0} (f : Tok → Option X) (front rest : List Placed) (x : X × ℕ) → Knows f front x → expect f end (front ++ rest) ≡ Ok (x, rest)
  expect_complete f front rest y (token t x e) = ap (λ o. known o t.1 rest) e

  -- one token that f knows, if there is such a token
  pub good_expect : {X : Type 0} (f : Tok → Option X) (t : Tok) (x : X) → f t ≡ Some x → Good end d (λ _. Knows f) (λ _. Unit {0}) (λ _. expect f end)
  good_expect f t x e = record {
    does = expect_does f (((t, 0) ∷ []), (x, 0), token (t, 0) x e);
    complete = λ front rest y r _. expect_complete f front rest y r;
    up = λ ts y r. r;
    sample = (((t, 0) ∷ []), (x, 0), token (t, 0) x e);
  }

  -- what was read, told in another way
  told_does : {X Y : Type 0} {R : ℕ → List Placed → X → Type 0} {P : ℕ → List Placed → Read X} {ts : List Placed} (g : List Placed → X → Y) →
      ((front rest : List Placed) (x : X) → R d front x → g (front ++ rest) x ≡ g front x) → Outcome end d R P ts →
      Outcome end d (λ e. Told g (R e)) (λ e us. giving (g us) (P e us)) ts
  told_does g keeps (reads front rest x is r goes) =
      reads front rest (g front x) is (told front x r)
      (λ e l us s. ap (giving (g (front ++ us))) (goes e l us s) ∙ ap (λ y. Ok (y, us)) (keeps front us x r))
  told_does {R} g keeps (fails c front rest is v w stays) =
      fails c front rest is (v.0, g (front ++ v.0) v.1, told _ _ v.2)
      (deeper_by c (R (suc d)) (Told g (R (suc d))) front front (λ ts u. (u.0, g ((front ++ ts) ++ u.0) u.1, told _ _ u.2)) w)
      (λ e l us. ap (giving (g (front ++ follow c us))) (stays e l us))

  told_complete : {X Y : Type 0} (R : List Placed → X → Type 0) (P : List Placed → Read X) (g : List Placed → X → Y) (rest front : List Placed) (y : Y) →
      ((rest : List Placed) (x : X) → R front x → g (front ++ rest) x ≡ g front x) →
      ((x : X) → R front x → P (front ++ rest) ≡ Ok (x, rest)) → Told g R front y → giving (g (front ++ rest)) (P (front ++ rest)) ≡ Ok (y, rest)
  told_complete R P g rest front y keeps whole (told ts x r) = ap (giving (g (ts ++ rest))) (whole x r) ∙ ap (λ y. Ok (y, rest)) (keeps rest x r)

  told_up : {X Y : Type 0} (R S : List Placed → X → Type 0) (g : List Placed → X → Y) → ((ts : List Placed) (x : X) → R ts x → S ts x) → (ts : List Placed) (y : Y) → Told g R ts y → Told g S ts y
  told_up R S g f ts y (told us x r) = told us x (f us x r)

  pub good_told : {X Y : Type 0} {R : ℕ → List Placed → X → Type 0} {F : List Placed → Type 0} {P : ℕ → List Placed → Read X} (g : List Placed → X → Y) →
      ((front rest : List Placed) (x : X) → R d front x → g (front ++ rest) x ≡ g front x) → Good end d R F P →
      Good end d (λ e. Told g (R e)) F (λ e ts. giving (g ts) (P e ts))
  good_told {R} {P} g keeps h = record {
    does = λ ts. told_does g keeps (h.does ts);
    complete = λ front rest y r after. told_complete (R d) (P d) g rest front y (keeps front) (λ x s. h.complete front rest x s after) r;
    up = told_up (R d) (R (suc d)) g h.up;
    sample = (h.sample.0, g h.sample.0 h.sample.1, told _ _ h.sample.2);
  }

  -- the same, whatever the row
  pub good_giving : {X Y : Type 0} {R : ℕ → List Placed → X → Type 0} {F : List Placed → Type 0} {P : ℕ → List Placed → Read X} (g : X → Y) → Good end d R F P →
      Good end d (λ e. Told (λ _. g) (R e)) F (λ e ts. giving g (P e ts))
  good_giving g h = good_told (λ _. g) (λ front rest x r. refl) h

  -- ---- one reader after another

  module _ {X Y : Type 0} {R₁ : ℕ → List Placed → X → Type 0} {R₂ : X → ℕ → List Placed → Y → Type 0} {F₁ F₂ : List Placed → Type 0}
      {P₁ : ℕ → List Placed → Read X} {P₂ : X → ℕ → List Placed → Read Y} (g₁ : Good end d R₁ F₁ P₁) (g₂ : (x : X) → Good end d (R₂ x) F₂ (P₂ x)) where
    abbrev Row : ℕ → List Placed → Y → Type 0
    Row e = Then (R₁ e) (λ x. R₂ x e)

    abbrev Run : ℕ → List Placed → Read Y
    Run e ts = then (P₁ e ts) (λ x rest. P₂ x e rest)

    -- what begins a row of the first begins one of both
    begun : (e : ℕ) → ((x : X) → (ts : List Placed) × (y : Y) × R₂ x e ts y) → (front : List Placed) → Viable (R₁ e) front → Viable (Row e) front
    begun e some front v =
        let s = some v.1 in
        (v.0 ++ s.0, s.1, subst (λ (l : List Placed). Row e l s.1) (append_assoc front v.0 s.0) (both (front ++ v.0) s.0 v.1 s.1 v.2 s.2))

    -- behind a row of the first, what begins one of the second
    behind : (e : ℕ) (x : X) (front : List Placed) → R₁ e front x → (more : List Placed) → Viable (R₂ x e) more → Viable (Row e) (front ++ more)
    behind e x front r more v =
        (v.0, v.1, subst (λ (l : List Placed). Row e l v.1) (sym (append_assoc front more v.0)) (both front (more ++ v.0) x v.1 r v.2))

    run_on : (e : ℕ) (front more us : List Placed) (x : X) → P₁ e (front ++ (more ++ us)) ≡ Ok (x, more ++ us) → Run e ((front ++ more) ++ us) ≡ P₂ x e (more ++ us)
    run_on e front more us x h = ap (Run e) (append_assoc front more us) ∙ ap (λ r. then r (λ x rest. P₂ x e rest)) h

    then_on : {ts : List Placed} (front rest : List Placed) (x : X) → ts ≡ front ++ rest → R₁ d front x →
        ((e : ℕ) → d ≤ e → (us : List Placed) → first us ≡ first rest → P₁ e (front ++ us) ≡ Ok (x, us)) → Outcome end d (R₂ x) (P₂ x) rest → Outcome end d Row Run ts
    then_on front rest x is r goes (reads more left y was s goes') =
        reads (front ++ more) left y (is ∙ ap (λ l. front ++ l) was ∙ sym (append_assoc front more left)) (both front more x y r s)
        (λ e l us same. run_on e front more us x (goes e l (more ++ us) (first_after more us left same ∙ ap first (sym was))) ∙ goes' e l us same)
    then_on front rest x is r goes (fails c more left was v w stays) =
        fails c (front ++ more) left (is ∙ ap (λ l. front ++ l) was ∙ sym (append_assoc front more (follow c left))) (behind d x front r more v)
        (deeper_by c (R₂ x (suc d)) (Row (suc d)) more (front ++ more)
        (λ ts u. subst (Viable (Row (suc d))) (sym (append_assoc front more ts)) (behind (suc d) x front (g₁.up front x r) (more ++ ts) u)) w)
        (λ e l us. run_on e front more (follow c us) x
        (goes e (lasts_from d c e l) (more ++ follow c us) (first_after more (follow c us) (follow c left) (follow_first c us left) ∙ ap first (sym was))) ∙ stays e l us)

    then_does : {ts : List Placed} → Outcome end d R₁ P₁ ts → Outcome end d Row Run ts
    then_does (reads front rest x is r goes) = then_on front rest x is r goes ((g₂ x).does rest)
    then_does (fails c front rest is v w stays) =
        fails c front rest is (begun d (λ x. (g₂ x).sample) front v)
        (deeper_by c (R₁ (suc d)) (Row (suc d)) front front (λ ts. begun (suc d) (λ x. let s = (g₂ x).sample in (s.0, s.1, (g₂ x).up s.0 s.1 s.2)) (front ++ ts)) w)
        (λ e l us. ap (λ r. then r (λ x rest. P₂ x e rest)) (stays e l us))

    then_complete : (front rest : List Placed) (y : Y) → ((x : X) (us : List Placed) → R₂ x d us y → F₁ (us ++ rest)) → Row d front y → F₂ rest → Run d (front ++ rest) ≡ Ok (y, rest)
    then_complete front rest y starts (both ts us x z r s) after =
        run_on d ts us rest x (g₁.complete ts (us ++ rest) x r (starts x us s)) ∙ (g₂ x).complete us rest z s after

    then_up : (ts : List Placed) (y : Y) → Row d ts y → Row (suc d) ts y
    then_up ts y (both us vs x z r s) = both us vs x z (g₁.up us x r) ((g₂ x).up vs z s)

    -- one reader after another, if what the second reads may follow the first
    pub good_then : ((x : X) (y : Y) (us rest : List Placed) → R₂ x d us y → F₂ rest → F₁ (us ++ rest)) → Good end d Row F₂ Run
    good_then starts = record {
      does = λ ts. then_does (g₁.does ts);
      complete = λ front rest y r after. then_complete front rest y (λ x us s. starts x y us rest s after) r after;
      up = then_up;
      sample = (let a = g₁.sample in let b = (g₂ a.1).sample in (a.0 ++ b.0, b.1, both a.0 b.0 a.1 b.1 a.2 b.2));
    }

  -- ---- a choice by the first token

  module _ {X Y : Type 0} (f : Tok → Option X) (Hit : X → ℕ → ℕ → List Placed → Y → Type 0) (Miss : ℕ → List Placed → Y → Type 0)
      (H : X → ℕ → ℕ → List Placed → Read Y) (M : ℕ → List Placed → Read Y) where
    abbrev Rows : ℕ → List Placed → Y → Type 0
    Rows e = Choice f (λ x p. Hit x p e) (Miss e)

    abbrev Chosen : ℕ → List Placed → Read Y
    Chosen e = if_known f (λ x p. H x p e) (M e)

    passed : (e : ℕ) (us : List Placed) → Misses f us → Chosen e us ≡ M e us
    passed e [] h = refl
    passed e (t ∷ us) h = ap (λ o. by_option o (λ x. H x t.1 e us) (M e (t ∷ us))) h

    caught : (e : ℕ) (t : Placed) (us : List Placed) (x : X) → f t.0 ≡ Some x → Chosen e (t ∷ us) ≡ H x t.1 e us
    caught e t us x h = ap (λ o. by_option o (λ x. H x t.1 e us) (M e (t ∷ us))) h

    passes_on : (front us rest ts : List Placed) → ts ≡ front ++ rest → Misses f ts → first us ≡ first rest → Misses f (front ++ us)
    passes_on front us rest ts is h same = subst (Passes (λ t. f t ≡ None)) (ap first is ∙ sym (first_after front us rest same)) h

    miss_does : {ts : List Placed} → Misses f ts → Outcome end d Miss M ts → Outcome end d Rows Chosen ts
    miss_does {ts} h (reads front rest y is r goes) =
        reads front rest y is (miss front y r) (λ e l us same. passed e (front ++ us) (passes_on front us rest ts is h same) ∙ goes e l us same)
    miss_does {ts} h (fails c front rest is v w stays) =
        fails c front rest is (v.0, v.1, miss _ _ v.2) (deeper_by c (Miss (suc d)) (Rows (suc d)) front front (λ ts u. (u.0, u.1, miss _ _ u.2)) w)
        (λ e l us. passed e (front ++ follow c us) (passes_on front (follow c us) (follow c rest) ts is h (follow_first c us rest)) ∙ stays e l us)

    hit_does : (t : Placed) (ts : List Placed) (x : X) → f t.0 ≡ Some x → Outcome end d (Hit x t.1) (H x t.1) ts → Outcome end d Rows Chosen (t ∷ ts)
    hit_does t ts x h (reads front rest y is r goes) =
        reads (t ∷ front) rest y (ap (λ l. t ∷ l) is) (hit t front x y h r) (λ e l us same. caught e t (front ++ us) x h ∙ goes e l us same)
    hit_does t ts x h (fails c front rest is v w stays) =
        fails c (t ∷ front) rest (ap (λ l. t ∷ l) is) (v.0, v.1, hit t (front ++ v.0) x v.1 h v.2)
        (deeper_by c (Hit x t.1 (suc d)) (Rows (suc d)) front (t ∷ front) (λ ts u. (u.0, u.1, hit t ((front ++ ts) ++ u.0) x u.1 h u.2)) w)
        (λ e l us. caught e t (front ++ follow c us) x h ∙ stays e l us)

    chosen_by : ((t : Placed) (ts : List Placed) (x : X) → f t.0 ≡ Some x → Outcome end d Rows Chosen (t ∷ ts)) → ((ts : List Placed) → Outcome end d Miss M ts) →
        (t : Placed) (ts : List Placed) (o : Option X) → f t.0 ≡ o → Outcome end d Rows Chosen (t ∷ ts)
    chosen_by hits misses t ts None h = miss_does h (misses (t ∷ ts))
    chosen_by hits misses t ts (Some x) h = hits t ts x h

    chosen_does : ((t : Placed) (ts : List Placed) (x : X) → f t.0 ≡ Some x → Outcome end d Rows Chosen (t ∷ ts)) → ((ts : List Placed) → Outcome end d Miss M ts) →
        (ts : List Placed) → Outcome end d Rows Chosen ts
    chosen_does hits misses [] = miss_does tt (misses [])
    chosen_does hits misses (t ∷ ts) = chosen_by hits misses t ts (f t.0) refl

    chosen_complete : (front rest : List Placed) (y : Y) → ((x : X) (p : ℕ) (ts : List Placed) → Hit x p d ts y → H x p d (ts ++ rest) ≡ Ok (y, rest)) →
        (Miss d front y → M d (front ++ rest) ≡ Ok (y, rest)) → (Miss d front y → Misses f (front ++ rest)) → Rows d front y → Chosen d (front ++ rest) ≡ Ok (y, rest)
    chosen_complete front rest y hits misses clear (hit t ts x z h r) = caught d t (ts ++ rest) x h ∙ hits x t.1 ts r
    chosen_complete front rest y hits misses clear (miss ts z r) = passed d (ts ++ rest) (clear r) ∙ misses r

    chosen_up : ((x : X) (p : ℕ) (ts : List Placed) (y : Y) → Hit x p d ts y → Hit x p (suc d) ts y) → ((ts : List Placed) (y : Y) → Miss d ts y → Miss (suc d) ts y) →
        (ts : List Placed) (y : Y) → Rows d ts y → Rows (suc d) ts y
    chosen_up hits misses ts y (hit t us x z h r) = hit t us x z h (hits x t.1 us z r)
    chosen_up hits misses ts y (miss us z r) = miss us z (misses us z r)

  -- The choice is good if the other way is, and where it reads there is no first token that f knows. What happens behind such a
  -- token is given part by part.
  pub good_chosen : {X Y : Type 0} (f : Tok → Option X) (Hit : X → ℕ → ℕ → List Placed → Y → Type 0) {Miss : ℕ → List Placed → Y → Type 0} {F : List Placed → Type 0}
      (H : X → ℕ → ℕ → List Placed → Read Y) {M : ℕ → List Placed → Read Y} →
      ((t : Placed) (ts : List Placed) (x : X) → f t.0 ≡ Some x → Outcome end d (λ e. Choice f (λ x p. Hit x p e) (Miss e)) (λ e. if_known f (λ x p. H x p e) (M e)) (t ∷ ts)) →
      ((x : X) (p : ℕ) (ts rest : List Placed) (y : Y) → Hit x p d ts y → F rest → H x p d (ts ++ rest) ≡ Ok (y, rest)) →
      ((x : X) (p : ℕ) (ts : List Placed) (y : Y) → Hit x p d ts y → Hit x p (suc d) ts y) →
      Good end d Miss F M → ((ts rest : List Placed) (y : Y) → Miss d ts y → F rest → Misses f (ts ++ rest)) →
      Good end d (λ e. Choice f (λ x p. Hit x p e) (Miss e)) F (λ e. if_known f (λ x p. H x p e) (M e))
  good_chosen f Hit {Miss} H {M} hits whole higher g clear = record {
    does = chosen_does f Hit Miss H M hits g.does;
    complete = λ front rest y r after. chosen_complete f Hit Miss H M front rest y (λ x p ts s. whole x p ts rest y s after) (λ s. g.complete front rest y s after) (λ s. clear front rest y s after) r;
    up = chosen_up f Hit Miss H M higher g.up;
    sample = (g.sample.0, g.sample.1, miss _ _ g.sample.2);
  }

  -- the choice of two good readers
  pub good_if_known : {X Y : Type 0} (f : Tok → Option X) {Hit : X → ℕ → ℕ → List Placed → Y → Type 0} {Miss : ℕ → List Placed → Y → Type 0} {F : List Placed → Type 0}
      {H : X → ℕ → ℕ → List Placed → Read Y} {M : ℕ → List Placed → Read Y} →
      ((x : X) (p : ℕ) → Good end d (Hit x p) F (H x p)) → Good end d Miss F M → ((ts rest : List Placed) (y : Y) → Miss d ts y → F rest → Misses f (ts ++ rest)) →
      Good end d (λ e. Choice f (λ x p. Hit x p e) (Miss e)) F (λ e. if_known f (λ x p. H x p e) (M e))
  good_if_known f {Hit} {Miss} {H} {M} h g clear =
      good_chosen f Hit H (λ t ts x is. hit_does f Hit Miss H M t ts x is ((h x t.1).does ts)) (λ x p ts rest y r after. (h x p).complete ts rest y r after) (λ x p. (h x p).up) g clear

-- ---- tests in the place of what is known

abbrev pub flag : Bool → Option (Unit {0})
flag true = Some tt
flag false = None

flagged : (b : Bool) (u : Unit {0}) → flag b ≡ Some u → b ≡ true
flagged true u e = refl
flagged false u e = let z : ◌≡◌ {A = ℕ} 0 1 = cc in absurd (omega arith)

fixed_by : (b : Bool) (p : ℕ) (ts : List Placed) → giving (λ (x : Unit {0} × ℕ). x.1) (known (flag b) p ts) ≡ cond b (Ok (p, ts)) (Err (WrongToken p))
fixed_by true p ts = refl
fixed_by false p ts = refl

fixed_same : (f : Tok → Bool) (end : ℕ) (ts : List Placed) → giving (λ (x : Unit {0} × ℕ). x.1) (expect (λ t. flag (f t)) end ts) ≡ fixed f end ts
fixed_same f end [] = refl
fixed_same f end (t ∷ ts) = fixed_by (f t.0) t.1 ts

fixed_is : (f : Tok → Bool) (ts : List Placed) (p : ℕ) → Told (λ _ (x : Unit {0} × ℕ). x.1) (Knows (λ t. flag (f t))) ts p → Is f ts p
fixed_is f ts p (told _ _ (token t u e)) = such t (flagged (f t.0) u e)

is_fixed : (f : Tok → Bool) (ts : List Placed) (p : ℕ) → Is f ts p → Told (λ _ (x : Unit {0} × ℕ). x.1) (Knows (λ t. flag (f t))) ts p
is_fixed f ts p (such t e) = told (t ∷ []) (tt, t.1) (token t tt (ap flag e))

first_by : {Y : Type 0} (b : Bool) (hits misses : Read Y) → by_option (flag b) (λ _. hits) misses ≡ cond b hits misses
first_by true hits misses = refl
first_by false hits misses = refl

first_same : {Y : Type 0} (f : Tok → Bool) (hits : ℕ → List Placed → Read Y) (misses : List Placed → Read Y) (ts : List Placed) →
    if_known (λ t. flag (f t)) (λ _. hits) misses ts ≡ if_first f hits misses ts
first_same f hits misses [] = refl
first_same f hits misses (t ∷ ts) = first_by (f t.0) (hits t.1 ts) (misses (t ∷ ts))

branch_is : {Y : Type 0} (f : Tok → Bool) (Hit : ℕ → List Placed → Y → Type 0) (Miss : List Placed → Y → Type 0) (ts : List Placed) (y : Y) →
    Choice (λ t. flag (f t)) (λ _. Hit) Miss ts y → Branch f Hit Miss ts y
branch_is f Hit Miss ts y (hit t us x z e r) = here t us z (flagged (f t.0) x e) r
branch_is f Hit Miss ts y (miss us z r) = other us z r

is_branch : {Y : Type 0} (f : Tok → Bool) (Hit : ℕ → List Placed → Y → Type 0) (Miss : List Placed → Y → Type 0) (ts : List Placed) (y : Y) →
    Branch f Hit Miss ts y → Choice (λ t. flag (f t)) (λ _. Hit) Miss ts y
is_branch f Hit Miss ts y (here t us z e r) = hit t us tt z (ap flag e) r
is_branch f Hit Miss ts y (other us z r) = miss us z r

pub stops_flag : (f : Tok → Bool) (ts : List Placed) → Stops f ts → Misses (λ t. flag (f t)) ts
stops_flag f [] h = tt
stops_flag f (t ∷ ts) h = ap flag h

module _ (end d : ℕ) where
  -- one token that passes the test f, if there is such a token
  pub good_fixed : (f : Tok → Bool) (t : Tok) → f t ≡ true → Good end d (λ _. Is f) (λ _. Unit {0}) (λ _. fixed f end)
  good_fixed f t e =
      good_as end d (λ _. fixed_is f) (is_fixed f) (λ ts h. h)
      (good_same end d (λ _. fixed_same f end) (good_giving end d (λ x. x.1) (good_expect end d (λ t. flag (f t)) t tt (ap flag e))))

  -- a choice by a test is a choice by what is known
  pub good_branch : {Y : Type 0} (f : Tok → Bool) {Hit : ℕ → ℕ → List Placed → Y → Type 0} {Miss : ℕ → List Placed → Y → Type 0} {F : List Placed → Type 0}
      (H : ℕ → ℕ → List Placed → Read Y) (M : ℕ → List Placed → Read Y) →
      Good end d (λ e. Choice (λ t. flag (f t)) (λ _ p. Hit p e) (Miss e)) F (λ e. if_known (λ t. flag (f t)) (λ _ p. H p e) (M e)) →
      Good end d (λ e. Branch f (λ p. Hit p e) (Miss e)) F (λ e. if_first f (λ p. H p e) (M e))
  good_branch f {Hit} {Miss} H M g =
      good_as end d (λ e. branch_is f (λ p. Hit p e) (Miss e)) (is_branch f (λ p. Hit p d) (Miss d)) (λ ts h. h)
      (good_same end d (λ e. first_same f (λ p. H p e) (M e)) g)

  -- the choice of two good readers by a test
  pub good_if_first : {Y : Type 0} (f : Tok → Bool) {Hit : ℕ → ℕ → List Placed → Y → Type 0} {Miss : ℕ → List Placed → Y → Type 0} {F : List Placed → Type 0}
      {H : ℕ → ℕ → List Placed → Read Y} {M : ℕ → List Placed → Read Y} →
      ((p : ℕ) → Good end d (Hit p) F (H p)) → Good end d Miss F M → ((ts rest : List Placed) (y : Y) → Miss d ts y → F rest → Stops f (ts ++ rest)) →
      Good end d (λ e. Branch f (λ p. Hit p e) (Miss e)) F (λ e. if_first f (λ p. H p e) (M e))
  good_if_first f {H} {M} h g clear = good_branch f H M (good_if_known end d (λ t. flag (f t)) (λ _ p. h p) g (λ ts rest y r after. stops_flag f (ts ++ rest) (clear ts rest y r after)))
