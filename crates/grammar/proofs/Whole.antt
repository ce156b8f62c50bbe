-- The law of the grammar. Assumes nothing.
use Rattle.std.proofs.Common.{◌≡◌, ℕ, zero, suc, ◌+◌, ◌<◌, ◌≤◌, List, [], ◌∷◌, ◌++◌, Ok, Err, Result, sym, refl, ap, ◌∙◌, subst, inl, inr, ⊎_elim, append_assoc, append-nil, arith}
use Rattle.grammar.proofs.Queries.{good_query}
use Rattle.grammar.proofs.Readers.{Cause, fault, follow, Lasts, Deeper, Outcome}
use Rattle.grammar.proofs.Readers.Cause.{ends, wrong, deep}
use Rattle.grammar.proofs.Readers.Outcome.{reads, fails}
use Rattle.grammar.specs.Grammar.{ReadsQuery}
use Rattle.grammar.specs.Law.{Begins, GoesWrong, GoesDeep, GrammarHolds}
use Rattle.grammar.specs.Reading.{finished, query_front, query_at}
use Rattle.grammar.specs.Syntax.{Syntax}
use Rattle.grammar.specs.declared.fault.GrammarFault.{GrammarFault}
use Rattle.grammar.specs.declared.fault.GrammarFault.TheVariants.{WrongToken, TooDeep}
use Rattle.letters.specs.Tokens.{Placed}
use Rattle.std.proofs.lemmas.Bool.{cases_lt}

never : (q : Syntax) (e : GrammarFault) → ◌≡◌ {A = Result Syntax GrammarFault} (Ok q) (Err e) → ⊥
never q e h = let z : ◌≡◌ {A = ℕ} 0 1 = cc in omega arith

lasts_here : (d : ℕ) (c : Cause) → Lasts d c d
lasts_here d ends = omega arith
lasts_here d (wrong t) = omega arith
lasts_here d (deep t) = refl

-- how a whole query is answered
data Answer (end d : ℕ) (ts : List Placed) : Type 0 where
  found : (q : Syntax) → ReadsQuery d ts q → query_at d end ts ≡ Ok q → Answer end d ts
  refused : (c : Cause) (front rest : List Placed) → ts ≡ front ++ follow c rest → Begins d front → Deeper c (ReadsQuery (suc d)) front →
      ((e : ℕ) → Lasts d c e → (us : List Placed) → query_at e end (front ++ follow c us) ≡ Err (fault end c)) → Answer end d ts

answer_by : {end d : ℕ} {ts : List Placed} → Outcome end d ReadsQuery (λ e. query_front e end) ts → Answer end d ts
answer_by {end} {d} {ts} (reads front [] q is r goes) =
    found q (subst (λ (l : List Placed). ReadsQuery d l q) (sym (is ∙ append-nil front)) r) (ap (query_at d end) is ∙ ap finished (goes d (omega arith) [] refl))
answer_by {d} (reads front (t ∷ rest) q is r goes) =
    refused (wrong t) front rest is ([], q, subst (λ (l : List Placed). ReadsQuery d l q) (sym (append-nil front)) r) tt (λ e l us. ap finished (goes e l (t ∷ us) refl))
answer_by (fails c front rest is v w stays) = refused c front rest is v w (λ e l us. ap finished (stays e l us))

module _ (end : ℕ) where
  answer : (d : ℕ) (ts : List Placed) → Answer end d ts
  answer d ts = answer_by ((good_query end d).does ts)

  complete : (d : ℕ) (ts : List Placed) (q : Syntax) → ReadsQuery d ts q → query_at d end ts ≡ Ok q
  complete d ts q r = ap (query_at d end) (sym (append-nil ts)) ∙ ap finished ((good_query end d).complete ts [] q r tt)

  -- what reads at a depth reads at any greater one
  raise : (n e : ℕ) (ts : List Placed) (q : Syntax) → e ≤ n → ReadsQuery e ts q → ReadsQuery n ts q
  raise zero e ts q l r = subst (λ (m : ℕ). ReadsQuery m ts q) (omega arith) r
  raise (suc n) e ts q l r =
      ⊎_elim (λ (h : n < e). subst (λ (m : ℕ). ReadsQuery m ts q) (omega arith) r) (λ (h : e ≤ n). (good_query end n).up ts q (raise n e ts q h r)) (cases_lt n e)

  only : (ts : List Placed) (e f : ℕ) (q s : Syntax) → ReadsQuery e ts q → ReadsQuery f ts s → q ≡ s
  only ts e f q s r t =
      let a = complete (e + f) ts q (raise (e + f) e ts q (omega arith) r) in
      let b = complete (e + f) ts s (raise (e + f) f ts s (omega arith) t) in
      cc

  -- what is refused at d and at all greater depths has no reading at all
  refuted : (d : ℕ) (ts : List Placed) (x : GrammarFault) → ((n : ℕ) → d ≤ n → query_at n end ts ≡ Err x) → (e : ℕ) (q : Syntax) → ReadsQuery e ts q → ⊥
  refuted d ts x h e q r = never q x (sym (complete (d + e) ts q (raise (d + e) e ts q (omega arith) r)) ∙ h (d + e) (omega arith))

  module _ (d : ℕ) (ts : List Placed) where
    -- the fault itself
    faulty : (c : Cause) (front rest : List Placed) → ts ≡ front ++ follow c rest →
        ((e : ℕ) → Lasts d c e → (us : List Placed) → query_at e end (front ++ follow c us) ≡ Err (fault end c)) → query_at d end ts ≡ Err (fault end c)
    faulty c front rest is stays = ap (query_at d end) is ∙ stays d (lasts_here d c) rest

    sound_by : (q : Syntax) → query_at d end ts ≡ Ok q → Answer end d ts → ReadsQuery d ts q
    sound_by q e (found s r h) = let same : s ≡ q = cc in subst (ReadsQuery d ts) same r
    sound_by q e (refused c front rest is v w stays) = absurd (never q (fault end c) (sym e ∙ faulty c front rest is stays))

    wrong_by : (p : ℕ) → query_at d end ts ≡ Err (WrongToken p) → Answer end d ts → GoesWrong d end ts p
    wrong_by p e (found q r h) = absurd (never q (WrongToken p) (sym h ∙ e))
    wrong_by p e (refused ends front rest is v w stays) =
        let h = faulty ends front rest is stays in
        let same : ts ≡ front = is ∙ append-nil front in
        inr (cc, subst (Begins d) (sym same) v, refuted d ts (WrongToken end) (λ n l. ap (query_at n end) is ∙ stays n l []))
    wrong_by p e (refused (wrong t) front rest is v w stays) =
        let h = faulty (wrong t) front rest is stays in
        inl (
          record { front = front; it = t; rest = rest; whole = is; place = cc },
          v,
          (λ n b. refuted d (front ++ (t ∷ b.0)) (WrongToken t.1) (λ m l. stays m l b.0) n b.1
              (subst (λ (l : List Placed). ReadsQuery n l b.1) (append_assoc front (t ∷ []) b.0) b.2)),
        )
    wrong_by p e (refused (deep t) front rest is v w stays) =
        let h = faulty (deep t) front rest is stays in
        let z : ◌≡◌ {A = ℕ} 0 1 = cc in absurd (omega arith)

    deep_by : (p : ℕ) → query_at d end ts ≡ Err (TooDeep p) → Answer end d ts → GoesDeep d ts p
    deep_by p e (found q r h) = absurd (never q (TooDeep p) (sym h ∙ e))
    deep_by p e (refused ends front rest is v w stays) =
        let h = faulty ends front rest is stays in
        let z : ◌≡◌ {A = ℕ} 0 1 = cc in absurd (omega arith)
    deep_by p e (refused (wrong t) front rest is v w stays) =
        let h = faulty (wrong t) front rest is stays in
        let z : ◌≡◌ {A = ℕ} 0 1 = cc in absurd (omega arith)
    deep_by p e (refused (deep t) front rest is v w stays) =
        let h = faulty (deep t) front rest is stays in (
          record { front = front; it = t; rest = rest; whole = is; place = cc },
          v,
          w,
          (λ b. never b.1 (TooDeep t.1)
              (sym (complete d (front ++ (t ∷ b.0)) b.1 (subst (λ (l : List Placed). ReadsQuery d l b.1) (append_assoc front (t ∷ []) b.0) b.2)) ∙ stays d refl b.0)),
        )

-- the law
pub grammar_law : GrammarHolds
grammar_law d end ts = record {
  sound = λ q e. sound_by end d ts q e (answer end d ts);
  complete = complete end d ts;
  one = only end ts;
  wrong = λ p e. wrong_by end d ts p e (answer end d ts);
  deep = λ p e. deep_by end d ts p e (answer end d ts);
}
