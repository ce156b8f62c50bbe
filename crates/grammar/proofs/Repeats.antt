-- Parts between separators are read well if each part is. Assumes nothing.
use Rattle.std.proofs.Common.{◌≡◌, ℕ, zero, suc, ◌≤◌, Bool, true, false, cond, List, [], ◌∷◌, ◌++◌, length, Some, None, Ok, Err, sym, refl, ap, ◌∙◌, subst, append_assoc, arith, length-append}
use Rattle.grammar.proofs.Readers.{first, Passes, Stops, Viable, follow, Outcome, Good, lasts_from, deeper_by}
use Rattle.grammar.proofs.Readers.Outcome.{reads, fails}
use Rattle.grammar.specs.Grammar.{Separated}
use Rattle.grammar.specs.Grammar.Separated.{first as lone, next}
use Rattle.grammar.specs.Reading.{Read, then, giving, by_option, more, separated}
use Rattle.grammar.specs.declared.fault.GrammarFault.{GrammarFault}
use Rattle.letters.specs.Tokens.{Tok, Placed}

-- ---- the loop

module _ {X S : Type 0} (separator : Tok → Bool) (start : X → S) (join : S → X → S) (Q : List Placed → Read X) where
  abbrev Loop : ℕ → S → List Placed → Read S
  Loop n s ts = more separator (λ s' after. giving (join s') (Q after)) n s ts

  abbrev Whole : List Placed → Read S
  Whole = separated separator start join Q

  -- having read the front as s, so many turns are left that they suffice for the rest
  abbrev Reach : List Placed → S → List Placed → Type 0
  Reach front s rest = (turns : ℕ) × (length rest ≤ turns) × (Whole (front ++ rest) ≡ Loop turns s rest)

  stopped : (n : ℕ) (s : S) (ts : List Placed) → Stops separator ts → Loop n s ts ≡ Ok (s, ts)
  stopped zero s ts h = refl
  stopped (suc n) s [] h = refl
  stopped (suc n) s (t ∷ ts) h = ap (λ (b : Bool). by_option (cond b (Some ts) None) (λ rest. then (giving (join s) (Q rest)) (Loop n)) (Ok (s, t ∷ ts))) h

  turn : (n : ℕ) (s : S) (t : Placed) (ts : List Placed) → separator t.0 ≡ true → Loop (suc n) s (t ∷ ts) ≡ then (giving (join s) (Q ts)) (Loop n)
  turn n s t ts h = ap (λ (b : Bool). by_option (cond b (Some ts) None) (λ rest. then (giving (join s) (Q rest)) (Loop n)) (Ok (s, t ∷ ts))) h

  reach_lone : (front rest : List Placed) (x : X) → Q (front ++ rest) ≡ Ok (x, rest) → Reach front (start x) rest
  reach_lone front rest x h = (length rest, omega arith, ap (λ (r : Read X). then (giving start r) (λ s after. Loop (length after) s after)) h)

  reach_next : (front : List Placed) (s : S) (t : Placed) (part rest : List Placed) (x : X) → Reach front s (t ∷ (part ++ rest)) → separator t.0 ≡ true →
      Q (part ++ rest) ≡ Ok (x, rest) → Reach (front ++ (t ∷ part)) (join s x) rest
  reach_next front s t part rest x (zero, long, goes) sep h = absurd (omega arith)
  reach_next front s t part rest x (suc k, long, goes) sep h = (
    k,
    omega (arith, length-append part rest),
    ap Whole (append_assoc front (t ∷ part) rest) ∙ goes ∙ turn k s t (part ++ rest) sep ∙ ap (λ (r : Read X). then (giving (join s) r) (Loop k)) h,
  )

  reach_fault : (front : List Placed) (s : S) (t : Placed) (ts : List Placed) (e : GrammarFault) → Reach front s (t ∷ ts) → separator t.0 ≡ true →
      Q ts ≡ Err e → Whole (front ++ (t ∷ ts)) ≡ Err e
  reach_fault front s t ts e (zero, long, goes) sep h = absurd (omega arith)
  reach_fault front s t ts e (suc k, long, goes) sep h = goes ∙ turn k s t ts sep ∙ ap (λ (r : Read X). then (giving (join s) r) (Loop k)) h

-- ---- the reader

module _ (end d : ℕ) {X S : Type 0} (separator : Tok → Bool) (start : X → S) (join : S → X → S) {R : ℕ → List Placed → X → Type 0} {F : List Placed → Type 0}
    {Q : ℕ → List Placed → Read X} (g : Good end d R F Q) where
  abbrev Rows : ℕ → List Placed → S → Type 0
  Rows e = Separated separator start join (R e)

  abbrev Run : ℕ → List Placed → Read S
  Run e = separated separator start join (Q e)

  rows_up : {ts : List Placed} {s : S} → Rows d ts s → Rows (suc d) ts s
  rows_up (lone ts x r) = lone ts x (g.up ts x r)
  rows_up (next ts us t s x m e r) = next ts us t s x (rows_up m) e (g.up us x r)

  behind : (e : ℕ) (front : List Placed) (s : S) (t : Placed) → Rows e front s → separator t.0 ≡ true → (part : List Placed) → Viable (R e) part → Viable (Rows e) (front ++ (t ∷ part))
  behind e front s t m sep part v =
      (v.0, join s v.1, subst (λ (l : List Placed). Rows e l (join s v.1)) (sym (append_assoc front (t ∷ part) v.0)) (next front (part ++ v.0) t s v.1 m sep v.2))

  -- going on behind a front that was read, with at most n more tokens, ends well
  abbrev Goes_on : ℕ → List Placed → Type 0
  Goes_on n ts = (front rest : List Placed) (s : S) → length rest ≤ n → ts ≡ front ++ rest → Rows d front s →
      ((e : ℕ) → d ≤ e → (us : List Placed) → first us ≡ first rest → Reach separator start join (Q e) front s us) → Outcome end d Rows Run ts

  halts : (ts front rest : List Placed) (s : S) → ts ≡ front ++ rest → Rows d front s → Stops separator rest →
      ((e : ℕ) → d ≤ e → (us : List Placed) → first us ≡ first rest → Reach separator start join (Q e) front s us) → Outcome end d Rows Run ts
  halts ts front rest s is m stops reach =
      reads front rest s is m
      (λ e l us same. let r = reach e l us same in r.2 ∙ stopped separator start join (Q e) r.0 s us (subst (Passes (λ t. separator t ≡ false)) (sym same) stops))

  part_on : (n : ℕ) (ts front rest : List Placed) (s : S) (t : Placed) → Goes_on n ts → length rest ≤ n → ts ≡ front ++ (t ∷ rest) → Rows d front s → separator t.0 ≡ true →
      ((e : ℕ) → d ≤ e → (us : List Placed) → Reach separator start join (Q e) front s (t ∷ us)) → Outcome end d R Q rest → Outcome end d Rows Run ts
  part_on n ts front rest s t again long is m sep reach (reads part left x was r goes) =
      again (front ++ (t ∷ part)) left (join s x) (omega (arith, ap length was, length-append part left))
      (is ∙ ap (λ (l : List Placed). front ++ (t ∷ l)) was ∙ sym (append_assoc front (t ∷ part) left)) (next front part t s x m sep r)
      (λ e l us same. reach_next separator start join (Q e) front s t part us x (reach e l (part ++ us)) sep (goes e l us same))
  part_on n ts front rest s t again long is m sep reach (fails c part left was v w stays) =
      fails c (front ++ (t ∷ part)) left (is ∙ ap (λ (l : List Placed). front ++ (t ∷ l)) was ∙ sym (append_assoc front (t ∷ part) (follow c left))) (behind d front s t m sep part v)
      (deeper_by c (R (suc d)) (Rows (suc d)) part (front ++ (t ∷ part))
      (λ us u. subst (Viable (Rows (suc d))) (sym (append_assoc front (t ∷ part) us)) (behind (suc d) front s t (rows_up m) sep (part ++ us) u)) w)
      (λ e l us. ap (Run e) (append_assoc front (t ∷ part) (follow c us)) ∙
      reach_fault separator start join (Q e) front s t (part ++ follow c us) _ (reach e (lasts_from d c e l) (part ++ follow c us)) sep (stays e l us))

  turn_on : (n : ℕ) (ts front rest : List Placed) (s : S) (t : Placed) (b : Bool) → separator t.0 ≡ b → Goes_on n ts → length rest ≤ n → ts ≡ front ++ (t ∷ rest) → Rows d front s →
      ((e : ℕ) → d ≤ e → (us : List Placed) → first us ≡ Some t → Reach separator start join (Q e) front s us) → Outcome end d Rows Run ts
  turn_on n ts front rest s t false sep again long is m reach = halts ts front (t ∷ rest) s is m sep reach
  turn_on n ts front rest s t true sep again long is m reach = part_on n ts front rest s t again long is m sep (λ e l us. reach e l (t ∷ us) refl) (g.does rest)

  goes_on : (n : ℕ) (ts : List Placed) → Goes_on n ts
  goes_on zero ts front [] s long is m reach = halts ts front [] s is m tt reach
  goes_on zero ts front (t ∷ rest) s long is m reach = absurd (omega arith)
  goes_on (suc n) ts front [] s long is m reach = halts ts front [] s is m tt reach
  goes_on (suc n) ts front (t ∷ rest) s long is m reach = turn_on n ts front rest s t (separator t.0) refl (goes_on n ts) (omega arith) is m reach

  separated_does : {ts : List Placed} → Outcome end d R Q ts → Outcome end d Rows Run ts
  separated_does {ts} (reads front rest x is r goes) =
      goes_on (length rest) ts front rest (start x) (omega arith) is (lone front x r) (λ e l us same. reach_lone separator start join (Q e) front us x (goes e l us same))
  separated_does (fails c front rest is v w stays) =
      fails c front rest is (v.0, start v.1, lone (front ++ v.0) v.1 v.2)
      (deeper_by c (R (suc d)) (Rows (suc d)) front front (λ us u. (u.0, start u.1, lone ((front ++ us) ++ u.0) u.1 u.2)) w)
      (λ e l us. ap (λ (r : Read X). then (giving start r) (λ s after. Loop separator start join (Q e) (length after) s after)) (stays e l us))

  reached : ((t : Placed) (ts : List Placed) → separator t.0 ≡ true → F (t ∷ ts)) → {ts : List Placed} {s : S} → Rows d ts s → (rest : List Placed) → F rest →
      Reach separator start join (Q d) ts s rest
  reached parts (lone ts x r) rest after = reach_lone separator start join (Q d) ts rest x (g.complete ts rest x r after)
  reached parts (next ts us t s x m e r) rest after =
      reach_next separator start join (Q d) ts s t us rest x (reached parts m (t ∷ (us ++ rest)) (parts t (us ++ rest) e)) e (g.complete us rest x r after)

  -- parts between separators, if a separator may follow a part
  pub good_separated : ((t : Placed) (ts : List Placed) → separator t.0 ≡ true → F (t ∷ ts)) → Good end d Rows (λ ts. Stops separator ts × F ts) Run
  good_separated parts = record {
    does = λ ts. separated_does (g.does ts);
    complete = λ front rest s m after. let r = reached parts m rest after.1 in r.2 ∙ stopped separator start join (Q d) r.0 s rest after.0;
    up = λ ts s m. rows_up m;
    sample = (g.sample.0, start g.sample.1, lone _ _ g.sample.2);
  }
