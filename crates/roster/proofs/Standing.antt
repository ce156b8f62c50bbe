-- Where a map has an identity, and which entries its members stand for as names are entered. Assumes nothing.
use Rattle.std.proofs.Common.{◌≡◌, ℕ, ◌+◌, true, false, List, [], ◌∷◌, map, length, if◌then◌else◌, is_some, Some, None, Ok, Option, Result, IsErr, Vec, vec_items, refl, sym, ◌∙◌, arith, BTreeMap}
use Rattle.keys.specs.Name.{same_points}
use Rattle.std.proofs.lemmas.Slice.Eq.{bytes_eq-Decides}
use Rattle.roster.specs.Entries.{Entry, or_else, line_at}
use Rattle.roster.specs.Members.{member_at, members_in, line_of, Stands, Entered}
use Rattle.std.proofs.lemmas.Bool.Decides.{nat_tests}
use Rattle.std.proofs.lemmas.Cmp.{same_from_slice_cmp}
use Rattle.std.proofs.lemmas.List.{length-map}
use Rattle.std.specs.BTreeMap.{get_by, UpdatesBy, is_at}
use Rattle.std.specs.Cmp.{eq_by_cmp_equiv}
use Rattle.std.specs.Cmp.Lexicographic.{slice_cmp, nat_list_cmp_total}
use Rattle.std.specs.Map.{lookup, KeepsOthers}
use Rattle.std.specs.Ordering.{is_eq, nat_cmp, eq_by_cmp}
use Rattle.std.specs.declared.alloc.AllocError.{AllocError}
use Rattle.std.specs.declared.alloc.Global.{Global}
use Rattle.std.specs.declared.cmp.Ordering.{Ordering}

-- ---- where a map has an identity

-- how a map compares an identity with one of its keys
abbrev pub against : List ℕ → Vec ℕ Global → Ordering
against i k = slice_cmp nat_cmp i (vec_items k)

-- that comparison decides whether two identities are the same
decided : (i j : List ℕ) → is_eq (slice_cmp nat_cmp i j) ≡ same_points i j
decided i j = same_from_slice_cmp nat_cmp is_eq same_points refl (λ _ _. refl) (λ _ _. refl) (λ x y xs ys o h. grind (arith, nat_tests)) i j _ refl

found : (i : List ℕ) (es : List (Vec ℕ Global × ℕ)) → lookup (is_at (against i)) es ≡ line_of i (map member_at es)
found i [] = refl
found i (e ∷ es) = grind (arith, decided i (vec_items e.0), found i es)

-- what a map was found to have at an identity, read as j, is the line of that member
pub sought : (m : BTreeMap (Vec ℕ Global) ℕ) {members : List Entry} {i j : List ℕ} {o : Option ℕ} → members_in m ≡ members → j ≡ i → o ≡ get_by (against j) m → o ≡ line_of i members
sought m {j = j} view read had = had ∙ found j m.entries ∙ (λ t. line_of (read t) (view t))

-- ---- one key more

apart : (i j k : List ℕ) → is_eq (slice_cmp nat_cmp i k) ≡ true → same_points j i ≡ false → is_eq (slice_cmp nat_cmp j k) ≡ false
apart i j k = grind (arith, decided i k, decided j k, bytes_eq-Decides i k)

others : (m n : BTreeMap (Vec ℕ Global) ℕ) (k : Vec ℕ Global) (j : List ℕ) → KeepsOthers (eq_by_cmp (λ x y. against (vec_items x) y)) (is_at (against (vec_items k))) m.entries n.entries →
    same_points j (vec_items k) ≡ false → line_of j (members_in n) ≡ line_of j (members_in m)
unfolding KeepsOthers
others m n k j keeps differ =
    sym (found j n.entries) ∙
    keeps (is_at (against j)) (λ x y. (eq_by_cmp_equiv nat_list_cmp_total).congr j (vec_items x) (vec_items y)) (λ x at_k. apart (vec_items k) j (vec_items x) at_k differ) ∙
    found j m.entries

-- n is m with the key k, which has the points of an identity that m has not
module _ (m n : BTreeMap (Vec ℕ Global) ℕ) (k : Vec ℕ Global) {i : List ℕ} (copied : vec_items k ≡ i) (missing : None ≡ line_of i (members_in m)) where
  pub line_more : {line : ℕ} → UpdatesBy (λ x y. against (vec_items x) y) (against (vec_items k)) m n (Some line) → (j : List ℕ) → line_of j (members_in n) ≡ or_else (line_of j (members_in m)) (line_at j (i, line))
  line_more {line} puts j =
      let here : line_of (vec_items k) (members_in n) ≡ Some line = sym (found (vec_items k) n.entries) ∙ puts.1 in
      grind (arith, bytes_eq-Decides j i, others m n k j puts.3)

  pub length_more : {old : Option ℕ} → old ≡ get_by (against (vec_items k)) m → length n.entries ≡ length m.entries + (if is_some old then 0 else 1) → length (members_in n) ≡ length (members_in m) + 1
  length_more {old} had longer = grind (arith, sought m {o = old} refl copied had, length-map n.entries member_at, length-map m.entries member_at)

-- ---- which entries the members stand for

module _ (members : List Entry) (i : List ℕ) (line : ℕ) (entries : List Entry) (stands : Stands members entries) where
  -- a name that is a member
  pub stands_again : (first : ℕ) → Some first ≡ line_of i members → Entered {E = AllocError} i line entries members (Ok first)
  stands_again first found = grind (arith, stands.firsts i, λ (j : List ℕ). bytes_eq-Decides j i, stands.firsts)

  -- a name that is not, and now is one
  pub stands_more : (more : List Entry) → None ≡ line_of i members → ((j : List ℕ) → line_of j more ≡ or_else (line_of j members) (line_at j (i, line))) → length more ≡ length members + 1 → Entered {E = AllocError} i line entries more (Ok line)
  stands_more more missing now longer = grind (arith, stands.firsts i, stands.firsts)

  -- a name that is not, and for which there is no memory
  pub stands_still : (more : List Entry) (r : Result ℕ AllocError) → None ≡ line_of i members → members ≡ more → IsErr r → Entered i line entries more r
  stands_still more r missing same failed = grind (arith, stands.firsts i)
