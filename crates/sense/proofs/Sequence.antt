-- What a draft holds of the parts that have been read. Assumes nothing.
use Rattle.std.proofs.lemmas.Bool.Decides.{nat_tests}
use Rattle.std.proofs.Common.{◌≡◌, ℕ, ◌+◌, ◌<◌, ◌≤◌, min, Bool, true, false, cond, eqb, List, [], ◌∷◌, ◌++◌, map, length, get_or, replicate, is_some, Some, None, Option, sym, refl, ap, ◌∙◌, subst, ⊎_elim, append_assoc, append-nil, arith, length-set}
use lib.ListN.{length-replicate}
use Rattle.grammar.specs.Syntax.{Part}
use Rattle.sense.proofs.Faulted.{faulted, fault_if_is}
use Rattle.sense.proofs.Least.{least_append}
use Rattle.sense.proofs.Listed.{kinds_set, kinds_changed, kinds_is, kinds_set_all}
use Rattle.sense.proofs.Owners.{owner_push, positives_push, last_part, last_push, last_ends}
use Rattle.sense.proofs.Rooms.{one_more_min, eqb_min, kept_laid}
use Rattle.sense.specs.Drafted.{no_kinds, blank, no_parts, kept_with, one_more, fault_if, with_parts, with_kinds, part_begun, binding_in, bound_with, last_negative, part_kept, misplaced_in, part_ended}
use Rattle.sense.specs.Drafting.{part_drafted, parts_drafted}
use Rattle.sense.specs.Faults.{least_from}
use Rattle.sense.specs.Meaning.{part_of, laid}
use Rattle.sense.specs.Sense.{owner, positives, fault_where, unknown_kinds, part_faults, parts_faults}
use Rattle.sense.specs.declared.draft.Draft.{Draft}
use Rattle.sense.specs.declared.fault.SenseFault.{SenseFault}
use Rattle.sense.specs.declared.fault.SenseFault.TheVariants.{Doubled, Shape}
use Rattle.sense.specs.declared.parts.Binding.{Binding}
use Rattle.sense.specs.declared.parts.Parts.{Parts}
use Rattle.std.proofs.lemmas.List.{get_or-set_same, get_or-set_other, get_or-replicate, get_or_past, map_push, length_push, length-map}
use Rattle.std.proofs.lemmas.Bool.{cases_lt}
use Rattle.std.specs.List.{AllByRecursion}
use Rattle.std.specs.Option.{option_or}

-- ---- one part

-- the faults of a part, as a draft sees them
abbrev seen_faults : Parts → Part → List SenseFault
seen_faults ps p =
    unknown_kinds p.kinds ++ (fault_where (is_some (binding_in ps p.variable.letter)) (Doubled p.variable.place) ++
    fault_where (misplaced_in ps p.negative) (Shape p.place))

-- the parts with one more
abbrev kept_parts : Parts → Part → Parts
kept_parts ps p = part_kept (with_kinds ps (kinds_set no_kinds p.kinds)) p.place p.negative p.variable.letter

-- what one part does to a draft
part_is : (d : Draft) (p : Part) → part_drafted d p ≡ faulted (with_parts d (kept_parts d.parts p)) (seen_faults d.parts p)
part_is d p =
    let e = faulted (kinds_changed d (kinds_set no_kinds p.kinds)) (unknown_kinds p.kinds) in
    let twice = is_some (binding_in d.parts p.variable.letter) in
    let wrong = misplaced_in d.parts p.negative in
    let f = fault_where twice (Doubled p.variable.place) in
    let g = fault_where wrong (Shape p.place) in
    ap (λ (x : Draft). part_ended x p.place p.negative (p.variable.letter, p.variable.place)) (kinds_is (part_begun d) p.kinds) ∙
    ap (λ (x : Draft). with_parts (fault_if wrong (Shape p.place) x) (kept_parts d.parts p)) (fault_if_is twice (Doubled p.variable.place) e) ∙
    ap (λ (x : Draft). with_parts x (kept_parts d.parts p)) (fault_if_is wrong (Shape p.place) (faulted e f)) ∙
    (λ i. record {
      parts = kept_parts d.parts p;
      clauses = d.clauses;
      window = d.window;
      fault = sym (least_append d.fault (unknown_kinds p.kinds) (f ++ g) ∙ least_append e.fault f g) i;
    })

-- ---- all parts

-- an owner as it is kept; no part has a number past 12
abbrev pub bound_by : Option (ℕ × Bool) → Option Binding
bound_by None = None
bound_by (Some o) = Some (record { part = min 12 o.0; negative = o.1 })

-- each variable is bound to the part that has it first
abbrev pub Owned : Parts → List Part → Type 0
Owned ps before = (v : ℕ) → binding_in ps v ≡ bound_by (owner before v)

-- what is kept of the parts before
pub record Stands (ps : Parts) (before : List Part) : Type 0 where
  pub size : length ps.bound ≡ 256
  pub owned : Owned ps before
  pub len : ps.len ≡ min 12 (length before)
  pub kept : length before ≤ 12 → ps.kept ≡ laid 12 blank (map part_of before)
  pub positives : ps.positives ≡ min 7 (positives before)
  pub last : ps.last ≡ last_part before

pub stands_none : Stands no_parts []
stands_none = record {
  size = length-replicate {A = Option Binding} 256 None;
  owned = λ v. ⊎_elim (λ (h : v < 256). get_or-replicate 256 v None None h) (λ (h : 256 ≤ v). get_or_past (replicate 256 None) v None h) (cases_lt v 256);
  len = refl;
  kept = λ h. refl;
  positives = refl;
  last = refl;
}

size_with : (o : Option Binding) (bound : List (Option Binding)) (letter : ℕ) (b : Binding) → length (bound_with o bound letter b) ≡ length bound
size_with None bound letter b = length-set bound letter (Some b)
size_with (Some a) bound letter b = refl

or_none : {X : Type 0} (o : Option X) → option_or o None ≡ o
or_none None = refl
or_none (Some x) = refl

-- the first to have a variable keeps it
bound_at : (o : Option Binding) (bound : List (Option Binding)) (letter v : ℕ) (b : Binding) → get_or bound letter None ≡ o → letter < length bound →
    get_or (bound_with o bound letter b) v None ≡ option_or (get_or bound v None) (cond (eqb letter v) (Some b) None)
bound_at o bound letter v b is h = grind (arith, nat_tests, get_or-set_same {A = Option Binding}, get_or-set_other {A = Option Binding}, or_none)

bound_else : (o : Option (ℕ × Bool)) (c : Bool) (x : ℕ × Bool) (b : Binding) → b.part ≡ min 12 x.0 → b.negative ≡ x.1 →
    option_or (bound_by o) (cond c (Some b) None) ≡ bound_by (option_or o (cond c (Some x) None))
bound_else o c x b p n = grind (arith, nat_tests)

owned_more : (ps : Parts) (before : List Part) (p : Part) → Stands ps before → p.variable.letter < 256 → Owned (kept_parts ps p) (before ++ (p ∷ []))
owned_more ps before p s h v =
    let letter = p.variable.letter in
    let b : Binding = record { part = ps.len; negative = p.negative } in
    bound_at (binding_in ps letter) ps.bound letter v b refl (omega (arith, s.size)) ∙
    ap (λ (o : Option Binding). option_or o (cond (eqb letter v) (Some b) None)) (s.owned v) ∙
    bound_else (owner before v) (eqb letter v) (length before, p.negative) b s.len refl ∙
    ap bound_by (sym (owner_push before p v))

positives_more : (n : Bool) (a b : ℕ) → a ≡ min 7 b → cond n a (one_more 7 a) ≡ min 7 (cond n b (b + 1))
positives_more true a b e = e
positives_more false a b e = ap (one_more 7) e ∙ one_more_min 7 b

kept_more : (ps : Parts) (before : List Part) (p : Part) → Stands ps before → length (before ++ (p ∷ [])) ≤ 12 → (kept_parts ps p).kept ≡ laid 12 blank (map part_of (before ++ (p ∷ [])))
kept_more ps before p s h =
    let long = length_push before p in
    let same : ps.len ≡ length (map part_of before) = s.len ∙ omega arith ∙ sym (length-map before part_of) in
    let less : length (map part_of before) < 12 = simp length-map (omega arith) in
    (λ i. kept_with 12 (s.kept (omega arith) i) (same i) (record { negative = p.negative; kinds = kinds_set_all p.kinds i; variable = p.variable.letter })) ∙
    kept_laid 12 blank (map part_of before) (part_of p) less ∙ ap (laid 12 blank) (sym (map_push part_of before p))

-- and of one part more
stands_more : (ps : Parts) (before : List Part) (p : Part) → Stands ps before → p.variable.letter < 256 → Stands (kept_parts ps p) (before ++ (p ∷ []))
stands_more ps before p s h = record {
  size = size_with (binding_in ps p.variable.letter) ps.bound p.variable.letter _ ∙ s.size;
  owned = owned_more ps before p s h;
  len = ap (one_more 12) s.len ∙ one_more_min 12 (length before) ∙ ap (min 12) (sym (length_push before p));
  kept = kept_more ps before p s;
  positives = positives_more p.negative ps.positives (positives before) s.positives ∙ ap (min 7) (sym (positives_push before p));
  last = sym (last_push before p);
}

some_bound : (o : Option (ℕ × Bool)) → is_some (bound_by o) ≡ is_some o
some_bound None = refl
some_bound (Some o) = refl

-- the faults that a draft sees are those of the part
seen_is : (ps : Parts) (before : List Part) (p : Part) → Stands ps before → seen_faults ps p ≡ part_faults before p
seen_is ps before p s =
    let twice : is_some (binding_in ps p.variable.letter) ≡ is_some (owner before p.variable.letter) = ap is_some (s.owned p.variable.letter) ∙ some_bound (owner before p.variable.letter) in
    let row = ap last_negative s.last ∙ last_ends before in
    let six = eqb_min 6 ps.positives (positives before) s.positives in
    λ i. unknown_kinds p.kinds ++ (fault_where (twice i) (Doubled p.variable.place) ++ fault_where (cond p.negative (row i) (six i)) (Shape p.place))

-- what all parts do to a draft
pub record PartsRead (d e : Draft) (before ps : List Part) : Type 0 where
  pub stands : Stands e.parts (before ++ ps)
  pub clauses : e.clauses ≡ d.clauses
  pub fault : e.fault ≡ least_from d.fault (parts_faults before ps)

pub parts_read : (d : Draft) (before ps : List Part) → Stands d.parts before → AllByRecursion (λ p. p.variable.letter < 256) ps → PartsRead d (parts_drafted d ps) before ps
parts_read d before [] s a = record { stands = subst (Stands d.parts) (sym (append-nil before)) s; clauses = refl; fault = refl }
parts_read d before (p ∷ ps) s a =
    let e = faulted (with_parts d (kept_parts d.parts p)) (part_faults before p) in
    let is : part_drafted d p ≡ e = part_is d p ∙ ap (faulted (with_parts d (kept_parts d.parts p))) (seen_is d.parts before p s) in
    let rest = parts_read e (before ++ (p ∷ [])) ps (stands_more d.parts before p s a.0) a.1 in
    let to = ap (λ (x : Draft). parts_drafted x ps) is in
    record {
      stands = subst (Stands (parts_drafted (part_drafted d p) ps).parts) (append_assoc before (p ∷ []) ps) (subst (λ (x : Draft). Stands x.parts (before ++ (p ∷ []) ++ ps)) (sym to) rest.stands);
      clauses = ap (λ (x : Draft). x.clauses) to ∙ rest.clauses;
      fault = ap (λ (x : Draft). x.fault) to ∙ rest.fault ∙ sym (least_append d.fault (part_faults before p) (parts_faults (before ++ (p ∷ [])) ps));
    }
