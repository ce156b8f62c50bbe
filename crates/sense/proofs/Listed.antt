-- The kinds that a part lists. Assumes nothing.
use Rattle.std.proofs.lemmas.Bool.Decides.{nat_tests}
use Rattle.std.proofs.Common.{◌≡◌, ℕ, ◌<◌, Bool, true, false, not, ◌||◌, List, [], ◌∷◌, length, get_or, set, is_some, Some, None, Option, sym, refl, ap, ◌∙◌, arith, length-set}
use mathlib.Core.Bool.{or-false}
use Rattle.events.specs.Kind.{kind_named}
use Rattle.grammar.specs.Syntax.{Word}
use Rattle.sense.proofs.Faulted.{faulted}
use Rattle.sense.proofs.Least.{least_append}
use Rattle.sense.specs.Drafted.{no_kinds, with_parts, with_kinds, kind_added_by}
use Rattle.sense.specs.Drafting.{kinds_drafted}
use Rattle.sense.specs.Meaning.{same_kind, lists_kind, kinds_of}
use Rattle.sense.specs.Sense.{fault_where, unknown_kinds}
use Rattle.sense.specs.declared.draft.Draft.{Draft}
use Rattle.sense.specs.declared.fault.SenseFault.TheVariants.{UnknownKind}
use Rattle.std.proofs.lemmas.List.FromFn.{fill_by_all}
use Rattle.std.proofs.lemmas.List.{get_or-set_same, get_or-set_other, get_or-replicate}

abbrev kind_set : Option ℕ → List Bool → List Bool
kind_set None ks = ks
kind_set (Some k) ks = set ks k true

abbrev pub kinds_set : List Bool → List Word → List Bool
kinds_set ks [] = ks
kinds_set ks (w ∷ ws) = kinds_set (kind_set (kind_named w.0) ks) ws

-- a draft with other kinds of the part that is being read
abbrev pub kinds_changed : Draft → List Bool → Draft
kinds_changed d ks = with_parts d (with_kinds d.parts ks)

kind_is : (o : Option ℕ) (d : Draft) (place : ℕ) → kind_added_by o d place ≡ faulted (kinds_changed d (kind_set o d.parts.kinds)) (fault_where (not (is_some o)) (UnknownKind place))
kind_is None d place = refl
kind_is (Some k) d place = refl

-- what kind words do to a draft
pub kinds_is : (d : Draft) (ws : List Word) → kinds_drafted d ws ≡ faulted (kinds_changed d (kinds_set d.parts.kinds ws)) (unknown_kinds ws)
kinds_is d [] = refl
kinds_is d (w ∷ ws) =
    let o = kind_named w.0 in
    let f = fault_where (not (is_some o)) (UnknownKind w.1) in
    let ks = kind_set o d.parts.kinds in
    ap (λ (e : Draft). kinds_drafted e ws) (kind_is o d w.1) ∙ kinds_is (faulted (kinds_changed d ks) f) ws ∙
    (λ i. record { parts = with_kinds d.parts (kinds_set ks ws); clauses = d.clauses; window = d.window; fault = sym (least_append d.fault f (unknown_kinds ws)) i })

same_or : (a b c : Bool) → (b || (a || c)) ≡ ((a || b) || c)
same_or a b c = grind (arith, nat_tests)

kind_set_at : (o : Option ℕ) (ks : List Bool) (i : ℕ) → i < length ks → get_or (kind_set o ks) i false ≡ (same_kind o i || get_or ks i false)
kind_set_at None ks i h = refl
kind_set_at (Some k) ks i h = grind (arith, nat_tests, get_or-set_same {A = Bool}, get_or-set_other {A = Bool})

kind_set_length : (o : Option ℕ) (ks : List Bool) → length (kind_set o ks) ≡ length ks
kind_set_length None ks = refl
kind_set_length (Some k) ks = length-set ks k true

kinds_set_length : (ws : List Word) (ks : List Bool) → length (kinds_set ks ws) ≡ length ks
kinds_set_length [] ks = refl
kinds_set_length (w ∷ ws) ks = kinds_set_length ws (kind_set (kind_named w.0) ks) ∙ kind_set_length (kind_named w.0) ks

kinds_set_at : (ws : List Word) (ks : List Bool) (i : ℕ) → i < length ks → get_or (kinds_set ks ws) i false ≡ (lists_kind ws i || get_or ks i false)
kinds_set_at [] ks i h = refl
kinds_set_at (w ∷ ws) ks i h =
    let o = kind_named w.0 in
    kinds_set_at ws (kind_set o ks) i (rw (kind_set_length o ks) h) ∙ ap (λ (b : Bool). lists_kind ws i || b) (kind_set_at o ks i h) ∙
    same_or (same_kind o i) (lists_kind ws i) (get_or ks i false)

-- the kinds that are set are those that are listed
pub kinds_set_all : (ws : List Word) → kinds_set no_kinds ws ≡ kinds_of ws
kinds_set_all ws =
    fill_by_all (lists_kind ws) (kinds_set no_kinds ws) 16 false (kinds_set_length ws no_kinds)
    (λ k h. kinds_set_at ws no_kinds k h ∙ ap (λ (b : Bool). lists_kind ws k || b) (get_or-replicate 16 k false false h) ∙ or-false (lists_kind ws k))
