-- The draft of a whole text. Assumes nothing.
use Rattle.std.proofs.Common.{◌≡◌, List, [], ◌++◌, None, Option, sym, ap, ◌∙◌}
use Rattle.grammar.specs.Syntax.{Syntax}
use Rattle.sense.proofs.Conditions.{clauses_after, clauses_are}
use Rattle.sense.proofs.Faulted.{faulted, fault_if_is}
use Rattle.sense.proofs.Least.{least_append}
use Rattle.sense.proofs.Owners.{last_is}
use Rattle.sense.proofs.Sequence.{Stands, stands_none, PartsRead, parts_read}
use Rattle.sense.specs.Drafted.{no_draft, no_clauses, with_clauses, parts_ended_by, parts_ended, window_set}
use Rattle.sense.specs.Drafting.{parts_drafted, clauses_drafted, drafted}
use Rattle.sense.specs.Faults.{least_from, least}
use Rattle.sense.specs.Law.{Lettered}
use Rattle.sense.specs.Sense.{parts_faults, last_faults, clauses_faults, window_faults, sense_faults}
use Rattle.sense.specs.declared.clauses.Clauses.{Clauses}
use Rattle.sense.specs.declared.draft.Draft.{Draft}
use Rattle.sense.specs.declared.fault.SenseFault.{SenseFault}
use Rattle.sense.specs.declared.fault.SenseFault.TheVariants.{Window}
use Rattle.sense.specs.declared.parts.LastPart.{LastPart}
use Rattle.sense.specs.declared.parts.Parts.{Parts}

abbrev sequence : Syntax → Draft
sequence q = parts_drafted no_draft q.parts

-- the parts of its draft
abbrev pub parts_in : Syntax → Parts
parts_in q = (sequence q).parts

sequence_read : (q : Syntax) → Lettered q → PartsRead no_draft (sequence q) [] q.parts
sequence_read q l = parts_read no_draft [] q.parts stands_none l

pub parts_stand : (q : Syntax) → Lettered q → Stands (parts_in q) q.parts
parts_stand q l = (sequence_read q l).stands

ended_is : (q : Syntax) → Lettered q → parts_ended (sequence q) ≡ faulted (sequence q) (last_faults q.parts)
ended_is q l =
    ap (λ (x : LastPart). parts_ended_by x (sequence q)) (parts_stand q l).last ∙ last_is q.parts (sequence q)

window_is : (d : Draft) (q : Syntax) →
    window_set d (q.window, q.window_place) ≡ faulted (record { parts = d.parts; clauses = d.clauses; window = q.window; fault = d.fault }) (window_faults q)
window_is d q = fault_if_is _ (Window q.window_place) (record { parts = d.parts; clauses = d.clauses; window = q.window; fault = d.fault })

four : (s : Option SenseFault) (fs gs hs ks : List SenseFault) → least_from (least_from (least_from (least_from s fs) gs) hs) ks ≡ least_from s (fs ++ (gs ++ (hs ++ ks)))
four s fs gs hs ks =
    sym (least_append s fs (gs ++ (hs ++ ks)) ∙ least_append (least_from s fs) gs (hs ++ ks) ∙ least_append (least_from (least_from s fs) gs) hs ks)

-- what the draft of a text holds
pub drafted_is : (q : Syntax) → Lettered q →
    drafted q ≡ record { parts = parts_in q; clauses = clauses_after (parts_in q) q.parts 0 no_clauses q.clauses; window = q.window; fault = least (sense_faults q) }
drafted_is q l =
    let r = sequence_read q l in
    let d = faulted (sequence q) (last_faults q.parts) in
    let cs = clauses_after (parts_in q) q.parts 0 (sequence q).clauses q.clauses in
    let e = faulted (with_clauses d cs) (clauses_faults q.parts 0 q.clauses) in
    ap (λ (x : Draft). window_set (clauses_drafted x q.clauses) (q.window, q.window_place)) (ended_is q l) ∙
    ap (λ (x : Draft). window_set x (q.window, q.window_place)) (clauses_are q.parts 0 d q.clauses r.stands.owned (ap (λ (c : Clauses). c.tests) r.clauses)) ∙ window_is e q ∙
    (λ i. record {
      parts = parts_in q;
      clauses = clauses_after (parts_in q) q.parts 0 (r.clauses i) q.clauses;
      window = q.window;
      fault = (ap (λ (o : Option SenseFault). least_from (least_from (least_from o (last_faults q.parts)) (clauses_faults q.parts 0 q.clauses)) (window_faults q)) r.fault ∙
          four None (parts_faults [] q.parts) (last_faults q.parts) (clauses_faults q.parts 0 q.clauses) (window_faults q)) i;
    })
