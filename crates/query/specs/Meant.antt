-- What a read query means. Assumes nothing.
use Rattle.std.specs.Prelude.{◌≡◌}
use Rattle.query.specs.Held.{decoded}
use Rattle.query.specs.declared.query.Query.{Query}
use Rattle.sense.specs.Meaning.{Reading}

abbrev pub meaning : Query → Reading
meaning q = decoded q.parts q.parts_len q.key q.steps q.steps_len q.window

-- each field of the one is that of the other
pub record SameFields (p q : Query) : Type 0 where
  pub parts : p.parts ≡ q.parts
  pub parts_len : p.parts_len ≡ q.parts_len
  pub key : p.key ≡ q.key
  pub steps : p.steps ≡ q.steps
  pub steps_len : p.steps_len ≡ q.steps_len
  pub ends : p.ends ≡ q.ends
  pub clauses_len : p.clauses_len ≡ q.clauses_len
  pub window : p.window ≡ q.window

-- queries that mean the same are the same in every field
abbrev pub OneValue : Type 0
OneValue = (p q : Query) → meaning p ≡ meaning q → SameFields p q
