-- Readers: what one finds at the front of a text, or where it stops; and results that give what a reader
-- answers.
use Rattle.std.specs.Prelude.{◌≡◌, ℕ, zero, suc, List, [], ◌++◌, length, chars, Option, Some, None, IfSome}
use Rattle.std.specs.Prelude.{Result, MatchResult}
use Rattle.std.specs.Borrow.{Bor}
use Rattle.ini_text.specs.declared.error.ParseKind.{ParseKind}
use Rattle.ini_text.specs.declared.parser.fault.Stop.{Stop}
use Rattle.ini_text.specs.declared.parser.fault.Stop.TheVariants as stops

-- what was read and the text after it, or the text after a stop and its kind
pub data Answer (A : Type 0) : Type 0 where
  found : List A → List ℕ → Answer A
  stopped : List ℕ → ParseKind → Answer A

abbrev pub prepend : {A : Type 0} → List A → Answer A → Answer A
prepend w (found v r) = found (w ++ v) r
prepend w (stopped r k) = stopped r k

-- what was read is made another
abbrev pub altered_answer : {A B : Type 0} → (List A → List B) → Answer A → Answer B
altered_answer f (found v r) = found (f v) r
altered_answer f (stopped r k) = stopped r k

-- more is read after it
abbrev pub and_then : {A : Type 0} → (List ℕ → Answer A) → Answer A → Answer A
and_then more (found v r) = prepend v (more r)
and_then more (stopped r k) = stopped r k

-- one step of reading: a part of the value and the text after it, or the answer
pub data Step (A : Type 0) : Type 0 where
  more : List A → List ℕ → Step A
  ends : Answer A → Step A

abbrev pub go_on : {A : Type 0} → (List ℕ → Answer A) → Step A → Answer A
go_on rest (more w r) = prepend w (rest r)
go_on rest (ends a) = a

-- in at most so many steps
abbrev pub in_steps : {A : Type 0} → (List ℕ → Step A) → ℕ → List ℕ → Answer A
in_steps step zero t = found [] t
in_steps step (suc n) t = go_on (in_steps step n) (step t)

-- by steps that each shorten the text, up to the answer
unfoldable pub read_by : {A : Type 0} → (List ℕ → Step A) → List ℕ → Answer A
read_by step t = in_steps step (suc (length t)) t

-- the text after a fault, and its kind
abbrev pub fault_of : Stop → Option (List ℕ × ParseKind)
fault_of stops.Memory = None
fault_of (stops.Fault fault) = Some (chars fault.rest.now, fault.kind)

-- the code stops where the reader does, unless memory ran out
abbrev pub StopsBy : {A : Type 0} → Answer A → Stop → Type 0
StopsBy a stop = IfSome (fault_of stop) (λ p. a ≡ stopped p.0 p.1)

-- the result is what the reader answers
abbrev pub Gives : {A B : Type 0} → (B → List A) → Result (B × Bor (List ℕ)) Stop → Answer A → Type 0
Gives view r a = MatchResult r (λ p. a ≡ found (view p.0) (chars p.1.now)) (StopsBy a)

-- the same of what was appended, by which there is `new` now
abbrev pub Appends : List ℕ → Result (Bor (List ℕ)) Stop → Answer ℕ → Type 0
Appends new r a = MatchResult r (λ rest. a ≡ found new (chars rest.now)) (StopsBy a)
