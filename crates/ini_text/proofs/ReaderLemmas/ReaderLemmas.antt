-- Readers: that they find what the grammar says of a text, and nothing else; and how a result gives what
-- they answer.
use Rattle.std.proofs.Common.{ap, ◌≡◌, ℕ, zero, suc, ◌<◌, List, [], ◌++◌, length, refl, sym, ◌∙◌, subst}
use Rattle.std.proofs.Common.{append_assoc, arith, chars, Result, MatchResult, Ok, Err, IsErrAnd}
use Rattle.std.proofs.lemmas.Str.{chars-nil}
use Rattle.ini_text.specs.Inside.Reading.{Answer, found, stopped, prepend, and_then, Step, more, ends, go_on}
use Rattle.ini_text.specs.Inside.Reading.{in_steps, read_by, StopsBy}
use Rattle.ini_text.specs.declared.error.ParseKind.{ParseKind}
use Rattle.ini_text.specs.declared.parser.fault.Stop.{Stop}
use Rattle.ini_text.specs.declared.parser.fault.Stop.TheVariants as stops

-- how the grammar says that a source has a value before a text, and that reading stops at a source's end
-- before a text
abbrev pub Rule : Type 0 → Type 1
Rule A = List ℕ → List ℕ → List A → Type 0

abbrev pub StopRule : Type 1
StopRule = List ℕ → List ℕ → ParseKind → Type 0

-- at the text's front stands a source with its value, by P, or a source at whose end reading stops, by Q
abbrev pub Says : {A : Type 0} → Rule A → StopRule → List ℕ → Answer A → Type 0
Says P Q t (found v r) = (s : List ℕ) × P s r v × (s ++ r ≡ t)
Says P Q t (stopped r k) = (s : List ℕ) × Q s r k × (s ++ r ≡ t)

-- the function answers what P and Q say, and nothing else
pub record IsReader {A : Type 0} (P : Rule A) (Q : StopRule) (read : List ℕ → Answer A) : Type 0 where
  pub sound : (t : List ℕ) → Says P Q t (read t)
  pub finds : {s r : List ℕ} {v : List A} → P s r v → read (s ++ r) ≡ found v r
  pub stops : {s r : List ℕ} {k : ParseKind} → Q s r k → read (s ++ r) ≡ stopped r k

-- a step shortens the text, and what is said of the rest is said of the whole
abbrev pub StepSays : {A : Type 0} → Rule A → StopRule → List ℕ → Step A → Type 0
StepSays {A} P Q t (more w r) =
    (length r < length t) × ((a : Answer A) → Says P Q r a → Says P Q t (prepend w a))
StepSays P Q t (ends a) = Says P Q t a

-- what is said of the rest t is said after p, whose value is w
pub prefixed : {A : Type 0} {P : Rule A} {Q : StopRule} (p : List ℕ) (w : List A) (t : List ℕ)
    → ((s r : List ℕ) (v : List A) → P s r v → P (p ++ s) r (w ++ v))
    → ((s r : List ℕ) (k : ParseKind) → Q s r k → Q (p ++ s) r k)
    → (a : Answer A) → Says P Q t a → Says P Q (p ++ t) (prepend w a)
prefixed p w t grows stays (found v r) (s, h, e) =
    (p ++ s, grows s r v h, append_assoc p s r ∙ ap (λ x. p ++ x) e)
prefixed p w t grows stays (stopped r k) (s, h, e) =
    (p ++ s, stays s r k h, append_assoc p s r ∙ ap (λ x. p ++ x) e)

module _ {A : Type 0} (P : Rule A) (Q : StopRule) (step : List ℕ → Step A)
    (sound : (t : List ℕ) → StepSays P Q t (step t)) where
  pub shortens : {t r : List ℕ} {w : List A} → step t ≡ more w r → length r < length t
  shortens {t} e = (subst (StepSays P Q t) e (sound t)).0

  more_steps : (m n : ℕ) (t : List ℕ) (x : Step A) → StepSays P Q t x
      → ((r : List ℕ) → length r < length t → in_steps step m r ≡ in_steps step n r)
      → go_on (in_steps step m) x ≡ go_on (in_steps step n) x
  more_steps m n t (ends a) h same = refl
  more_steps m n t (more w r) h same = ap (prepend w) (same r h.0)

  -- the number of steps doesn't matter where it is enough
  enough : (m n : ℕ) (t : List ℕ) → length t < m → length t < n → in_steps step m t ≡ in_steps step n t
  enough zero n t l k = absurd (omega arith)
  enough (suc m) zero t l k = absurd (omega arith)
  enough (suc m) (suc n) t l k =
      more_steps m n t (step t) (sound t) (λ r h. enough m n r (omega arith) (omega arith))

  pub turn : (t : List ℕ) → read_by step t ≡ go_on (read_by step) (step t)
  unfolding read_by
  turn t = by (step t) (sound t)
    where
      by : (x : Step A) → StepSays P Q t x → go_on (in_steps step (length t)) x ≡ go_on (read_by step) x
      by (ends a) h = refl
      by (more w r) h = ap (prepend w) (enough (length t) (suc (length r)) r h.0 (omega arith))

  says_by : (t : List ℕ) (x : Step A) → StepSays P Q t x
      → ((r : List ℕ) → length r < length t → Says P Q r (read_by step r))
      → Says P Q t (go_on (read_by step) x)
  says_by t (ends a) h rest = h
  says_by t (more w r) h rest = h.1 (read_by step r) (rest r h.0)

  says : (n : ℕ) (t : List ℕ) → length t < n → Says P Q t (read_by step t)
  says zero t l = absurd (omega arith)
  says (suc n) t l =
      subst (Says P Q t) (sym (turn t)) (says_by t (step t) (sound t) (λ r h. says n r (omega arith)))

  pub reads : (t : List ℕ) → Says P Q t (read_by step t)
  reads t = says (suc (length t)) t (omega arith)

pub prepend-nil : {A : Type 0} (a : Answer A) → prepend [] a ≡ a
prepend-nil (found v r) = refl
prepend-nil (stopped r k) = refl

pub prepend-prepend : {A : Type 0} (w v : List A) (a : Answer A)
    → prepend w (prepend v a) ≡ prepend (w ++ v) a
prepend-prepend w v (found u r) = ap (λ x. found x r) (sym (append_assoc w v u))
prepend-prepend w v (stopped r k) = refl

-- where what was read is as much as `old`, and then `v` is read, it is as much as both
pub and_more : {A : Type 0} {new : List A} {whole a : Answer A} (old v : List A) (b : Answer A)
    → whole ≡ prepend old a → a ≡ prepend v b → new ≡ old ++ v → whole ≡ prepend new b
and_more old v b h e grown =
    h ∙ ap (prepend old) e ∙ prepend-prepend old v b ∙ ap (λ x. prepend x b) (sym grown)

pub and_found : {A : Type 0} {new v : List A} {whole a : Answer A} {r : List ℕ} (old : List A)
    → whole ≡ prepend old a → a ≡ found v r → new ≡ old ++ v → whole ≡ found new r
and_found {r = r} old h e grown = h ∙ ap (prepend old) e ∙ ap (λ x. found x r) (sym grown)

pub and_stopped : {A : Type 0} {whole a : Answer A} {r : List ℕ} {k : ParseKind} (old : List A)
    → whole ≡ prepend old a → a ≡ stopped r k → whole ≡ stopped r k
and_stopped old h e = h ∙ ap (prepend old) e

-- what was read after w
pub read_after : {A : Type 0} {v : List A} {r : List ℕ} (w : List A) (a : Answer A)
    → prepend w a ≡ found v r → (u : List A) × (a ≡ found u r) × (v ≡ w ++ u)
read_after w (found u x) h = (u, cc, cc)
read_after w (stopped x k) h = cc

pub stopped_after : {A : Type 0} {r : List ℕ} {k : ParseKind} (w : List A) (a : Answer A)
    → prepend w a ≡ stopped r k → a ≡ stopped r k
stopped_after w (found u x) h = cc
stopped_after w (stopped x k) h = h

-- and more after that
pub then_found : {A : Type 0} {v : List A} {r : List ℕ} (next : List ℕ → Answer A) (w : List A)
    (a : Answer A) → prepend w a ≡ found v r → prepend w (and_then next a) ≡ prepend v (next r)
then_found {v = v} {r} next w a h =
    let (u, is, grown) = read_after w a h in
    ap (λ x. prepend w (and_then next x)) is ∙ prepend-prepend w u (next r)
    ∙ ap (λ x. prepend x (next r)) (sym grown)

pub then_stopped : {A : Type 0} {r : List ℕ} {k : ParseKind} (next : List ℕ → Answer A) (w : List A)
    (a : Answer A) → prepend w a ≡ stopped r k → prepend w (and_then next a) ≡ stopped r k
then_stopped next w a h = ap (λ x. prepend w (and_then next x)) (stopped_after w a h)

-- a string that is empty when reading begins
pub from_nothing : {bytes : List ℕ} (a : Answer ℕ) → bytes ≡ [] → prepend (chars bytes) a ≡ a
from_nothing a none = ap (λ x. prepend x a) (ap chars none ∙ chars-nil) ∙ prepend-nil a

-- a stop that a `?` passes on
pub stays : {A B : Type 0} {a : Answer A} {b : Answer B} (stop : Stop) → StopsBy a stop
    → ((r : List ℕ) (k : ParseKind) → a ≡ stopped r k → b ≡ stopped r k) → StopsBy b stop
stays stops.Memory s passes = tt
stays (stops.Fault fault) s passes = passes (chars fault.rest.now) fault.kind s

pub passed : {A B R : Type 0} {a : Answer A} {b : Answer B} (P : R → Type 0) (stop : Stop)
    (r : Result R Stop) → IsErrAnd r (λ e. e ≡ stop) → StopsBy a stop
    → ((x : List ℕ) (k : ParseKind) → a ≡ stopped x k → b ≡ stopped x k) → MatchResult r P (StopsBy b)
passed P stop (Ok x) h s passes = absurd h
passed {b = b} P stop (Err e) h s passes = subst (StopsBy b) (sym h) (stays stop s passes)
