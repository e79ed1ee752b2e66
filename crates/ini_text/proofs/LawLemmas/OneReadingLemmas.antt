-- Each text has one outcome: reading it element by element finds what the grammar says, and nothing else.
use Rattle.std.proofs.Common.{◌≤◌, ◌≡◌, inl, inr, ℕ, zero, suc, ◌-◌, ◌<◌, List, [], ◌∷◌, ◌++◌, length, take}
use Rattle.std.proofs.Common.{refl, sym, ap, ◌∙◌, subst, append_assoc, append-nil, length-append, arith}
use Rattle.std.proofs.lemmas.List.{append_cancel_left, append_cancel_right, take_at}
use Rattle.ini_text.specs.declared.option.ParseOption.{ParseOption}
use Rattle.ini_text.specs.declared.error.ParseKind.{ParseKind}
use Rattle.ini_text.specs.Grammar.Elements.{Given, Element, ElementStops}
use Rattle.ini_text.specs.Grammar.Texts.{Reads, Derives, Stops}
use Rattle.ini_text.specs.Laws.Readings.{DerivesJust, StopsJust, HasOneReading}
use Rattle.ini_text.specs.Inside.ElementReader.{element}
use Rattle.ini_text.specs.Inside.Reading.{Answer, found, stopped, prepend}
use Rattle.ini_text.proofs.ReaderLemmas.ReaderLemmas.{prepend-nil, prepend-prepend, Says}
use Rattle.ini_text.proofs.GrammarLemmas.ItemLemmas.{element-some}
use Rattle.ini_text.proofs.ReaderLemmas.ElementReaderLemmas.{element-end, element-sound, element-finds}
use Rattle.ini_text.proofs.ReaderLemmas.ElementReaderLemmas.{element-stops}

module _ (o : ParseOption) (T : List ℕ) where
  -- what comes of the text after the front b
  data Gives : List ℕ → Answer Given → Type 0 where
    over : {b : List ℕ} → T ≡ b → Gives b (found [] [])
    halts : {b s r : List ℕ} {k : ParseKind} → T ≡ b ++ (s ++ r) → ElementStops o b s r k
        → Gives b (stopped r k)
    then : {b s r : List ℕ} {gives : List Given} {a : Answer Given} → T ≡ b ++ (s ++ r)
        → Element o b s r gives → Gives (b ++ s) a → Gives b (prepend gives a)

  Gives-after : {b c : List ℕ} {items : List Given} {a : Answer Given} → Reads o T b items c → Gives c a
      → Gives b (prepend items a)
  Gives-after {a = a} (Reads.stay r h) g = subst (Gives _) (sym (prepend-nil a)) g
  Gives-after {a = a} (Reads.step {gives = gives} {items} h e reads) g =
      subst (Gives _) (prepend-prepend gives items a) (Gives.then h e (Gives-after reads g))

  -- the outcome after the front b, as the grammar has it
  abbrev OutcomeAt : List ℕ → Answer Given → Type 0
  OutcomeAt b (found items r) = Reads o T b items T
  OutcomeAt b (stopped r k) = (items : List Given) × (c : List ℕ) × (s : List ℕ) × Reads o T b items c
      × (T ≡ c ++ (s ++ r)) × ElementStops o c s r k

  outcome_at : {b : List ℕ} {a : Answer Given} → Gives b a → OutcomeAt b a
  outcome_at {b} (Gives.over h) = subst (Reads o T b []) (sym h) (Reads.stay [] (h ∙ sym (append-nil b)))
  outcome_at {b} (Gives.halts {s = s} {r} h e) = ([], b, s, Reads.stay (s ++ r) h, h, e)
  outcome_at (Gives.then {gives = gives} {a} h e rest) = following a h e (outcome_at rest)
    where
      following : {b s r : List ℕ} {gives : List Given} (a : Answer Given) → T ≡ b ++ (s ++ r)
          → Element o b s r gives → OutcomeAt (b ++ s) a
          → OutcomeAt b (prepend gives a)
      following (found items x) h e reads = Reads.step h e reads
      following {gives = gives} (stopped x k) h e (items, c, s, reads, whole, stops) =
          (gives ++ items, c, s, Reads.step h e reads, whole, stops)

  -- reading after the front b, by as many elements as there are characters
  abbrev onward : (List ℕ → List ℕ → Answer Given) → List ℕ → List ℕ → Answer Given → Answer Given
  onward rest b t (found gives r) = prepend gives (rest (b ++ take (length t - length r) t) r)
  onward rest b t (stopped r k) = stopped r k

  abbrev walk : ℕ → List ℕ → List ℕ → Answer Given
  walk zero b t = found [] []
  walk (suc n) b [] = found [] []
  walk (suc n) b (c ∷ cs) = onward (walk n) b (c ∷ cs) (element o b (c ∷ cs))

  source : (s r : List ℕ) → take (length (s ++ r) - length r) (s ++ r) ≡ s
  source s r = take_at s r (length (s ++ r) - length r) (omega (arith, length-append s r))

  walk-sound : (n : ℕ) (b t : List ℕ) → length t < n → T ≡ b ++ t → Gives b (walk n b t)
  walk-sound zero b t l h = absurd (omega arith)
  walk-sound (suc n) b [] l h = Gives.over (h ∙ append-nil b)
  walk-sound (suc n) b (c ∷ cs) l h = by (element o b (c ∷ cs)) (element-sound o b c cs) (walk-sound n)
    where
      by : (a : Answer Given) → Says (Element o b) (ElementStops o b) (c ∷ cs) a
          → ((b t : List ℕ) → length t < n → T ≡ b ++ t → Gives b (walk n b t))
          → Gives b (onward (walk n) b (c ∷ cs) a)
      by (found gives r) (s, e, q) rest =
          let whole : T ≡ b ++ (s ++ r) = h ∙ ap (λ y. b ++ y) (sym q) in
          let shorter : length r < n = omega (arith, element-some e, length-append s r, ap length q) in
          subst (λ y. Gives b (onward (walk n) b y (found gives r))) q
          (rw source (Gives.then whole e (rest (b ++ s) r shorter (whole ∙ sym (append_assoc b s r)))))
      by (stopped r k) (s, stops, q) rest = Gives.halts (h ∙ ap (λ y. b ++ y) (sym q)) stops

  walk-stopped : (n : ℕ) (b t : List ℕ) {r : List ℕ} {k : ParseKind} → element o b t ≡ stopped r k
      → walk (suc n) b t ≡ stopped r k
  walk-stopped n b [] e = cc (element-end o b)
  walk-stopped n b (c ∷ cs) e = rw e

  walk-found : (n : ℕ) (b t : List ℕ) {gives : List Given} {r : List ℕ} → 1 ≤ length t
      → element o b t ≡ found gives r
      → walk (suc n) b t ≡ onward (walk n) b t (found gives r)
  walk-found n b [] some e = absurd (omega arith)
  walk-found n b (c ∷ cs) some e = rw e

  walk-finds : {b : List ℕ} {a : Answer Given} → Gives b a → (n : ℕ) (t : List ℕ) → length t < n → T ≡ b ++ t
      → walk n b t ≡ a
  walk-finds g zero t l h = absurd (omega arith)
  walk-finds {b} (Gives.over q) (suc n) t l h =
      rw (append_cancel_left b t [] (sym h ∙ q ∙ sym (append-nil b)))
  walk-finds {b} (Gives.halts {s = s} {r} {k} q stops) (suc n) t l h =
      let same : t ≡ s ++ r = append_cancel_left b t (s ++ r) (sym h ∙ q) in
      walk-stopped n b t (ap (element o b) same ∙ element-stops o b stops)
  walk-finds {b} (Gives.then {s = s} {r} {gives} {a} q e rest) (suc n) t l h =
      let same : t ≡ s ++ r = append_cancel_left b t (s ++ r) (sym h ∙ q) in
      let some = element-some e in
      rw same (walk-found n b (s ++ r) (omega (arith, length-append s r)) (element-finds o b e)
      ∙ ap (λ y. prepend gives (walk n (b ++ y) r)) (source s r)
      ∙ ap (prepend gives) (walk-finds rest n r (omega (arith, ap length same, length-append s r))
      (q ∙ sym (append_assoc b s r))))

  Derives-gives : {items : List Given} → Derives o T items → Gives [] (found items [])
  Derives-gives {items} d =
      subst (λ y. Gives [] (found y [])) (append-nil items) (Gives-after d (Gives.over refl))

  Stops-gives : {kind : ParseKind} {f : List ℕ} → Stops o T kind f
      → (r : List ℕ) × Gives [] (stopped r kind) × (T ≡ f ++ r)
  Stops-gives (Stops.stops {b} {s} {r} reads h e) =
      (r, Gives-after reads (Gives.halts h e), h ∙ sym (append_assoc b s r))

  one : (a c : Answer Given) → Gives [] a → Gives [] c → a ≡ c
  one a c g k =
      sym (walk-finds g (suc (length T)) T (omega arith) refl)
      ∙ walk-finds k (suc (length T)) T (omega arith) refl

  derives_just : {items : List Given} {r : List ℕ} → Gives [] (found items r) → DerivesJust o T items
  derives_just {items} {r} g = record {
    derives = outcome_at g;
    alone = λ others d. let same : found others [] ≡ found items r = one _ _ (Derives-gives d) g in cc;
    never_stops = λ kind front s.
        let x = Stops-gives s in let same : stopped x.0 kind ≡ found items r = one _ _ x.1 g in cc;
  }

  stops_just : {r : List ℕ} {kind : ParseKind} → Gives [] (stopped r kind)
      → (front : List ℕ) × StopsJust o T kind front
  stops_just {r} {kind} g =
      let (items, b, s, reads, whole, stops) = outcome_at g in (
        b ++ s,
        record {
          stops = Stops.stops reads whole stops;
          alone = λ other elsewhere h.
              let x = Stops-gives h in
              let same : stopped x.0 other ≡ stopped r kind = one _ _ x.1 g in
              let same_rest : x.0 ≡ r = cc in (
                cc,
                append_cancel_right elsewhere (b ++ s) r (ap (λ y. elsewhere ++ y) (sym same_rest)
                    ∙ sym x.2 ∙ whole ∙ sym (append_assoc b s r)),
              );
          derives_nothing =
              λ items d. let same : found items [] ≡ stopped r kind = one _ _ (Derives-gives d) g in cc;
        },
      )

  outcome : (a : Answer Given) → Gives [] a → HasOneReading o T
  outcome (found items r) g = inl (items, derives_just g)
  outcome (stopped r kind) g = let x = stops_just g in inr (kind, x.0, x.1)

pub one_outcome : (o : ParseOption) (T : List ℕ) → HasOneReading o T
one_outcome o T =
    outcome o T (walk o T (suc (length T)) [] T) (walk-sound o T (suc (length T)) [] T (omega arith) refl)
