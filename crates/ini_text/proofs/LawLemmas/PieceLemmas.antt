-- Lists of pieces: in parts, joined, with a part exchanged, and as the elements of a text.
use Rattle.std.proofs.Common.{◌≡◌, ◌≤◌, ℕ, List, [], ◌∷◌, ◌++◌, length, refl, sym, ap, ◌∙◌, subst, arith}
use Rattle.std.proofs.Common.{append_assoc, append-nil}
use Rattle.std.proofs.lemmas.List.{append_cancel_left}
use Rattle.ini_text.specs.Grammar.CharacterKinds.{line_feed}
use Rattle.ini_text.specs.Grammar.Elements.{Given, Element}
use Rattle.ini_text.specs.Grammar.Pieces.{ArePieces, Piece, pieces_items, pieces_text}
use Rattle.ini_text.specs.Grammar.Positions.{last_or}
use Rattle.ini_text.specs.Grammar.Texts.{Reads, Derives}
use Rattle.ini_text.specs.Laws.PieceLaws.{Agree, BeginAlike, IsInPieces, MayStandFor}
use Rattle.ini_text.specs.declared.option.ParseOption.{ParseOption}
use Rattle.ini_text.proofs.GrammarLemmas.ItemLemmas.{element-some}
use Rattle.ini_text.proofs.LawLemmas.LocalLemmas.{Agree-front, BeginAlike-after, Element-before, Element-like}
use Rattle.ini_text.proofs.LawLemmas.LocalLemmas.{by_front, by_last}

pub last_or-append : (c : ℕ) (xs ys : List ℕ) → last_or c (xs ++ ys) ≡ last_or (last_or c xs) ys
last_or-append c [] ys = refl
last_or-append c (x ∷ xs) ys = last_or-append x xs ys

last_or-some : (c d : ℕ) (s : List ℕ) → 1 ≤ length s → last_or c s ≡ last_or d s
last_or-some c d [] h = absurd (omega arith)
last_or-some c d (x ∷ s) h = refl

pub pieces_text-append : (xs ys : List Piece) → pieces_text (xs ++ ys) ≡ pieces_text xs ++ pieces_text ys
pieces_text-append [] ys = refl
pieces_text-append (x ∷ xs) ys = ap (λ t. x.source ++ t) (pieces_text-append xs ys)
    ∙ sym (append_assoc x.source (pieces_text xs) (pieces_text ys))

pub pieces_items-append : (xs ys : List Piece)
    → pieces_items (xs ++ ys) ≡ pieces_items xs ++ pieces_items ys
pieces_items-append [] ys = refl
pieces_items-append (x ∷ xs) ys = ap (λ t. x.gives ++ t) (pieces_items-append xs ys)
    ∙ sym (append_assoc x.gives (pieces_items xs) (pieces_items ys))

-- what follows a list's first part
rest_of : (xs ys : List Piece) (r : List ℕ)
    → pieces_text (xs ++ ys) ++ r ≡ pieces_text xs ++ (pieces_text ys ++ r)
rest_of xs ys r =
    ap (λ t. t ++ r) (pieces_text-append xs ys) ∙ append_assoc (pieces_text xs) (pieces_text ys) r

module _ {o : ParseOption} where
  -- after another character, and before another text
  pub pieces_like : {c d : ℕ} {r : List ℕ} {ps : List Piece} → Agree o (c ∷ []) (d ∷ []) (pieces_text ps)
      → ArePieces o c ps r → ArePieces o d ps r
  pieces_like a ArePieces.none = ArePieces.none
  pieces_like {c} {d} {r} a (ArePieces.more {p = p} {ps = ps} e rest) =
      ArePieces.more (Element-like (Agree-front (pieces_text ps) a) e)
      (subst (λ z. ArePieces o z ps r) (last_or-some c d p.source (element-some e)) rest)

  pub pieces_before : {c : ℕ} {r x : List ℕ} {ps : List Piece} → BeginAlike r x → ArePieces o c ps r
      → ArePieces o c ps x
  pieces_before a ArePieces.none = ArePieces.none
  pieces_before a (ArePieces.more {ps = ps} e rest) =
      ArePieces.more (Element-before (BeginAlike-after (pieces_text ps) a) e) (pieces_before a rest)

  -- in two parts, and joined
  pub pieces_split : {c : ℕ} {r : List ℕ} (xs ys : List Piece) → ArePieces o c (xs ++ ys) r
      → ArePieces o c xs (pieces_text ys ++ r) × ArePieces o (last_or c (pieces_text xs)) ys r
  pieces_split [] ys h = (ArePieces.none, h)
  pieces_split {c} {r} (x ∷ xs) ys (ArePieces.more e rest) =
      let more = pieces_split xs ys rest in (
        ArePieces.more (subst (λ t. Element o (c ∷ []) x.source t x.gives) (rest_of xs ys r) e) more.0,
        subst (λ z. ArePieces o z ys r) (sym (last_or-append c x.source (pieces_text xs))) more.1,
      )

  pub pieces_join : {c : ℕ} {r : List ℕ} (xs ys : List Piece) → ArePieces o c xs (pieces_text ys ++ r)
      → ArePieces o (last_or c (pieces_text xs)) ys r → ArePieces o c (xs ++ ys) r
  pieces_join [] ys h g = g
  pieces_join {c} {r} (x ∷ xs) ys (ArePieces.more e rest) g =
      ArePieces.more (subst (λ t. Element o (c ∷ []) x.source t x.gives) (sym (rest_of xs ys r)) e)
      (pieces_join xs ys rest
      (subst (λ z. ArePieces o z ys r) (last_or-append c x.source (pieces_text xs)) g))

  -- a part that may stand for another
  pub exchanged : {c : ℕ} {r : List ℕ} (xs ys new zs : List Piece) → ArePieces o c (xs ++ (ys ++ zs)) r
      → MayStandFor o c xs ys new zs r → ArePieces o c (xs ++ (new ++ zs)) r
  exchanged {c} {r} xs ys new zs h may =
      let front = pieces_split xs (ys ++ zs) h in
      let rest = pieces_split ys zs front.1 in
      let before : BeginAlike (pieces_text (ys ++ zs) ++ r) (pieces_text (new ++ zs) ++ r) =
      subst (BeginAlike (pieces_text (ys ++ zs) ++ r)) (sym (rest_of new zs r))
      (subst (λ t. BeginAlike t (pieces_text new ++ (pieces_text zs ++ r)))
      (sym (rest_of ys zs r)) may.begins) in
      pieces_join xs (new ++ zs) (pieces_before before front.0)
      (pieces_join new zs may.in_place (pieces_like may.ends rest.1))

  -- the elements of a text are its pieces, and the other way round
  pub pieces_read : {T r : List ℕ} (b : List ℕ) (ps : List Piece) → ArePieces o (last_or line_feed b) ps r
      → T ≡ b ++ (pieces_text ps ++ r) → Reads o T b (pieces_items ps) (b ++ pieces_text ps)
  pieces_read {T} {r} b [] ArePieces.none whole =
      subst (Reads o T b []) (sym (append-nil b)) (Reads.stay r whole)
  pieces_read {T} {r} b (p ∷ ps) (ArePieces.more e rest) whole =
      let s = p.source in
      let text : T ≡ b ++ (s ++ (pieces_text ps ++ r)) =
      whole ∙ ap (λ t. b ++ t) (append_assoc s (pieces_text ps) r) in
      Reads.step text (Element-like by_front e)
      (subst (Reads o T (b ++ s) (pieces_items ps)) (append_assoc b s (pieces_text ps))
      (pieces_read (b ++ s) ps
      (subst (λ z. ArePieces o z ps r) (sym (last_or-append line_feed b s)) rest)
      (text ∙ sym (append_assoc b s (pieces_text ps ++ r)))))

  pub pieces_derive : (ps : List Piece) → ArePieces o line_feed ps []
      → Derives o (pieces_text ps) (pieces_items ps)
  pieces_derive ps h = pieces_read [] ps h (sym (append-nil (pieces_text ps)))

-- the pieces between the fronts b and c, before r
record ReadPieces (o : ParseOption) (b c r : List ℕ) (items : List Given) : Type 0 where
  pieces : List Piece
  reaches : c ≡ b ++ pieces_text pieces
  gives : items ≡ pieces_items pieces
  are : ArePieces o (last_or line_feed b) pieces r

read_pieces : {o : ParseOption} {T b c : List ℕ} {items : List Given} (r : List ℕ) → Reads o T b items c
    → T ≡ c ++ r → ReadPieces o b c r items
read_pieces r (Reads.stay {b = b} x h) whole =
    record { pieces = []; reaches = sym (append-nil b); gives = refl; are = ArePieces.none }
read_pieces {o} {T} {c = c} r (Reads.step {b = b} {s = s} {r = x} {gives = g} h e reads) whole =
    let more = read_pieces r reads whole in
    let ps = more.pieces in
    let rest : x ≡ pieces_text ps ++ r = append_cancel_left (b ++ s) x (pieces_text ps ++ r)
    (append_assoc b s x ∙ sym h ∙ whole ∙ ap (λ z. z ++ r) more.reaches
    ∙ append_assoc (b ++ s) (pieces_text ps) r) in
    record {
      pieces = record { source = s; gives = g } ∷ ps;
      reaches = more.reaches ∙ append_assoc b s (pieces_text ps);
      gives = ap (λ l. g ++ l) more.gives;
      are = ArePieces.more (Element-like by_last (subst (λ z. Element o b s z g) rest e))
          (subst (λ z. ArePieces o z ps r) (last_or-append line_feed b s) more.are);
    }

pub in_pieces : {o : ParseOption} {T : List ℕ} {items : List Given} → Derives o T items
    → IsInPieces o T items
in_pieces {T = T} reads =
    let all = read_pieces [] reads (sym (append-nil T)) in
    record { pieces = all.pieces; text_is = all.reaches; gives = all.gives; are_pieces = all.are }
