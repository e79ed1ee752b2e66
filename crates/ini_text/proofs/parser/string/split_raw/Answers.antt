use Rattle.std.proofs.Common.{◌≡◌, ◌≢◌, ◌∙◌, ◌++◌, ℕ, List, [], ◌∷◌, true, true≢false, ap, append-nil, arith}
use Rattle.std.proofs.Common.{chars, encode_utf8, encode_utf8_all, eq-eqb, eqb-true, get_or, length, refl}
use Rattle.std.proofs.Common.{subst, sym, IsUtf8}
use Rattle.std.proofs.lemmas.Str.{encode_ascii, encodes-chars}
use Rattle.ini_text.specs.Inside.Endpoints.{ends_of}
use Rattle.ini_text.specs.Inside.Scans.{EndsRun, is_run}
use Rattle.ini_text.proofs.ReaderLemmas.ReaderLemmas.{and_found}
use Rattle.ini_text.proofs.ReaderLemmas.StringReaderLemmas.{run_to_end, string_at_end, string_ends}
use Rattle.ini_text.proofs.StringLemmas.PushLemmas.{no_characters, some_characters}
use Rattle.ini_text.proofs.parser.string.split_raw.Goals as goal

-- a text whose first byte is no backslash begins with another character
first : (t : List ℕ) → IsUtf8 t → (length t ≡ 0 → ⊥) → get_or t 0 0 ≢ 92
    → (c : ℕ) × (cs : List ℕ) × (chars t ≡ c ∷ cs) × (c ≢ 92)
first t u some other = at (chars t) refl
  where
    at : (cs : List ℕ) → chars t ≡ cs → (c : ℕ) × (ds : List ℕ) × (chars t ≡ c ∷ ds) × (c ≢ 92)
    at [] is = absurd (some_characters t u some is)
    at (c ∷ cs) is =
        let same : encode_utf8 c ++ encode_utf8_all cs ≡ t =
        ap encode_utf8_all (sym is) ∙ encodes-chars t u in (
          c,
          cs,
          is,
          λ slash. other (ap (λ x. get_or x 0 0)
              (sym (ap (λ x. x ++ encode_utf8_all cs) (sym (encode_ascii 92 (omega arith)))
              ∙ subst (λ x. encode_utf8 x ++ encode_utf8_all cs ≡ t) slash same))),
        )

pub returns-then-is_empty : goal.returns-then-is_empty
returns-then-is_empty c = λ e.
    let to = ends_of c.args.read.now c.args.ends in
    let none =
    no_characters c.split_run.result.1.now (eqb-true _ 0 (sym c.is_empty.ensures ∙ c.if-is_empty.true)) in
    and_found (chars c.split_run.result.0.now)
    (run_to_end e to (chars c.split_run.result.0.now) (chars c.split_run.result.1.now) c.split_run.ensures.parts c.split_run.ensures.run
    none)
    (string_at_end e to none (sym c.if-not-contains_text_end.false ∙ c.contains_text_end.ensures))
    (sym (append-nil (chars c.split_run.result.0.now)))

pub returns : goal.returns
returns c = λ e.
    let to = ends_of c.args.read.now c.args.ends in
    let one = first c.as_bytes.result.now c.as_bytes.ensures.utf8
    (λ none. true≢false (sym (eq-eqb _ 0 (ap length (sym c.as_bytes.ensures.value) ∙ none))
    ∙ sym c.is_empty.ensures ∙ c.if-is_empty.false)) c.if-as_bytes-eq92.false in
    string_ends e to (chars c.split_run.result.0.now) (chars c.split_run.result.1.now) c.split_run.ensures.parts c.split_run.ensures.run
    c.split_run.ensures.next
    (ap chars (sym c.as_bytes.ensures.value) ∙ one.2) one.3
