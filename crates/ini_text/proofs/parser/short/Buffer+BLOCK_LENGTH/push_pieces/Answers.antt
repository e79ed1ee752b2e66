use Rattle.std.proofs.Common.{◌∷◌, ◌++◌, ◌∙◌, ◌+◌, [], ap, arith, chars, length, not, rules, subst, sym, take}
use Rattle.std.proofs.Common.{IsUtf8}
use Rattle.std.specs.Char.{IsScalar}
use Rattle.std.proofs.lemmas.List.{take-take}
use Rattle.std.proofs.lemmas.Str.{IsUtf8-nil}
use Rattle.ini_text.specs.Inside.Endpoints.{ends_of}
use Rattle.ini_text.proofs.ReaderLemmas.ReaderLemmas.{and_more, from_nothing}
use Rattle.ini_text.proofs.ReaderLemmas.ShortPieceLemmas.{gathered}
use Rattle.ini_text.proofs.StringLemmas.LaneLemmas.{Tells-none, Tells-past}
use Rattle.ini_text.specs.Inside.Scans.{is_raw}
use Rattle.ini_text.proofs.parser.short.Buffer+BLOCK_LENGTH.push_pieces.Goals as goal

pub returns-in_default-clause-read : goal.returns-in_default-clause-read
returns-in_default-clause-read c = sym (from_nothing _ c.requires.empty)

pub pieces-init : goal.pieces-init
pieces-init c = record {
  text = search rules;
  within = omega arith;
  values = subst IsUtf8 (sym c.requires.empty) IsUtf8-nil;
  read = sym (from_nothing _ c.requires.empty);
  seen =
      Tells-none (λ x. not (is_raw (ends_of c.args.read.now c.args.ends) x)) 16 c.args.text.now;
  shorter = omega arith;
}

pub split_at-requires : goal.split_at-requires
split_at-requires c = let piece = c.in-Some-split_short.ensures.piece in piece.cut

pub overflow_shr-known : goal.overflow_shr-known
overflow_shr-known c = let piece = c.in-Some-split_short.ensures.piece in omega (arith, piece.within, piece.few)

pub pieces-preserved : goal.pieces-preserved
pieces-preserved c =
    let old = take c.pieces.len c.pieces.self.bytes in
    let run = take c.in-Some-split_short.run_length c.pieces.rest.now in
    let piece = c.in-Some-split_short.ensures.piece in
    let scalar : IsScalar c.in-Some-split_short.value = search rules in
    let front = c.place_lanes.ensures.placed c.in-Some-split_short.run_length piece.within
    ∙ ap (λ x. old ++ x)
    (take-take c.in-Some-split_short.run_length 16 _ piece.within
    ∙ ap (take c.in-Some-split_short.run_length) c.as_bytes.ensures.value) in
    let grown =
    gathered old run c.in-Some-split_short.value c.pieces.invariant.values piece.run scalar front
    c.place_char-len.ensures.placed in
    record {
      text = search rules;
      within = omega (arith, piece.within, c.place_char-len.ensures.within);
      values = grown.1;
      read = and_more (chars old) (chars run ++ c.in-Some-split_short.value ∷ []) _ c.pieces.invariant.read
          (rw (c.split_at.ensures.back) piece.read) grown.0;
      seen = Tells-past (λ x. not (is_raw (ends_of c.args.read.now c.args.ends) x))
          (c.in-Some-split_short.run_length + c.in-Some-split_short.taken) c.in-Some-split_short.ensures.seen c.split_at.ensures.back;
      shorter = omega (arith, piece.shorter, ap (λ x. length (chars x)) c.split_at.ensures.back);
    }
