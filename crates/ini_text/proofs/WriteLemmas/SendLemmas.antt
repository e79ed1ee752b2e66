-- Bytes and texts that are sent one after another by way of a gatherer.
use Rattle.std.proofs.Common.{◌≡◌, ℕ, true, List, [], ◌++◌, Option, Result, Ok, Err, OnOk, refl, sym, ap, ◌∙◌}
use Rattle.std.proofs.Common.{subst, append_assoc, append-nil, arith, length-append, rules, chars}
use Rattle.std.proofs.Common.{encode_utf8_all}
use Rattle.std.proofs.KnownBytes.{Appends-nil, Appends-trans}
use Rattle.std.proofs.lemmas.List.{take-append-le}
use Rattle.std.proofs.lemmas.Result.{on_ok_weaker}
use Rattle.std.proofs.lemmas.Str.{encodes-append, encodes-chars, scalars-chars}
use Rattle.std.specs.Str.{IsUtf8, all_scalars}
use Rattle.ini_text.specs.Device.Gathering.{Sends, SendsBytes}
use Rattle.ini_text.specs.Device.Unsent.{unsent}
use Rattle.ini_text.specs.Device.Watched.{IsClear, WritesBytes}
use Rattle.ini_text.specs.Escaping.EscapedTexts.{escaped, escaped_bytes}
use Rattle.ini_text.specs.declared.device.Watched.{Watched}
use Rattle.ini_text.specs.declared.error.Error.{Error}
use Rattle.ini_text.specs.declared.write.gather.Gatherer.{Gatherer}
use Rattle.ini_text.specs.declared.write.policy.EscapePolicy.{EscapePolicy}
use Rattle.ini_text.proofs.PlainLemmas.ScalarLemmas.{escaped-scalars, scalars-append}
use Rattle.ini_text.proofs.WriteLemmas.ProgressLemmas.{under_way_front}

-- what holds anyway holds at Ok
pub at_ok : {P : Type 0} (r : Result (Unit {0}) Error) → P → OnOk r P
at_ok (Ok x) holds = holds
at_ok (Err e) holds = tt

-- a text escaped, and another as it is after it
part-bytes : (policy : EscapePolicy) (text following : List ℕ) → IsUtf8 following
    → encode_utf8_all (escaped policy (chars text) ++ chars following)
    ≡ escaped_bytes policy text ++ following
part-bytes policy text following utf8 = rw (encodes-append, encodes-chars following utf8) refl

part-scalars : (policy : EscapePolicy) (text following : List ℕ) → IsUtf8 text → IsUtf8 following
    → all_scalars (escaped policy (chars text) ++ chars following) ≡ true
part-scalars policy text following u v =
    scalars-append (escaped policy (chars text)) (chars following)
    (escaped-scalars policy (chars text) (scalars-chars text u)) (scalars-chars following v)

module _ {W : Type 0} {contents : W → Option (List ℕ)} where
  pub WritesBytes-nil : {a : Watched W} → IsClear a → WritesBytes contents a a (Ok (tt {0})) []
  WritesBytes-nil clear = record {
    same_device = refl;
    bytes = Appends-nil _;
    front = (0, omega arith, Appends-nil _);
    failures = clear.0;
    stalls = clear.1;
    io = search rules;
    no_progress = search rules;
    only = tt;
  }

  -- the second bytes after the first
  WritesBytes-then : {a b c : Watched W} {xs ys : List ℕ} {r : Result (Unit {0}) Error} → IsClear a
      → WritesBytes contents a b (Ok (tt {0})) xs → WritesBytes contents b c r ys
      → WritesBytes contents a c r (xs ++ ys)
  WritesBytes-then {a} {b} {c} {xs} {ys} {r} clear first second = record {
    same_device = second.same_device ∙ first.same_device;
    bytes = on_ok_weaker r (λ more. Appends-trans _ _ _ xs ys first.bytes more) second.bytes;
    front = under_way_front _ ys [] (record { done = xs; appended = first.bytes; parts = refl })
        (sym (append-nil ys)) second.front;
    failures = second.failures;
    stalls = second.stalls;
    io = search (clear.0, second.failures, rules);
    no_progress = search (clear.1, second.stalls, rules);
    only = second.only;
  }

  -- bytes that were cut short, and what should have followed
  WritesBytes-cut : {a b : Watched W} {xs : List ℕ} {e : Error} (ys : List ℕ)
      → WritesBytes contents a b (Err e) xs → WritesBytes contents a b (Err e) (xs ++ ys)
  WritesBytes-cut {xs = xs} ys cut =
      let (n, within, some) = cut.front in
      record {
        same_device = cut.same_device;
        bytes = tt;
        front = (
          n,
          omega (arith, within, length-append xs ys),
          rw (take-append-le n xs ys within) some,
        );
        failures = cut.failures;
        stalls = cut.stalls;
        io = cut.io;
        no_progress = cut.no_progress;
        only = cut.only;
      }

  -- bytes that are buffered
  pub SendsBytes-unsent : {a : Watched W} {g h : Gatherer} {xs : List ℕ} → IsClear a
      → unsent h ≡ unsent g ++ xs → SendsBytes contents a a g h (Ok (tt {0})) xs
  SendsBytes-unsent {g = g} {xs = xs} clear is = record {
    done = [];
    rest = unsent g ++ xs;
    parts = refl;
    written = WritesBytes-nil clear;
    rest_unsent = is;
  }

  -- what is buffered already, and the bytes that are left
  pub SendsBytes-after : {a b : Watched W} {g h i : Gatherer} {xs ys : List ℕ}
      {r : Result (Unit {0}) Error} → unsent g ++ xs ≡ unsent h ++ ys → SendsBytes contents a b h i r ys
      → SendsBytes contents a b g i r xs
  SendsBytes-after same sent = record {
    done = sent.done;
    rest = sent.rest;
    parts = same ∙ sent.parts;
    written = sent.written;
    rest_unsent = sent.rest_unsent;
  }

  -- bytes that go out while nothing is buffered
  pub SendsBytes-direct : {a b : Watched W} {g : Gatherer} {xs : List ℕ} {r : Result (Unit {0}) Error}
      → unsent g ≡ [] → WritesBytes contents a b r xs → SendsBytes contents a b g g r xs
  SendsBytes-direct {xs = xs} {r = r} none all = record {
    done = xs;
    rest = [];
    parts = ap (λ l. l ++ xs) none ∙ sym (append-nil xs);
    written = all;
    rest_unsent = at_ok r none;
  }

  -- the second bytes after the first
  pub SendsBytes-then : {a b c : Watched W} {g h i : Gatherer} {xs ys : List ℕ}
      {r : Result (Unit {0}) Error} → IsClear a → SendsBytes contents a b g h (Ok (tt {0})) xs
      → SendsBytes contents b c h i r ys → SendsBytes contents a c g i r (xs ++ ys)
  SendsBytes-then {g = g} {xs = xs} {ys = ys} clear first second = record {
    done = first.done ++ second.done;
    rest = second.rest;
    parts = sym (append_assoc (unsent g) xs ys) ∙ ap (λ l. l ++ ys) first.parts
        ∙ append_assoc first.done first.rest ys ∙ ap (λ l. first.done ++ (l ++ ys)) (sym first.rest_unsent)
        ∙ ap (λ l. first.done ++ l) second.parts ∙ sym (append_assoc first.done second.done second.rest);
    written = WritesBytes-then clear first.written second.written;
    rest_unsent = second.rest_unsent;
  }

  -- bytes that were cut short, and what should have followed
  pub SendsBytes-cut : {a b : Watched W} {g h : Gatherer} {xs : List ℕ} {e : Error} (ys : List ℕ)
      → SendsBytes contents a b g h (Err e) xs → SendsBytes contents a b g h (Err e) (xs ++ ys)
  SendsBytes-cut {g = g} {xs = xs} ys cut = record {
    done = cut.done;
    rest = cut.rest ++ ys;
    parts = sym (append_assoc (unsent g) xs ys) ∙ ap (λ l. l ++ ys) cut.parts
        ∙ append_assoc cut.done cut.rest ys;
    written = cut.written;
    rest_unsent = tt;
  }

  -- all that was sent was written, where nothing was unsent before, and nothing is after
  SendsBytes-all : {a b : Watched W} {g h : Gatherer} {xs : List ℕ} (r : Result (Unit {0}) Error)
      → unsent g ≡ [] → SendsBytes contents a b g h r xs → OnOk r (unsent h ≡ [])
      → WritesBytes contents a b r xs
  SendsBytes-all {a} {b} {xs = xs} (Ok x) none sent empty =
      subst (WritesBytes contents a b (Ok x))
      (sym (append-nil sent.done) ∙ ap (λ l. sent.done ++ l) (sym empty ∙ sent.rest_unsent)
      ∙ sym sent.parts ∙ ap (λ l. l ++ xs) none) sent.written
  SendsBytes-all {a} {b} {xs = xs} (Err e) none sent empty =
      subst (WritesBytes contents a b (Err e)) (sym sent.parts ∙ ap (λ l. l ++ xs) none)
      (WritesBytes-cut sent.rest sent.written)

  -- a text as it is
  pub Sends-put : {a b : Watched W} {g h : Gatherer} {bytes : List ℕ} {r : Result (Unit {0}) Error}
      → IsUtf8 bytes → SendsBytes contents a b g h r bytes → Sends contents a b g h r (chars bytes)
  Sends-put {bytes = bytes} {r = r} utf8 sent = record {
    bytes = rw (encodes-chars bytes utf8) sent;
    characters = at_ok r (scalars-chars bytes utf8);
  }

  -- a text escaped
  pub Sends-escaped : {a b : Watched W} {g h : Gatherer} {bytes : List ℕ} {r : Result (Unit {0}) Error}
      (policy : EscapePolicy) → IsUtf8 bytes → SendsBytes contents a b g h r (escaped_bytes policy bytes)
      → Sends contents a b g h r (escaped policy (chars bytes))
  Sends-escaped {bytes = bytes} {r = r} policy utf8 sent = record {
    bytes = sent;
    characters = at_ok r (escaped-scalars policy (chars bytes) (scalars-chars bytes utf8));
  }

  -- a line
  pub Sends-line : {a b : Watched W} {g h : Gatherer} {r : Result (Unit {0}) Error} (policy : EscapePolicy)
      (first between second end : List ℕ) → IsUtf8 first → IsUtf8 between → IsUtf8 second → IsUtf8 end
      → SendsBytes contents a b g h r
      ((escaped_bytes policy first ++ between) ++ (escaped_bytes policy second ++ end))
      → Sends contents a b g h r
      ((escaped policy (chars first) ++ chars between) ++ (escaped policy (chars second) ++ chars end))
  Sends-line {r = r} policy first between second end u v w x sent = record {
    bytes = rw (encodes-append, part-bytes policy first between v, part-bytes policy second end x) sent;
    characters = at_ok r (scalars-append (escaped policy (chars first) ++ chars between) _
        (part-scalars policy first between u v) (part-scalars policy second end w x));
  }

  -- nothing is sent
  pub Sends-nil : {a : Watched W} {g h : Gatherer} → IsClear a → unsent h ≡ unsent g ++ []
      → Sends contents a a g h (Ok (tt {0})) []
  Sends-nil clear is = record { bytes = SendsBytes-unsent clear is; characters = refl }

  -- the second text after the first
  pub Sends-then : {a b c : Watched W} {g h i : Gatherer} {xs ys : List ℕ} {r : Result (Unit {0}) Error}
      → IsClear a → Sends contents a b g h (Ok (tt {0})) xs → Sends contents b c h i r ys
      → Sends contents a c g i r (xs ++ ys)
  Sends-then {xs = xs} {ys = ys} {r = r} clear first second = record {
    bytes = rw encodes-append (SendsBytes-then clear first.bytes second.bytes);
    characters = on_ok_weaker r (scalars-append xs ys first.characters) second.characters;
  }

  -- a text that was cut short, and what should have followed
  pub Sends-cut : {a b : Watched W} {g h : Gatherer} {xs : List ℕ} {e : Error} (ys : List ℕ)
      → Sends contents a b g h (Err e) xs → Sends contents a b g h (Err e) (xs ++ ys)
  Sends-cut ys cut = record {
    bytes = rw encodes-append (SendsBytes-cut (encode_utf8_all ys) cut.bytes);
    characters = tt;
  }

  -- a text that is sent from an empty gatherer, up to a refusal
  pub Sends-refused : {a b : Watched W} {g h : Gatherer} {xs : List ℕ} {e : Error} → unsent g ≡ []
      → Sends contents a b g h (Err e) xs → WritesBytes contents a b (Err e) (encode_utf8_all xs)
  Sends-refused {e = e} none sent = SendsBytes-all (Err e) none sent.bytes tt

  -- the same, once it is flushed
  pub Sends-flushed : {a b c : Watched W} {g h i : Gatherer} {xs : List ℕ} {r : Result (Unit {0}) Error}
      → IsClear a → unsent g ≡ [] → Sends contents a b g h (Ok (tt {0})) xs → Sends contents b c h i r []
      → OnOk r (unsent i ≡ []) → WritesBytes contents a c r (encode_utf8_all xs)
  Sends-flushed {a} {c = c} {xs = xs} {r = r} clear none first second empty =
      subst (WritesBytes contents a c r) (append-nil (encode_utf8_all xs))
      (SendsBytes-all r none (SendsBytes-then clear first.bytes second.bytes) empty)

-- a front of the whole was written, and the rest is buffered or is to come
pub record Leaving {W : Type 0} (contents : W → Option (List ℕ)) (a b : Watched W) (whole left : List ℕ)
    : Type 0 where
  pub done : List ℕ
  pub parts : whole ≡ done ++ left
  pub written : WritesBytes contents a b (Ok (tt {0})) done

module _ {W : Type 0} {contents : W → Option (List ℕ)} where
  pub Leaving-starts : {a : Watched W} (whole : List ℕ) → IsClear a → Leaving contents a a whole whole
  Leaving-starts whole clear = record { done = []; parts = refl; written = WritesBytes-nil clear }

  pub Leaving-ends : {a b : Watched W} {g h : Gatherer} (xs : List ℕ)
      → Leaving contents a b (unsent g ++ xs) (unsent h) → SendsBytes contents a b g h (Ok (tt {0})) xs
  Leaving-ends {h = h} xs all = record {
    done = all.done;
    rest = unsent h;
    parts = all.parts;
    written = all.written;
    rest_unsent = refl;
  }

  module _ {a b c : Watched W} {h i : Gatherer} {whole left : List ℕ} (clear : IsClear a) (xs : List ℕ)
      (so_far : Leaving contents a b whole left) where
    -- a call that was to send the bytes xs after what is unsent
    pub Leaving-goes_on : (more : List ℕ) → left ≡ unsent h ++ (xs ++ more)
        → SendsBytes contents b c h i (Ok (tt {0})) xs → Leaving contents a c whole (unsent i ++ more)
    Leaving-goes_on more front step = record {
      done = so_far.done ++ step.done;
      parts = so_far.parts
          ∙ ap (λ l. so_far.done ++ l) (front ∙ sym (append_assoc (unsent h) xs more)
          ∙ ap (λ l. l ++ more) step.parts ∙ append_assoc step.done step.rest more
          ∙ ap (λ l. step.done ++ (l ++ more)) (sym step.rest_unsent))
          ∙ sym (append_assoc so_far.done step.done (unsent i ++ more));
      written = WritesBytes-then clear so_far.written step.written;
    }

    -- and one that was to send all that is left
    pub Leaving-last : {g : Gatherer} {r : Result (Unit {0}) Error} (ys : List ℕ) → unsent g ++ ys ≡ whole
        → left ≡ unsent h ++ xs → SendsBytes contents b c h i r xs → SendsBytes contents a c g i r ys
    Leaving-last ys all front step = record {
      done = so_far.done ++ step.done;
      rest = step.rest;
      parts = all ∙ so_far.parts ∙ ap (λ l. so_far.done ++ l) (front ∙ step.parts)
          ∙ sym (append_assoc so_far.done step.done step.rest);
      written = WritesBytes-then clear so_far.written step.written;
      rest_unsent = step.rest_unsent;
    }

-- a part of a whole text was sent, and the rest is left
pub record Sending {W : Type 0} (contents : W → Option (List ℕ)) (a b : Watched W) (before after : Gatherer)
    (whole rest : List ℕ) : Type 0 where
  pub so_far : List ℕ
  pub joined : so_far ++ rest ≡ whole
  pub clear : IsClear a
  pub sent : Sends contents a b before after (Ok (tt {0})) so_far

module _ {W : Type 0} {contents : W → Option (List ℕ)} where
  pub Sending-starts : (a : Watched W) (g : Gatherer) {whole : List ℕ} → IsClear a
      → Sending contents a a g g whole whole
  Sending-starts a g clear = record {
    so_far = [];
    joined = refl;
    clear = clear;
    sent = Sends-nil clear (sym (append-nil (unsent g)));
  }

  -- a call that was to send the front xs of the rest
  module _ {a b c : Watched W} {g h i : Gatherer} {whole rest xs : List ℕ} (more : List ℕ)
      (front : rest ≡ xs ++ more) (left : Sending contents a b g h whole rest) where
    pub Sending-goes_on : Sends contents b c h i (Ok (tt {0})) xs → Sending contents a c g i whole more
    Sending-goes_on step = record {
      so_far = left.so_far ++ xs;
      joined = append_assoc left.so_far xs more ∙ ap (λ l. left.so_far ++ l) (sym front) ∙ left.joined;
      clear = left.clear;
      sent = Sends-then left.clear left.sent step;
    }

    pub Sending-stops : {e : Error} → Sends contents b c h i (Err e) xs
        → Sends contents a c g i (Err e) whole
    Sending-stops {e} cut =
        subst (Sends contents a c g i (Err e)) (ap (λ l. left.so_far ++ l) (sym front) ∙ left.joined)
        (Sends-then left.clear left.sent (Sends-cut more cut))
