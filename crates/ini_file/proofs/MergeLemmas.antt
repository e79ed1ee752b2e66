-- Files that have a document each, one file on.
use Rattle.std.proofs.Common.{◌≡◌, ◌<◌, ◌+◌, ◌∙◌, ℕ, List, [], ◌∷◌, ◌++◌, length, suc, subst, sym, ap, arith}
use Rattle.std.proofs.Common.{add-one, drop, drop-cons, get_or, length-take, take, take-append-drop, take-suc}
use Rattle.std.proofs.lemmas.List.{map-append, length-map}
use Rattle.std.specs.declared.alloc.Global.{Global}
use Rattle.std.specs.declared.vec.Vec.{Vec}
use Rattle.ini_text.specs.declared.error.Error.{Error}
use Rattle.ini_text.specs.declared.option.ParseOption.{ParseOption}
use Rattle.ini.specs.Documents.{Document}
use Rattle.ini_file.specs.Merges.{AreLoaded, Loads, RefusesFile, RefusesOther, bytes_of}

module _ (o : ParseOption) (files : List (Vec ℕ Global)) (i : ℕ) (file : Vec ℕ Global)
    (within : i < length files)
    (is_at : file ≡ get_or files i file) {documents : List Document}
    (loaded : AreLoaded o (bytes_of (take i files)) documents) where
  -- one file more has a document
  pub one_more_loaded : {more : List Document} (document : Document) → Loads o file.items document
      → more ≡ documents ++ document ∷ [] → AreLoaded o (bytes_of (take (i + 1) files)) more
  one_more_loaded {more} document loads is =
      let taken : bytes_of (take (i + 1) files) ≡ bytes_of (take i files) ++ file.items ∷ [] =
      rw (add-one, take-suc files i file within, ← is_at)
      (map-append (λ f. f.items) (take i files) (file ∷ [])) in
      subst (λ fs. AreLoaded o fs more) (sym taken)
      (subst (λ ds. AreLoaded o (bytes_of (take i files) ++ file.items ∷ []) ds) (sym is)
      (AreLoaded.then loaded file.items loads))

  -- the file has none
  pub one_refused : (e : Error) → RefusesFile o file.items e → RefusesOther o (bytes_of files) i e
  one_refused e refused =
      let split : drop i files ≡ file ∷ drop (suc i) files =
      drop-cons files i file within ∙ ap (λ f. f ∷ drop (suc i) files) (sym is_at) in
      record {
        before = bytes_of (take i files);
        file = file.items;
        following = bytes_of (drop (suc i) files);
        whole = ap bytes_of (sym (take-append-drop i files))
            ∙ (map-append (λ f. f.items) (take i files) (drop i files)
            ∙ ap (λ fs. bytes_of (take i files) ++ bytes_of fs) split);
        is_at = simp (length-map, length-take) (omega arith);
        documents = documents;
        are_loaded = loaded;
        is_refused = refused;
      }
