-- The spelling of an object is read to its end, and not with fewer or more bytes.
use Rattle.std.proofs.Common.{◌≡◌, ◌≢◌, ℕ, Bool, List, [], ◌∷◌, ◌++◌, length, Ok, Err, sym, ap, ◌∙◌, arith}
use Rattle.std.proofs.lemmas.Bool.{lt-ltb}
use Rattle.std.proofs.lemmas.List.{append-nil}
use Rattle.outcomes.specs.Outcomes.{◌>>=◌, refuse}
use Rattle.loader.specs.declared.fault.ObjectFault.TheVariants.{Short, Trailing}
use Rattle.isa.specs.Objects.{Object}
use Rattle.loader.specs.declared.version.Version.{Version}
use Rattle.loader.specs.Spelling.{object_bytes, HasSpelling}
use Rattle.loader.specs.Reading.{Field, object_at, object_of}
use Rattle.loader.proofs.SpelledObjectsAreRead.{CodesAgain, CodesShort, at_again}
use Rattle.loader.proofs.ReadObjectsAreSpelled.{ending}
use Rattle.loader.proofs.ReadBeginningsStay.{beginning_is_short}

module _ (codes : CodesAgain) (short : CodesShort) (v : Version) (o : Object) where
  -- the object, and what stands behind its spelling
  read_with : (rest : List ℕ) → HasSpelling v o → object_at (object_bytes v o ++ rest) ≡ Ok (o, rest)
  read_with rest has = at_again codes short v o rest has

  read_alone : HasSpelling v o → object_at (object_bytes v o) ≡ Ok (o, [])
  read_alone has = ap object_at (sym (append-nil (object_bytes v o))) ∙ read_with [] has

  pub all_read : HasSpelling v o → object_of (object_bytes v o) ≡ Ok o
  unfolding object_of
  all_read has = ap (λ (r : Field Object). r >>= ending) (read_alone has)

  pub more_refused : (b : ℕ) (bytes : List ℕ) → HasSpelling v o → object_of (object_bytes v o ++ b ∷ bytes) ≡ Err Trailing
  unfolding object_of
  more_refused b bytes has =
      ap (λ (r : Field Object). r >>= ending) (read_with (b ∷ bytes) has)
      ∙ ap (λ (t : Bool). refuse Trailing t >>= λ end. Ok o) (lt-ltb 0 (length (b ∷ bytes)) (omega arith))

  pub fewer_refused : (bytes more : List ℕ) → HasSpelling v o → more ≢ [] → bytes ++ more ≡ object_bytes v o → object_of bytes ≡ Err Short
  fewer_refused bytes more has some e = beginning_is_short bytes more o (ap object_at e ∙ read_alone has) some
