-- What follows the names of an object's words.
use Rattle.std.proofs.Common.{◌≡◌, ℕ, List, length, Result, Ok, Err, refl, ap, ◌∙◌}
use Rattle.std.specs.Prelude.{nat_lt}
use Rattle.outcomes.specs.declared.or_no_memory.OrNoMemory.{OrNoMemory}
use Rattle.outcomes.specs.declared.or_no_memory.OrNoMemory.TheVariants.{Fault, NoMemory}
use Rattle.outcomes.specs.Outcomes.{◌>>=◌, refuse}
use Rattle.lines_layout.specs.Layouts.{NamedLines}
use Rattle.lines_layout.specs.Shapes.{words_of}
use Rattle.lines_layout.specs.Values.{zeros}
use Rattle.isa.specs.declared.programs.Programs.{Programs}
use Rattle.isa.specs.Objects.{Object, made_of}
use Rattle.loader.specs.declared.fault.ObjectFault.{ObjectFault}
use Rattle.loader.specs.declared.fault.ObjectFault.TheVariants.{Trailing}
use Rattle.loader.specs.declared.version.Version.{Version}
use Rattle.loader.specs.Versions.{most_processors}
use Rattle.loader.specs.Reading.{Fails, Field, contents_of, count_at, layout_at, object_at, object_of, processors_at, shape_at, values_at, version_at}

-- the object that all bytes are
abbrev sealed : Field Object → Result Object ObjectFault
sealed read = do
  o ← read
  end ← refuse Trailing (nat_lt 0 (length o.1))
  Ok o.0

-- what follows a layout, with the layout
abbrev pub made : NamedLines → Result (List ℕ × List Programs) ObjectFault → Result Object ObjectFault
made layout read = do
  x ← read
  Ok (made_of layout x.0 x.1)

-- the programs, as the last part of an object and of what follows a layout
abbrev object_with : NamedLines → List ℕ → Field (List Programs) → Field Object
object_with layout values read = do
  processors ← read
  Ok (record { layout = layout; values = values; processors = processors.0 }, processors.1)

abbrev contents_with : List ℕ → Field (List Programs) → Result (List ℕ × List Programs) ObjectFault
contents_with values read = do
  processors ← read
  end ← refuse Trailing (nat_lt 0 (length processors.1))
  Ok (values, processors.0)

-- the same behind the count of processors
abbrev object_counted : NamedLines → List ℕ → List ℕ → Field ℕ → Field Object
object_counted layout shape values read = do
  count ← read
  object_with layout values (processors_at shape 0 count.0 count.1)

abbrev contents_counted : List ℕ → List ℕ → Field ℕ → Result (List ℕ × List Programs) ObjectFault
contents_counted shape values read = do
  count ← read
  contents_with values (processors_at shape 0 count.0 count.1)

-- the same behind the values
abbrev object_valued : Version → NamedLines → List ℕ → Field (List ℕ) → Field Object
object_valued version layout shape read = do
  values ← read
  object_counted layout shape values.0 (count_at (most_processors version) values.1)

abbrev contents_valued : Version → List ℕ → Field (List ℕ) → Result (List ℕ × List Programs) ObjectFault
contents_valued version shape read = do
  values ← read
  contents_counted shape values.0 (count_at (most_processors version) values.1)

by_end : (layout : NamedLines) (values : List ℕ) (processors : List Programs) (rest : List ℕ) (end : Result (Unit {0}) ObjectFault) →
    (end >>= λ done. Ok (made_of layout values processors)) ≡ made layout (end >>= λ done. Ok (values, processors))
by_end layout values processors rest (Ok done) = refl
by_end layout values processors rest (Err fault) = refl

by_processors : (layout : NamedLines) (values : List ℕ) (read : Field (List Programs)) →
    sealed (object_with layout values read) ≡ made layout (contents_with values read)
by_processors layout values (Ok p) = by_end layout values p.0 p.1 (refuse Trailing (nat_lt 0 (length p.1)))
by_processors layout values (Err fault) = refl

by_count : (layout : NamedLines) (shape values : List ℕ) (read : Field ℕ) →
    sealed (object_counted layout shape values read) ≡ made layout (contents_counted shape values read)
by_count layout shape values (Ok n) = by_processors layout values (processors_at shape 0 n.0 n.1)
by_count layout shape values (Err fault) = refl

by_values : (version : Version) (layout : NamedLines) (shape : List ℕ) (read : Field (List ℕ)) →
    sealed (object_valued version layout shape read) ≡ made layout (contents_valued version shape read)
by_values version layout shape (Ok v) = by_count layout shape v.0 (count_at (most_processors version) v.1)
by_values version layout shape (Err fault) = refl

-- an object is its layout and what follows it
pub contents_follow : (bytes : List ℕ) (version : Version) (shape : List ℕ) (layout : NamedLines) (after_version after_shape rest : List ℕ) →
    version_at bytes ≡ Ok (version, after_version) → shape_at after_version ≡ Ok (shape, after_shape) → layout_at version shape after_shape ≡ Ok (layout, rest) →
    object_of bytes ≡ made layout (contents_of version shape rest)
unfolding object_of object_at contents_of
contents_follow bytes version shape layout after_version after_shape rest a b c =
    rw (a, b, c) (by_values version layout shape (values_at (words_of shape) zeros rest))

-- what follows a layout has the fault of the object
pub contents_fail : (e : OrNoMemory ObjectFault) (layout : NamedLines) (told : Result Object ObjectFault) (read : Result (List ℕ × List Programs) ObjectFault) →
    told ≡ made layout read → Fails read e → Fails told e
contents_fail NoMemory layout told read same fails = tt
contents_fail (Fault fault) layout told read same fails = same ∙ ap (made layout) fails
