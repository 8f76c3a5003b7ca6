-- Images as JSON.
use Rattle.std.specs.Prelude.{not, is_some, ℕ, Option, List, [], ◌∷◌, codes, map}
use Rattle.lines_layout.specs.Layouts.{NamedLines}
use Rattle.pending_images.specs.declared.total.Count.{Count}
use Rattle.pending_images.specs.declared.total.Count.TheVariants.{Number, More}
use Rattle.commands.specs.OutcomeTexts.{names_of}
use Rattle.json_texts.specs.Objects.{Tree, boolean, list, num, nums, obj, or_null, word}

-- how many candidates there are, or that they are more than are counted
abbrev pub candidates_data : Count → Tree
candidates_data (Number n) = num n
candidates_data More = word (codes "more")

-- the names of all words: what the values of an image are of
abbrev pub names_data : NamedLines → Tree
names_data names = list (map word (names_of names))

-- each image as its values
abbrev pub images_data : List (List ℕ) → Tree
images_data images = list (map nums images)

-- whether a condition holds for all images, the first for which it does not, and the places of all of these, where images are listed
abbrev pub all_data : Option (List ℕ) → Option (List ℕ) → Tree
all_data failing counterexample =
    obj ((codes "holds", boolean (not (is_some counterexample))) ∷ (codes "image", or_null nums counterexample)
    ∷ (codes "broken", or_null nums failing) ∷ [])

-- whether a condition holds for some image, and the first for which it does
abbrev pub some_data : Option (List ℕ) → Tree
some_data example = obj ((codes "found", boolean (is_some example)) ∷ (codes "image", or_null nums example) ∷ [])
