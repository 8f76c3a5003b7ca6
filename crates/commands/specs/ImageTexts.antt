-- Images as text.
use Rattle.std.specs.Prelude.{ℕ, Bool, List, [], ◌∷◌, ◌++◌, codes, decimal, if◌then◌else◌, length}
use Rattle.std.specs.List.{flat_map}
use Rattle.lines_layout.specs.Layouts.{NamedLines}
use Rattle.lines_layout.specs.Names.{Text}
use Rattle.pending_images.specs.declared.total.Count.{Count}
use Rattle.pending_images.specs.declared.total.Count.TheVariants.{Number, More}

-- a text that ends a line
abbrev pub line : Text → Text
line text = text ++ 10 ∷ []

-- values, each after a blank
abbrev pub values_text : List ℕ → Text
values_text values = flat_map (λ value. codes " " ++ decimal value) values

-- a line for an image
abbrev pub image_text : List ℕ → Text
image_text image = line (codes "image" ++ values_text image)

-- how many candidates there are
abbrev pub candidates_text : Count → Text
candidates_text (Number n) = line (codes "candidates " ++ decimal n)
candidates_text More = line (codes "candidates more")

-- a line for each image, and how many there are
abbrev pub images_text : List (List ℕ) → Text
images_text images = flat_map image_text images ++ line (codes "images " ++ decimal (length images))

-- names, each after a blank
abbrev pub line_names_text : List Text → Text
line_names_text names = flat_map (λ name. codes " " ++ name) names

-- the names of all words, in the order of an image
abbrev pub names_text : NamedLines → Text
names_text names = flat_map line_names_text names

-- a line of the names of all words: what the values of an image are of
abbrev pub words_text : NamedLines → Text
words_text names = line (codes "words" ++ names_text names)

-- the same where the names are asked for
abbrev pub names_shown : Bool → NamedLines → Text
names_shown asked names = if asked then words_text names else []
