-- What is found of the images of a state, and what is said of it in lines.
use Rattle.std.specs.Prelude.{ℕ, ◌+◌, Bool, true, not, ◌&&◌, ◌||◌, Option, Some, None, option_map, Result, Ok, Err, List, [], ◌∷◌, ◌++◌, find, codes, is_some, if◌then◌else◌}
use Rattle.machine.specs.State.{State}
use Rattle.conditions.specs.Formulas.{Formula}
use Rattle.pending_images.specs.Candidates.{candidates, count_of}
use Rattle.pending_images.specs.declared.total.Count.{Count}
use Rattle.pending_images.specs.declared.total.Count.TheVariants.{Number, More}
use Rattle.commands.specs.declared.fault.Refused.{Refused}
use Rattle.commands.specs.declared.fault.Refused.TheVariants.{TooManyImages}
use Rattle.commands.specs.declared.fault.Stage.TheVariants as stages
use Rattle.commands.specs.declared.status.Status.{Status}
use Rattle.commands.specs.declared.status.Status.TheVariants.{Done, Unmet}
use Rattle.commands.specs.Works.{◌>>=◌, Work, test, work}
use Rattle.images.specs.Images.{images_of}
use Rattle.images.specs.Truth.{holds_on}
use Rattle.lines_layout.specs.Layouts.{NamedLines}
pub use Rattle.commands.specs.ImageTexts.{candidates_text, image_text, images_text, line, values_text, words_text}
use Rattle.commands.specs.ImageTexts.{names_shown}
use Rattle.lines_layout.specs.Names.{Text}

-- What is asked about the images of a state.
pub record Question : Type 0 where
  -- the images themselves are not listed
  pub only_count : Bool
  -- does this hold for all images
  pub all : Option Formula
  -- does this hold for some image
  pub some : Option Formula

-- What is found of them.
pub record Listing : Type 0 where
  -- how many candidates there are
  pub count : Count
  -- the images, where they are listed
  pub images : Option (List (List ℕ))
  -- of a condition that is asked for of all images, the first for which it does not hold
  pub broken : Option (Option (List ℕ))
  -- where the images are listed, the places of those for which it does not
  pub failing : Option (List ℕ)
  -- of one that is asked for of some image, the first for which it does
  pub met : Option (Option (List ℕ))

-- ---- what is found

-- the first image for which a condition does not hold
abbrev pub counterexample : State → Formula → Option (List ℕ)
counterexample s f = find (λ image. not (holds_on s f image)) (images_of s)

-- the place of an image, if a condition does not hold for it
abbrev pub failing_at : State → Formula → ℕ → List ℕ → List ℕ
failing_at s f place image = if holds_on s f image then [] else (place ∷ [])

-- the places of those images for which a condition does not hold, where the first has this place
abbrev pub failing_from : State → Formula → ℕ → List (List ℕ) → List ℕ
failing_from s f place [] = []
failing_from s f place (image ∷ images) = failing_at s f place image ++ failing_from s f (place + 1) images

-- the places of all images for which a condition does not hold, ascending, where the first image has the place 0
abbrev pub failing_places : State → Formula → List ℕ
failing_places s f = failing_from s f 0 (images_of s)

-- the first image for which a condition holds
abbrev pub example : State → Formula → Option (List ℕ)
example s f = find (holds_on s f) (images_of s)

-- how many candidates a state has
abbrev pub count_in : State → Count
count_in s = count_of (candidates s.memory.pending)

-- the images themselves, unless only their count is asked for
abbrev pub listed : Bool → List (List ℕ) → Option (List (List ℕ))
listed only_count images = if only_count then None else Some images

-- the places of those for which a condition does not hold that is asked for of all, where the images are listed
abbrev pub failing_listed : Bool → State → Option Formula → Option (List ℕ)
failing_listed only_count s all = if only_count then None else option_map (failing_places s) all

-- whether the images are looked at
abbrev pub looks : Question → Bool
looks question = not question.only_count || (is_some question.all || is_some question.some)

-- where they are
abbrev pub looked : Question → State → Listing
looked question s = record {
  count = count_in s;
  images = listed question.only_count (images_of s);
  broken = option_map (counterexample s) question.all;
  failing = failing_listed question.only_count s question.all;
  met = option_map (example s) question.some;
}

-- where they are not
abbrev pub counted : Count → Listing
counted count = record { count = count; images = None; broken = None; failing = None; met = None }

-- where images are looked at, they are not too many
abbrev pub unless_more : Count → Listing → Result Listing Refused
unless_more (Number n) listing = Ok listing
unless_more More listing = Err TooManyImages

-- what is found of a state
abbrev pub listing_of : Question → State → Result Listing Refused
listing_of question s = if looks question then unless_more (count_in s) (looked question s) else Ok (counted (count_in s))

-- no image is listed where there are too many
abbrev pub listing_work : Question → State → Work Listing
listing_work question s = do
  listing ← test (listing_of question s)
  work stages.Images (Ok listing)

-- ---- whether what was asked is met

-- the status by that
abbrev pub status_if : Bool → Status
status_if is_met = if is_met then Done else Unmet

-- a condition that was asked for of all images holds for them
abbrev pub is_kept : Option (Option (List ℕ)) → Bool
is_kept None = true
is_kept (Some counterexample) = not (is_some counterexample)

-- one that was asked for of some image holds for one
abbrev pub is_shown : Option (Option (List ℕ)) → Bool
is_shown None = true
is_shown (Some example) = is_some example

-- both are to be met
abbrev pub listing_status : Listing → Status
listing_status listing = status_if (is_kept listing.broken && is_shown listing.met)

-- there is to be a set that leaves an image
abbrev pub set_status : Option (List ℕ) → Status
set_status found = status_if (is_some found)

-- ---- in lines

-- the images where they are listed, after the names of the words where these are shown
abbrev pub listed_text : Bool → NamedLines → Option (List (List ℕ)) → Text
listed_text named names None = []
listed_text named names (Some images) = names_shown named names ++ images_text images

-- whether a condition, where one was asked for, holds for all images, by the first for which it does not
abbrev pub all_text : Option (Option (List ℕ)) → Text
all_text None = []
all_text (Some None) = line (codes "all holds")
all_text (Some (Some image)) = line (codes "all fails" ++ values_text image)

-- whether a condition, where one was asked for, holds for some image, by the first for which it does
abbrev pub some_text : Option (Option (List ℕ)) → Text
some_text None = []
some_text (Some None) = line (codes "some none")
some_text (Some (Some image)) = line (codes "some found" ++ values_text image)

-- the count of candidates, the images, and whether the conditions hold
abbrev pub listing_text : Bool → NamedLines → Listing → Text
listing_text named names listing =
    candidates_text listing.count ++ (listed_text named names listing.images ++ (all_text listing.broken ++ some_text listing.met))

-- which entries leave an image: the places of their set, or that there is none
abbrev pub set_text : Option (List ℕ) → Text
set_text None = line (codes "no set")
set_text (Some places) = line (codes "set" ++ values_text places)
