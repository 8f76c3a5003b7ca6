-- Where the tokens of a line depart from all of its forms, and what may be there.
use Rattle.std.specs.Prelude.{◌≡◌, ℕ, ◌+◌, ◌==◌, if◌then◌else◌, List, [], ◌∷◌, codes, filter, length, map, max, min, slice_get, unwrap_or}
use Rattle.std.specs.Borrow.{Bor}
use Rattle.std.specs.List.{dedup, prefix_len}
use Rattle.text_tokens.specs.Cursors.{Token}
use Rattle.text_tokens.specs.Text.{is_plain, tokens_of}
use Rattle.line_forms.specs.Places.{IsPlaceOf}
use Rattle.line_forms.specs.Slots.{Spot, a_character, the_end, fits, same_spot, spot_of}
use Rattle.line_forms.specs.declared.slots.Slot.{Slot}
use Rattle.line_forms.specs.declared.slots.Slot.TheVariants.{End}
use Rattle.line_forms.specs.declared.places.Place.{Place}
use Rattle.line_forms.specs.declared.misfits.Misfit.{Misfit}

-- the form of a line, place by place
abbrev pub Form : Type 0
Form = List Spot

-- the forms that a table has
abbrev pub forms_of : List (Bor (List Slot)) → List Form
forms_of table = map (λ form. map spot_of form.now) table

-- how many of the tokens from the first on fit the form
abbrev pub fitting : Form → List Token → ℕ
fitting [] tokens = 0
fitting (spot ∷ form) [] = 0
fitting (spot ∷ form) (w ∷ tokens) = if fits spot w then 1 + fitting form tokens else 0

-- how many fit the form that fits most of them
abbrev pub furthest : List Form → List Token → ℕ
furthest [] tokens = 0
furthest (form ∷ forms) tokens = max (fitting form tokens) (furthest forms tokens)

-- what slots have at this index
abbrev pub slot_at : ℕ → List Slot → Slot
slot_at index slots = unwrap_or (slice_get slots index) End

-- what the form has at this index
abbrev pub spot_at : ℕ → Form → Spot
spot_at index form = unwrap_or (slice_get form index) the_end

-- what the forms that so many of the tokens fit have after these, without repeats in a row
abbrev pub spots_behind : ℕ → List Form → List Token → List Spot
spots_behind index forms tokens = dedup same_spot (map (spot_at index) (filter (λ form. fitting form tokens == index) forms))

-- these slots are what the forms have behind so many of the line's tokens
abbrev pub AreBehind : ℕ → List Form → List ℕ → List Slot → Type 0
AreBehind index forms line slots = map spot_of slots ≡ spots_behind index forms (tokens_of line)

-- the first token that none of these forms has after the tokens before it, or the end where one is missing; and what may be there
pub record Departs (forms : List Form) (line : List ℕ) (misfit : Misfit) : Type 0 where
  pub place : IsPlaceOf (codes ",[]:") (codes "#") line (furthest forms (tokens_of line)) misfit.place
  pub spots : AreBehind (furthest forms (tokens_of line)) forms line misfit.slots.items

-- the first byte that no line may have
abbrev pub strange_place : List ℕ → Place
strange_place line = record { from = prefix_len is_plain line; to = min (length line) (prefix_len is_plain line + 1) }

-- a place, and the one spot that may be there
pub record HasOne (IsThere : Place → Type 0) (spot : Spot) (misfit : Misfit) : Type 0 where
  pub place : IsThere misfit.place
  pub spots : map spot_of misfit.slots.items ≡ spot ∷ []

-- the first byte that no line may have, where a blank or a visible character may be
abbrev pub IsStrange : List ℕ → Misfit → Type 0
IsStrange line misfit = HasOne (λ place. place ≡ strange_place line) a_character misfit
