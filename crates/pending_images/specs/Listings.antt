-- All images of a memory as one list. Which list it is, `Images: IsListing` says, and a law says that it is that one.
use Rattle.std.specs.Prelude.{ℕ, ◌+◌, ◌↔◌, List, [], ◌∷◌, Contains}
use Rattle.std.specs.declared.cmp.Ordering.{Ordering}
use Rattle.std.specs.declared.cmp.Ordering.TheVariants.{Less, Equal, Greater}
use Rattle.std.specs.Ordering.{nat_cmp}
use Rattle.std.specs.Cmp.Lexicographic.{slice_cmp}
use Rattle.persist_buffer.specs.State.{Memory, Pending}
use Rattle.pending_images.specs.Candidates.{markers}
use Rattle.pending_images.specs.Images.{image_at}
use Rattle.pending_images.specs.Products.{images_below}

-- an item before the first of others, as it, or after it
abbrev pub put_by : {A : Type 0} → Ordering → A → A → List A → List A → List A
put_by Less item first later behind = item ∷ first ∷ later
put_by Equal item first later behind = first ∷ later
put_by Greater item first later behind = first ∷ behind

-- an item among others that ascend, unless it is there
abbrev pub put : {A : Type 0} → (A → A → Ordering) → A → List A → List A
put order item [] = item ∷ []
put order item (first ∷ later) = put_by (order item first) item first later (put order item later)

-- items in ascending order, each once
abbrev pub in_order_by : {A : Type 0} → (A → A → Ordering) → List A → List A
in_order_by order [] = []
in_order_by order (item ∷ others) = put order item (in_order_by order others)

-- images in ascending order, each once
abbrev pub in_order : List (List ℕ) → List (List ℕ)
in_order images = in_order_by (slice_cmp nat_cmp) images

-- two lists have the same images, each perhaps more than once
abbrev pub HaveTheSame : List (List ℕ) → List (List ℕ) → Type 0
HaveTheSame images others = (image : List ℕ) → Contains images image ↔ Contains others image

-- the images of a memory in the order in which products form them, with repeats
abbrev pub formed_of : List ℕ → Memory → List (List ℕ)
formed_of shape m = images_below shape (markers m.pending + 1) m.pending (image_at shape m.persisted)

-- the images of a memory, ascending and each once
abbrev pub images_of : List ℕ → Memory → List (List ℕ)
images_of shape m = in_order (formed_of shape m)

-- both of what has left the store buffers
abbrev pub formed_in : Pending → List (List ℕ)
formed_in p = formed_of p.shape p.memory

abbrev pub images_in : Pending → List (List ℕ)
images_in p = images_of p.shape p.memory
