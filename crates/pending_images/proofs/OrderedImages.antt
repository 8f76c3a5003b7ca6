-- Images, and numbers, that are put in order, each once; and that two such lists of the same items are one.
use Rattle.std.proofs.Common.{◌≡◌, ℕ, List, ◌↔◌, sym, ◌∙◌, ap}
use Rattle.std.specs.List.{Contains}
use Rattle.std.specs.List.Sorted.{IsStrictlySortedBy}
use Rattle.std.specs.declared.cmp.Ordering.{Ordering}
use Rattle.std.specs.declared.cmp.Ordering.TheVariants.{Equal}
use Rattle.std.specs.Ordering.{is_eq, nat_cmp}
use Rattle.std.proofs.lemmas.Bool.{eqb-true}
use Rattle.std.specs.Cmp.{nat_cmp_total, unsigned_ties}
use Rattle.std.specs.Cmp.Lexicographic.{slice_cmp, nat_list_cmp_total, texts_ties, same_text}
use Rattle.pending_images.specs.Listings.{in_order, in_order_by}
use Rattle.pending_images.proofs.OrderedLists as lists

abbrev Image : Type 0
Image = List ℕ

abbrev order : Image → Image → Ordering
order = slice_cmp nat_cmp

tied_is : (x y : Image) → order x y ≡ Equal → x ≡ y
tied_is x y tied = same_text x y (sym (texts_ties x y ∙ ap is_eq tied))

pub in_order_rises : (xs : List Image) → IsStrictlySortedBy order (in_order xs)
in_order_rises xs = lists.in_order_rises order nat_list_cmp_total tied_is xs

pub in_order_has : (xs : List Image) (z : Image) → Contains (in_order xs) z ↔ Contains xs z
in_order_has xs z = lists.in_order_has order nat_list_cmp_total tied_is xs z

pub same_images : (xs ys : List Image) → IsStrictlySortedBy order xs → IsStrictlySortedBy order ys → ((z : Image) → Contains xs z ↔ Contains ys z) → xs ≡ ys
same_images xs ys rises_x rises_y alike = lists.same_items order nat_list_cmp_total tied_is xs ys rises_x rises_y alike

pub same_order : (images sorted : List Image) → ((z : Image) → Contains sorted z ↔ Contains images z) → IsStrictlySortedBy order sorted → sorted ≡ in_order images
same_order images sorted alike rises = lists.same_order order nat_list_cmp_total tied_is images sorted alike rises

-- ---- numbers

number_is : (x y : ℕ) → nat_cmp x y ≡ Equal → x ≡ y
number_is x y tied = eqb-true x y (unsigned_ties x y ∙ ap is_eq tied)

pub numbers_rise : (xs : List ℕ) → IsStrictlySortedBy nat_cmp (in_order_by nat_cmp xs)
numbers_rise xs = lists.in_order_rises nat_cmp nat_cmp_total number_is xs

pub numbers_have : (xs : List ℕ) (z : ℕ) → Contains (in_order_by nat_cmp xs) z ↔ Contains xs z
numbers_have xs z = lists.in_order_has nat_cmp nat_cmp_total number_is xs z

pub same_numbers : (xs ys : List ℕ) → IsStrictlySortedBy nat_cmp xs → IsStrictlySortedBy nat_cmp ys → ((z : ℕ) → Contains xs z ↔ Contains ys z) → xs ≡ ys
same_numbers xs ys rises_x rises_y alike = lists.same_items nat_cmp nat_cmp_total number_is xs ys rises_x rises_y alike
