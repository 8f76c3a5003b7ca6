-- Items that are put in order, each once; and that two such lists of the same items are one.
use Rattle.std.proofs.Common.{◌≡◌, List, [], ◌∷◌, ◌↔◌, ◌⊎◌, inl, inr, refl, sym, subst, ap, ◌∙◌, true≢false}
use Rattle.std.specs.List.{Contains, AllByRecursion}
use Rattle.std.specs.List.Sorted.{IsStrictlySortedBy}
use Rattle.std.specs.declared.cmp.Ordering.{Ordering}
use Rattle.std.specs.declared.cmp.Ordering.TheVariants.{Less, Equal, Greater}
use Rattle.std.specs.Ordering.{is_lt, ordering_reverse}
use Rattle.std.specs.Cmp.{IsTotalOrder, tied_itself}
use Rattle.pending_images.specs.Listings.{put, put_by, in_order_by}
use Rattle.pending_images.proofs.Members.{first_has, has_cases, later_has, none_has}

module _ {Item : Type 0} (order : Item → Item → Ordering) (total : IsTotalOrder order) (ties : (x y : Item) → order x y ≡ Equal → x ≡ y) where
  abbrev AllAbove : Item → List Item → Type 0
  AllAbove x = AllByRecursion (λ y. order x y ≡ Less)

  Less≢Equal : Less ≡ Equal → ⊥
  Less≢Equal e = true≢false (ap is_lt e)

  Less≢Greater : Less ≡ Greater → ⊥
  Less≢Greater e = true≢false (ap is_lt e)

  not_below_itself : (x : Item) → order x x ≡ Less → ⊥
  not_below_itself x below = Less≢Equal (sym below ∙ tied_itself total x)

  not_both_below : (x y : Item) → order x y ≡ Less → order y x ≡ Less → ⊥
  not_both_below x y xy yx = Less≢Greater (sym xy ∙ total.antisymm x y ∙ ap ordering_reverse yx)

  all_at : (x : Item) (xs : List Item) (z : Item) → AllAbove x xs → Contains xs z → order x z ≡ Less
  all_at x [] z all h = none_has _ z h
  all_at x (y ∷ ys) z all h = elim (has_cases y ys z h) [ inl is ↦ subst (λ w. order x w ≡ Less) is all.0 | inr there ↦ all_at x ys z all.1 there ]

  all_above : (x y : Item) → order x y ≡ Less → (ys : List Item) → AllAbove y ys → AllAbove x ys
  all_above x y below [] all = tt
  all_above x y below (z ∷ zs) all = (total.trans x y z below all.0, all_above x y below zs all.1)

  all_put : (a x : Item) (xs : List Item) → order a x ≡ Less → AllAbove a xs → AllAbove a (put order x xs)
  all_put a x [] below all = (below, tt)
  all_put a x (y ∷ ys) below all =
      elim (order x y) as (λ o. AllAbove a (put_by o x y ys (put order x ys))) [
        | Less ↦ (below, all)
        | Equal ↦ all
        | Greater ↦ (all.0, all_put a x ys below all.1)
      ]

  put_rises : (x : Item) (xs : List Item) → IsStrictlySortedBy order xs → IsStrictlySortedBy order (put order x xs)
  unfolding IsStrictlySortedBy
  put_rises x [] rises = (tt, tt)
  put_rises x (y ∷ ys) rises =
      elim (order x y) as (λ o. order x y ≡ o → IsStrictlySortedBy order (put_by o x y ys (put order x ys))) [
        | Less ↦ λ below. ((below, all_above x y below ys rises.0), rises)
        | Equal ↦ λ tied. rises
        | Greater ↦ λ above. (all_put y x ys (total.antisymm y x ∙ ap ordering_reverse above) rises.0, put_rises x ys rises.1)
      ] refl

  put_has : (x : Item) (xs : List Item) (z : Item) → Contains (put order x xs) z ↔ (x ≡ z) ⊎ Contains xs z
  put_has x [] z = (has_cases x [] z, λ h. elim h [ inl is ↦ subst (Contains (x ∷ [])) is (first_has x []) | inr none ↦ none_has _ z none ])
  put_has x (y ∷ ys) z =
      elim (order x y) as (λ o. order x y ≡ o → Contains (put_by o x y ys (put order x ys)) z ↔ (x ≡ z) ⊎ Contains (y ∷ ys) z) [
        | Less ↦ λ below. (has_cases x (y ∷ ys) z, λ h. elim h [ inl is ↦ subst (Contains (x ∷ y ∷ ys)) is (first_has x (y ∷ ys)) | inr there ↦ later_has x (y ∷ ys) z there ])
        | Equal ↦ λ tied. ((λ h. inr h), (λ h. elim h [ inl is ↦ subst (Contains (y ∷ ys)) (sym (ties x y tied) ∙ is) (first_has y ys) | inr there ↦ there ]))
        | Greater ↦ λ above. (let rest = put_has x ys z in (
          (λ h. elim (has_cases y (put order x ys) z h) [
            | inl is ↦ inr (subst (Contains (y ∷ ys)) is (first_has y ys))
            | inr there ↦ elim (rest.0 there) [ inl is ↦ inl is | inr among ↦ inr (later_has y ys z among) ]
          ]),
          (λ h. elim h [
            | inl is ↦ later_has y (put order x ys) z (rest.1 (inl is))
            | inr there ↦ elim (has_cases y ys z there) [
              | inl is ↦ subst (Contains (y ∷ put order x ys)) is (first_has y (put order x ys))
              | inr among ↦ later_has y (put order x ys) z (rest.1 (inr among))
            ]
          ]),
        ))
      ] refl

  pub in_order_rises : (xs : List Item) → IsStrictlySortedBy order (in_order_by order xs)
  unfolding IsStrictlySortedBy
  in_order_rises [] = tt
  in_order_rises (x ∷ xs) = put_rises x (in_order_by order xs) (in_order_rises xs)

  pub in_order_has : (xs : List Item) (z : Item) → Contains (in_order_by order xs) z ↔ Contains xs z
  in_order_has [] z = ((λ h. h), (λ h. h))
  in_order_has (x ∷ xs) z =
      let put = put_has x (in_order_by order xs) z in
      let rest = in_order_has xs z in (
        (λ h. elim (put.0 h) [ inl is ↦ subst (Contains (x ∷ xs)) is (first_has x xs) | inr there ↦ later_has x xs z (rest.0 there) ]),
        (λ h. elim (has_cases x xs z h) [ inl is ↦ put.1 (inl is) | inr there ↦ put.1 (inr (rest.1 there)) ]),
      )

  -- what is among the later ones of two lists with one first item
  later_from : (x : Item) (xs ys : List Item) → AllAbove x xs → ((z : Item) → Contains (x ∷ xs) z → Contains (x ∷ ys) z) → (z : Item) → Contains xs z → Contains ys z
  later_from x xs ys above moves z h =
      elim (has_cases x ys z (moves z (later_has x xs z h))) [
        | inl is ↦ absurd (not_below_itself x (subst (λ w. order x w ≡ Less) (sym is) (all_at x xs z above h)))
        | inr there ↦ there
      ]

  -- the first items of two such lists are one
  same_first : (x y : Item) (xs ys : List Item) → AllAbove x xs → AllAbove y ys → ((z : Item) → Contains (x ∷ xs) z ↔ Contains (y ∷ ys) z) → x ≡ y
  same_first x y xs ys above_x above_y alike =
      elim (has_cases y ys x ((alike x).0 (first_has x xs))) [
        | inl is ↦ sym is
        | inr x_later ↦ elim (has_cases x xs y ((alike y).1 (first_has y ys))) [
          | inl is ↦ is
          | inr y_later ↦ absurd (not_both_below x y (all_at x xs y above_x y_later) (all_at y ys x above_y x_later))
        ]
      ]

  -- two ascending lists of the same items are one list
  pub same_items : (xs ys : List Item) → IsStrictlySortedBy order xs → IsStrictlySortedBy order ys → ((z : Item) → Contains xs z ↔ Contains ys z) → xs ≡ ys
  unfolding IsStrictlySortedBy
  same_items [] [] rises_x rises_y alike = refl
  same_items [] (y ∷ ys) rises_x rises_y alike = none_has _ y ((alike y).1 (first_has y ys))
  same_items (x ∷ xs) [] rises_x rises_y alike = none_has _ x ((alike x).0 (first_has x xs))
  same_items (x ∷ xs) (y ∷ ys) rises_x rises_y alike =
      let first = same_first x y xs ys rises_x.0 rises_y.0 alike in
      let moved : (z : Item) → Contains (x ∷ xs) z ↔ Contains (x ∷ ys) z = subst (λ w. (z : Item) → Contains (x ∷ xs) z ↔ Contains (w ∷ ys) z) (sym first) alike in
      let above : AllAbove x ys = subst (λ w. AllAbove w ys) (sym first) rises_y.0 in
      let rest = same_items xs ys rises_x.1 rises_y.1 (λ z. (later_from x xs ys rises_x.0 (λ w. (moved w).0) z, later_from x ys xs above (λ w. (moved w).1) z)) in
      ap (λ w. w ∷ xs) first ∙ ap (λ ws. y ∷ ws) rest

  -- an ascending list of some items is those items in order
  pub same_order : (items sorted : List Item) → ((z : Item) → Contains sorted z ↔ Contains items z) → IsStrictlySortedBy order sorted → sorted ≡ in_order_by order items
  same_order items sorted alike rises =
      same_items sorted (in_order_by order items) rises (in_order_rises items)
      (λ z. let has = in_order_has items z in let is = alike z in ((λ h. has.1 (is.0 h)), (λ h. is.1 (has.0 h))))
