-- No tree has a float: so a report has none, whatever it says.
use Rattle.std.proofs.Common.{◌≡◌, ℕ, Bool, true, false, ◌||◌, List, Ordering, Less, Equal, Greater, nat_cmp, refl, true≢false}
use Rattle.std.specs.Cmp.Lexicographic.{slice_cmp}
use Rattle.std.specs.Ordering.{match_ordering}
use Rattle.serde_json.specs.Data.{Data, Members, no_members, member, put}
use Rattle.serde_json.specs.Written.{has_float, items_have_float, members_have_float}
use Rattle.json_texts.specs.Objects.{Tree, Trees, Fields, null, boolean, num, word, items, fields, no_trees, tree, no_fields, field, json_of, json_items, put_in}

-- ---- joined from parts that have none

neither : (a b : Bool) → a ≡ false → b ≡ false → (a || b) ≡ false
neither a b first second = rw (first, second) refl

first_not : (a b : Bool) → (a || b) ≡ false → a ≡ false
first_not true b h = h
first_not false b h = refl

second_not : (a b : Bool) → (a || b) ≡ false → b ≡ false
second_not true b h = absurd (true≢false h)
second_not false b h = h

put_has_none_at : (o : Ordering) (k l : List ℕ) (d e : Data) (ms later : Members) → has_float d ≡ false → has_float e ≡ false → members_have_float ms ≡ false
    → members_have_float later ≡ false → members_have_float (match_ordering o (member k d (member l e ms)) (member l d ms) (member l e later)) ≡ false
put_has_none_at Less k l d e ms later new old rest more = neither (has_float d) _ new (neither (has_float e) (members_have_float ms) old rest)
put_has_none_at Equal k l d e ms later new old rest more = neither (has_float d) (members_have_float ms) new rest
put_has_none_at Greater k l d e ms later new old rest more = neither (has_float e) (members_have_float later) old more

put_has_none : (k : List ℕ) (d : Data) (ms : Members) → has_float d ≡ false → members_have_float ms ≡ false → members_have_float (put k d ms) ≡ false
put_has_none k d no_members new rest = neither (has_float d) false new refl
put_has_none k d (member l e ms) new rest =
    let old = first_not (has_float e) (members_have_float ms) rest in
    let others = second_not (has_float e) (members_have_float ms) rest in
    put_has_none_at (slice_cmp nat_cmp k l) k l d e ms (put k d ms) new old others (put_has_none k d ms new others)

mutual
  -- no tree has a float
  pub has_none : (t : Tree) → has_float (json_of t) ≡ false
  has_none null = refl
  has_none (boolean b) = refl
  has_none (num n) = refl
  has_none (word text) = refl
  has_none (items ts) = items_have_none ts
  has_none (fields fs) = fields_have_none no_members fs refl

  items_have_none : (ts : Trees) → items_have_float (json_items ts) ≡ false
  items_have_none no_trees = refl
  items_have_none (tree t ts) = neither (has_float (json_of t)) (items_have_float (json_items ts)) (has_none t) (items_have_none ts)

  fields_have_none : (ms : Members) (fs : Fields) → members_have_float ms ≡ false → members_have_float (put_in ms fs) ≡ false
  fields_have_none ms no_fields rest = rest
  fields_have_none ms (field name t later) rest = fields_have_none (put name (json_of t) ms) later (put_has_none name (json_of t) ms (has_none t) rest)
