-- The pieces of a text, and how they are read.
use Rattle.std.proofs.Common.{◌≡◌, ℕ, zero, suc, ◌<◌, Bool, true, false, not, List, [], ◌∷◌, ◌++◌, length, take, drop, refl, ◌∙◌, ap, inl, inr, arith, one-add}
use Rattle.std.specs.List.{list_all, prefix_len}
use Rattle.std.proofs.lemmas.Bool.{cases_Bool, and_parts}
use Rattle.text_tokens.specs.Text.{is_blank, past_blanks}
use Rattle.debug_scripts.specs.Pieces.{is_solid, parted, piece_of}
use Rattle.debug_scripts.specs.Grammar.{is_apart}

module _ (p : ℕ → Bool) where
  -- what follows does not go on
  abbrev pub stops : List ℕ → Bool
  stops [] = true
  stops (b ∷ _) = not (p b)

  in_front : (b : ℕ) (xs : List ℕ) → p b ≡ true → prefix_len p (b ∷ xs) ≡ suc (prefix_len p xs)
  in_front b xs h = rw (h, one-add) refl

  out_front : (b : ℕ) (xs : List ℕ) → p b ≡ false → prefix_len p (b ∷ xs) ≡ 0
  out_front b xs h = rw h refl

  by_not : (b : Bool) → not b ≡ true → b ≡ false
  by_not true h = absurd cc
  by_not false h = refl

  pub span_len : (xs ys : List ℕ) → list_all p xs ≡ true → stops ys ≡ true → prefix_len p (xs ++ ys) ≡ length xs
  span_len [] [] all stop = refl
  span_len [] (y ∷ ys) all stop = out_front y ys (by_not (p y) stop)
  span_len (x ∷ xs) ys all stop =
      let a = and_parts (p x) (list_all p xs) all in
      in_front x (xs ++ ys) a.0 ∙ ap (λ (n : ℕ). suc n) (span_len xs ys a.1 stop)

  pub span_all : (xs : List ℕ) → list_all p (take (prefix_len p xs) xs) ≡ true
  span_all [] = refl
  span_all (x ∷ xs) = elim (cases_Bool (p x)) [
    | inl h ↦ rw (in_front x xs h, h) (span_all xs)
    | inr h ↦ rw (out_front x xs h) refl
  ]

  pub span_stops : (xs : List ℕ) → stops (drop (prefix_len p xs) xs) ≡ true
  span_stops [] = refl
  span_stops (x ∷ xs) = elim (cases_Bool (p x)) [
    | inl h ↦ rw (in_front x xs h) (span_stops xs)
    | inr h ↦ rw (out_front x xs h, h) refl
  ]

pub take_front : (xs ys : List ℕ) → take (length xs) (xs ++ ys) ≡ xs
take_front [] ys = refl
take_front (x ∷ xs) ys = ap (λ (zs : List ℕ). x ∷ zs) (take_front xs ys)

pub drop_front : (xs ys : List ℕ) → drop (length xs) (xs ++ ys) ≡ ys
drop_front [] ys = refl
drop_front (x ∷ xs) ys = drop_front xs ys

pub both_parts : (n : ℕ) (xs : List ℕ) → xs ≡ take n xs ++ drop n xs
both_parts zero xs = refl
both_parts (suc n) [] = refl
both_parts (suc n) (x ∷ xs) = ap (λ (zs : List ℕ). x ∷ zs) (both_parts n xs)

-- a piece of solid bytes at the front begins with no blank
solid_first : (word behind : List ℕ) → 0 < length word → list_all is_solid word ≡ true → stops is_blank (word ++ behind) ≡ true
solid_first [] behind some solid = absurd (omega arith)
solid_first (w ∷ word) behind some solid = (and_parts (is_solid w) (list_all is_solid word) solid).0

apart_stops : (behind : List ℕ) → is_apart behind ≡ true → stops is_solid behind ≡ true
apart_stops [] h = refl
apart_stops (b ∷ behind) h = h

stops_apart : (behind : List ℕ) → stops is_solid behind ≡ true → is_apart behind ≡ true
stops_apart [] h = refl
stops_apart (b ∷ behind) h = h

-- blanks, a piece, and what follows it
pub piece_is : (front word behind : List ℕ) → list_all is_blank front ≡ true → 0 < length word → list_all is_solid word ≡ true → is_apart behind ≡ true
    → piece_of (front ++ (word ++ behind)) ≡ (word, behind)
unfolding piece_of
piece_is front word behind blank some solid apart =
    let past : past_blanks (front ++ (word ++ behind)) ≡ word ++ behind =
    ap (λ (n : ℕ). drop n (front ++ (word ++ behind))) (span_len is_blank front (word ++ behind) blank (solid_first word behind some solid)) ∙ drop_front front (word ++ behind) in
    let len : prefix_len is_solid (word ++ behind) ≡ length word = span_len is_solid word behind solid (apart_stops behind apart) in
    ap parted past ∙ ap (λ (n : ℕ). (take n (word ++ behind), drop n (word ++ behind))) len
    ∙ ap (λ (w : List ℕ). (w, drop (length word) (word ++ behind))) (take_front word behind) ∙ ap (λ (b : List ℕ). (word, b)) (drop_front word behind)

-- what is read as the first piece
pub record IsPiece (text word behind : List ℕ) : Type 0 where
  pub front : List ℕ
  pub parts : text ≡ front ++ (word ++ behind)
  pub blank : list_all is_blank front ≡ true
  pub solid : list_all is_solid word ≡ true
  pub apart : is_apart behind ≡ true

pub piece_parts : (text : List ℕ) → IsPiece text (piece_of text).0 (piece_of text).1
unfolding piece_of
piece_parts text =
    record {
      front = take (prefix_len is_blank text) text;
      parts = both_parts (prefix_len is_blank text) text ∙ ap (λ (b : List ℕ). take (prefix_len is_blank text) text ++ b) (both_parts (prefix_len is_solid (past_blanks text)) (past_blanks text));
      blank = span_all is_blank text;
      solid = span_all is_solid (past_blanks text);
      apart = stops_apart (drop (prefix_len is_solid (past_blanks text)) (past_blanks text)) (span_stops is_solid (past_blanks text));
    }
