-- The index of the newest writes.
use Rattle.std.proofs.Common.{◌≡◌, ℕ, zero, suc, ◌+◌, ◌-◌, ◌<◌, ◌≤◌, Bool, true, false, ◌⊎◌, Option, Some, None, List, [], ◌∷◌, ◌++◌, length, get_or, take, drop, replicate, refl, sym, ◌∙◌, ap, arith, inl, inr, length-drop}
use Rattle.std.specs.Prelude.{slice_index, slice_get, remove, ◌==◌, if◌then◌else◌}
use Rattle.std.specs.List.{list_any}
use Rattle.std.specs.Option.{option_or}
use Rattle.std.proofs.Math.Seq.{drop-append_seam}
use Rattle.std.proofs.lemmas.Bool.{cases_Bool, or_parts, eqb-true, eq-eqb}
use Rattle.std.proofs.lemmas.Bool.Decides.{nat_tests}
use Rattle.std.proofs.lemmas.List.{length-take-le, take_more, drop-append-le, take_all, drop_all, get_or-replicate}
use Rattle.std.proofs.lemmas.Option.{slice_get-get_or}
use Rattle.lines_layout.specs.Lines.{max_words}
use Rattle.outcomes.specs.Lists.{newest}
use Rattle.outcomes.proofs.ListsByPlace.{position_only_none, split_at, place_of}
use Rattle.store_buffer.specs.declared.entry.Entry.{Entry}
use Rattle.store_buffer.specs.declared.entry.Entry.TheVariants as entries
use Rattle.store_buffer.specs.Buffers.{is_held_by, holder_of, holder_at, is_buffered_write_of, value_to, forward_of}
use Rattle.store_buffer.specs.Indexes.{after_newest, after_newest_write, after_parts, after_noted, AreAfterNewest}

-- ---- where the newest index, in any list

module _ {A : Type 0} (test : A → Bool) where
  abbrev after : List A → ℕ
  after xs = after_newest test xs

  pub after_append : (xs ys : List A) → after (xs ++ ys) ≡ after_parts (length xs) (after xs) (after ys)
  after_append [] ys =
      elim (cases_Bool (after ys == 0)) [
        | inl none ↦ let zero_is : after ys ≡ 0 = eqb-true (after ys) 0 none in rw none zero_is
        | inr some ↦ rw some (omega arith)
      ]
  after_append (x ∷ xs) ys =
      let rest = after_append xs ys in
      elim (cases_Bool (after ys == 0)) [
        | inl none ↦ let whole : after (xs ++ ys) ≡ after xs = rw none at rest in rw (whole, none) refl
        | inr some ↦
            let whole : after (xs ++ ys) ≡ length xs + after ys = rw some at rest in
            let more : (length xs + after ys == 0) ≡ false = grind (arith, nat_tests, some) in
            rw (whole, some, more) (omega arith)
      ]

  pub after_none : (xs : List A) → list_any test xs ≡ false → after xs ≡ 0
  after_none [] e = refl
  after_none (x ∷ xs) e =
      let p = or_parts (test x) (list_any test xs) e in
      rw (after_none xs p.1, p.0) refl

  -- an entry at the after of the newest, noted of a list and an entry before it
  newest_in_front : (P : A → Type 0) (x : A) (xs : List A) (d : A) (p : ℕ)
      → (test x ≡ true → after xs ≡ 0 → P x) → ((q : ℕ) → after xs ≡ suc q → P (get_or xs q d))
      → after (x ∷ xs) ≡ suc p → P (get_or (x ∷ xs) p d)
  newest_in_front P x xs d p here further e =
      elim (cases_Bool (after xs == 0)) [
        | inl none ↦ alone (cases_Bool (test x)) (eqb-true (after xs) 0 none) (rw none at e)
        | inr some ↦ later p (rw some at e) some
      ]
    where
      alone : (test x ≡ true) ⊎ (test x ≡ false) → after xs ≡ 0 → (if test x then 1 else 0) ≡ suc p → P (get_or (x ∷ xs) p d)
      alone (inl passes) none e =
          let single : 1 ≡ suc p = rw passes at e in
          let first : p ≡ 0 = omega arith in
          rw first (here passes none)
      alone (inr fails) none e = let never : 0 ≡ suc p = rw fails at e in absurd (omega arith)

      later : (p : ℕ) → after xs + 1 ≡ suc p → (after xs == 0) ≡ false → P (get_or (x ∷ xs) p d)
      later zero e some =
          let zero_is : after xs ≡ 0 = omega arith in
          let none : (after xs == 0) ≡ true = eq-eqb (after xs) 0 zero_is in
          absurd (cc)
      later (suc q) e some = further q (omega arith)

  pub passes_at_newest : (xs : List A) (p : ℕ) (d : A) → after xs ≡ suc p → test (get_or xs p d) ≡ true
  passes_at_newest [] p d e = absurd (omega arith)
  passes_at_newest (x ∷ xs) p d e = newest_in_front (λ y. test y ≡ true) x xs d p (λ passes none. passes) (λ q last. passes_at_newest xs q d last) e

  pub newest_within : (xs : List A) → after xs ≤ length xs
  newest_within [] = omega arith
  newest_within (x ∷ xs) =
      let rest = newest_within xs in
      elim (cases_Bool (after xs == 0)) [
        | inl none ↦
            elim (cases_Bool (test x)) [
              | inl passes ↦ rw (none, passes) (omega arith)
              | inr fails ↦ rw (none, fails) (omega arith)
            ]
        | inr some ↦ rw some (omega (arith, rest))
      ]

  module _ (gives : A → Option ℕ) (silent : (x : A) → test x ≡ false → gives x ≡ None) (speaks : (x : A) → test x ≡ true → (value : ℕ) × (gives x ≡ Some value)) where
    pub newest_silent : (xs : List A) → after xs ≡ 0 → newest gives xs ≡ None
    newest_silent [] e = refl
    newest_silent (x ∷ xs) e =
        elim (cases_Bool (after xs == 0)) [
          | inl none ↦
              elim (cases_Bool (test x)) [
                | inl passes ↦ let one : suc zero ≡ 0 = rw (none, passes) at e in absurd (omega arith)
                | inr fails ↦ rw (newest_silent xs (eqb-true (after xs) 0 none), silent x fails) refl
              ]
          | inr some ↦ let more : after xs + 1 ≡ 0 = rw some at e in absurd (omega arith)
        ]

    first_speaks : (o : Option ℕ) (value : ℕ) → o ≡ Some value → (other : Option ℕ) → option_or o other ≡ o
    first_speaks o value e other = rw e refl

    pub newest_at : (xs : List A) (p : ℕ) (d : A) → after xs ≡ suc p → newest gives xs ≡ gives (get_or xs p d)
    newest_at [] p d e = absurd (omega arith)
    newest_at (x ∷ xs) p d e =
        newest_in_front (λ y. newest gives (x ∷ xs) ≡ gives y) x xs d p
        (λ passes none. ap (λ (o : Option ℕ). option_or o (gives x)) (newest_silent xs none))
        (λ q last.
        let there = newest_at xs q d last in
        let value = speaks (get_or xs q d) (passes_at_newest xs q d last) in
        ap (λ (o : Option ℕ). option_or o (gives x)) there ∙ first_speaks (gives (get_or xs q d)) value.0 value.1 (gives x))
        e

-- ---- the writes of a word

write_silent : (word : ℕ) (entry : Entry) → is_buffered_write_of word entry ≡ false → value_to word entry ≡ None
write_silent word (entries.Write written value) e = rw e refl
write_silent word (entries.Flush line) e = refl
write_silent word (entries.FlushOpt line) e = refl
write_silent word entries.Sfence e = refl

write_speaks : (word : ℕ) (entry : Entry) → is_buffered_write_of word entry ≡ true → (value : ℕ) × (value_to word entry ≡ Some value)
write_speaks word (entries.Write written value) e = (value, rw e refl)
write_speaks word (entries.Flush line) e = absurd (cc)
write_speaks word (entries.FlushOpt line) e = absurd (cc)
write_speaks word entries.Sfence e = absurd (cc)

pub none_forwarded : (buffer : List Entry) (word : ℕ) → after_newest_write word buffer ≡ 0 → forward_of buffer word ≡ None
none_forwarded buffer word e = newest_silent (is_buffered_write_of word) (value_to word) (write_silent word) (write_speaks word) buffer e

pub forwarded_at : (buffer : List Entry) (word p : ℕ) (d : Entry) → after_newest_write word buffer ≡ suc p → forward_of buffer word ≡ value_to word (get_or buffer p d)
forwarded_at buffer word p d e = newest_at (is_buffered_write_of word) (value_to word) (write_silent word) (write_speaks word) buffer p d e

pub after_within : (buffer : List Entry) (word : ℕ) → after_newest_write word buffer ≤ length buffer
after_within buffer word = newest_within (is_buffered_write_of word) buffer

-- ---- an entry more

after_push : (xs : List Entry) (entry : Entry) (word : ℕ) (b : Bool) → is_buffered_write_of word entry ≡ b
    → after_newest_write word (xs ++ entry ∷ []) ≡ (if b then length xs + 1 else after_newest_write word xs)
after_push xs entry word true e = after_append (is_buffered_write_of word) xs (entry ∷ []) ∙ rw e refl
after_push xs entry word false e = after_append (is_buffered_write_of word) xs (entry ∷ []) ∙ rw e refl

pub index_pushed : (index noted : List ℕ) (buffer : List Entry) (entry : Entry) → AreAfterNewest index buffer
    → ((word : ℕ) → word < max_words → slice_index noted word ≡ after_noted entry (length buffer + 1) word (slice_index index word)) → AreAfterNewest noted (buffer ++ entry ∷ [])
index_pushed index noted buffer entry are from word within =
    from word within
    ∙ ap (after_noted entry (length buffer + 1) word) (are word within)
    ∙ sym (after_push buffer entry word (is_buffered_write_of word entry) refl)

-- ---- the entries from a place on, noted one after another

abbrev pub part : ℕ → ℕ → List Entry → List Entry
part i p buffer = drop i (take p buffer)

abbrev pub AreNoted : List ℕ → List ℕ → ℕ → List Entry → Type 0
AreNoted index before i later = (word : ℕ) → word < max_words → slice_index index word ≡ after_parts i (slice_index before word) (after_newest_write word later)

module _ (buffer : List Entry) (i p : ℕ) (d : Entry) (from : i ≤ p) (inside : p < length buffer) where
  part_more : part i (p + 1) buffer ≡ part i p buffer ++ get_or buffer p d ∷ []
  part_more =
      let long : length (take p buffer) ≡ p = length-take-le p buffer (omega arith) in
      ap (drop i) (take_more buffer p d inside) ∙ drop-append-le i (take p buffer) (get_or buffer p d ∷ []) (omega (arith, long))

  part_long : i + length (part i p buffer) ≡ p
  part_long =
      let long : length (take p buffer) ≡ p = length-take-le p buffer (omega arith) in
      let less = length-drop i (take p buffer) in
      omega (arith, long, less)

  noted_after : (word : ℕ) (b : Bool) → is_buffered_write_of word (get_or buffer p d) ≡ b
      → after_newest_write word (part i (p + 1) buffer) ≡ (if b then length (part i p buffer) + 1 else after_newest_write word (part i p buffer))
  noted_after word b e = ap (after_newest_write word) part_more ∙ after_push (part i p buffer) (get_or buffer p d) word b e

  pub noted_more : (index after before : List ℕ) → AreNoted index before i (part i p buffer)
      → ((word : ℕ) → word < max_words → slice_index after word ≡ after_noted (get_or buffer p d) (p + 1) word (slice_index index word))
      → AreNoted after before i (part i (p + 1) buffer)
  noted_more index after before noted one word within =
      one word within ∙ ap (after_noted (get_or buffer p d) (p + 1) word) (noted word within)
      ∙ elim (cases_Bool (is_buffered_write_of word (get_or buffer p d))) [
        | inl passes ↦
            let some : (length (part i p buffer) + 1 == 0) ≡ false = grind (arith, nat_tests) in
            let long = part_long in
            rw (noted_after word true passes, passes, some) (omega (arith, long))
        | inr fails ↦ rw (noted_after word false fails, fails) refl
      ]

pub noted_none : (index : List ℕ) (i : ℕ) (buffer : List Entry) → i ≤ length buffer → AreNoted index index i (part i i buffer)
noted_none index i buffer within word small =
    let long : length (take i buffer) ≡ i = length-take-le i buffer within in
    let none : part i i buffer ≡ [] = drop_all i (take i buffer) (omega (arith, long)) in
    rw none refl

pub noted_all : (index before : List ℕ) (i : ℕ) (buffer : List Entry) → AreNoted index before i (part i (length buffer) buffer) → AreNoted index before i (drop i buffer)
noted_all index before i buffer noted = rw (take_all (length buffer) buffer (omega arith)) at noted

-- ---- an entry less

-- a write is held by each older one
write_held : (word written value : ℕ) (entry : Entry) → is_held_by (entries.Write written value) entry ≡ false → is_buffered_write_of word entry ≡ false
write_held word written value (entries.Write other stored) e = absurd (cc)
write_held word written value (entries.Flush line) e = refl
write_held word written value (entries.FlushOpt line) e = refl
write_held word written value entries.Sfence e = refl

no_older : (word written value : ℕ) (older : List Entry) → list_any (is_held_by (entries.Write written value)) older ≡ false → list_any (is_buffered_write_of word) older ≡ false
no_older word written value [] e = refl
no_older word written value (x ∷ older) e =
    let p = or_parts (is_held_by (entries.Write written value) x) (list_any (is_held_by (entries.Write written value)) older) e in
    rw (write_held word written value x p.0) (no_older word written value older p.1)

module _ (buffer : List Entry) (i : ℕ) (entry : Entry) (there : slice_get buffer i ≡ Some entry) (free : list_any (is_held_by entry) (take i buffer) ≡ false) where
  abbrev older : List Entry
  older = take i buffer

  abbrev newer : List Entry
  newer = drop (suc i) buffer

  old_after : (word : ℕ) → after_newest_write word buffer ≡ after_parts i (after_newest_write word older) (after_newest_write word (entry ∷ newer))
  old_after word =
      ap (after_newest_write word) (split_at buffer i entry there)
      ∙ after_append (is_buffered_write_of word) older (entry ∷ newer)
      ∙ ap (λ (n : ℕ). after_parts n (after_newest_write word older) (after_newest_write word (entry ∷ newer))) (place_of buffer i entry there)

  new_after : (word : ℕ) → after_newest_write word (remove buffer i) ≡ after_parts i (after_newest_write word older) (after_newest_write word newer)
  new_after word =
      after_append (is_buffered_write_of word) older newer
      ∙ ap (λ (n : ℕ). after_parts n (after_newest_write word older) (after_newest_write word newer)) (place_of buffer i entry there)

  -- no older write of the word is left where a write goes
  none_older : (word : ℕ) (leaving : Entry) → list_any (is_held_by leaving) older ≡ false → is_buffered_write_of word leaving ≡ true → after_newest_write word older ≡ 0
  none_older word (entries.Write written value) alone e = after_none (is_buffered_write_of word) older (no_older word written value older alone)
  none_older word (entries.Flush line) alone e = absurd (cc)
  none_older word (entries.FlushOpt line) alone e = absurd (cc)
  none_older word entries.Sfence alone e = absurd (cc)

  stays : (word : ℕ) → after_newest_write word newer ≡ 0 → after_noted entry 0 word (after_newest_write word buffer) ≡ after_newest_write word older
  stays word none =
      elim (cases_Bool (is_buffered_write_of word entry)) [
        | inl passes ↦ rw (passes, none_older word entry free passes) refl
        | inr fails ↦
            let alone : after_newest_write word (entry ∷ newer) ≡ 0 = rw (none, fails) refl in
            rw (fails, old_after word, alone) refl
      ]

  pub index_removed : (index after noted : List ℕ) → AreAfterNewest index buffer → ((word : ℕ) → word < max_words → slice_index after word ≡ after_noted entry 0 word (slice_index index word))
      → AreNoted noted after i (drop i (remove buffer i)) → AreAfterNewest noted (remove buffer i)
  index_removed index after noted are cleared from word within =
      let rest : drop i (remove buffer i) ≡ newer =
      ap (λ (n : ℕ). drop n (older ++ newer)) (sym (place_of buffer i entry there)) ∙ drop-append_seam older newer in
      let first : slice_index noted word ≡ after_parts i (slice_index after word) (after_newest_write word newer) = rw rest at (from word within) in
      let kept : slice_index after word ≡ after_noted entry 0 word (after_newest_write word buffer) = cleared word within ∙ ap (after_noted entry 0 word) (are word within) in
      first ∙ ap (λ (n : ℕ). after_parts i n (after_newest_write word newer)) kept ∙ shown word ∙ sym (new_after word)
    where
      shown : (word : ℕ) → after_parts i (after_noted entry 0 word (after_newest_write word buffer)) (after_newest_write word newer) ≡ after_parts i (after_newest_write word older) (after_newest_write word newer)
      shown word =
          elim (cases_Bool (after_newest_write word newer == 0)) [
            | inl none ↦ rw none (stays word (eqb-true (after_newest_write word newer) 0 none))
            | inr some ↦ rw some refl
          ]

-- ---- no entries

pub no_newest : AreAfterNewest (replicate max_words 0) []
no_newest word within = get_or-replicate max_words word 0 0 within

-- ---- what the code reads

pub after_now : (index : List ℕ) (buffer : List Entry) (word number after : ℕ) → AreAfterNewest index buffer → number ≡ word → number < max_words → after ≡ get_or index number 0
    → after_newest_write word buffer ≡ after
after_now index buffer word number after are same within is =
    sym (is ∙ ap (λ (n : ℕ). get_or index n 0) same ∙ are word (rw same at within))

pub forwarded_now : (buffer : List Entry) (word after : ℕ) (entry : Entry) → after_newest_write word buffer ≡ after → 0 < after → entry ≡ get_or buffer (after - 1) entry
    → value_to word entry ≡ forward_of buffer word
forwarded_now buffer word after entry is some there =
    let last : after_newest_write word buffer ≡ suc (after - 1) = omega (arith, is, some) in
    ap (value_to word) there ∙ sym (forwarded_at buffer word (after - 1) entry last)

pub index_after_remove : (buffer : List Entry) (i : ℕ) (entry : Entry) (index after noted : List ℕ) → i < length buffer → entry ≡ get_or buffer i entry → holder_at buffer i ≡ None
    → AreAfterNewest index buffer → ((word : ℕ) → word < max_words → slice_index after word ≡ after_noted entry 0 word (slice_index index word))
    → AreNoted noted after i (drop i (remove buffer i)) → AreAfterNewest noted (remove buffer i)
index_after_remove buffer i entry index after noted within is alone are cleared from =
    let there : slice_get buffer i ≡ Some entry = slice_get-get_or buffer i entry within ∙ ap (λ (e : Entry). Some e) (sym is) in
    let none : holder_of buffer i entry ≡ None = rw there at alone in
    index_removed buffer i entry there (position_only_none (is_held_by entry) (take i buffer) none) index after noted are cleared from
