-- Two states of one machine with the same key are the same but for the counts, and for what keys leave out of memories.
use Rattle.std.proofs.Common.{◌≡◌, ℕ, zero, suc, ◌+◌, ◌*◌, ◌%◌, ◌<◌, ◌≤◌, inl, inr, Bool, true, false, Option, Some, None, List, [], ◌∷◌, ◌++◌, length, map, refl, sym, ap, subst, ◌∙◌, arith, true≢false, append_assoc, append-nil}
use Rattle.std.specs.Prelude.{◌==◌, All, Contains, nat_eq, not, nat_lt, slice_index, unwrap_or, if◌then◌else◌}
use Rattle.std.specs.List.{list_all, range_with_len}
use Rattle.std.specs.Option.{option_or}
use Rattle.std.specs.Cmp.Lexicographic.{pointwise}
use Rattle.std.proofs.lemmas.Bool.{and_parts, cases_Bool, cases_lt, eqb-true}
use Rattle.std.proofs.lemmas.Bool.Decides.{nat_tests}
use Rattle.std.proofs.lemmas.List.{get_or_past, length-map}
use Rattle.std.proofs.lemmas.List.Elements.{All-get_or, All-head, All-tail}
use Rattle.lines_layout.specs.Lines.{has_word, line_of}
use Rattle.lines_layout.specs.Shapes.{words_of}
use Rattle.outcomes.specs.Lists.{newest}
use Rattle.persist_buffer.specs.declared.entry.PendingEntry.{PendingEntry}
use Rattle.persist_buffer.specs.declared.entry.PendingEntry.TheVariants.{Write, Marker}
use Rattle.persist_buffer.specs.Memories.{coherent, value_to}
use Rattle.persist_buffer.specs.State.{Memory}
use Rattle.pending_images.specs.Cuts.{written}
use Rattle.pending_images.specs.Listings.{in_order}
use Rattle.pending_images.proofs.OrderedImages as ordered
use Rattle.machine.specs.Programs.{is_pending_in}
use Rattle.machine.specs.State.{State}
use Rattle.images.specs.Images.{image_at}
use Rattle.explore.specs.LineSets.{Held, MayHold, Within, held_by, others}
use Rattle.explore.specs.Codes.{coded}
use Rattle.explore.specs.Covering.{AreLike, IsLike}
use Rattle.explore.specs.Explored.{fallen}
use Rattle.explore.specs.Keys.{fallen_key, fallen_memory_key, joined, key_of, lines_key, memory_key, none_key, numbers_of, restarted_key, sets_key, words_now}
use Rattle.explore.specs.Sound.{IsOf}
use Rattle.explore.proofs.CodesTell.{coded_tells, first_same, rest_same}
use Rattle.explore.proofs.CoveredSteps.{sound_whole}
use Rattle.explore.proofs.WrittenValues.{written_long, written_shows}
use Rattle.explore.proofs.HeldByLines.{earlier, map_as, map_at, on_line}
use Rattle.explore.proofs.HeldInLists.{Moment, filter_only, has_moment, moment_has, told_has, values_end}
use Rattle.explore.proofs.KeysTell.{canonical_tells, processors_tell, values_tell}
use Rattle.explore.proofs.LaterMemories.{IsWhole}
use Rattle.explore.proofs.Members.{first_there, later_there}

-- ---- lists of numbers of one length

append_tells : (xs ys us ws : List ℕ) → length xs ≡ length ys → xs ++ us ≡ ys ++ ws → (xs ≡ ys) × (us ≡ ws)
append_tells [] [] us ws long e = (refl, e)
append_tells [] (y ∷ ys) us ws long e = absurd (omega (arith, long))
append_tells (x ∷ xs) [] us ws long e = absurd (omega (arith, long))
append_tells (x ∷ xs) (y ∷ ys) us ws long e =
    let first = first_same x y (xs ++ us) (ys ++ ws) e in
    let rest = append_tells xs ys us ws (omega (arith, long)) (rest_same x y (xs ++ us) (ys ++ ws) e) in
    (λ k. first k ∷ rest.0 k, rest.1)

-- each list has this length
abbrev AreLong : ℕ → List (List ℕ) → Type 0
AreLong n xs = (x : List ℕ) → Contains xs x → length x ≡ n

joined_tells : (n : ℕ) (xs ys : List (List ℕ)) (us ws : List ℕ) → length xs ≡ length ys → AreLong n xs → AreLong n ys → joined xs ++ us ≡ joined ys ++ ws → (xs ≡ ys) × (us ≡ ws)
joined_tells n [] [] us ws long all_xs all_ys e = (refl, e)
joined_tells n [] (y ∷ ys) us ws long all_xs all_ys e = absurd (omega (arith, long))
joined_tells n (x ∷ xs) [] us ws long all_xs all_ys e = absurd (omega (arith, long))
joined_tells n (x ∷ xs) (y ∷ ys) us ws long all_xs all_ys e =
    let first = append_tells x y (joined xs ++ us) (joined ys ++ ws) (all_xs x (first_there x xs) ∙ sym (all_ys y (first_there y ys))) (sym (append_assoc x (joined xs) us) ∙ e ∙ append_assoc y (joined ys) ws) in
    let rest = joined_tells n xs ys us ws (omega (arith, long)) (λ z there. all_xs z (later_there x z xs there)) (λ z there. all_ys z (later_there y z ys there)) first.1 in
    (λ k. first.0 k ∷ rest.0 k, rest.1)

length_range : (f : ℕ → ℕ) (start n : ℕ) → length (map f (range_with_len start n)) ≡ n
length_range f start zero = refl
length_range f start (suc n) = ap suc (length_range f (start + 1) n)

-- the other values of a line have as many words as it
others_long : (m : Memory) (line count : ℕ) → count < 9 → AreLong count (others (held_by m line count))
others_long m line count few x there =
    let h : Held = held_by m line count in
    let passed : Contains h.passed x = (ordered.in_order_has h.passed x).0 (filter_only (λ (xs : List ℕ). not (pointwise nat_eq xs h.values)) (in_order h.passed) x there) in
    let m' = has_moment line count few m x (inr passed) in
    ap length m'.shown ∙ length_range _ (8 * line) count

-- ---- words that the shape lacks

no_write : (shape : List ℕ) (es : List PendingEntry) (word : ℕ) → has_word shape word ≡ false → list_all (is_pending_in shape) es ≡ true → newest (value_to word) es ≡ None
no_write shape [] word lacks all = refl
no_write shape (Write target value ∷ es) word lacks all =
    let both = and_parts (has_word shape target) (list_all (is_pending_in shape) es) all in
    let apart : (target == word) ≡ false = elim (cases_Bool (target == word)) [
      | inl same ↦ absurd (true≢false (sym both.0 ∙ ap (has_word shape) (eqb-true target word same) ∙ lacks))
      | inr not ↦ not
    ] in
    (λ k. option_or (no_write shape es word lacks both.1 k) (if apart k then Some value else None))
no_write shape (Marker line ∷ es) word lacks all = (λ k. option_or (no_write shape es word lacks all k) None)

all_first : (p : PendingEntry → Bool) (xs ys : List PendingEntry) → list_all p (xs ++ ys) ≡ true → list_all p xs ≡ true
all_first p [] ys all = refl
all_first p (x ∷ xs) ys all = let both = and_parts (p x) (list_all p (xs ++ ys)) all in rw (both.0) (all_first p xs ys both.1)

-- a word that the shape lacks has the value of the start, at each moment
lacked : (start s : State) (before since : List PendingEntry) (word : ℕ) → IsOf start s → s.memory.pending ≡ before ++ since → has_word start.shape word ≡ false
    → coherent (earlier s.memory before) word ≡ slice_index start.memory.persisted word
lacked start s before since word is whole lacks =
    let here : has_word s.shape word ≡ false = ap (λ (shape : List ℕ). has_word shape word) is.sibling.shape ∙ lacks in
    let all : list_all (is_pending_in s.shape) before ≡ true = all_first (is_pending_in s.shape) before since (ap (list_all (is_pending_in s.shape)) (sym whole) ∙ is.sound.within.pending) in
    ap (λ (o : Option ℕ). unwrap_or o (slice_index s.memory.persisted word)) (no_write s.shape before word here all) ∙ is.outside word lacks

-- ---- coherent values

-- the coherent values of all words, as a list
abbrev whole_values : Memory → List ℕ
whole_values m = written m.pending m.persisted

shown_whole : (m : Memory) → IsWhole m → (word : ℕ) → slice_index (whole_values m) word ≡ coherent m word
shown_whole m is word = written_shows m.pending m.persisted word is.lines is.persisted

words_whole : (m : Memory) (shape : List ℕ) → IsWhole m → words_now m shape ≡ image_at shape (whole_values m)
words_whole m shape is = map_each (words_of shape)
  where
    map_each : (words : List ℕ) → map (coherent m) words ≡ map (slice_index (whole_values m)) words
    map_each [] = refl
    map_each (word ∷ words) = λ k. sym (shown_whole m is word) k ∷ map_each words k

module _ (start a b : State) (is_a : IsOf start a) (is_b : IsOf start b) where
  whole_a : IsWhole a.memory
  whole_a = sound_whole a is_a.sound

  whole_b : IsWhole b.memory
  whole_b = sound_whole b is_b.sound

  now_as_start : (s : State) → IsOf start s → IsWhole s.memory → (word : ℕ) → has_word start.shape word ≡ false → slice_index (whole_values s.memory) word ≡ slice_index start.memory.persisted word
  now_as_start s is whole word lacks = shown_whole s.memory whole word ∙ lacked start s s.memory.pending [] word is (sym (append-nil s.memory.pending)) lacks

  pub coherent_told : words_now a.memory start.shape ≡ words_now b.memory start.shape → (word : ℕ) → coherent a.memory word ≡ coherent b.memory word
  coherent_told same word =
      let long : length (whole_values a.memory) ≡ length (whole_values b.memory) =
      written_long a.memory.pending a.memory.persisted ∙ whole_a.persisted ∙ sym (written_long b.memory.pending b.memory.persisted ∙ whole_b.persisted) in
      let values : whole_values a.memory ≡ whole_values b.memory = values_tell start.shape (whole_values a.memory) (whole_values b.memory) long
      (λ w lacks. now_as_start a is_a whole_a w lacks ∙ sym (now_as_start b is_b whole_b w lacks))
      (sym (words_whole a.memory start.shape whole_a) ∙ same ∙ words_whole b.memory start.shape whole_b) in
      sym (shown_whole a.memory whole_a word) ∙ ap (λ (xs : List ℕ). slice_index xs word) values ∙ shown_whole b.memory whole_b word

-- ---- lines

-- the others of each line are the same
others_told : (m n : Memory) (g : ℕ) (shape : List ℕ) → All (λ c. c ≤ 8) shape → lines_key m g shape ≡ lines_key n g shape → (i : ℕ) → i < length shape
    → others (held_by m (g + i) (slice_index shape i)) ≡ others (held_by n (g + i) (slice_index shape i))
others_told m n g [] few same i less = absurd (omega (arith, less))
others_told m n g (count ∷ shape) few same i less =
    let here : count < 9 = (let most = All-head (λ c. c ≤ 8) count shape few in omega (arith, most)) in
    let xs = others (held_by m g count) in
    let ys = others (held_by n g count) in
    let long : length xs ≡ length ys = first_same (length xs) (length ys) (joined xs ++ lines_key m (g + 1) shape) (joined ys ++ lines_key n (g + 1) shape) same in
    let both = joined_tells count xs ys (lines_key m (g + 1) shape) (lines_key n (g + 1) shape) long (others_long m g count here) (others_long n g count here)
    (rest_same (length xs) (length ys) (joined xs ++ lines_key m (g + 1) shape) (joined ys ++ lines_key n (g + 1) shape) same) in
    by i less both.0 (others_told m n (g + 1) shape (All-tail (λ c. c ≤ 8) count shape few) both.1)
  where
    by : (i : ℕ) → i < length (count ∷ shape) → others (held_by m g count) ≡ others (held_by n g count)
        → ((j : ℕ) → j < length shape → others (held_by m ((g + 1) + j) (slice_index shape j)) ≡ others (held_by n ((g + 1) + j) (slice_index shape j)))
        → others (held_by m (g + i) (slice_index (count ∷ shape) i)) ≡ others (held_by n (g + i) (slice_index (count ∷ shape) i))
    by zero less first rest = let none : g ≡ g + zero = omega arith in subst (λ (l : ℕ). others (held_by m l count) ≡ others (held_by n l count)) none first
    by (suc j) less first rest =
        let next : (g + 1) + j ≡ g + suc j = omega arith in
        subst (λ (l : ℕ). others (held_by m l (slice_index shape j)) ≡ others (held_by n l (slice_index shape j))) next (rest j (omega (arith, less)))

module _ (start a b : State) (is_a : IsOf start a) (is_b : IsOf start b) (few : All (λ c. c ≤ 8) start.shape)
    (same : (word : ℕ) → coherent a.memory word ≡ coherent b.memory word) (lines : lines_key a.memory 0 start.shape ≡ lines_key b.memory 0 start.shape) where
  -- a word of a line that the shape lacks
  beyond : (line word : ℕ) → length start.shape ≤ line → line_of word ≡ line → has_word start.shape word ≡ false
  beyond line word past on = ap (λ (n : ℕ). nat_lt (word % 8) n) (ap (slice_index start.shape) on ∙ get_or_past start.shape line 0 past) ∙ none (word % 8)
    where
      none : (n : ℕ) → nat_lt n 0 ≡ false
      none n = elim (cases_Bool (nat_lt n 0)) [ inl less ↦ (let wrong : n < 0 = grind (arith, nat_tests, less) in absurd (omega (arith, wrong))) | inr not ↦ not ]

  -- of a line that the shape lacks all values are those of the start
  held_beyond : (line : ℕ) (values : List ℕ) → length start.shape ≤ line → MayHold b.memory line values → MayHold a.memory line values
  held_beyond line values past h = record {
    before = a.memory.pending;
    since = [];
    whole = sym (append-nil a.memory.pending);
    unmarked = refl;
    shown = h.shown ∙ on_line (coherent (earlier b.memory h.before)) (coherent a.memory) line (λ word on.
        lacked start b h.before h.since word is_b h.whole (beyond line word past on)
        ∙ sym (lacked start a a.memory.pending [] word is_a (sym (append-nil a.memory.pending)) (beyond line word past on)));
  }

  held_there : (line : ℕ) (values : List ℕ) → line < length start.shape → MayHold b.memory line values → MayHold a.memory line values
  held_there line values inside h =
      let count : ℕ = slice_index start.shape line in
      let most : count < 9 = (let at = All-get_or (λ c. c ≤ 8) start.shape line 0 inside few in omega (arith, at)) in
      let m : Moment line count most (slice_index b.memory.persisted) b.memory.pending (map (coherent (earlier b.memory h.before)) (range_with_len (8 * line) count)) =
      record { before = h.before; since = h.since; whole = h.whole; unmarked = h.unmarked; shown = refl } in
      let now_same : (held_by b.memory line count).values ≡ (held_by a.memory line count).values =
      values_end line count most (slice_index b.memory.persisted) _ b.memory.pending refl ∙ map_as (coherent b.memory) (coherent a.memory) (8 * line) count (λ word from to. sym (same word))
      ∙ sym (values_end line count most (slice_index a.memory.persisted) _ a.memory.pending refl) in
      let zero_plus : 0 + line ≡ line = omega arith in
      let others_same : others (held_by b.memory line count) ≡ others (held_by a.memory line count) =
      subst (λ (l : ℕ). others (held_by b.memory l count) ≡ others (held_by a.memory l count)) zero_plus (sym (others_told a.memory b.memory 0 start.shape few lines line inside)) in
      let x = has_moment line count most a.memory _ (told_has (held_by b.memory line count) (held_by a.memory line count) _ now_same others_same (moment_has line count most b.memory _ m)) in
      record {
        before = x.before;
        since = x.since;
        whole = x.whole;
        unmarked = x.unmarked;
        shown = h.shown ∙ on_line (coherent (earlier b.memory h.before)) (coherent (earlier a.memory x.before)) line (λ word on.
            elim (cases_Bool (has_word start.shape word)) [
              | inl there ↦
                  let count_there : word % 8 < slice_index start.shape (line_of word) = grind (arith, nat_tests, there) in
                  let within : word % 8 < count = subst (λ (l : ℕ). word % 8 < slice_index start.shape l) on count_there in
                  map_at (coherent (earlier b.memory h.before)) (coherent (earlier a.memory x.before)) (8 * line) count x.shown word (omega (arith, on)) (omega (arith, on, within))
              | inr lacks ↦ lacked start b h.before h.since word is_b h.whole lacks ∙ sym (lacked start a x.before x.since word is_a x.whole lacks)
            ]);
      }

  pub within_told : Within a.memory b.memory
  within_told = record {
    same = λ word. sym (same word);
    held = λ line values h. elim (cases_lt line (length start.shape)) [ inl inside ↦ held_there line values inside h | inr past ↦ held_beyond line values past h ];
  }

sets_tell : (start a b : State) → IsOf start a → IsOf start b → memory_key true a ≡ memory_key true b → AreLike true a.memory b.memory
sets_tell start a b is_a is_b e =
    let from_start : (s : State) → IsOf start s → sets_key s ≡ words_now s.memory start.shape ++ lines_key s.memory 0 start.shape =
    λ s is. ap (λ (shape : List ℕ). words_now s.memory shape ++ lines_key s.memory 0 shape) is.sibling.shape in
    let both = append_tells (words_now a.memory start.shape) (words_now b.memory start.shape) (lines_key a.memory 0 start.shape) (lines_key b.memory 0 start.shape)
    (length-map (words_of start.shape) (coherent a.memory) ∙ sym (length-map (words_of start.shape) (coherent b.memory))) (sym (from_start a is_a) ∙ e ∙ from_start b is_b) in
    let same = coherent_told start a b is_a is_b both.0 in
    let few : All (λ c. c ≤ 8) start.shape = subst (All (λ c. c ≤ 8)) is_a.sibling.shape is_a.sound.shape.words in (
      within_told start a b is_a is_b few same both.1,
      within_told start b a is_b is_a few (λ word. sym (same word)) (sym both.1),
    )

memories_tell : (sets : Bool) (start a b : State) → IsOf start a → IsOf start b → memory_key sets a ≡ memory_key sets b → AreLike sets a.memory b.memory
memories_tell true start a b is_a is_b e = sets_tell start a b is_a is_b e
memories_tell false start a b is_a is_b e = canonical_tells start a b is_a is_b e

pub keys_tell : (sets : Bool) (start a b : State) → IsOf start a → IsOf start b → key_of sets a ≡ key_of sets b → IsLike sets a b
keys_tell sets start a b is_a is_b e =
    let cpus = processors_tell a.processors b.processors (memory_key sets a) (memory_key sets b) (is_a.sibling.programs ∙ sym is_b.sibling.programs) is_a.sound.registers is_b.sound.registers
    (coded_tells (numbers_of sets a) (numbers_of sets b) e) in
    record { shape = is_b.sibling.shape ∙ sym is_a.sibling.shape; processors = sym cpus.0; memory = memories_tell sets start a b is_a is_b cpus.1 }

-- the state that a crash leaves has this key
no_others : (persisted : List ℕ) (g : ℕ) (shape : List ℕ) → lines_key (record { pending = []; persisted = persisted }) g shape ≡ none_key shape
no_others persisted g [] = refl
no_others persisted g (count ∷ shape) = ap (λ (ns : List ℕ). 0 ∷ ns) (no_others persisted (g + 1) shape)

fallen_memories : (sets : Bool) (s : State) (persisted : List ℕ) → memory_key sets (fallen s persisted) ≡ fallen_memory_key sets s.shape (image_at s.shape persisted)
fallen_memories true s persisted = ap (λ (ns : List ℕ). image_at s.shape persisted ++ ns) (no_others persisted 0 s.shape)
fallen_memories false s persisted = refl

pub fallen_keys : (sets : Bool) (s : State) (persisted : List ℕ) → key_of sets (fallen s persisted) ≡ fallen_key sets s (image_at s.shape persisted)
fallen_keys sets s persisted = ap (λ (ns : List ℕ). coded (restarted_key s ++ ns)) (fallen_memories sets s persisted)
