-- A full memory reads 0 everywhere, and takes no write.
use Rattle.std.proofs.Common.{◌≡◌, ℕ, zero, suc, ◌*◌, ◌+◌, ◌<◌, ◌≤◌, ◌==◌, true, cond, Option, None, Some, Err, List, [], ◌∷◌, ◌++◌, length, get_or, replicate, refl, ap, sym, ◌∙◌, arith, inl, inr, eq-eqb}
use Rattle.std.specs.Prelude.{unwrap_or}
use Rattle.std.specs.List.{count_by}
use Rattle.std.specs.Option.{option_or}
use Rattle.std.proofs.lemmas.Bool.{cases_Bool, cases_lt, le-leb}
use Rattle.std.proofs.lemmas.List.{get_or-replicate, get_or_past, length-replicate}
use Rattle.std.proofs.lemmas.List.Folds.{sum_by-replicate}
use Rattle.std.proofs.lemmas.List.Sums.{sum_by-append}
use Rattle.lines_layout.specs.Lines.{line_of, line_words, max_lines, max_words}
use Rattle.outcomes.specs.Lists.{newest}
use Rattle.outcomes.specs.Outcomes.{refuse}
use Rattle.persist_buffer.specs.declared.entry.PendingEntry.{PendingEntry}
use Rattle.persist_buffer.specs.declared.entry.PendingEntry.TheVariants.{Write}
use Rattle.persist_buffer.specs.declared.fault.PendingFault.TheVariants.{LineFull}
use Rattle.persist_buffer.specs.Limits.{line_room}
use Rattle.persist_buffer.specs.Memories.{coherent, is_write_on, value_to, write_room_of}
use Rattle.layer_tests.specs.FullMemories.{full_memory, writes_below}

-- a value of 0, or none
abbrev IsZero : Option ℕ → Type 0
IsZero found = unwrap_or found 0 ≡ 0

zero_or : (a b : Option ℕ) → IsZero a → IsZero b → IsZero (option_or a b)
zero_or None b x y = y
zero_or (Some n) b x y = x

gives_zero : (word first : ℕ) → IsZero (value_to word (Write first 0))
gives_zero word first =
    elim (cases_Bool (first == word)) [
      | inl on ↦ rw on refl
      | inr off ↦ rw off refl
    ]

abbrev AllZero : ℕ → List PendingEntry → Type 0
AllZero word [] = Unit {0}
AllZero word (e ∷ es) = IsZero (value_to word e) × AllZero word es

all_append : (word : ℕ) (xs ys : List PendingEntry) → AllZero word xs → AllZero word ys → AllZero word (xs ++ ys)
all_append word [] ys x y = y
all_append word (e ∷ xs) ys x y = (x.0, all_append word xs ys x.1 y)

all_replicate : (word first n : ℕ) → AllZero word (replicate n (Write first 0))
all_replicate word first zero = tt
all_replicate word first (suc n) = (gives_zero word first, all_replicate word first n)

all_below : (word n : ℕ) → AllZero word (writes_below n)
unfolding writes_below
all_below word zero = tt
all_below word (suc n) = all_append word (writes_below n) (replicate line_room (Write (line_words * n) 0)) (all_below word n) (all_replicate word (line_words * n) line_room)

newest_zero : (word : ℕ) (es : List PendingEntry) → AllZero word es → IsZero (newest (value_to word) es)
newest_zero word [] x = refl
newest_zero word (e ∷ es) x = zero_or (newest (value_to word) es) (value_to word e) (newest_zero word es x.1) x.0

zeros : (n i : ℕ) → ◌≡◌ {A = ℕ} (get_or (replicate n 0) i 0) 0
zeros n i =
    elim (cases_lt i n) [
      | inl lt ↦ get_or-replicate n i 0 0 lt
      | inr past ↦ let long : ◌≡◌ {A = ℕ} (length (replicate {A = ℕ} n 0)) n = length-replicate n 0 in get_or_past (replicate n 0) i 0 (omega (arith, long, past))
    ]

pub reads_zero : (word : ℕ) → 0 ≡ coherent full_memory word
reads_zero word =
    sym (newest_zero word (writes_below max_lines) (all_below word max_lines))
    ∙ ap (unwrap_or (newest (value_to word) (writes_below max_lines))) (sym (zeros max_words word))

own_line : (line : ℕ) → line_of (line_words * line) ≡ line
own_line line = omega arith

full_on : (line n : ℕ) → line < n → line_room ≤ count_by (is_write_on line) (writes_below n)
unfolding writes_below
full_on line zero lt = absurd (omega (arith, lt))
full_on line (suc n) lt =
    let more : count_by (is_write_on line) (writes_below (suc n)) ≡ count_by (is_write_on line) (writes_below n) + count_by (is_write_on line) (replicate line_room (Write (line_words * n) 0)) =
    sum_by-append (λ (e : PendingEntry). cond (is_write_on line e) 1 0) (writes_below n) (replicate line_room (Write (line_words * n) 0)) in
    elim (cases_lt line n) [
      | inl below ↦ let rest = full_on line n below in omega (arith, more, rest)
      | inr last ↦
          let same : line_of (line_words * n) ≡ line = omega (arith, lt, last) in
          let on : (line_of (line_words * n) == line) ≡ true = eq-eqb _ _ same in
          let each : count_by (is_write_on line) (replicate line_room (Write (line_words * n) 0)) ≡ line_room * cond (line_of (line_words * n) == line) 1 0 =
          sum_by-replicate (λ (e : PendingEntry). cond (is_write_on line e) 1 0) line_room (Write (line_words * n) 0) in
          let one : ◌≡◌ {A = ℕ} (cond (line_of (line_words * n) == line) 1 0) 1 = rw on refl in
          omega (arith, more, each, one)
    ]

pub has_no_room : (word : ℕ) → word < max_words → write_room_of full_memory word ≡ Err LineFull
has_no_room word within =
    let full = full_on (line_of word) max_lines (omega (arith, within)) in
    ap (refuse LineFull) (le-leb line_room (count_by (is_write_on (line_of word)) full_memory.pending) full)
