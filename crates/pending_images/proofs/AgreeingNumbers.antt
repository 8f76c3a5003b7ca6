-- What the code has found of the values of a word after some of its rounds.
use Rattle.std.proofs.Common.{◌≡◌, ℕ, zero, suc, ◌+◌, ◌-◌, ◌<◌, ◌≤◌, ◌%◌, Bool, Some, List, [], ◌∷◌, ◌++◌, drop, length, length-drop, slice_set, ap, sym, ◌∙◌, arith, add-one, append_assoc}
use Rattle.std.specs.Prelude.{count_by, slice_get}
use Rattle.std.proofs.lemmas.List.{append-nil, nil_from_length}
use Rattle.lines_layout.specs.Lines.{line_words}
use Rattle.persist_buffer.specs.declared.entry.PendingEntry.{PendingEntry}
use Rattle.persist_buffer.specs.declared.entry.PendingEntry.TheVariants.{Write}
use Rattle.std.proofs.lemmas.List.Sums.{length-filter}
use Rattle.persist_buffer.specs.Memories.{is_write_on}
use Rattle.pending_images.specs.Candidates.{before}
use Rattle.pending_images.proofs.CountsBeforeMarkers.{before_within}
use Rattle.pending_images.specs.Agreements.{agree, agree_later, allowed_at, allowed_below, column_later, picked, picked_at, value_next}

-- one write more
agree_next : (i line : ℕ) (given : List (ℕ × ℕ)) (values : List ℕ) (ws : List PendingEntry) (word value : ℕ) → slice_get ws i ≡ Some (Write word value)
    → agree_later line given values (drop i ws) ≡ agree line given (slice_set values (word % line_words) value) ∷ agree_later line given (slice_set values (word % line_words) value) (drop (i + 1) ws)
agree_next i line given values [] word value is = absurd (cc)
agree_next zero line given values (e ∷ ws) word value is =
    let same : e ≡ Write word value = cc in
    ap (λ (x : PendingEntry). agree_later line given values (x ∷ ws)) same
agree_next (suc i) line given values (e ∷ ws) word value is =
    let g : suc i + 1 ≡ suc (i + 1) = omega arith in
    agree_next i line given values ws word value is
    ∙ ap (λ (n : ℕ). agree line given (slice_set values (word % line_words) value) ∷ agree_later line given (slice_set values (word % line_words) value) (drop n (e ∷ ws))) (sym g)

-- and its flag
pub agree_pushed : (i line : ℕ) (given : List (ℕ × ℕ)) (values more : List ℕ) (ws : List PendingEntry) (word value : ℕ) (old new all : List Bool) → slice_get ws i ≡ Some (Write word value)
    → more ≡ slice_set values (word % line_words) value → old ++ agree_later line given values (drop i ws) ≡ all → new ≡ old ++ agree line given more ∷ [] → new ++ agree_later line given more (drop (i + 1) ws) ≡ all
agree_pushed i line given values more ws word value old new all has set before pushed =
    ap (λ (fs : List Bool). fs ++ agree_later line given more (drop (i + 1) ws)) pushed
    ∙ append_assoc old (agree line given more ∷ []) (agree_later line given more (drop (i + 1) ws))
    ∙ ap (λ (vs : List ℕ). old ++ agree line given vs ∷ agree_later line given vs (drop (i + 1) ws)) set
    ∙ ap (λ (fs : List Bool). old ++ fs) (sym (agree_next i line given values ws word value has))
    ∙ before

-- no write is left
pub agree_whole : (i line : ℕ) (given : List (ℕ × ℕ)) (values : List ℕ) (ws : List PendingEntry) (old all : List Bool) → length ws ≤ i → old ++ agree_later line given values (drop i ws) ≡ all → old ≡ all
agree_whole i line given values ws old all past is =
    let left = length-drop i ws in
    let none : drop i ws ≡ [] = nil_from_length (drop i ws) (omega (arith, left, past)) in
    sym (append-nil old) ∙ ap (λ (xs : List PendingEntry). old ++ agree_later line given values xs) (sym none) ∙ is

-- the same of a word's values
column_next : (i word value : ℕ) (ws : List PendingEntry) (target written : ℕ) → slice_get ws i ≡ Some (Write target written)
    → column_later word value (drop i ws) ≡ value_next word value target written ∷ column_later word (value_next word value target written) (drop (i + 1) ws)
column_next i word value [] target written is = absurd (cc)
column_next zero word value (e ∷ ws) target written is =
    let same : e ≡ Write target written = cc in
    ap (λ (x : PendingEntry). column_later word value (x ∷ ws)) same
column_next (suc i) word value (e ∷ ws) target written is =
    let g : suc i + 1 ≡ suc (i + 1) = omega arith in
    column_next i word value ws target written is
    ∙ ap (λ (n : ℕ). value_next word value target written ∷ column_later word (value_next word value target written) (drop n (e ∷ ws))) (sym g)

pub column_pushed : (i word value next : ℕ) (ws : List PendingEntry) (target written : ℕ) (old new all : List ℕ) → slice_get ws i ≡ Some (Write target written) → next ≡ value_next word value target written
    → old ++ column_later word value (drop i ws) ≡ all → new ≡ old ++ next ∷ [] → new ++ column_later word next (drop (i + 1) ws) ≡ all
column_pushed i word value next ws target written old new all has is before pushed =
    ap (λ (vs : List ℕ). vs ++ column_later word next (drop (i + 1) ws)) pushed
    ∙ append_assoc old (next ∷ []) (column_later word next (drop (i + 1) ws))
    ∙ ap (λ (v : ℕ). old ++ v ∷ column_later word v (drop (i + 1) ws)) is
    ∙ ap (λ (vs : List ℕ). old ++ vs) (sym (column_next i word value ws target written has))
    ∙ before

pub column_whole : (i word value : ℕ) (ws : List PendingEntry) (old all : List ℕ) → length ws ≤ i → old ++ column_later word value (drop i ws) ≡ all → old ≡ all
column_whole i word value ws old all past is =
    let left = length-drop i ws in
    let none : drop i ws ≡ [] = nil_from_length (drop i ws) (omega (arith, left, past)) in
    sym (append-nil old) ∙ ap (λ (xs : List PendingEntry). old ++ column_later word value xs) (sym none) ∙ is

-- one more number, which fits or does not
pub fitting_next : (flags : List Bool) (values old new all : List ℕ) (n most : ℕ) → n ≤ most → old ++ picked flags values n (most + 1 - n) ≡ all
    → new ≡ old ++ picked_at flags values n → new ++ picked flags values (n + 1) (most + 1 - (n + 1)) ≡ all
fitting_next flags values old new all n most within before pushed =
    let e : most + 1 - n ≡ suc (most - n) = omega (arith, within) in
    let f : most + 1 - (n + 1) ≡ most - n = omega arith in
    ap (λ (vs : List ℕ). vs ++ picked flags values (n + 1) (most + 1 - (n + 1))) pushed
    ∙ append_assoc old (picked_at flags values n) (picked flags values (n + 1) (most + 1 - (n + 1)))
    ∙ ap (λ (m : ℕ). old ++ (picked_at flags values n ++ picked flags values (n + 1) m)) f
    ∙ ap (λ (m : ℕ). old ++ picked flags values n m) (sym e)
    ∙ before

-- all numbers are passed
pub fitting_end : (flags : List Bool) (values old all : List ℕ) (n most : ℕ) → most < n → old ++ picked flags values n (most + 1 - n) ≡ all → old ≡ all
fitting_end flags values old all n most past before =
    let e : most + 1 - n ≡ 0 = omega (arith, past) in
    sym (append-nil old) ∙ ap (λ (m : ℕ). old ++ picked flags values n m) (sym e) ∙ before

pub ruleset fitting_steps = (fitting_next, fitting_end)

-- a word's values have one for each number of writes that may be persisted
pub column_there : (long line k most : ℕ) (es : List PendingEntry) → long ≡ 1 + count_by (is_write_on line) es → most ≡ before line k es → most < long
column_there long line k most es size is =
    let few = before_within line k es in
    let same = length-filter (is_write_on line) es in
    omega (arith, size, is, few, same)

-- the values of one more number of markers
pub allowed_next : (fits : List (List Bool)) (line : ℕ) (values : List ℕ) (k : ℕ) (es : List PendingEntry) (old new : List ℕ) → old ≡ allowed_below fits line values (k + 1) es
    → new ≡ old ++ allowed_at fits line values (k + 1) es → new ≡ allowed_below fits line values (k + 1 + 1) es
allowed_next fits line values k es old new is pushed =
    pushed ∙ ap (λ (vs : List ℕ). vs ++ allowed_at fits line values (k + 1) es) is ∙ ap (λ (n : ℕ). allowed_below fits line values n es) (sym (add-one (k + 1)))
