-- Rings that are merged into one list.
use Rattle.std.proofs.Common.{◌≡◌, ℕ, zero, suc, ◌+◌, ◌<◌, ◌≤◌, Bool, List, [], ◌∷◌, ◌++◌, length, drop, get_or, refl, sym, ◌∙◌, ap, subst, append-nil, arith, inl, inr, append_assoc}
use Rattle.std.specs.Prelude.{filter}
use Rattle.std.specs.List.{AllByRecursion}
use Rattle.std.proofs.lemmas.Bool.{cases_Bool}
use Rattle.std.proofs.lemmas.List.{drop_more, get_or_default}
use Rattle.circular_buffer.specs.Buffer.{Buffer}
use Rattle.persist_buffer.specs.declared.ring.StampedEntry.{StampedEntry}
use Rattle.persist_buffer.specs.Rings.{is_in, placed, by_serial, joined, merged, all_placed, Rising, IsMerged}
use Rattle.persist_buffer.proofs.ListsBySerial.{lt_true, lt_false, all_weaker, placed_within, apart_front}

abbrev NotBelow : ℕ → List StampedEntry → Type 0
NotBelow n xs = AllByRecursion (λ y. n ≤ y.serial) xs

-- what is placed behind the first leaves it first
first_stays : (x : StampedEntry) (xs es : List StampedEntry) → NotBelow x.serial es → all_placed (x ∷ xs) es ≡ x ∷ all_placed xs es
first_stays x xs [] h = refl
first_stays x xs (e ∷ es) h = rw (lt_false e.serial x.serial h.0) (first_stays x (placed e xs) es h.1)

-- what follows an entry of a rising list is above it
above_later : (xs : List StampedEntry) (i : ℕ) (d : StampedEntry) → Rising xs → i < length xs → AllByRecursion (λ y. (get_or xs i d).serial < y.serial) (drop (i + 1) xs)
above_later [] i d r h = absurd (omega (arith, h))
above_later (x ∷ xs) zero d r h = r.0
above_later (x ∷ xs) (suc i) d r h = let next : suc i + 1 ≡ suc (i + 1) = omega arith in rw next (above_later xs i d r.1 (omega arith))

-- how far a merge has come: what it has made, and what is still to be merged
abbrev pub Merging : List StampedEntry → List StampedEntry → ℕ → List StampedEntry → ℕ → Type 0
Merging all list next es i = all ++ all_placed (drop next list) (drop i es) ≡ all_placed list es

-- an entry of the list goes over
pub list_passed : (all list es : List StampedEntry) (next i : ℕ) (x d e : StampedEntry) → Merging all list next es i → next < length list → i < length es → Rising es
    → x ≡ get_or list next x → e ≡ get_or es i e → (get_or list next d).serial ≤ e.serial → Merging (all ++ x ∷ []) list (next + 1) es i
list_passed all list es next i x d e m there within rise is at less =
    let low : x.serial ≤ e.serial = rw (is ∙ get_or_default list next x d there) less in
    let later = above_later es i e rise within in
    let step : drop i es ≡ get_or es i e ∷ drop (i + 1) es = drop_more es i e within in
    let high : NotBelow x.serial (e ∷ drop (i + 1) es) = (
      low,
      all_weaker (λ y. (get_or es i e).serial < y.serial) (λ y. x.serial ≤ y.serial) (drop (i + 1) es)
          (λ y lt. let same : e.serial ≡ (get_or es i e).serial = ap (λ s. s.serial) at in omega arith) later,
    ) in
    let whole : drop i es ≡ e ∷ drop (i + 1) es = step ∙ ap (λ s. s ∷ drop (i + 1) es) (sym at) in
    let cut : drop next list ≡ x ∷ drop (next + 1) list = drop_more list next x there ∙ ap (λ s. s ∷ drop (next + 1) list) (sym is) in
    let kept : all_placed (drop next list) (drop i es) ≡ x ∷ all_placed (drop (next + 1) list) (drop i es) =
    ap (λ ys. all_placed ys (drop i es)) cut ∙ first_stays x (drop (next + 1) list) (drop i es) (rw whole high) in
    append_assoc all (x ∷ []) (all_placed (drop (next + 1) list) (drop i es)) ∙ (ap (λ ys. all ++ ys) (sym kept) ∙ m)

-- nothing that is left of the list stands before an entry
abbrev pub ComesNow : StampedEntry → List StampedEntry → Type 0
ComesNow e xs = placed e xs ≡ e ∷ xs

pub now_at_end : (e : StampedEntry) (list : List StampedEntry) (next : ℕ) → length list ≤ next → ComesNow e (drop next list)
now_at_end e [] zero h = refl
now_at_end e [] (suc next) h = refl
now_at_end e (x ∷ xs) zero h = absurd (omega (arith, h))
now_at_end e (x ∷ xs) (suc next) h = now_at_end e xs next (omega arith)

pub now_before : (e d : StampedEntry) (list : List StampedEntry) (next : ℕ) → next < length list → e.serial < (get_or list next d).serial → ComesNow e (drop next list)
now_before e d list next there low = rw (drop_more list next d there, lt_true e.serial (get_or list next d).serial low) refl

-- an entry of the ring goes over
pub ring_passed : (all list es : List StampedEntry) (next i : ℕ) (e : StampedEntry) → Merging all list next es i → i < length es → Rising es
    → e ≡ get_or es i e → ComesNow e (drop next list) → Merging (all ++ e ∷ []) list next es (i + 1)
ring_passed all list es next i e m within rise at now =
    let later = above_later es i e rise within in
    let high : NotBelow e.serial (drop (i + 1) es) = all_weaker (λ y. (get_or es i e).serial < y.serial) (λ y. e.serial ≤ y.serial) (drop (i + 1) es)
    (λ y lt. let same : e.serial ≡ (get_or es i e).serial = ap (λ s. s.serial) at in omega arith) later in
    let whole : drop i es ≡ e ∷ drop (i + 1) es = drop_more es i e within ∙ ap (λ s. s ∷ drop (i + 1) es) (sym at) in
    let kept : all_placed (drop next list) (drop i es) ≡ e ∷ all_placed (drop next list) (drop (i + 1) es) =
    ap (λ ys. all_placed (drop next list) ys) whole ∙ (ap (λ ys. all_placed ys (drop (i + 1) es)) now ∙ first_stays e (drop next list) (drop (i + 1) es) high) in
    append_assoc all (e ∷ []) (all_placed (drop next list) (drop (i + 1) es)) ∙ (ap (λ ys. all ++ ys) (sym kept) ∙ m)

-- the entries of a ring rise
pub all_filter : (P : StampedEntry → Type 0) (p : StampedEntry → Bool) (xs : List StampedEntry) → AllByRecursion P xs → AllByRecursion P (filter p xs)
all_filter P p [] h = tt
all_filter P p (x ∷ xs) h = elim (cases_Bool (p x)) [ inl y ↦ rw y (h.0, all_filter P p xs h.1) | inr n ↦ rw n (all_filter P p xs h.1) ]

rising-filter : (p : StampedEntry → Bool) (xs : List StampedEntry) → Rising xs → Rising (filter p xs)
rising-filter p [] h = tt
rising-filter p (x ∷ xs) h = elim (cases_Bool (p x)) [ inl y ↦ rw y (all_filter (λ s. x.serial < s.serial) p xs h.0, rising-filter p xs h.1) | inr n ↦ rw n (rising-filter p xs h.1) ]

pub rings_rise : (rings given : List (Buffer StampedEntry)) (all : List StampedEntry) (next : ℕ) → IsMerged rings all next → given ≡ rings
    → (r : ℕ) (d : Buffer StampedEntry) → r < length given → Rising (get_or given r d).items
rings_rise rings given all next m same r d h =
    let k : r < 65 = omega (arith, m.count, ap length same) in
    rw (same, m.each r d k) (rising-filter (is_in r) all m.rising)

pub ring_rises : (rings : List (Buffer StampedEntry)) (all : List StampedEntry) (next r : ℕ) (ring : Buffer StampedEntry) → IsMerged rings all next → r < 65 → ring ≡ get_or rings r ring → Rising ring.items
ring_rises rings all next r ring m h read = subst Rising (sym (ap (λ c. c.items) read ∙ m.each r ring h)) (rising-filter (is_in r) all m.rising)

-- placing one after another sorts
placed_on : (us xs : List StampedEntry) → Rising (by_serial (us ++ xs)) → all_placed (by_serial us) xs ≡ by_serial (us ++ xs)
placed_on us [] h = ap by_serial (sym (append-nil us))
placed_on us (e ∷ xs) h =
    let more : (us ++ e ∷ []) ++ xs ≡ us ++ e ∷ xs = append_assoc us (e ∷ []) xs in
    let one : by_serial (us ++ e ∷ []) ≡ placed e (by_serial us) = placed_within us [] e (apart_front us xs e h) ∙ ap (λ vs. placed e (by_serial vs)) (append-nil us) in
    let up : Rising (by_serial ((us ++ e ∷ []) ++ xs)) = rw more h in
    ap (λ ys. all_placed ys xs) (sym one) ∙ (placed_on (us ++ e ∷ []) xs up ∙ ap by_serial more)

pub listed : (rings : List (Buffer StampedEntry)) → Rising (merged rings) → all_placed [] (joined rings) ≡ merged rings
unfolding merged
listed rings h = placed_on [] (joined rings) h
