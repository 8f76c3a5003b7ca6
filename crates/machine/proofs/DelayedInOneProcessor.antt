-- A processor's delayed operations are its store buffer's entries, in order, after any step.
use Rattle.std.proofs.Common.{◌≡◌, ◌≢◌, ℕ, zero, suc, ◌+◌, ◌<◌, ◌≤◌, Option, Some, None, List, [], ◌∷◌, ◌++◌, length, remove, refl, sym, ◌∙◌, ap, subst, inl, inr, arith}
use Rattle.std.specs.Prelude.{◌⊎◌, slice_get, nat_lt}
use Rattle.std.proofs.lemmas.Bool.{cases_Bool, cases_eq}
use Rattle.std.proofs.lemmas.Bool.Decides.{nat_tests}
use Rattle.std.proofs.lemmas.Option.{slice_get_within, slice_get_past, same_Some}
use Rattle.std.proofs.lemmas.List.{take-append-le, length-append}
use Rattle.std.proofs.lemmas.List.Edits.{length-remove}
use Rattle.std.proofs.Math.Seq.{take-append_seam}
use Rattle.outcomes.proofs.ListsByPlace.{slice_get_seam}
use Rattle.store_buffer.specs.declared.entry.Entry.{Entry}
use Rattle.processor.specs.declared.act.Act.TheVariants.{Delay}
use Rattle.machine.specs.declared.step.Seen.{Seen}
use Rattle.machine.specs.declared.step.Seen.TheVariants.{Ran, Left, Crashed}
use Rattle.machine.specs.Buffered.{DelaysAt, NoCrashAfter, NoEffect, AreBuffered}
use Rattle.machine.specs.Effects.{delayed_next, delayed_on, delayed_in, effect_by, effect_at}

-- lists

pub get_before : {A : Type 0} (xs ys : List A) (k : ℕ) → k < length xs → slice_get (xs ++ ys) k ≡ slice_get xs k
get_before [] ys k within = absurd (omega (arith, within))
get_before (x ∷ xs) ys zero within = refl
get_before (x ∷ xs) ys (suc k) within = get_before xs ys k (omega (arith, within))

get_remove_below : {A : Type 0} (xs : List A) (i k : ℕ) → k < i → slice_get (remove xs i) k ≡ slice_get xs k
get_remove_below [] zero k below = refl
get_remove_below [] (suc i) k below = refl
get_remove_below (x ∷ xs) zero k below = absurd (omega (arith, below))
get_remove_below (x ∷ xs) (suc i) zero below = refl
get_remove_below (x ∷ xs) (suc i) (suc k) below = get_remove_below xs i k (omega (arith, below))

get_remove_past : {A : Type 0} (xs : List A) (i k : ℕ) → i ≤ k → slice_get (remove xs i) k ≡ slice_get xs (suc k)
get_remove_past [] zero k past = refl
get_remove_past [] (suc i) k past = refl
get_remove_past (x ∷ xs) zero k past = refl
get_remove_past (x ∷ xs) (suc i) zero past = absurd (omega (arith, past))
get_remove_past (x ∷ xs) (suc i) (suc k) past = get_remove_past xs i k (omega (arith, past))

pub get_within : {A : Type 0} (xs : List A) (k : ℕ) → k < length xs → (x : A) × (slice_get xs k ≡ Some x)
get_within [] k within = absurd (omega (arith, within))
get_within (x ∷ xs) zero within = (x, refl)
get_within (x ∷ xs) (suc k) within = get_within xs k (omega (arith, within))

-- of three
abbrev pub Place : ℕ → ℕ → Type 0
Place k n = (k < n) ⊎ ((k ≡ n) ⊎ (n < k))

pub place : (k n : ℕ) → Place k n
place k n = elim (cases_Bool (nat_lt k n)) [
  | inl below ↦ inl (grind (arith, nat_tests, below))
  | inr not ↦ elim (cases_eq k n) [
    | inl same ↦ inr (inl same)
    | inr other ↦ inr (inr (grind (arith, nat_tests, not, other)))
  ]
]

-- the delayed operations after one step more
delayed_more : (p n : ℕ) (delayed : List ℕ) (run : List Seen) (seen : Seen)
    → delayed_on p n delayed (run ++ seen ∷ []) ≡ delayed_next p (n + length run) (delayed_on p n delayed run) seen
delayed_more p n delayed [] seen = let same : n ≡ n + 0 = omega (arith) in ap (λ (k : ℕ). delayed_next p k delayed seen) same
delayed_more p n delayed (old ∷ run) seen =
    let same : (n + 1) + length run ≡ n + suc (length run) = omega (arith) in
    delayed_more p (n + 1) (delayed_next p n delayed old) run seen
    ∙ ap (λ (k : ℕ). delayed_next p k (delayed_on p (n + 1) (delayed_next p n delayed old) run) seen) same

pub delayed_in_more : (p : ℕ) (run : List Seen) (seen : Seen) → delayed_in p (run ++ seen ∷ []) ≡ delayed_next p (length run) (delayed_in p run) seen
delayed_in_more p run seen =
    let same : 0 + length run ≡ length run = omega (arith) in
    delayed_more p 0 [] run seen ∙ ap (λ (k : ℕ). delayed_next p k (delayed_in p run) seen) same

-- effects

pub effect_before : (run later : List Seen) (k : ℕ) → k < length run → effect_at (run ++ later) k ≡ effect_at run k
effect_before run later k within =
    let reached : k ≤ length run = omega (arith, within) in
    rw (take-append-le k run later reached, get_before run later k within) refl

pub effect_here : (run later : List Seen) (seen : Seen) → effect_at (run ++ seen ∷ later) (length run) ≡ effect_by run seen
effect_here run later seen = rw (take-append_seam run (seen ∷ later), slice_get_seam run later seen) refl

pub effect_past : (run : List Seen) (k : ℕ) → length run ≤ k → effect_at run k ≡ None
effect_past run k past = rw (slice_get_past run k past) refl

pub effect_within : (run : List Seen) (k a : ℕ) → effect_at run k ≡ Some a → k < length run
effect_within run k a e = elim (cases_Bool (nat_lt k (length run))) [
  | inl below ↦ grind (arith, nat_tests, below)
  | inr not ↦
      let past : length run ≤ k = grind (arith, nat_tests, not) in
      let none : ◌≡◌ {A = Option ℕ} None (Some a) = sym (effect_past run k past) ∙ e in
      absurd (cc)
]

-- the entry of a delayed operation
pub entry_of : (run : List Seen) (q : ℕ) (delayed : List ℕ) (buffer : List Entry) → AreBuffered run q delayed buffer → (j a : ℕ) → slice_get delayed j ≡ Some a
    → (entry : Entry) × (slice_get buffer j ≡ Some entry)
entry_of run q delayed buffer x j a there =
    get_within buffer j (omega (arith, slice_get_within delayed j a there, x.same_length))

pub below : (run : List Seen) (q : ℕ) (delayed : List ℕ) (buffer : List Entry) → AreBuffered run q delayed buffer → (j a : ℕ) → slice_get delayed j ≡ Some a → a < length run
below run q delayed buffer x j a there =
    let e = entry_of run q delayed buffer x j a there in
    let d = x.entries j a e.0 there e.1 in
    slice_get_within run a (Ran q d.0 (Delay e.0)) d.1

-- one step more

pub get_last : {A : Type 0} (run : List A) (seen : A) (k : ℕ) (other : A) → slice_get (run ++ seen ∷ []) k ≡ Some other
    → (k ≡ length run × (seen ≡ other)) ⊎ ((k < length run) × (slice_get run k ≡ Some other))
get_last {A} run seen k other e =
    elim (place k (length run)) [
      | inl within ↦ inr (within, sym (get_before run (seen ∷ []) k within) ∙ e)
      | inr rest ↦ elim rest [
        | inl here ↦
            let read : slice_get (run ++ seen ∷ []) (length run) ≡ Some other = subst (λ (n : ℕ). slice_get (run ++ seen ∷ []) n ≡ Some other) here e in
            inl (here, same_Some seen other (sym (slice_get_seam run [] seen) ∙ read))
        | inr past ↦
            let within = slice_get_within (run ++ seen ∷ []) k other e in
            let long : length (run ++ seen ∷ []) ≡ length run + 1 = length-append run (seen ∷ []) in
            absurd (omega (arith, past, within, long))
      ]
    ]

delays_more : (run : List Seen) (seen : Seen) (q n : ℕ) (entry : Entry) → DelaysAt run q n entry → DelaysAt (run ++ seen ∷ []) q n entry
delays_more run seen q n entry d =
    (d.0, get_before run (seen ∷ []) n (slice_get_within run n (Ran q d.0 (Delay entry)) d.1) ∙ d.1)

no_crash_more : (run : List Seen) (seen : Seen) (n : ℕ) → ((count : ℕ) → seen ≢ Crashed count) → NoCrashAfter run n → NoCrashAfter (run ++ seen ∷ []) n
no_crash_more run seen n not none k count after e =
    elim (get_last run seen k (Crashed count) e) [
      | inl last ↦ not count last.1
      | inr old ↦ none k count after old.1
    ]

no_crash_less : (run : List Seen) (seen : Seen) (n : ℕ) → NoCrashAfter (run ++ seen ∷ []) n → NoCrashAfter run n
no_crash_less run seen n none k count after e =
    none k count after (get_before run (seen ∷ []) k (slice_get_within run k (Crashed count) e) ∙ e)

no_effect_more : (run : List Seen) (seen : Seen) (n : ℕ) → effect_by run seen ≢ Some n → NoEffect run n → NoEffect (run ++ seen ∷ []) n
no_effect_more run seen n not none k e =
    elim (place k (length run)) [
      | inl within ↦ none k (sym (effect_before run (seen ∷ []) k within) ∙ e)
      | inr rest ↦ elim rest [
        | inl here ↦
            let read : effect_at (run ++ seen ∷ []) (length run) ≡ Some n = subst (λ (m : ℕ). effect_at (run ++ seen ∷ []) m ≡ Some n) here e in
            not (sym (effect_here run [] seen) ∙ read)
        | inr past ↦
            let within = effect_within (run ++ seen ∷ []) k n e in
            let long : length (run ++ seen ∷ []) ≡ length run + 1 = length-append run (seen ∷ []) in
            absurd (omega (arith, past, within, long))
      ]
    ]

no_effect_less : (run : List Seen) (seen : Seen) (n : ℕ) → NoEffect (run ++ seen ∷ []) n → NoEffect run n
no_effect_less run seen n none k e =
    none k (effect_before run (seen ∷ []) k (effect_within run k n e) ∙ e)

no_effect_last : (run : List Seen) (seen : Seen) (n : ℕ) → NoEffect (run ++ seen ∷ []) n → effect_by run seen ≢ Some n
no_effect_last run seen n none e = none (length run) (effect_here run [] seen ∙ e)

-- a step that neither delays an entry of the processor, nor lets one leave, nor is a crash
pub tracks_beside : (run : List Seen) (seen : Seen) (q : ℕ) (delayed : List ℕ) (buffer : List Entry) → AreBuffered run q delayed buffer
    → ((count : ℕ) → seen ≢ Crashed count) → ((place : ℕ) (entry : Entry) → seen ≢ Ran q place (Delay entry))
    → ((j a : ℕ) → slice_get delayed j ≡ Some a → effect_by run seen ≢ Some a)
    → AreBuffered (run ++ seen ∷ []) q delayed buffer
tracks_beside run seen q delayed buffer x no_crash no_delay no_effect = record {
  same_length = x.same_length;
  entries = λ j a entry there here. delays_more run seen q a entry (x.entries j a entry there here);
  ascending = x.ascending;
  no_crash = λ j a there. no_crash_more run seen a no_crash (x.no_crash j a there);
  no_effect = λ j a there. no_effect_more run seen a (no_effect j a there) (x.no_effect j a there);
  whole = λ a entry d safe none.
      elim (get_last run seen a (Ran q d.0 (Delay entry)) d.1) [
        | inl last ↦ absurd (no_delay d.0 entry last.1)
        | inr old ↦ x.whole a entry (d.0, old.1) (no_crash_less run seen a safe) (no_effect_less run seen a none)
      ];
}

-- no operation has taken effect but those that were executed
abbrev pub ArePast : List Seen → Type 0
ArePast run = (k a : ℕ) → effect_at run k ≡ Some a → a < length run

last_no_crash : (run : List Seen) (seen : Seen) → NoCrashAfter (run ++ seen ∷ []) (length run)
last_no_crash run seen k count after e =
    elim (get_last run seen k (Crashed count) e) [
      | inl last ↦ absurd (omega (arith, after, last.0))
      | inr old ↦ absurd (omega (arith, after, old.0))
    ]

last_no_effect : (run : List Seen) (q at : ℕ) (entry : Entry) → ArePast run → NoEffect (run ++ Ran q at (Delay entry) ∷ []) (length run)
last_no_effect run q at entry past k e =
    elim (place k (length run)) [
      | inl within ↦ absurd (omega (arith, past k (length run) (sym (effect_before run (Ran q at (Delay entry) ∷ []) k within) ∙ e)))
      | inr rest ↦ elim rest [
        | inl here ↦
            let read : effect_at (run ++ Ran q at (Delay entry) ∷ []) (length run) ≡ Some (length run) =
            subst (λ (m : ℕ). effect_at (run ++ Ran q at (Delay entry) ∷ []) m ≡ Some (length run)) here e in
            let none : ◌≡◌ {A = Option ℕ} None (Some (length run)) = sym (effect_here run [] (Ran q at (Delay entry))) ∙ read in
            absurd (cc)
        | inr later ↦
            let within = effect_within (run ++ Ran q at (Delay entry) ∷ []) k (length run) e in
            let long : length (run ++ Ran q at (Delay entry) ∷ []) ≡ length run + 1 = length-append run (Ran q at (Delay entry) ∷ []) in
            absurd (omega (arith, later, within, long))
      ]
    ]

-- a step that delays an entry of the processor
pub tracks_delay : (run : List Seen) (q at : ℕ) (entry : Entry) (delayed : List ℕ) (buffer : List Entry) → AreBuffered run q delayed buffer → ArePast run
    → AreBuffered (run ++ Ran q at (Delay entry) ∷ []) q (delayed ++ length run ∷ []) (buffer ++ entry ∷ [])
tracks_delay run q at entry delayed buffer x past =
    let seen : Seen = Ran q at (Delay entry) in
    record {
      same_length =
          let longer : length (delayed ++ length run ∷ []) ≡ length delayed + 1 = length-append delayed (length run ∷ []) in
          let other : length (buffer ++ entry ∷ []) ≡ length buffer + 1 = length-append buffer (entry ∷ []) in
          omega (arith, longer, other, x.same_length);
      entries = λ j a e there here.
          elim (get_last delayed (length run) j a there) [
            | inl last ↦ elim (get_last buffer entry j e here) [
              | inl end ↦ (
                at,
                subst (λ (n : ℕ). slice_get (run ++ seen ∷ []) n ≡ Some (Ran q at (Delay e))) last.1
                    (slice_get_seam run [] seen ∙ ap (λ (y : Entry). Some (Ran q at (Delay y))) end.1),
              )
              | inr old ↦ absurd (omega (arith, last.0, old.0, x.same_length))
            ]
            | inr old ↦ elim (get_last buffer entry j e here) [
              | inl end ↦ absurd (omega (arith, end.0, old.0, x.same_length))
              | inr both ↦ delays_more run seen q a e (x.entries j a e old.1 both.1)
            ]
          ];
      ascending = λ j k a b before one two.
          elim (get_last delayed (length run) k b two) [
            | inl last ↦ elim (get_last delayed (length run) j a one) [
              | inl end ↦ absurd (omega (arith, before, last.0, end.0))
              | inr old ↦ omega (arith, last.1, below run q delayed buffer x j a old.1)
            ]
            | inr old ↦ elim (get_last delayed (length run) j a one) [
              | inl end ↦ absurd (omega (arith, before, old.0, end.0))
              | inr both ↦ x.ascending j k a b before both.1 old.1
            ]
          ];
      no_crash = λ j a there.
          elim (get_last delayed (length run) j a there) [
            | inl last ↦ subst (λ (n : ℕ). NoCrashAfter (run ++ seen ∷ []) n) last.1 (last_no_crash run seen)
            | inr old ↦ no_crash_more run seen a (λ count e. cc) (x.no_crash j a old.1)
          ];
      no_effect = λ j a there.
          elim (get_last delayed (length run) j a there) [
            | inl last ↦ subst (λ (n : ℕ). NoEffect (run ++ seen ∷ []) n) last.1 (last_no_effect run q at entry past)
            | inr old ↦ no_effect_more run seen a (λ e. cc) (x.no_effect j a old.1)
          ];
      whole = λ a e d safe none.
          elim (get_last run seen a (Ran q d.0 (Delay e)) d.1) [
            | inl last ↦ (length delayed, slice_get_seam delayed [] (length run) ∙ ap (λ (n : ℕ). Some n) (sym last.0))
            | inr old ↦
                let found = x.whole a e (d.0, old.1) (no_crash_less run seen a safe) (no_effect_less run seen a none) in
                (found.0, get_before delayed (length run ∷ []) found.0 (slice_get_within delayed found.0 a found.1) ∙ found.1)
          ];
    }

-- where an entry stood that stands at place j after the one at place i has left
abbrev Shifted : ℕ → ℕ → ℕ → Type 0
Shifted i j old = ((j < i) × (old ≡ j)) ⊎ ((i ≤ j) × (old ≡ suc j))

get_removed : {A : Type 0} (xs : List A) (i j : ℕ) (y : A) → slice_get (remove xs i) j ≡ Some y → (old : ℕ) × Shifted i j old × (slice_get xs old ≡ Some y)
get_removed {A} xs i j y e =
    elim (cases_Bool (nat_lt j i)) [
      | inl earlier ↦ let below : j < i = grind (arith, nat_tests, earlier) in (j, inl (below, refl), sym (get_remove_below xs i j below) ∙ e)
      | inr later ↦ let past : i ≤ j = grind (arith, nat_tests, later) in (suc j, inr (past, refl), sym (get_remove_past xs i j past) ∙ e)
    ]

get_kept : {A : Type 0} (xs : List A) (i j : ℕ) (y : A) → slice_get xs j ≡ Some y → j ≢ i → (k : ℕ) × (slice_get (remove xs i) k ≡ Some y)
get_kept {A} xs i zero y e other = (zero, get_remove_below xs i zero (omega (arith, other)) ∙ e)
get_kept {A} xs i (suc j) y e other =
    elim (cases_Bool (nat_lt (suc j) i)) [
      | inl earlier ↦ (suc j, get_remove_below xs i (suc j) (grind (arith, nat_tests, earlier)) ∙ e)
      | inr later ↦
          let past : i ≤ suc j = grind (arith, nat_tests, later) in
          (j, get_remove_past xs i j (omega (arith, past, other)) ∙ e)
    ]

shifted_same : (i j a b : ℕ) → Shifted i j a → Shifted i j b → a ≡ b
shifted_same i j a b (inl x) (inl y) = omega (arith, x.1, y.1)
shifted_same i j a b (inl x) (inr y) = absurd (omega (arith, x.0, y.0))
shifted_same i j a b (inr x) (inl y) = absurd (omega (arith, x.0, y.0))
shifted_same i j a b (inr x) (inr y) = omega (arith, x.1, y.1)

shifted_rises : (i j k a b : ℕ) → j < k → Shifted i j a → Shifted i k b → a < b
shifted_rises i j k a b before (inl x) (inl y) = omega (arith, before, x.1, y.1)
shifted_rises i j k a b before (inl x) (inr y) = omega (arith, before, x.1, y.1)
shifted_rises i j k a b before (inr x) (inl y) = absurd (omega (arith, before, x.0, y.0))
shifted_rises i j k a b before (inr x) (inr y) = omega (arith, before, x.1, y.1)

shifted_apart : (i j a : ℕ) → Shifted i j a → a ≢ i
shifted_apart i j a (inl x) e = absurd (omega (arith, x.0, x.1, e))
shifted_apart i j a (inr x) e = absurd (omega (arith, x.0, x.1, e))

-- no operation is delayed twice
pub distinct : (run : List Seen) (q : ℕ) (delayed : List ℕ) (buffer : List Entry) → AreBuffered run q delayed buffer → (j k a : ℕ)
    → slice_get delayed j ≡ Some a → slice_get delayed k ≡ Some a → j ≡ k
distinct run q delayed buffer x j k a one two =
    elim (place j k) [
      | inl before ↦ absurd (omega (arith, x.ascending j k a a before one two))
      | inr rest ↦ elim rest [
        | inl same ↦ same
        | inr after ↦ absurd (omega (arith, x.ascending k j a a after two one))
      ]
    ]

-- a step that lets an entry of the processor leave
pub tracks_left : (run : List Seen) (q i : ℕ) (entry : Entry) (delayed : List ℕ) (buffer : List Entry) → AreBuffered run q delayed buffer
    → effect_by run (Left q i entry) ≡ slice_get delayed i → i < length buffer
    → AreBuffered (run ++ Left q i entry ∷ []) q (remove delayed i) (remove buffer i)
tracks_left run q i entry delayed buffer x effect within =
    let seen : Seen = Left q i entry in
    let inside : i < length delayed = omega (arith, within, x.same_length) in
    record {
      same_length = omega (arith, length-remove delayed i inside, length-remove buffer i within, x.same_length);
      entries = λ j a e there here.
          let one = get_removed delayed i j a there in
          let two = get_removed buffer i j e here in
          let same = shifted_same i j two.0 one.0 two.1 one.1 in
          delays_more run seen q a e (x.entries one.0 a e one.2 (subst (λ (n : ℕ). slice_get buffer n ≡ Some e) same two.2));
      ascending = λ j k a b before one two.
          let left = get_removed delayed i j a one in
          let right = get_removed delayed i k b two in
          x.ascending left.0 right.0 a b (shifted_rises i j k left.0 right.0 before left.1 right.1) left.2 right.2;
      no_crash = λ j a there.
          let old = get_removed delayed i j a there in
          no_crash_more run seen a (λ count e. cc) (x.no_crash old.0 a old.2);
      no_effect = λ j a there.
          let old = get_removed delayed i j a there in
          no_effect_more run seen a (λ e. shifted_apart i j old.0 old.1 (distinct run q delayed buffer x old.0 i a old.2 (sym effect ∙ e)))
          (x.no_effect old.0 a old.2);
      whole = λ a e d safe none.
          elim (get_last run seen a (Ran q d.0 (Delay e)) d.1) [
            | inl last ↦ let bad : seen ≡ Ran q d.0 (Delay e) = last.1 in absurd (cc)
            | inr old ↦
                let found = x.whole a e (d.0, old.1) (no_crash_less run seen a safe) (no_effect_less run seen a none) in
                get_kept delayed i found.0 a found.1 (λ same.
                no_effect_last run seen a none (effect ∙ subst (λ (n : ℕ). slice_get delayed n ≡ Some a) same found.1))
          ];
    }

-- a crash
pub tracks_crash : (run : List Seen) (q count : ℕ) → AreBuffered (run ++ Crashed count ∷ []) q [] []
tracks_crash run q count = record {
  same_length = refl;
  entries = λ j a entry there here. absurd (cc);
  ascending = λ j k a b before one two. absurd (cc);
  no_crash = λ j a there. absurd (cc);
  no_effect = λ j a there. absurd (cc);
  whole = λ a entry d safe none.
      elim (get_last run (Crashed count) a (Ran q d.0 (Delay entry)) d.1) [
        | inl last ↦ let bad : Crashed count ≡ Ran q d.0 (Delay entry) = last.1 in absurd (cc)
        | inr old ↦ absurd (safe (length run) count old.0 (slice_get_seam run [] (Crashed count)))
      ];
}

-- before the first step
pub tracks_none : (q : ℕ) → AreBuffered [] q [] []
tracks_none q = record {
  same_length = refl;
  entries = λ j a entry there here. absurd (cc);
  ascending = λ j k a b before one two. absurd (cc);
  no_crash = λ j a there. absurd (cc);
  no_effect = λ j a there. absurd (cc);
  whole = λ a entry d safe none. absurd (cc (d.1));
}
