-- The enabled steps by masks.
use Rattle.std.proofs.Common.{◌≡◌, ℕ, zero, suc, ◌+◌, ◌^◌, ◌<◌, ◌≤◌, Bool, true, false, Option, Some, None, Result, Ok, Err, List, [], ◌∷◌, ◌++◌, length, get_or, take, drop, map, refl, sym, ap, ◌∙◌, arith, append_assoc, inl, inr}
use Rattle.std.specs.Prelude.{is_ok, is_some, not, if◌then◌else◌, slice_get}
use Rattle.std.specs.Bool.{then_some}
use Rattle.std.specs.List.{filter, range_with_len}
use Rattle.std.specs.Option.{option_map_or}
use Rattle.std.proofs.lemmas.Bool.{cases_Bool}
use Rattle.std.proofs.lemmas.List.{append-nil, length-append, length-map, take_more}
use Rattle.std.proofs.Math.ListN.{drop_of_length-le}
use Rattle.std.proofs.Math.Seq.{drop-cons}
use Rattle.std.proofs.lemmas.List.Elements.{filter-append}
use Rattle.outcomes.specs.Outcomes.{refusal_of}
use Rattle.machine.specs.declared.step.Step.{Step}
use Rattle.machine.specs.declared.step.Step.TheVariants.{Exec, Drain, Persist, Settle}
use Rattle.machine.specs.declared.step.Seen.{Seen}
use Rattle.machine.specs.declared.refusal.Refusal.{Refusal}
use Rattle.machine.specs.Accepted.{accepts, drainable_of, mask_below, persistable_of, runnable_of}
use Rattle.machine.specs.State.{Processor, State}
use Rattle.machine.specs.Steps.{step_of}
use Rattle.schedule.specs.Choices.{drains_in, steps_in}
use Rattle.schedule.specs.Enabled.{drains_from, drains_of, enabled_of, execs, persists}
use Rattle.schedule.specs.Masks.{mask_room, nth_or_rest, numbers_in}
use Rattle.schedule.proofs.MaskNumbers.{filtered_fewer, numbers_below}
use Rattle.schedule.proofs.NthElementOrRest.{found, passed, in_first, in_second, mapped_found, mapped_passed}

pub filter-map : {A B : Type 0} (p : B → Bool) (f : A → B) (xs : List A) → filter p (map f xs) ≡ map f (filter (λ x. p (f x)) xs)
filter-map p f [] = refl
filter-map p f (x ∷ xs) = elim (cases_Bool (p (f x))) [ inl passes ↦ rw (passes, filter-map p f xs) refl | inr fails ↦ rw (fails, filter-map p f xs) refl ]

-- the numbered steps that a mask has, where it has those that the state accepts
pub numbered : (s : State) (step : ℕ → Step) (n mask : ℕ) → mask < 2 ^ mask_room → mask ≡ mask_below n (λ i. accepts s (step i))
    → map step (numbers_in mask) ≡ filter (accepts s) (map step (range_with_len 0 n))
numbered s step n mask fits is = ap (map step) (numbers_below mask n (λ i. accepts s (step i)) fits is) ∙ sym (filter-map (accepts s) step (range_with_len 0 n))

-- at most as many steps are accepted as there are numbers for them
pub few_accepted : (s : State) (step : ℕ → Step) (n most mask : ℕ) → mask < 2 ^ mask_room → mask ≡ mask_below n (λ i. accepts s (step i)) → n ≤ most → length (numbers_in mask) ≤ most
few_accepted s step n most mask fits is few =
    let numbers = numbers_below mask n (λ i. accepts s (step i)) fits is in
    let fewer = filtered_fewer (λ i. accepts s (step i)) 0 n in
    omega (arith, ap length numbers, fewer, few)

-- ---- the drains of one processor more

drains-more : (k p : ℕ) (cs : List Processor) (c : Processor) → slice_get cs p ≡ Some c → drains_from k (take (suc p) cs) ≡ drains_from k (take p cs) ++ drains_of (k + p) c
drains-more k p [] c at = absurd (cc at)
drains-more k zero (x ∷ cs) c at =
    let place : k ≡ k + 0 = omega arith in let same : x ≡ c = cc at in
    append-nil (drains_of k x) ∙ ap (λ n. drains_of n x) place ∙ ap (drains_of (k + 0)) same
drains-more k (suc p) (x ∷ cs) c at =
    let place : (k + 1) + p ≡ k + suc p = omega arith in
    ap (λ l. drains_of k x ++ l) (drains-more (k + 1) p cs c at ∙ ap (λ n. drains_from (k + 1) (take p cs) ++ drains_of n c) place)
    ∙ sym (append_assoc (drains_of k x) _ _)

drains-push : (k : ℕ) (masks : List ℕ) (mask : ℕ) → drains_in k (masks ++ mask ∷ []) ≡ drains_in k masks ++ map (Drain (k + length masks)) (numbers_in mask)
drains-push k [] mask = let place : k + 0 ≡ k = omega arith in append-nil (map (Drain k) (numbers_in mask)) ∙ ap (λ n. map (Drain n) (numbers_in mask)) (sym place)
drains-push k (m ∷ masks) mask =
    let place : (k + 1) + length masks ≡ k + suc (length masks) = omega arith in
    ap (λ l. map (Drain k) (numbers_in m) ++ l) (drains-push (k + 1) masks mask ∙ ap (λ n. drains_in (k + 1) masks ++ map (Drain n) (numbers_in mask)) place)
    ∙ sym (append_assoc (map (Drain k) (numbers_in m)) _ _)

-- ---- how many

pub counted-push : (k : ℕ) (masks : List ℕ) (mask : ℕ) → length (drains_in k (masks ++ mask ∷ [])) ≡ length (drains_in k masks) + length (numbers_in mask)
counted-push k masks mask =
    ap length (drains-push k masks mask) ∙ (length-append (drains_in k masks) (map (Drain (k + length masks)) (numbers_in mask))
    ∙ ap (λ n. length (drains_in k masks) + n) (length-map (numbers_in mask) (Drain (k + length masks))))

pub counted_more : (masks : List ℕ) (i mask count more : ℕ) → i < length masks → mask ≡ get_or masks i 0 → count ≡ length (drains_in 0 (take i masks)) → more ≡ length (numbers_in mask)
    → count + more ≡ length (drains_in 0 (take (i + 1) masks))
counted_more masks i mask count more low at is here =
    let longer : take (i + 1) masks ≡ take i masks ++ mask ∷ [] = take_more masks i 0 low ∙ ap (λ m. take i masks ++ m ∷ []) (sym at) in
    rw (is, here) (sym (ap (λ ms. length (drains_in 0 ms)) longer ∙ counted-push 0 (take i masks) mask))

-- ---- the drains of all processors, one more at a time

there : (cs : List Processor) (p : ℕ) → p < length cs → slice_get cs p ≡ None → ⊥
there [] p low none = omega (arith, low)
there (c ∷ cs) zero low none = cc none
there (c ∷ cs) (suc p) low none = there cs p (omega (arith, low)) none

pub one_more : (s : State) (p : ℕ) (masks : List ℕ) (mask : ℕ) → p < length s.processors → length masks ≡ p → mask < 2 ^ mask_room → mask ≡ drainable_of s p
    → drains_in 0 masks ≡ filter (accepts s) (drains_from 0 (take p s.processors))
    → drains_in 0 (masks ++ mask ∷ []) ≡ filter (accepts s) (drains_from 0 (take (p + 1) s.processors))
one_more s p masks mask low long fits is before = by (slice_get s.processors p) refl
  where
    by : (o : Option Processor) → slice_get s.processors p ≡ o → drains_in 0 (masks ++ mask ∷ []) ≡ filter (accepts s) (drains_from 0 (take (p + 1) s.processors))
    by None at = absurd (there s.processors p low at)
    by (Some c) at =
        let one : p + 1 ≡ suc p = omega arith in
        let place : 0 + length masks ≡ p = omega (arith, long) in
        let none : 0 + p ≡ p = omega arith in
        let here : mask ≡ mask_below (length c.buffer) (λ i. accepts s (Drain p i)) = is ∙ ap (λ o. option_map_or (λ (c : Processor). mask_below (length c.buffer) (λ i. accepts s (Drain p i))) o 0) at in
        let steps : map (Drain p) (numbers_in mask) ≡ filter (accepts s) (drains_of p c) = numbered s (Drain p) (length c.buffer) mask fits here in
        drains-push 0 masks mask ∙ ap (λ n. drains_in 0 masks ++ map (Drain n) (numbers_in mask)) place
        ∙ ap (λ l. l ++ map (Drain p) (numbers_in mask)) before ∙ ap (λ l. filter (accepts s) (drains_from 0 (take p s.processors)) ++ l) steps
        ∙ sym (filter-append (accepts s) (drains_from 0 (take p s.processors)) (drains_of p c))
        ∙ ap (filter (accepts s)) (ap (λ n. drains_from 0 (take p s.processors) ++ drains_of n c) (sym none) ∙ sym (drains-more 0 p s.processors c at))
        ∙ ap (λ n. filter (accepts s) (drains_from 0 (take n s.processors))) (sym one)

-- ---- all of them

settle_told : (r : Result (Seen × State) Refusal) (settles : Bool) → is_some (refusal_of r) ≡ not settles → settles ≡ is_ok r
settle_told (Ok done) true is = refl
settle_told (Ok done) false is = absurd (cc)
settle_told (Err refusal) true is = absurd (cc)
settle_told (Err refusal) false is = refl

one_filtered : (p : Step → Bool) (step : Step) → filter p (step ∷ []) ≡ (if p step then step ∷ [] else [])
one_filtered p step = elim (cases_Bool (p step)) [ inl passes ↦ rw passes refl | inr fails ↦ rw fails refl ]

module _ (s : State) (runnable persistable : ℕ) (masks : List ℕ) (settles : Bool) (refusal : Option Refusal) where
  pub all_steps : runnable < 2 ^ mask_room → runnable ≡ runnable_of s → drains_in 0 masks ≡ filter (accepts s) (drains_from 0 s.processors) → persistable < 2 ^ mask_room
      → persistable ≡ persistable_of s → refusal ≡ refusal_of (step_of s Settle) → is_some refusal ≡ not settles → steps_in runnable masks persistable settles ≡ enabled_of s
  all_steps fits run drains fits_too persist refused settle =
      let one : List Step = execs s in
      let two : List Step = drains_from 0 s.processors in
      let three : List Step = persists s in
      let is_settle : settles ≡ accepts s Settle = settle_told (step_of s Settle) settles (sym (ap is_some refused) ∙ settle) in
      let last : (if settles then Settle ∷ [] else []) ≡ filter (accepts s) (Settle ∷ []) = ap (λ b. if b then Settle ∷ [] else []) is_settle ∙ sym (one_filtered (accepts s) Settle) in
      rw (numbered s Exec (length s.processors) runnable fits run, drains, numbered s Persist (length s.shape) persistable fits_too persist, last)
      (sym (filter-append (accepts s) ((one ++ two) ++ three) (Settle ∷ [])
      ∙ ap (λ l. l ++ filter (accepts s) (Settle ∷ []))
      (filter-append (accepts s) (one ++ two) three ∙ ap (λ l. l ++ filter (accepts s) three) (filter-append (accepts s) one two))))

-- ---- one of them

module _ (masks : List ℕ) (p mask n : ℕ) (low : p < length masks) (is : mask ≡ get_or masks p 0) where
  opened : drains_in p (drop p masks) ≡ map (Drain p) (numbers_in mask) ++ drains_in (p + 1) (drop (p + 1) masks)
  opened =
      let one : p + 1 ≡ suc p = omega arith in
      ap (drains_in p) (drop-cons masks p 0 low ∙ ap (λ m. m ∷ drop (suc p) masks) (sym is))
      ∙ ap (λ k. map (Drain p) (numbers_in mask) ++ drains_in (p + 1) (drop k masks)) (sym one)

  pub drain_found : (i : ℕ) → nth_or_rest (numbers_in mask) n ≡ Ok i → nth_or_rest (drains_in p (drop p masks)) n ≡ Ok (Drain p i)
  drain_found i at =
      ap (λ l. nth_or_rest l n) opened
      ∙ in_first (map (Drain p) (numbers_in mask)) (drains_in (p + 1) (drop (p + 1) masks)) n (Drain p i) (mapped_found (Drain p) (numbers_in mask) n i at)

  pub drain_passed : (rest : ℕ) → nth_or_rest (numbers_in mask) n ≡ Err rest → nth_or_rest (drains_in p (drop p masks)) n ≡ nth_or_rest (drains_in (p + 1) (drop (p + 1) masks)) rest
  drain_passed rest past =
      ap (λ l. nth_or_rest l n) opened
      ∙ in_second (map (Drain p) (numbers_in mask)) (drains_in (p + 1) (drop (p + 1) masks)) n rest (mapped_passed (Drain p) (numbers_in mask) n rest past)

pub all_passed : (masks : List ℕ) (p rest : ℕ) → length masks ≤ p → nth_or_rest (drains_in p (drop p masks)) rest ≡ Err rest
all_passed masks p rest past = rw (drop_of_length-le masks past) refl

module _ (runs : ℕ) (masks : List ℕ) (lines : ℕ) (settles : Bool) where
  abbrev one : List Step
  one = map Exec (numbers_in runs)

  abbrev two : List Step
  two = drains_in 0 masks

  abbrev three : List Step
  three = map Persist (numbers_in lines)

  abbrev four : List Step
  four = if settles then Settle ∷ [] else []

  pub steps_counted : length (steps_in runs masks lines settles) ≡ length (numbers_in runs) + length (drains_in 0 masks) + length (numbers_in lines) + (if settles then 1 else 0)
  steps_counted =
      let last : length four ≡ (if settles then 1 else 0) = elim (cases_Bool settles) [ inl is ↦ rw is refl | inr is ↦ rw is refl ] in
      let a = length-append ((one ++ two) ++ three) four in
      let b = length-append (one ++ two) three in
      let c = length-append one two in
      let d = length-map (numbers_in runs) Exec in
      let e = length-map (numbers_in lines) Persist in
      omega (arith, a, b, c, d, e, last)

  module _ (n : ℕ) where
    pub exec_taken : (p : ℕ) → nth_or_rest (numbers_in runs) n ≡ Ok p → slice_get (steps_in runs masks lines settles) n ≡ Some (Exec p)
    exec_taken p at =
        found (steps_in runs masks lines settles) n (Exec p)
        (in_first ((one ++ two) ++ three) four n (Exec p) (in_first (one ++ two) three n (Exec p) (in_first one two n (Exec p) (mapped_found Exec (numbers_in runs) n p at))))

    module _ (rest : ℕ) (no_exec : nth_or_rest (numbers_in runs) n ≡ Err rest) where
      beyond_one : nth_or_rest (one ++ two) n ≡ nth_or_rest two rest
      beyond_one = in_second one two n rest (mapped_passed Exec (numbers_in runs) n rest no_exec)

      pub drain_taken : (step : Step) → nth_or_rest (drains_in 0 masks) rest ≡ Ok step → slice_get (steps_in runs masks lines settles) n ≡ Some step
      drain_taken step at =
          found (steps_in runs masks lines settles) n step
          (in_first ((one ++ two) ++ three) four n step (in_first (one ++ two) three n step (beyond_one ∙ at)))

      module _ (left : ℕ) (no_drain : nth_or_rest (drains_in 0 masks) rest ≡ Err left) where
        beyond_two : nth_or_rest ((one ++ two) ++ three) n ≡ nth_or_rest three left
        beyond_two = in_second (one ++ two) three n left (beyond_one ∙ no_drain)

        pub persist_taken : (line : ℕ) → nth_or_rest (numbers_in lines) left ≡ Ok line → slice_get (steps_in runs masks lines settles) n ≡ Some (Persist line)
        persist_taken line at =
            found (steps_in runs masks lines settles) n (Persist line)
            (in_first ((one ++ two) ++ three) four n (Persist line) (beyond_two ∙ mapped_found Persist (numbers_in lines) left line at))

        module _ (last : ℕ) (no_persist : nth_or_rest (numbers_in lines) left ≡ Err last) where
          beyond_three : nth_or_rest (steps_in runs masks lines settles) n ≡ nth_or_rest four last
          beyond_three = in_second ((one ++ two) ++ three) four n last (beyond_two ∙ mapped_passed Persist (numbers_in lines) left last no_persist)

          pub settle_taken : last ≡ 0 → slice_get (steps_in runs masks lines settles) n ≡ then_some settles Settle
          settle_taken first =
              elim (cases_Bool settles) [
                | inl is ↦
                    let here : nth_or_rest four last ≡ Ok Settle = rw (is, first) refl in
                    let told : Some Settle ≡ then_some settles Settle = rw is refl in
                    found (steps_in runs masks lines settles) n Settle (beyond_three ∙ here) ∙ told
                | inr isnt ↦
                    let past : nth_or_rest four last ≡ Err last = rw isnt refl in
                    let told : None ≡ then_some settles Settle = rw isnt refl in
                    passed (steps_in runs masks lines settles) n last (beyond_three ∙ past) ∙ told
              ]

          pub none_behind : 0 < last → slice_get (steps_in runs masks lines settles) n ≡ None
          none_behind past = by settles last past beyond_three
            where
              by : (b : Bool) (k : ℕ) → 0 < k → nth_or_rest (steps_in runs masks lines settles) n ≡ nth_or_rest (if b then Settle ∷ [] else []) k
                  → slice_get (steps_in runs masks lines settles) n ≡ None
              by b zero more is = absurd (omega (arith, more))
              by true (suc k) more is = passed (steps_in runs masks lines settles) n k is
              by false (suc k) more is = passed (steps_in runs masks lines settles) n (suc k) is
